-- Sectors of a group in two parts: as many indices fix a word as the parts' numbers of them multiplied, modes keep it exactly if each part's modes do, and what
-- drops it is the smaller of what drops it in a part. What carries it: numerators of a joined index add up, and an index that breaks a word is not below the
-- part of it that does.
use Prim.Native.Nat.{ℕ, zero, suc, ◌+◌, ◌*◌, ◌/◌, ◌%◌, ◌≤◌, ◌<◌, ◌∣◌, min}
use mathlib.Core.Path.{◌≡◌, refl, sym, ◌∙◌, ap, ap₂, subst₂}
use mathlib.Core.Logic.{◌⊎◌, inl, inr, ⊎_elim}
use mathlib.Core.Bool.{Bool, true, false, ◌&&◌, ◌||◌, not, cond, and-true, true≢false, false≢true}
use mathlib.Core.List.{List, [], ◌∷◌, map}
use native.Mathlib.Nat.{mul-dvd-mul_left, min-eq_left, min-eq_right, dvd-add, dvd-add_iff_left, dvd-add_iff_right, pos_of_ne-zero, mul-div_assoc, mul-div_cancel', dvd_of_mod-eq-zero, mod-eq-zero_of_dvd, dvd_of_mul-dvd-mul_left, mul_left_comm, mul-add, mul-zero, div-eq_of_eq-mul_left, suc_inj, suc-ne-zero, mul-mul-mul_comm, zero-mul, one-mul, mul_comm, mul_assoc}
use native.Mathlib.Decide.{dec_lt}
use native.Mathlib.Omega.{arith}
use lib.Dec.{eqb}
use borrow.Author.Tests.{eqb-true, eq-eqb}
use lib.IntN.{ℤ}
use lib.ListN.{length, get_or}
use Rattle.pauli_word.specs.Word.{Word}
use Rattle.action.specs.Lists.{below, Member, NoRepeats, count, total, choices, prefixed}
use Rattle.action.specs.Permutation.{Generator, Valid}
use Rattle.action.specs.Index.{order_of, digits}
use Rattle.action.specs.Orbit.{fixes, fixing, orbit_size}
use Rattle.action.specs.Sector.{modulus, reduced, phases, numerator, trivial, keeps, breaks, dropped_by}
use Rattle.action.proofs.Lists.{bool_ext, member_below, of_member_below, no_repeats_below, count-select, count-total, count-cong, count-false, count-prefixed, count_bijection, total-cong, total-mul, Chosen, member-choices, of-member-choices, no_repeats_choices}
use Rattle.action.proofs.Index.{Positive, valid_positive}
use Rattle.action.proofs.Characters.{modulus-multiple, modulus-least, modulus-positive}
use Rattle.action.proofs.Dropped.{keeps-broken, some-breaks, dropped-least, dropped-breaks, dropped-is}
use Rattle.action.proofs.Stabilizer.{fixes-zero, orbit-stabilizer, orbit_size_is, fixing-positive}
use Rattle.rotation.proofs.XPlane.{trivial-zero}
use Rattle.parts.specs.Parts.{Interleaved, none, first, second, joined, of_first, of_second}
use Rattle.parts.proofs.Joined.{of_first_lem, of_second_lem, first_valid, second_valid, order_joined, joined-below, in_first, in_second, in_first-below, in_second-below, in_first-joined, in_second-joined, joined_parts, joined_le, joined-zero, front-mod, front-div}
use Rattle.parts.proofs.Independent.{Leaves, fixes-joined}

-- ---- pairs are counted by their members

module _ (p q : ℕ → Bool) (a b : ℕ) where
  pairs : List (List ℕ)
  unfolding choices
  pairs = choices (below a ∷ below b ∷ [])

  passes : List ℕ → Bool
  passes t = p (get_or t 0 0) && q (get_or t 1 0)

  -- the second members, where the first passes or not
  seconds : (x : Bool) → count (λ t. x && q (get_or t 0 0)) (prefixed (below b) ([] ∷ [])) ≡ cond x 1 0 * count q (below b)
  unfolding count
  seconds true =
      count-prefixed (λ t. q (get_or t 0 0)) (below b) ([] ∷ [])
      ∙ total-cong (λ j. count {A = List ℕ} (λ t. q j) ([] ∷ [])) (λ j. cond (q j) 1 0) (below b) (λ j m. omega arith)
      ∙ sym (count-total q (below b))
      ∙ sym (one-mul (count q (below b)))
  seconds false = count-false (prefixed (below b) ([] ∷ [])) ∙ sym (zero-mul (count q (below b)))

  count-pairs : count passes pairs ≡ count p (below a) * count q (below b)
  unfolding pairs passes choices
  count-pairs =
      count-prefixed (λ t. p (get_or t 0 0) && q (get_or t 1 0)) (below a) (choices (below b ∷ []))
      ∙ total-cong (λ i. count (λ t. p i && q (get_or t 0 0)) (choices (below b ∷ []))) (λ i. cond (p i) 1 0 * count q (below b)) (below a) (λ i m. seconds (p i))
      ∙ total-mul (count q (below b)) (λ i. cond (p i) 1 0) (below a)
      ∙ ap (λ (n : ℕ). n * count q (below b)) (sym (count-total p (below a)))

  pairs-once : NoRepeats pairs
  unfolding pairs
  pairs-once = no_repeats_choices (below a ∷ below b ∷ []) each
    where
      each : (c : List ℕ) → Member c (below a ∷ below b ∷ []) → NoRepeats c
      each c (inl e) = rw e (no_repeats_below a)
      each c (inr (inl e)) = rw e (no_repeats_below b)
      each c (inr (inr m)) = absurd m

  pair-in : (i j : ℕ) → i < a → j < b → Member (i ∷ j ∷ []) pairs
  unfolding pairs
  pair-in i j h k = member-choices (below a ∷ below b ∷ []) (i ∷ j ∷ []) (member_below a i h, (member_below b j k, tt))

  of-pair-in : (t : List ℕ) → Member t pairs → (get_or t 0 0 < a) × (get_or t 1 0 < b) × (t ≡ get_or t 0 0 ∷ get_or t 1 0 ∷ [])
  unfolding pairs
  of-pair-in t m = go t (of-member-choices (below a ∷ below b ∷ []) t m)
    where
      go : (t : List ℕ) → Chosen t (below a ∷ below b ∷ []) → (get_or t 0 0 < a) × (get_or t 1 0 < b) × (t ≡ get_or t 0 0 ∷ get_or t 1 0 ∷ [])
      go [] c = absurd c
      go (i ∷ []) c = absurd c.1
      go (i ∷ j ∷ []) c = (of_member_below a i c.0, of_member_below b j c.1.0, refl)
      go (i ∷ j ∷ k ∷ t) c = absurd c.1.1

-- ---- numbers of indices

module _ {gs fs hs : List Generator} (s : Interleaved gs fs hs) (pos : Positive gs) (p q r : ℕ → Bool)
    (test : (i j : ℕ) → r (joined s i j) ≡ (p i && q j)) where
  -- a test of joined indices that goes by their parts passes as often as the two tests multiplied
  pub count-joined : count r (below (order_of gs)) ≡ count p (below (order_of fs)) * count q (below (order_of hs))
  unfolding passes
  count-joined =
      count_bijection (below (order_of gs)) (pairs p q (order_of fs) (order_of hs)) r (passes p q (order_of fs) (order_of hs)) apart together (no_repeats_below (order_of gs))
      (pairs-once p q (order_of fs) (order_of hs)) into back
      ∙ count-pairs p q (order_of fs) (order_of hs)
    where
      apart : ℕ → List ℕ
      apart e = in_first s e ∷ in_second s e ∷ []

      together : List ℕ → ℕ
      together t = joined s (get_or t 0 0) (get_or t 1 0)

      into : (e : ℕ) → Member e (below (order_of gs)) → r e ≡ true
          → Member (apart e) (pairs p q (order_of fs) (order_of hs)) × (passes p q (order_of fs) (order_of hs) (apart e) ≡ true) × (together (apart e) ≡ e)
      into e m t =
          let whole = joined_parts s pos e (of_member_below (order_of gs) e m) in (
            pair-in p q (order_of fs) (order_of hs) (in_first s e) (in_second s e) (in_first-below s pos e) (in_second-below s pos e),
            sym (test (in_first s e) (in_second s e)) ∙ ap r whole ∙ t,
            whole,
          )

      back : (t : List ℕ) → Member t (pairs p q (order_of fs) (order_of hs)) → passes p q (order_of fs) (order_of hs) t ≡ true
          → Member (together t) (below (order_of gs)) × (r (together t) ≡ true) × (apart (together t) ≡ t)
      back t m h =
          let (k, l, e) = of-pair-in p q (order_of fs) (order_of hs) t m in
          let i : ℕ = get_or t 0 0 in
          let j : ℕ = get_or t 1 0 in (
            member_below (order_of gs) (together t) (joined-below s pos i j),
            test i j ∙ h,
            ap₂ (λ (x y : ℕ). x ∷ y ∷ []) (in_first-joined s pos i j k) (in_second-joined s pos i j l) ∙ sym e,
          )

module _ {n : ℕ} {gs fs hs : List Generator} (s : Interleaved gs fs hs) (v : Valid n gs) (p : ℕ → Bool) (fl : Leaves n p fs)
    (hl : Leaves n (λ q. not (p q)) hs) (w : Word) (long : length w ≡ n) where
  fixing-count : (ks : List Generator) → count (fixes ks w) (below (order_of ks)) ≡ length (fixing ks w)
  unfolding fixing
  fixing-count ks = count-select (fixes ks w) (below (order_of ks))

  -- the numbers of fixing indices multiply
  pub fixing-joined : length (fixing gs w) ≡ length (fixing fs w) * length (fixing hs w)
  fixing-joined =
      sym (fixing-count gs)
      ∙ count-joined s (valid_positive v) (fixes fs w) (fixes hs w) (fixes gs w) (fixes-joined s v p fl hl w long)
      ∙ ap₂ ◌*◌ (fixing-count fs) (fixing-count hs)

  -- and so do the sizes of the orbits
  pub size-joined : orbit_size gs w ≡ orbit_size fs w * orbit_size hs w
  unfolding orbit_size
  size-joined = div-eq_of_eq-mul_left (fixing-positive v w) (order_joined s ∙ ap₂ ◌*◌ (order-by fs (first_valid s v)) (order-by hs (second_valid s v)) ∙ regrouped ∙ ap (λ (m : ℕ). orbit_size fs w * orbit_size hs w * m) (sym fixing-joined))
    where
      order-by : (ks : List Generator) → Valid n ks → order_of ks ≡ orbit_size ks w * length (fixing ks w)
      order-by ks kv = orbit-stabilizer kv w long ∙ ap (λ (m : ℕ). m * length (fixing ks w)) (sym (orbit_size_is kv w long))

      regrouped : orbit_size fs w * length (fixing fs w) * (orbit_size hs w * length (fixing hs w)) ≡ orbit_size fs w * orbit_size hs w * (length (fixing fs w) * length (fixing hs w))
      regrouped = mul-mul-mul_comm (orbit_size fs w) (length (fixing fs w)) (orbit_size hs w) (length (fixing hs w))

-- ---- numerators

-- the sum of a joined index is that of its parts
pub phases-joined : (m : ℕ) {gs fs hs : List Generator} (s : Interleaved gs fs hs) → Positive gs → (ks : List ℤ) → length ks ≡ length gs → (i j : ℕ)
    → phases m gs ks (digits gs (joined s i j)) ≡ phases m fs (of_first s ks) (digits fs i) + phases m hs (of_second s ks) (digits hs j)
unfolding phases digits joined of_first of_second
phases-joined m none p ks e i j = refl
phases-joined m (first s) p [] e i j = absurd (suc-ne-zero _ (sym e))
phases-joined m (first {g = g} s) p (k ∷ ks) e i j =
    let o = g.order in
    rw (front-mod o i (joined s (i / o) j) p.0, front-div o i (joined s (i / o) j) p.0, phases-joined m s p.1 ks (suc_inj e) (i / o) j) (omega arith)
phases-joined m (second s) p [] e i j = absurd (suc-ne-zero _ (sym e))
phases-joined m (second {g = g} s) p (k ∷ ks) e i j =
    let o = g.order in
    rw (front-mod o j (joined s i (j / o)) p.0, front-div o j (joined s i (j / o)) p.0, phases-joined m s p.1 ks (suc_inj e) i (j / o)) (omega arith)

-- with a multiple of the modulus the sum is that multiple
phases-scale : (t m : ℕ) (gs : List Generator) → ((g : Generator) → Member g gs → g.order ∣ m) → (ks : List ℤ) (cs : List ℕ)
    → phases (t * m) gs ks cs ≡ t * phases m gs ks cs
unfolding phases
phases-scale t m [] d ks cs = sym (mul-zero t)
phases-scale t m (g ∷ gs) d [] cs = sym (mul-zero t)
phases-scale t m (g ∷ gs) d (k ∷ ks) [] = sym (mul-zero t)
phases-scale t m (g ∷ gs) d (k ∷ ks) (c ∷ cs) =
    let x : ℕ = reduced g.order k * (c % g.order) % g.order in
    rw (mul-div_assoc g.order t (d g (inl refl)), phases-scale t m gs (λ f h. d f (inr h)) ks cs, mul_left_comm x t (m / g.order))
    (sym (mul-add t (x * (m / g.order)) (phases m gs ks cs)))

-- a list of generators among others, with the modulus of all
module _ (fs gs : List Generator) (all : (g : Generator) → Member g fs → Member g gs) (p : Positive fs) (q : Positive gs) where
  modulus-part : modulus fs * (modulus gs / modulus fs) ≡ modulus gs
  modulus-part = mul-div_cancel' (modulus fs) (modulus-least fs (modulus gs) (λ g m. modulus-multiple gs g (all g m)))

  scaled : (ks : List ℤ) (cs : List ℕ) → phases (modulus gs) fs ks cs ≡ modulus gs / modulus fs * phases (modulus fs) fs ks cs
  scaled ks cs =
      ap (λ (m : ℕ). phases m fs ks cs) (sym modulus-part ∙ mul_comm (modulus fs) (modulus gs / modulus fs))
      ∙ phases-scale (modulus gs / modulus fs) (modulus fs) fs (modulus-multiple fs) ks cs

  whole_part : modulus gs ≡ modulus gs / modulus fs * modulus fs
  whole_part = sym modulus-part ∙ mul_comm (modulus fs) (modulus gs / modulus fs)

  times-some : 0 < modulus gs / modulus fs
  times-some = pos_of_ne-zero (λ e. omega (arith, modulus-positive gs q, whole_part, ap (λ (t : ℕ). t * modulus fs) e, zero-mul (modulus fs)))

  -- numerator 0 under the own modulus, and under that of all
  pub part-zero : (ks : List ℤ) (i : ℕ) → trivial fs ks i ≡ true → modulus gs ∣ phases (modulus gs) fs ks (digits fs i)
  unfolding trivial numerator
  part-zero ks i t =
      let own = dvd_of_mod-eq-zero (modulus fs) (eqb-true (phases (modulus fs) fs ks (digits fs i) % modulus fs) 0 t) in
      subst₂ (λ (m x : ℕ). m ∣ x) (sym whole_part) (sym (scaled ks (digits fs i))) (mul-dvd-mul_left (modulus fs) (modulus gs / modulus fs) own)

  pub zero-part : (ks : List ℤ) (i : ℕ) → modulus gs ∣ phases (modulus gs) fs ks (digits fs i) → trivial fs ks i ≡ true
  unfolding trivial numerator
  zero-part ks i d =
      eq-eqb (phases (modulus fs) fs ks (digits fs i) % modulus fs) 0
      (mod-eq-zero_of_dvd (modulus fs) (dvd_of_mul-dvd-mul_left (modulus fs) times-some (subst₂ (λ (m x : ℕ). m ∣ x) whole_part (scaled ks (digits fs i)) d)))

-- ---- the character of a joined index

module _ {gs fs hs : List Generator} (s : Interleaved gs fs hs) (p : Positive gs) (fp : Positive fs) (hp : Positive hs) (ks : List ℤ) (e : length ks ≡ length gs) where
  divides-joined : (i j : ℕ) → modulus gs ∣ phases (modulus gs) fs (of_first s ks) (digits fs i) + phases (modulus gs) hs (of_second s ks) (digits hs j) → trivial gs ks (joined s i j) ≡ true
  unfolding trivial numerator
  divides-joined i j d =
      eq-eqb (phases (modulus gs) gs ks (digits gs (joined s i j)) % modulus gs) 0
      (mod-eq-zero_of_dvd (modulus gs) (rw (phases-joined (modulus gs) s p ks e i j) d))

  joined-divides : (i j : ℕ) → trivial gs ks (joined s i j) ≡ true → modulus gs ∣ phases (modulus gs) fs (of_first s ks) (digits fs i) + phases (modulus gs) hs (of_second s ks) (digits hs j)
  unfolding trivial numerator
  joined-divides i j t =
      rw (phases-joined (modulus gs) s p ks e i j) at (dvd_of_mod-eq-zero (modulus gs) (eqb-true (phases (modulus gs) gs ks (digits gs (joined s i j)) % modulus gs) 0 t))

  in-first : (i : ℕ) → trivial fs (of_first s ks) i ≡ true → modulus gs ∣ phases (modulus gs) fs (of_first s ks) (digits fs i)
  in-first = part-zero fs gs (of_first_lem s) fp p (of_first s ks)

  in-second : (j : ℕ) → trivial hs (of_second s ks) j ≡ true → modulus gs ∣ phases (modulus gs) hs (of_second s ks) (digits hs j)
  in-second = part-zero hs gs (of_second_lem s) hp p (of_second s ks)

  -- where both parts have numerator 0, so has the whole
  pub trivial-both : (i j : ℕ) → trivial fs (of_first s ks) i ≡ true → trivial hs (of_second s ks) j ≡ true → trivial gs ks (joined s i j) ≡ true
  trivial-both i j a b = divides-joined i j (dvd-add (modulus gs) (in-first i a) (in-second j b))

  -- an index of one part alone has the part's numerator 0 or not
  pub trivial-first : (i : ℕ) → trivial gs ks (joined s i 0) ≡ trivial fs (of_first s ks) i
  trivial-first i =
      bool_ext (trivial gs ks (joined s i 0)) (trivial fs (of_first s ks) i)
      (λ t. zero-part fs gs (of_first_lem s) fp p (of_first s ks) i ((dvd-add_iff_left (modulus gs) (in-second 0 (trivial-zero hs (of_second s ks)))).1 (joined-divides i 0 t)))
      (λ t. trivial-both i 0 t (trivial-zero hs (of_second s ks)))

  pub trivial-second : (j : ℕ) → trivial gs ks (joined s 0 j) ≡ trivial hs (of_second s ks) j
  trivial-second j =
      bool_ext (trivial gs ks (joined s 0 j)) (trivial hs (of_second s ks) j)
      (λ t. zero-part hs gs (of_second_lem s) hp p (of_second s ks) j ((dvd-add_iff_right (modulus gs) (in-first 0 (trivial-zero fs (of_first s ks)))).1 (joined-divides 0 j t)))
      (λ t. trivial-both 0 j (trivial-zero fs (of_first s ks)) t)

-- ---- kept, or dropped and by what

module _ {n : ℕ} {gs fs hs : List Generator} (s : Interleaved gs fs hs) (v : Valid n gs) (p : ℕ → Bool) (fl : Leaves n p fs)
    (hl : Leaves n (λ q. not (p q)) hs) (w : Word) (long : length w ≡ n) (ks : List ℤ) (e : length ks ≡ length gs) where
  some : Positive gs
  some = valid_positive v

  some_first : Positive fs
  some_first = valid_positive (first_valid s v)

  some-second : Positive hs
  some-second = valid_positive (second_valid s v)

  abbrev fk : List ℤ
  fk = of_first s ks

  abbrev hk : List ℤ
  hk = of_second s ks

  -- an index of one part breaks the word exactly if it does alone
  pub first-breaks : (i : ℕ) → breaks gs ks w (joined s i 0) ≡ breaks fs (of_first s ks) w i
  unfolding breaks
  first-breaks i =
      ap₂ (λ (a b : Bool). a && not b)
      (fixes-joined s v p fl hl w long i 0 ∙ ap (λ (b : Bool). fixes fs w i && b) (fixes-zero hs w) ∙ and-true (fixes fs w i))
      (trivial-first s some some_first some-second ks e i)

  pub second-breaks : (j : ℕ) → breaks gs ks w (joined s 0 j) ≡ breaks hs (of_second s ks) w j
  unfolding breaks
  second-breaks j =
      ap₂ (λ (a b : Bool). a && not b)
      (fixes-joined s v p fl hl w long 0 j ∙ ap (λ (b : Bool). b && fixes hs w j) (fixes-zero fs w))
      (trivial-second s some some_first some-second ks e j)

  -- an index that breaks the word has a part that does
  pub breaks-part : (i j : ℕ) → breaks gs ks w (joined s i j) ≡ true → (breaks fs (of_first s ks) w i ≡ true) ⊎ (breaks hs (of_second s ks) w j ≡ true)
  unfolding breaks
  breaks-part i j t =
      by_cases (fixes fs w i) (fixes hs w j) (trivial fs fk i) (trivial hs hk j) (trivial gs ks (joined s i j))
      (trivial-both s some some_first some-second ks e i j)
      (ap (λ (b : Bool). b && not (trivial gs ks (joined s i j))) (sym (fixes-joined s v p fl hl w long i j)) ∙ t)
    where
      by_cases : (a b c d x : Bool) → (c ≡ true → d ≡ true → x ≡ true) → (a && b && not x) ≡ true → ((a && not c) ≡ true) ⊎ ((b && not d) ≡ true)
      by_cases true true true true true h t = absurd (false≢true t)
      by_cases true true true true false h t = absurd (false≢true (h refl refl))
      by_cases true true true false x h t = inr refl
      by_cases true true false d x h t = inl refl
      by_cases true false c d x h t = absurd (false≢true t)
      by_cases false b c d x h t = absurd (false≢true t)

  -- modes keep the word exactly if the modes of each part do
  pub keeps-joined : keeps gs ks w ≡ (keeps fs (of_first s ks) w && keeps hs (of_second s ks) w)
  keeps-joined = go (keeps gs ks w) (keeps fs fk w) (keeps hs hk w) refl refl refl
    where
      first-drops : keeps fs fk w ≡ false → keeps gs ks w ≡ false
      first-drops d =
          let (i, h, t) = some-breaks fs fk w d in
          keeps-broken gs ks w (joined s i 0) (joined-below s some i 0) (first-breaks i ∙ t)

      second-drops : keeps hs hk w ≡ false → keeps gs ks w ≡ false
      second-drops d =
          let (j, h, t) = some-breaks hs hk w d in
          keeps-broken gs ks w (joined s 0 j) (joined-below s some 0 j) (second-breaks j ∙ t)

      some-drops : keeps gs ks w ≡ false → keeps fs fk w ≡ true → keeps hs hk w ≡ true → ⊥
      some-drops d a b =
          let (x, h, t) = some-breaks gs ks w d in
          let i : ℕ = in_first s x in
          let j : ℕ = in_second s x in
          ⊎_elim
          (λ u. false≢true (sym (keeps-broken fs fk w i (in_first-below s some x) u) ∙ a))
          (λ u. false≢true (sym (keeps-broken hs hk w j (in_second-below s some x) u) ∙ b))
          (breaks-part i j (ap (breaks gs ks w) (joined_parts s some x h) ∙ t))

      go : (x a b : Bool) → keeps gs ks w ≡ x → keeps fs fk w ≡ a → keeps hs hk w ≡ b → x ≡ (a && b)
      go true true true x a b = refl
      go true true false x a b = absurd (false≢true (sym (second-drops b) ∙ x))
      go true false b x a d = absurd (false≢true (sym (first-drops a) ∙ x))
      go false true true x a b = absurd (some-drops x a b)
      go false true false x a b = refl
      go false false b x a d = refl

  -- what drops the word: in the one part, in the other, or the smaller of both
  abbrev by_first_lem : ℕ
  by_first_lem = joined s (dropped_by fs fk w) 0

  abbrev by_second : ℕ
  by_second = joined s 0 (dropped_by hs hk w)

  not-before : (x : ℕ) → x < order_of gs → breaks gs ks w x ≡ true → ((by_first_lem ≤ x) × (keeps fs fk w ≡ false)) ⊎ ((by_second ≤ x) × (keeps hs hk w ≡ false))
  not-before x h t =
      let i : ℕ = in_first s x in
      let j : ℕ = in_second s x in
      let il = in_first-below s some x in
      let jl = in_second-below s some x in
      ⊎_elim
      (λ u. inl (rw (joined_parts s some x h) at (joined_le s some (dropped_by fs fk w) i 0 j il jl (dropped-least fs fk w i il u) (omega arith)), keeps-broken fs fk w i il u))
      (λ u. inr (rw (joined_parts s some x h) at (joined_le s some 0 i (dropped_by hs hk w) j il jl (omega arith) (dropped-least hs hk w j jl u)), keeps-broken hs hk w j jl u))
      (breaks-part i j (ap (breaks gs ks w) (joined_parts s some x h) ∙ t))

  first-inside : by_first_lem < order_of gs
  first-inside = joined-below s some (dropped_by fs fk w) 0

  second-inside : by_second < order_of gs
  second-inside = joined-below s some 0 (dropped_by hs hk w)

  by_first : keeps fs fk w ≡ false → breaks gs ks w by_first_lem ≡ true
  by_first a = first-breaks (dropped_by fs fk w) ∙ (dropped-breaks fs fk w a).1

  by-second : keeps hs hk w ≡ false → breaks gs ks w by_second ≡ true
  by-second b = second-breaks (dropped_by hs hk w) ∙ (dropped-breaks hs hk w b).1

  -- an index breaks the word, and none before it does
  drops-at : (d : ℕ) → d < order_of gs → breaks gs ks w d ≡ true → ((x : ℕ) → x < d → breaks gs ks w x ≡ true → ⊥) → dropped_by gs ks w ≡ d
  drops-at d h t before = dropped-is gs ks w d h t (λ x l. go (breaks gs ks w x) (before x l))
    where
      go : (b : Bool) → (b ≡ true → ⊥) → b ≡ false
      go true r = absurd (r refl)
      go false r = refl

  pub dropped-first : keeps fs (of_first s ks) w ≡ false → keeps hs (of_second s ks) w ≡ true → dropped_by gs ks w ≡ joined s (dropped_by fs (of_first s ks) w) 0
  dropped-first a b =
      drops-at by_first_lem first-inside (by_first a)
      (λ x l t. ⊎_elim (λ u. omega (arith, u.0)) (λ u. false≢true (sym u.1 ∙ b)) (not-before x (omega (arith, first-inside)) t))

  pub dropped-second : keeps fs (of_first s ks) w ≡ true → keeps hs (of_second s ks) w ≡ false → dropped_by gs ks w ≡ joined s 0 (dropped_by hs (of_second s ks) w)
  dropped-second a b =
      drops-at by_second second-inside (by-second b)
      (λ x l t. ⊎_elim (λ u. false≢true (sym u.1 ∙ a)) (λ u. omega (arith, u.0)) (not-before x (omega (arith, second-inside)) t))

  pub dropped-both : keeps fs (of_first s ks) w ≡ false → keeps hs (of_second s ks) w ≡ false
      → dropped_by gs ks w ≡ min (joined s (dropped_by fs (of_first s ks) w) 0) (joined s 0 (dropped_by hs (of_second s ks) w))
  dropped-both a b = go (dec_lt by_second by_first_lem)
    where
      before : (d : ℕ) → d ≤ by_first_lem → d ≤ by_second → (x : ℕ) → x < d → breaks gs ks w x ≡ true → ⊥
      before d f g x l t = ⊎_elim (λ u. omega (arith, u.0)) (λ u. omega (arith, u.0)) (not-before x (omega (arith, first-inside)) t)

      go : Dec (by_second < by_first_lem) → dropped_by gs ks w ≡ min by_first_lem by_second
      go (yes h) = drops-at by_second second-inside (by-second b) (before by_second (omega arith) (omega arith)) ∙ sym (min-eq_right (omega arith))
      go (no h) = drops-at by_first_lem first-inside (by_first a) (before by_first_lem (omega arith) (omega arith)) ∙ sym (min-eq_left (omega arith))
