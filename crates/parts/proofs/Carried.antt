-- Sites under other numbers: what an index makes of a word it makes of the word read by numbers, and where the numbers rise with the sites and all other
-- sites are left, the least word, the index and what fixes the word are the same. What carries it: the first bit where two words differ lies at a site that
-- has a number.
use Prim.Native.Nat.{ℕ, zero, suc, ◌+◌, ◌-◌, ◌*◌, ◌/◌, ◌%◌, ◌≤◌, ◌<◌}
use mathlib.Core.Path.{◌≡◌, refl, sym, ◌∙◌, ap, ap₂, fun_ext}
use mathlib.Core.Logic.{◌⊎◌, inl, inr, ⊎_elim}
use mathlib.Core.Bool.{Bool, true, false, ◌&&◌, ◌||◌, not, cond, true≢false, false≢true}
use mathlib.Core.List.{List, [], ◌∷◌, map}
use native.Mathlib.Nat.{dvd_antisymm}
use native.Mathlib.Decide.{dec_lt}
use native.Mathlib.Omega.{arith}
use borrow.Author.Tests.{lt-ltb, le-ltb}
use lib.Dec.{eqb, ltb}
use lib.IntN.{ℤ}
use lib.ListN.{length, get_or}
use lib.Seq.{ext_get_or}
use Rattle.pauli_word.specs.Word.{I, Word, x_bit, z_bit, less}
use Rattle.pauli_word.proofs.WordOrder.{less_irrefl, less_trans, less-total}
use Rattle.packed.specs.Packed.{LessAt}
use Rattle.action.specs.Arithmetic.{lcm_all}
use Rattle.action.specs.Lists.{below, Member, select, every, first_of}
use Rattle.action.specs.Permutation.{Generator, target, after, exact_order, Permutes, Valid}
use Rattle.action.specs.Index.{order_of, digits, index, inverse_digits, inverse}
use Rattle.action.specs.Orbit.{move, moves, by_digits, reach, least, forward, index_back, fixes, fixing, orbit_size}
use Rattle.action.specs.Sector.{modulus, reduced, phases, numerator, trivial, keeps, breaks, dropped_by}
use Rattle.action.proofs.Below.{map-below-at, map-below-length}
use Rattle.action.proofs.Lists.{bool_ext}
use Rattle.action.proofs.ExactOrders.{after-inside, order-returns, order_divides}
use Rattle.action.proofs.Move.{move-length, moves-length, move_at, source}
use Rattle.action.proofs.Reach.{reach-length, reach-zero}
use Rattle.action.proofs.Canonical.{forward-below, forward-reaches, forward_first, least-least, least-length, orbit_intro}
use Rattle.action.proofs.Stabilizer.{fixes_intro, fixes_elim}
use Rattle.rotation.proofs.XPlane.{least-is, forward-is}
use Rattle.parts.specs.Numbered.{Numbering, read_by, Carried}
use Rattle.parts.proofs.Joined.{valid_rest}
use Rattle.parts.proofs.Bitwise.{by_test, word_bit, bit_site, word_bit-same, bit_site-below, less-first, first-less}
use Rattle.parts.proofs.Independent.{Leaves, after-stays, reach_leaves}

-- ---- words read by numbers

module _ (m : ℕ) (site : ℕ → ℕ) where
  pub read_by_length : (w : Word) → length (read_by m site w) ≡ m
  unfolding read_by
  read_by_length w = map-below-length (λ a. get_or w (site a) I) m

  pub read_by_at : (w : Word) (a : ℕ) → a < m → get_or (read_by m site w) a I ≡ get_or w (site a) I
  unfolding read_by
  read_by_at w a h = map-below-at (λ a. get_or w (site a) I) m a I h

-- ---- what an index makes of them

module _ {n m : ℕ} {site : ℕ → ℕ} (σ : Numbering n m site) where
  -- one move
  move-carried : {f g : List ℕ} → Permutes n f → Permutes m g → ((a : ℕ) → a < m → site (target g a) ≡ target f (site a))
      → (w : Word) → length w ≡ n → move g (read_by m site w) ≡ read_by m site (move f w)
  move-carried {f} {g} F G same w e =
      ext_get_or I (move g (read_by m site w)) (read_by m site (move f w))
      (move-length g (read_by m site w) ∙ read_by_length m site w ∙ sym (read_by_length m site (move f w)))
      (λ b l. at_each b (rw (move-length g (read_by m site w), read_by_length m site w) at l))
    where
      at_target : (a : ℕ) → a < m → get_or (move g (read_by m site w)) (target g a) I ≡ get_or (read_by m site (move f w)) (target g a) I
      at_target a h =
          move_at G (read_by m site w) (read_by_length m site w) a h
          ∙ read_by_at m site w a h
          ∙ sym (move_at F w e (site a) (σ.inside a h))
          ∙ ap (λ (q : ℕ). get_or (move f w) q I) (sym (same a h))
          ∙ sym (read_by_at m site (move f w) (target g a) (G.inside a h))

      at_each : (b : ℕ) → b < m → get_or (move g (read_by m site w)) b I ≡ get_or (read_by m site (move f w)) b I
      at_each b h = let (a, l, t) = source G b h in rw (← t) (at_target a l)

  moves-carried : {f g : List ℕ} → Permutes n f → Permutes m g → ((a : ℕ) → a < m → site (target g a) ≡ target f (site a))
      → (c : ℕ) (w : Word) → length w ≡ n → moves c g (read_by m site w) ≡ read_by m site (moves c f w)
  unfolding moves
  moves-carried F G same zero w e = refl
  moves-carried {f} {g} F G same (suc c) w e = ap (moves c g) (move-carried F G same w e) ∙ moves-carried F G same c (move f w) (move-length f w ∙ e)

  pub reach-carried : (gs hs : List Generator) → Valid n gs → Valid m hs → Carried m site gs hs → (i : ℕ) (w : Word) → length w ≡ n
      → reach hs i (read_by m site w) ≡ read_by m site (reach gs i w)
  unfolding reach digits by_digits
  reach-carried [] [] v u c i w e = refl
  reach-carried [] (h ∷ hs) v u c i w e = absurd c
  reach-carried (g ∷ gs) [] v u c i w e = absurd c
  reach-carried (g ∷ gs) (h ∷ hs) v u c i w e =
      rw (c.0, moves-carried (v.permutes g (inl refl)) (u.permutes h (inl refl)) c.1 (i % g.order) w e)
      (reach-carried gs hs (valid_rest v) (valid_rest u) c.2 (i / g.order) (moves (i % g.order) g.perm w) (moves-length (i % g.order) g.perm w ∙ e))

-- ---- orders and characters are the same

module _ (m : ℕ) (site : ℕ → ℕ) where
  pub order-carried : (gs hs : List Generator) → Carried m site gs hs → order_of hs ≡ order_of gs
  unfolding order_of
  order-carried [] [] c = refl
  order-carried [] (h ∷ hs) c = absurd c
  order-carried (g ∷ gs) [] c = absurd c
  order-carried (g ∷ gs) (h ∷ hs) c = ap₂ ◌*◌ c.0 (order-carried gs hs c.2)

  orders-carried : (gs hs : List Generator) → Carried m site gs hs → map (λ h. h.order) hs ≡ map (λ g. g.order) gs
  orders-carried [] [] c = refl
  orders-carried [] (h ∷ hs) c = absurd c
  orders-carried (g ∷ gs) [] c = absurd c
  orders-carried (g ∷ gs) (h ∷ hs) c = ap₂ (λ (o : ℕ) (os : List ℕ). o ∷ os) c.0 (orders-carried gs hs c.2)

  modulus-carried : (gs hs : List Generator) → Carried m site gs hs → modulus hs ≡ modulus gs
  unfolding modulus
  modulus-carried gs hs c = ap lcm_all (orders-carried gs hs c)

  phases-carried : (x : ℕ) (gs hs : List Generator) → Carried m site gs hs → (ks : List ℤ) (i : ℕ) → phases x hs ks (digits hs i) ≡ phases x gs ks (digits gs i)
  unfolding phases digits
  phases-carried x [] [] c ks i = refl
  phases-carried x [] (h ∷ hs) c ks i = absurd c
  phases-carried x (g ∷ gs) [] c ks i = absurd c
  phases-carried x (g ∷ gs) (h ∷ hs) c [] i = refl
  phases-carried x (g ∷ gs) (h ∷ hs) c (k ∷ ks) i =
      rw c.0 (ap (λ (r : ℕ). reduced g.order k * (i % g.order % g.order) % g.order * (x / g.order) + r) (phases-carried x gs hs c.2 ks (i / g.order)))

  pub trivial-carried : (gs hs : List Generator) → Carried m site gs hs → (ks : List ℤ) (i : ℕ) → trivial hs ks i ≡ trivial gs ks i
  unfolding trivial numerator
  trivial-carried gs hs c ks i = rw (modulus-carried gs hs c, phases-carried (modulus gs) gs hs c ks i)

-- ---- all sites but those with a number are left

module _ {n m : ℕ} {site : ℕ → ℕ} (σ : Numbering n m site) (p : ℕ → Bool)
    (number : (q : ℕ) → q < n → p q ≡ true → (a : ℕ) × (a < m) × (site a ≡ q)) where
  -- words that are the same elsewhere
  module _ (u v : Word) (ul : length u ≡ n) (vl : length v ≡ n) (same : (q : ℕ) → q < n → p q ≡ false → get_or u q I ≡ get_or v q I) where
    -- are the same if they are read the same
    pub read_same : read_by m site u ≡ read_by m site v → u ≡ v
    read_same e =
        ext_get_or I u v (ul ∙ sym vl)
        (λ q l. let h : q < n = rw ul at l in
        by_test p q
        (λ t. let (a, k, r) = number q h t in
        rw (← r) (sym (read_by_at m site u a k) ∙ ap (λ (w : Word). get_or w a I) e ∙ read_by_at m site v a k))
        (same q h))

    -- and compare as they are read, where numbers rise with the sites
    module _ (rising : (a b : ℕ) → a < b → b < m → site a < site b) where
      -- bit t of a word that is read is this bit of the word
      lift : ℕ → ℕ
      lift t = cond (ltb t m) (site t) (n + site (t - m))

      read-bit : (w : Word) (t : ℕ) → t < m + m → word_bit m (read_by m site w) t ≡ word_bit n w (lift t)
      unfolding lift
      read-bit w t h = go (dec_lt t m)
        where
          go : Dec (t < m) → word_bit m (read_by m site w) t ≡ word_bit n w (cond (ltb t m) (site t) (n + site (t - m)))
          go (yes l) = rw (lt-ltb t m l, lt-ltb (site t) n (σ.inside t l)) (ap x_bit (read_by_at m site w t l))
          go (no l) =
              let k : t - m < m = omega arith in
              let back : n + site (t - m) - n ≡ site (t - m) = omega arith in
              rw (le-ltb t m (omega arith), le-ltb (n + site (t - m)) n (omega arith), back) (ap z_bit (read_by_at m site w (t - m) k))

      lift-below : (t : ℕ) → t < m + m → lift t < n + n
      unfolding lift
      lift-below t h = go (dec_lt t m)
        where
          go : Dec (t < m) → cond (ltb t m) (site t) (n + site (t - m)) < n + n
          go (yes l) = rw (lt-ltb t m l) (omega (arith, σ.inside t l))
          go (no l) = rw (le-ltb t m (omega arith)) (omega (arith, σ.inside (t - m) (omega arith)))

      -- a bit before it whose site has a number is read before it
      before : (t r : ℕ) → t < m + m → r < lift t → p (bit_site n r) ≡ true → (x : ℕ) × (x < t) × (lift x ≡ r)
      unfolding lift
      before t r h l e = go (dec_lt r n) (dec_lt t m)
        where
          -- the lesser site has the lesser number
          number-less : (a b : ℕ) → a < m → site a < site b → a < b
          number-less a b k less = case (dec_lt a b) (dec_lt b a)
            where
              case : Dec (a < b) → Dec (b < a) → a < b
              case (yes c) d = c
              case (no c) (yes d) = let x = rising b a d k in omega arith
              case (no c) (no d) = let x : a ≡ b = omega arith in absurd (omega (arith, ap site x))

          go : Dec (r < n) → Dec (t < m) → (x : ℕ) × (x < t) × (cond (ltb x m) (site x) (n + site (x - m)) ≡ r)
          go (yes c) (yes d) =
              let (a, k, f) = number r c (rw (lt-ltb r n c) at e) in
              let g : r < site t = rw (lt-ltb t m d) at l in
              (a, number-less a t k (omega (arith, g, f)), rw (lt-ltb a m k) f)
          go (yes c) (no d) = let (a, k, f) = number r c (rw (lt-ltb r n c) at e) in (a, omega (arith, k), rw (lt-ltb a m k) f)
          go (no c) (yes d) = let g : r < site t = rw (lt-ltb t m d) at l in absurd (omega (arith, g, σ.inside t d))
          go (no c) (no d) =
              let g : r < n + site (t - m) = rw (le-ltb t m (omega arith)) at l in
              let y = σ.inside (t - m) (omega arith) in
              let (a, k, f) = number (r - n) (omega (arith, g, y)) (rw (le-ltb r n (omega arith)) at e) in
              let z = number-less a (t - m) k (omega (arith, g, f)) in
              let back : m + a - m ≡ a = omega arith in
              (m + a, omega (arith, z), rw (le-ltb (m + a) m (omega arith), back) (omega (arith, f)))

      pub less-read : less (read_by m site u) (read_by m site v) ≡ true → less u v ≡ true
      less-read h = go (less-first m (read_by m site u) (read_by m site v) (read_by_length m site u) (read_by_length m site v) h)
        where
          go : LessAt (m + m) (word_bit m (read_by m site u)) (word_bit m (read_by m site v)) → less u v ≡ true
          go (t, l, s, f, g) =
              first-less n u v ul vl (
                lift t,
                lift-below t l,
                (λ r k. by_test p (bit_site n r)
                    (λ e. let (x, a, b) = before t r l k e in rw (← b) (sym (read-bit u x (omega arith)) ∙ s x a ∙ read-bit v x (omega arith)))
                    (λ e. word_bit-same n u v r (same (bit_site n r) (bit_site-below n r (omega (arith, lift-below t l))) e))),
                sym (read-bit u t l) ∙ f,
                sym (read-bit v t l) ∙ g,
              )

-- ---- indices and digits are the same

module _ (m : ℕ) (site : ℕ → ℕ) where
  pub inverse-carried : (gs hs : List Generator) → Carried m site gs hs → (i : ℕ) → inverse hs i ≡ inverse gs i
  unfolding inverse digits index inverse_digits
  inverse-carried [] [] c i = refl
  inverse-carried [] (h ∷ hs) c i = absurd c
  inverse-carried (g ∷ gs) [] c i = absurd c
  inverse-carried (g ∷ gs) (h ∷ hs) c i =
      rw c.0 (ap (λ (r : ℕ). (g.order - i % g.order) % g.order + g.order * r) (inverse-carried gs hs c.2 (i / g.order)))

-- ---- a group on the sites that have numbers

module _ {n m : ℕ} {site : ℕ → ℕ} (σ : Numbering n m site) (p : ℕ → Bool)
    (number : (q : ℕ) → q < n → p q ≡ true → (a : ℕ) × (a < m) × (site a ≡ q)) (gs hs : List Generator) (v : Valid n gs) (u : Valid m hs)
    (c : Carried m site gs hs) (leaves : Leaves n (λ q. not (p q)) gs) (w : Word) (long : length w ≡ n) where
  reached : (i : ℕ) → reach hs i (read_by m site w) ≡ read_by m site (reach gs i w)
  reached i = reach-carried σ gs hs v u c i w long

  reached-long : (i : ℕ) → length (reach gs i w) ≡ n
  reached-long i = reach-length gs i w ∙ long

  elsewhere : (i q : ℕ) → q < n → p q ≡ false → get_or (reach gs i w) q I ≡ get_or w q I
  elsewhere i q h f = reach_leaves (λ r. not (p r)) gs v leaves i w long q h (rw f)

  same_read : (i j : ℕ) → reach hs i (read_by m site w) ≡ reach hs j (read_by m site w) → reach gs i w ≡ reach gs j w
  same_read i j e =
      read_same σ p number (reach gs i w) (reach gs j w) (reached-long i) (reached-long j) (λ q h f. elsewhere i q h f ∙ sym (elsewhere j q h f))
      (sym (reached i) ∙ e ∙ reached j)

  -- the same indices fix the word
  pub fixes-carried : (i : ℕ) → fixes hs (read_by m site w) i ≡ fixes gs w i
  fixes-carried i =
      bool_ext (fixes hs (read_by m site w) i) (fixes gs w i)
      (λ t. fixes_intro gs w i (same_read i 0 (fixes_elim hs (read_by m site w) i t ∙ sym (reach-zero hs (read_by m site w))) ∙ reach-zero gs w))
      (λ t. fixes_intro hs (read_by m site w) i (reached i ∙ ap (read_by m site) (fixes_elim gs w i t)))

  pub fixing-carried : fixing hs (read_by m site w) ≡ fixing gs w
  unfolding fixing
  fixing-carried = ap₂ (λ (t : ℕ → Bool) (o : ℕ). select t (below o)) (fun_ext fixes-carried) (order-carried m site gs hs c)

  pub size-carried : orbit_size hs (read_by m site w) ≡ orbit_size gs w
  unfolding orbit_size
  size-carried = ap₂ (λ (o : ℕ) (is : List ℕ). o / length is) (order-carried m site gs hs c) fixing-carried

  -- the same modes keep it, and the same index drops it
  pub keeps-carried : (ks : List ℤ) → keeps hs ks (read_by m site w) ≡ keeps gs ks w
  unfolding keeps
  keeps-carried ks =
      ap₂ (λ (t : ℕ → Bool) (o : ℕ). every t (below o))
      (fun_ext (λ i. ap₂ (λ (a b : Bool). not a || b) (fixes-carried i) (trivial-carried m site gs hs c ks i)))
      (order-carried m site gs hs c)

  pub dropped-carried : (ks : List ℤ) → dropped_by hs ks (read_by m site w) ≡ dropped_by gs ks w
  unfolding dropped_by breaks
  dropped-carried ks =
      ap₂ (λ (t : ℕ → Bool) (o : ℕ). first_of 0 t (below o))
      (fun_ext (λ i. ap₂ (λ (a b : Bool). a && not b) (fixes-carried i) (trivial-carried m site gs hs c ks i)))
      (order-carried m site gs hs c)

  -- where numbers rise with the sites the least word is the same, and the smallest index that reaches it
  module _ (rising : (a b : ℕ) → a < b → b < m → site a < site b) where
    best-least : least hs (read_by m site w) ≡ reach hs (forward gs w) (read_by m site w)
    best-least =
        least-is u (read_by m site w) (read_by_length m site w) (forward gs w) (rw (order-carried m site gs hs c) (forward-below v w))
        (λ j h. go j (rw (order-carried m site gs hs c) at h) (less (reach hs j (read_by m site w)) (reach hs (forward gs w) (read_by m site w))) refl)
      where
        go : (j : ℕ) → j < order_of gs → (b : Bool) → less (reach hs j (read_by m site w)) (reach hs (forward gs w) (read_by m site w)) ≡ b → b ≡ false
        go j h false t = refl
        go j h true t =
            let k = forward gs w in
            let l = less-read σ p number (reach gs j w) (reach gs k w) (reached-long j) (reached-long k) (λ q h f. elsewhere j q h f ∙ sym (elsewhere k q h f)) rising
            (ap₂ less (sym (reached j)) (sym (reached k)) ∙ t) in
            absurd (true≢false (sym l ∙ ap (less (reach gs j w)) (forward-reaches v w) ∙ least-least v w long (reach gs j w) (orbit_intro gs w j h)))

    pub least-carried : least hs (read_by m site w) ≡ read_by m site (least gs w)
    least-carried = best-least ∙ reached (forward gs w) ∙ ap (read_by m site) (forward-reaches v w)

    pub forward-carried : forward hs (read_by m site w) ≡ forward gs w
    forward-carried =
        forward-is u (read_by m site w) (read_by_length m site w) (forward gs w) (sym best-least)
        (λ j h e. forward_first gs w j h (same_read j (forward gs w) (e ∙ best-least) ∙ forward-reaches v w))

    pub back-carried : index_back hs (read_by m site w) ≡ index_back gs w
    unfolding index_back
    back-carried = inverse-carried m site gs hs c (forward hs (read_by m site w)) ∙ ap (inverse gs) forward-carried

    -- at the sites that have numbers it has the letters of the one that is read
    pub least_at : (a : ℕ) → a < m → get_or (least gs w) (site a) I ≡ get_or (least hs (read_by m site w)) a I
    least_at a h = sym (read_by_at m site (least gs w) a h) ∙ ap (λ (x : Word). get_or x a I) (sym least-carried)

-- ---- generators of numbers that do what valid ones do are valid

-- what each of them does
pub carried_from : (m : ℕ) (site : ℕ → ℕ) (gs hs : List Generator) → Carried m site gs hs → (h : Generator) → Member h hs
    → (g : Generator) × Member g gs × (h.order ≡ g.order) × ((a : ℕ) → a < m → site (target h.perm a) ≡ target g.perm (site a))
carried_from m site [] [] c h k = absurd k
carried_from m site [] (x ∷ hs) c h k = absurd c
carried_from m site (g ∷ gs) [] c h k = absurd c
carried_from m site (g ∷ gs) (x ∷ hs) c h (inl e) = (g, inl refl, rw e c.0, rw e c.1)
carried_from m site (g ∷ gs) (x ∷ hs) c h (inr k) = let (f, l, o, s) = carried_from m site gs hs c.2 h k in (f, inr l, o, s)

-- lists of m targets, all of them numbers
abbrev pub Inside : ℕ → List Generator → Type 0
Inside m hs = (h : Generator) → Member h hs → (length h.perm ≡ m) × ((a : ℕ) → a < m → target h.perm a < m)

module _ {n m : ℕ} {site : ℕ → ℕ} (σ : Numbering n m site) where
  module _ (f g : List ℕ) (F : Permutes n f) (long : length g ≡ m) (inside : (a : ℕ) → a < m → target g a < m)
      (same : (a : ℕ) → a < m → site (target g a) ≡ target f (site a)) where
    pub permutes-carried : Permutes m g
    permutes-carried = record {
      long = long;
      inside = inside;
      apart = λ a b h k e.
          σ.apart a b h k
          (F.apart (site a) (site b) (σ.inside a h) (σ.inside b k) (sym (same a h) ∙ ap site e ∙ same b k));
    }

    after-carried : (c a : ℕ) → a < m → site (after g c a) ≡ after f c (site a)
    unfolding after
    after-carried zero a h = refl
    after-carried (suc c) a h = after-carried c (target g a) (inside a h) ∙ ap (after f c) (same a h)

    module _ (p : ℕ → Bool) (number : (q : ℕ) → q < n → p q ≡ true → (a : ℕ) × (a < m) × (site a ≡ q))
        (left : (q : ℕ) → q < n → p q ≡ false → target f q ≡ q) where
      -- it has the same exact order
      order_same : exact_order g ≡ exact_order f
      order_same = dvd_antisymm (order_divides permutes-carried (exact_order f) down) (order_divides F (exact_order g) up)
        where
          down : (a : ℕ) → a < m → after g (exact_order f) a ≡ a
          down a h =
              σ.apart (after g (exact_order f) a) a (after-inside permutes-carried (exact_order f) a h) h
              (after-carried (exact_order f) a h ∙ order-returns F (site a) (σ.inside a h))

          up : (q : ℕ) → q < n → after f (exact_order g) q ≡ q
          up q h = go (p q) refl
            where
              go : (b : Bool) → p q ≡ b → after f (exact_order g) q ≡ q
              go true e =
                  let (a, l, t) = number q h e in
                  ap (after f (exact_order g)) (sym t) ∙ sym (after-carried (exact_order g) a l) ∙ ap site (order-returns permutes-carried a l) ∙ t
              go false e = after-stays f (exact_order g) q (left q h e)

  pub valid-carried : (p : ℕ → Bool) → ((q : ℕ) → q < n → p q ≡ true → (a : ℕ) × (a < m) × (site a ≡ q)) → (gs hs : List Generator) → Valid n gs → Carried m site gs hs
      → Inside m hs → Leaves n (λ q. not (p q)) gs → Valid m hs
  valid-carried p number gs hs v c inside leaves = record { permutes = permutes; exact = exact; commute = commute }
    where
      permutes : (h : Generator) → Member h hs → Permutes m h.perm
      permutes h k = let (g, l, o, s) = carried_from m site gs hs c h k in permutes-carried g.perm h.perm (v.permutes g l) (inside h k).0 (inside h k).1 s

      exact : (h : Generator) → Member h hs → h.order ≡ exact_order h.perm
      exact h k =
          let (g, l, o, s) = carried_from m site gs hs c h k in
          o ∙ v.exact g l ∙ sym (order_same g.perm h.perm (v.permutes g l) (inside h k).0 (inside h k).1 s p number (λ q b f. leaves g l q b (rw f)))

      commute : (h k : Generator) → Member h hs → Member k hs → (a : ℕ) → a < m → target h.perm (target k.perm a) ≡ target k.perm (target h.perm a)
      commute h k hm km a b =
          let (g, gl, o, s) = carried_from m site gs hs c h hm in
          let (f, fl, r, t) = carried_from m site gs hs c k km in
          let x : ℕ = target h.perm a in
          let y : ℕ = target k.perm a in
          let xl = (inside h hm).1 a b in
          let yl = (inside k km).1 a b in
          σ.apart (target h.perm y) (target k.perm x) ((inside h hm).1 y yl) ((inside k km).1 x xl)
          (s y yl ∙ ap (target g.perm) (t a b) ∙ v.commute g f gl fl (site a) (σ.inside a b) ∙ ap (target f.perm) (sym (s a b)) ∙ sym (t x xl))
