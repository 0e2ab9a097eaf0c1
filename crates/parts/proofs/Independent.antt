-- What the parts make of a word: at each site the whole does what the part does that moves it, so the least word has each part's least letters, the smallest
-- index that reaches it is joined from the parts' smallest, and an index fixes the word exactly if its parts do. What carries it: the first bit where two
-- words of the orbit differ lies at a site of one part, and is the first where that part's words differ.
use Prim.Native.Nat.{ℕ, zero, suc, ◌+◌, ◌*◌, ◌/◌, ◌%◌, ◌≤◌, ◌<◌}
use mathlib.Core.Path.{◌≡◌, refl, sym, ◌∙◌, ap, ap₂}
use mathlib.Core.Logic.{◌⊎◌, inl, inr, ⊎_elim}
use mathlib.Core.Bool.{Bool, true, false, ◌&&◌, ◌||◌, not, cond, true≢false, false≢true}
use mathlib.Core.List.{List, [], ◌∷◌, map}
use native.Mathlib.Decide.{dec_lt}
use native.Mathlib.Omega.{arith}
use lib.Dec.{eqb}
use lib.ListN.{length, get_or}
use lib.Seq.{ext_get_or}
use Rattle.pauli_word.specs.Word.{I, Word, less}
use Rattle.packed.specs.Packed.{LessAt}
use Rattle.action.specs.Lists.{below, Member}
use Rattle.action.specs.Permutation.{Generator, target, after, Permutes, Valid}
use Rattle.action.specs.Index.{order_of, digits}
use Rattle.action.specs.Orbit.{moves, by_digits, reach, least, forward, fixes}
use Rattle.action.proofs.Below.{map-below-at, map-below-length}
use Rattle.action.proofs.Lists.{bool_ext}
use Rattle.action.proofs.Index.{valid_positive}
use Rattle.action.proofs.Move.{moves-length, moves-at}
use Rattle.action.proofs.Reach.{reach-length, reach-zero}
use Rattle.action.proofs.Canonical.{forward-below, forward-reaches, forward_first, least-least, least-length, orbit_intro}
use Rattle.action.proofs.Stabilizer.{fixes_intro, fixes_elim}
use Rattle.rotation.proofs.XPlane.{least-is, forward-is}
use Rattle.parts.specs.Parts.{Interleaved, first, second, joined, mixed}
use Rattle.parts.proofs.Joined.{whole, exchanged, joined-exchanged, first_valid, second_valid, joined-below, in_first, in_second, in_first-below, in_second-below, joined_parts, joined_le, joined-zero, reach-joined}
use Rattle.parts.proofs.Bitwise.{by_test, word_bit, bit_site, word_bit-same, bit_site-below, less-first, first-less}

and_both : (a b : Bool) → (a && b) ≡ true → (a ≡ true) × (b ≡ true)
and_both true b h = (refl, h)
and_both false b h = absurd (false≢true h)

-- ---- sites that are left

-- the generators leave the sites that pass a test where they are
abbrev pub Leaves : ℕ → (ℕ → Bool) → List Generator → Type 0
Leaves n p gs = (g : Generator) → Member g gs → (q : ℕ) → q < n → p q ≡ true → target g.perm q ≡ q

pub after-stays : (perm : List ℕ) (c q : ℕ) → target perm q ≡ q → after perm c q ≡ q
unfolding after
after-stays perm zero q e = refl
after-stays perm (suc c) q e = ap (after perm c) e ∙ after-stays perm c q e

-- and so the letters there
pub reach_leaves : {n : ℕ} (p : ℕ → Bool) (gs : List Generator) → Valid n gs → Leaves n p gs → (i : ℕ) (w : Word) → length w ≡ n → (q : ℕ) → q < n
    → p q ≡ true → get_or (reach gs i w) q I ≡ get_or w q I
unfolding reach digits by_digits
reach_leaves p [] v l i w e q h t = refl
reach_leaves {n} p (g ∷ gs) v l i w e q h t =
    let c = i % g.order in
    reach_leaves p gs (second_valid (first {g = g} (whole gs)) v) (λ f m. l f (inr m)) (i / g.order) (moves c g.perm w) (moves-length c g.perm w ∙ e) q h t
    ∙ ap (λ (r : ℕ). get_or (moves c g.perm w) r I) (sym (after-stays g.perm c q (l g (inl refl) q h t)))
    ∙ moves-at (v.permutes g (inl refl)) c w e q h

-- ---- words put together

module _ (n : ℕ) (p : ℕ → Bool) where
  pub mixed-length : (u v : Word) → length (mixed n p u v) ≡ n
  unfolding mixed
  mixed-length u v = map-below-length (λ q. cond (p q) (get_or v q I) (get_or u q I)) n

  mixed-at : (u v : Word) (q : ℕ) → q < n → get_or (mixed n p u v) q I ≡ cond (p q) (get_or v q I) (get_or u q I)
  unfolding mixed
  mixed-at u v q h = map-below-at (λ q. cond (p q) (get_or v q I) (get_or u q I)) n q I h

  pub mixed-inside : (u v : Word) (q : ℕ) → q < n → p q ≡ true → get_or (mixed n p u v) q I ≡ get_or v q I
  mixed-inside u v q h t = mixed-at u v q h ∙ rw t

  pub mixed-outside : (u v : Word) (q : ℕ) → q < n → p q ≡ false → get_or (mixed n p u v) q I ≡ get_or u q I
  mixed-outside u v q h f = mixed-at u v q h ∙ rw f

  -- a word with these letters is the one put together
  pub mixed-of : (u v w : Word) → length w ≡ n → ((q : ℕ) → q < n → p q ≡ true → get_or w q I ≡ get_or v q I)
      → ((q : ℕ) → q < n → p q ≡ false → get_or w q I ≡ get_or u q I) → w ≡ mixed n p u v
  mixed-of u v w e a b =
      ext_get_or I w (mixed n p u v) (e ∙ sym (mixed-length u v))
      (λ q l. let h : q < n = rw e at l in
      by_test p q (λ t. a q h t ∙ sym (mixed-inside u v q h t)) (λ f. b q h f ∙ sym (mixed-outside u v q h f)))

  -- words of two orbits: u and u' are the same at the sites that pass, v and v' at the others
  module _ (u u' v v' : Word) (ul : length u ≡ n) (ul' : length u' ≡ n) (vl : length v ≡ n) (vl' : length v' ≡ n)
      (us : (q : ℕ) → q < n → p q ≡ true → get_or u q I ≡ get_or u' q I) (vs : (q : ℕ) → q < n → p q ≡ false → get_or v q I ≡ get_or v' q I) where
    -- what is put together tells both
    pub mixed-first : mixed n p u v ≡ mixed n p u' v' → u ≡ u'
    mixed-first e =
        ext_get_or I u u' (ul ∙ sym ul')
        (λ q l. let h : q < n = rw ul at l in
        by_test p q (us q h) (λ f. sym (mixed-outside u v q h f) ∙ ap (λ (x : Word). get_or x q I) e ∙ mixed-outside u' v' q h f))

    pub mixed-second : mixed n p u v ≡ mixed n p u' v' → v ≡ v'
    mixed-second e =
        ext_get_or I v v' (vl ∙ sym vl')
        (λ q l. let h : q < n = rw vl at l in
        by_test p q (λ t. sym (mixed-inside u v q h t) ∙ ap (λ (x : Word). get_or x q I) e ∙ mixed-inside u' v' q h t) (vs q h))

    -- the first bit where they differ lies at a site of one of them
    pub mixed-less : less (mixed n p u v) (mixed n p u' v') ≡ true → (less u u' ≡ true) ⊎ (less v v' ≡ true)
    mixed-less h = go (less-first n (mixed n p u v) (mixed n p u' v') (mixed-length u v) (mixed-length u' v') h)
      where
        -- bit t of what is put together is the bit of the part that its site is of
        bit_in : (x y : Word) (t : ℕ) → t < n + n → p (bit_site n t) ≡ true → word_bit n (mixed n p x y) t ≡ word_bit n y t
        bit_in x y t l e = word_bit-same n (mixed n p x y) y t (mixed-inside x y (bit_site n t) (bit_site-below n t l) e)

        bit-out : (x y : Word) (t : ℕ) → t < n + n → p (bit_site n t) ≡ false → word_bit n (mixed n p x y) t ≡ word_bit n x t
        bit-out x y t l e = word_bit-same n (mixed n p x y) x t (mixed-outside x y (bit_site n t) (bit_site-below n t l) e)

        go : LessAt (n + n) (word_bit n (mixed n p u v)) (word_bit n (mixed n p u' v')) → (less u u' ≡ true) ⊎ (less v v' ≡ true)
        go (t, l, s, f, g) = by_test p (bit_site n t)
            (λ e. inr (first-less n v v' vl vl' (
              t,
              l,
              (λ r k. by_test p (bit_site n r)
                  (λ d. sym (bit_in u v r (omega arith) d) ∙ s r k ∙ bit_in u' v' r (omega arith) d)
                  (λ d. word_bit-same n v v' r (vs (bit_site n r) (bit_site-below n r (omega arith)) d))),
              sym (bit_in u v t l e) ∙ f,
              sym (bit_in u' v' t l e) ∙ g,
            )))
            (λ e. inl (first-less n u u' ul ul' (
              t,
              l,
              (λ r k. by_test p (bit_site n r)
                  (λ d. word_bit-same n u u' r (us (bit_site n r) (bit_site-below n r (omega arith)) d))
                  (λ d. sym (bit-out u v r (omega arith) d) ∙ s r k ∙ bit-out u' v' r (omega arith) d)),
              sym (bit-out u v t l e) ∙ f,
              sym (bit-out u' v' t l e) ∙ g,
            )))

-- ---- a group in two parts: the first leaves the sites that pass a test, the second the others

module _ {n : ℕ} {gs fs hs : List Generator} (s : Interleaved gs fs hs) (v : Valid n gs) (p : ℕ → Bool) (fl : Leaves n p fs)
    (hl : Leaves n (λ q. not (p q)) hs) (w : Word) (long : length w ≡ n) where
  fv : Valid n fs
  fv = first_valid s v

  hv : Valid n hs
  hv = second_valid s v

  first-long : (i : ℕ) → length (reach fs i w) ≡ n
  first-long i = reach-length fs i w ∙ long

  second-long : (j : ℕ) → length (reach hs j w) ≡ n
  second-long j = reach-length hs j w ∙ long

  -- what each part leaves
  first-left : (i q : ℕ) → q < n → p q ≡ true → get_or (reach fs i w) q I ≡ get_or w q I
  first-left i q h t = reach_leaves p fs fv fl i w long q h t

  second-left : (j : ℕ) (u : Word) → length u ≡ n → (q : ℕ) → q < n → p q ≡ false → get_or (reach hs j u) q I ≡ get_or u q I
  second-left j u e q h f = reach_leaves (λ r. not (p r)) hs hv hl j u e q h (rw f)

  -- the whole does what the one does at its sites and the other at the others
  pub whole-mixed : (i j : ℕ) → reach gs (joined s i j) w ≡ mixed n p (reach fs i w) (reach hs j w)
  whole-mixed i j =
      mixed-of n p (reach fs i w) (reach hs j w) (reach gs (joined s i j) w) (reach-length gs (joined s i j) w ∙ long)
      (λ q h t.
      ap (λ (u : Word). get_or u q I) (ap (λ (e : ℕ). reach gs e w) (sym (joined-exchanged s i j)) ∙ reach-joined (exchanged s) v j i w long)
      ∙ reach_leaves p fs fv fl i (reach hs j w) (second-long j) q h t)
      (λ q h f. ap (λ (u : Word). get_or u q I) (reach-joined s v i j w long) ∙ second-left j (reach fs i w) (first-long i) q h f)

  -- two words of each part's orbit are the same at the other's sites
  module _ (i k j l : ℕ) where
    first_same : (q : ℕ) → q < n → p q ≡ true → get_or (reach fs i w) q I ≡ get_or (reach fs k w) q I
    first_same q h t = first-left i q h t ∙ sym (first-left k q h t)

    second-same : (q : ℕ) → q < n → p q ≡ false → get_or (reach hs j w) q I ≡ get_or (reach hs l w) q I
    second-same q h f = second-left j w long q h f ∙ sym (second-left l w long q h f)

    pub same_first : reach gs (joined s i j) w ≡ reach gs (joined s k l) w → reach fs i w ≡ reach fs k w
    same_first e =
        mixed-first n p (reach fs i w) (reach fs k w) (reach hs j w) (reach hs l w) (first-long i) (first-long k) (second-long j) (second-long l)
        first_same second-same (sym (whole-mixed i j) ∙ e ∙ whole-mixed k l)

    pub same_second : reach gs (joined s i j) w ≡ reach gs (joined s k l) w → reach hs j w ≡ reach hs l w
    same_second e =
        mixed-second n p (reach fs i w) (reach fs k w) (reach hs j w) (reach hs l w) (first-long i) (first-long k) (second-long j) (second-long l)
        first_same second-same (sym (whole-mixed i j) ∙ e ∙ whole-mixed k l)

    pub less-parts : less (reach gs (joined s i j) w) (reach gs (joined s k l) w) ≡ true → (less (reach fs i w) (reach fs k w) ≡ true) ⊎ (less (reach hs j w) (reach hs l w) ≡ true)
    less-parts h =
        mixed-less n p (reach fs i w) (reach fs k w) (reach hs j w) (reach hs l w) (first-long i) (first-long k) (second-long j) (second-long l)
        first_same second-same (ap₂ less (sym (whole-mixed i j)) (sym (whole-mixed k l)) ∙ h)

  -- ---- the least word

  abbrev best : ℕ
  best = joined s (forward fs w) (forward hs w)

  none_less_lem : {ks : List Generator} → Valid n ks → (i : ℕ) → i < order_of ks → less (reach ks i w) (reach ks (forward ks w) w) ≡ true → ⊥
  none_less_lem {ks} kv i h t =
      true≢false (sym t ∙ ap (less (reach ks i w)) (forward-reaches kv w) ∙ least-least kv w long (reach ks i w) (orbit_intro ks w i h))

  pub least-joined : least gs w ≡ reach gs (joined s (forward fs w) (forward hs w)) w
  least-joined = least-is v w long best (joined-below s (valid_positive v) (forward fs w) (forward hs w)) none
    where
      none : (e : ℕ) → e < order_of gs → less (reach gs e w) (reach gs best w) ≡ false
      none e h = go (less (reach gs e w) (reach gs best w)) refl
        where
          go : (b : Bool) → less (reach gs e w) (reach gs best w) ≡ b → b ≡ false
          go false t = refl
          go true t =
              let i = in_first s e in
              let j = in_second s e in
              absurd
              (⊎_elim
              (none_less_lem fv i (in_first-below s (valid_positive v) e))
              (none_less_lem hv j (in_second-below s (valid_positive v) e))
              (less-parts i (forward fs w) j (forward hs w) (ap (λ (k : ℕ). less (reach gs k w) (reach gs best w)) (joined_parts s (valid_positive v) e h) ∙ t)))

  -- the parts' least letters, each at its own sites
  pub least-mixed : least gs w ≡ mixed n p (least fs w) (least hs w)
  least-mixed = least-joined ∙ whole-mixed (forward fs w) (forward hs w) ∙ ap₂ (mixed n p) (forward-reaches fv w) (forward-reaches hv w)

  -- the smallest index that reaches it is joined from the smallest of the parts
  pub forward-joined : forward gs w ≡ joined s (forward fs w) (forward hs w)
  forward-joined = forward-is v w long best (sym least-joined) first_one
    where
      first_one : (e : ℕ) → e < best → reach gs e w ≡ least gs w → ⊥
      first_one e h r =
          let p = valid_positive v in
          let inside : e < order_of gs = omega (arith, joined-below s p (forward fs w) (forward hs w)) in
          let i = in_first s e in
          let j = in_second s e in
          let same = ap (λ (k : ℕ). reach gs k w) (joined_parts s p e inside) ∙ r ∙ least-joined in
          let a : forward fs w ≤ i = not-less (dec_lt i (forward fs w)) (λ l. forward_first fs w i l (same_first i (forward fs w) j (forward hs w) same ∙ forward-reaches fv w)) in
          let b : forward hs w ≤ j = not-less (dec_lt j (forward hs w)) (λ l. forward_first hs w j l (same_second i (forward fs w) j (forward hs w) same ∙ forward-reaches hv w)) in
          let c = joined_le s p (forward fs w) i (forward hs w) j (in_first-below s p e) (in_second-below s p e) a b in
          omega (arith, c, joined_parts s p e inside)
        where
          not-less : {a b : ℕ} → Dec (a < b) → (a < b → ⊥) → b ≤ a
          not-less (yes h) f = absurd (f h)
          not-less (no h) f = omega arith

  -- ---- the indices that fix the word

  pub fixes-joined : (i j : ℕ) → fixes gs w (joined s i j) ≡ (fixes fs w i && fixes hs w j)
  fixes-joined i j = bool_ext (fixes gs w (joined s i j)) (fixes fs w i && fixes hs w j) to back
    where
      to : fixes gs w (joined s i j) ≡ true → (fixes fs w i && fixes hs w j) ≡ true
      to t =
          let p = valid_positive v in
          let same = fixes_elim gs w (joined s i j) t ∙ sym (reach-zero gs w) ∙ ap (λ (e : ℕ). reach gs e w) (sym (joined-zero s p)) in
          ap₂ ◌&&◌
          (fixes_intro fs w i (same_first i 0 j 0 same ∙ reach-zero fs w))
          (fixes_intro hs w j (same_second i 0 j 0 same ∙ reach-zero hs w))

      back : (fixes fs w i && fixes hs w j) ≡ true → fixes gs w (joined s i j) ≡ true
      back t =
          let both = and_both (fixes fs w i) (fixes hs w j) t in
          fixes_intro gs w (joined s i j)
          (reach-joined s v i j w long ∙ ap (reach hs j) (fixes_elim fs w i both.0) ∙ fixes_elim hs w j both.1)
