-- Candidates that lead: those whose bits are the least of all give the least word, and what they say of the word: the index back, the smallest index that
-- reaches the least word, the indices that fix the word and how many there are. What carries it: a candidate leads exactly if it leads from the least word
-- back to the word, so that the differences of those that lead are the stabilizer.
use Prim.Native.Nat.{ℕ, ◌+◌, ◌-◌, ◌<◌, ◌≤◌}
use mathlib.Core.Path.{◌≡◌, refl, sym, ◌∙◌, ap, ap₂}
use mathlib.Core.Logic.{◌↔◌}
use mathlib.Core.Bool.{Bool, true, false, cond, true≢false}
use mathlib.Core.List.{List}
use native.Mathlib.Nat.{add-sub_cancel_left}
use native.Mathlib.Decide.{dec_lt}
use native.Mathlib.Omega.{arith}
use lib.Dec.{ltb, eqb}
use lib.ListN.{length}
use borrow.Author.Tests.{lt-ltb, le-ltb, eqb-true, eq-eqb}
use Rattle.pauli_word.specs.Word.{Word, less}
use Rattle.pauli_word.proofs.WordOrder.{less_irrefl, less_trans}
use Rattle.action.specs.Lists.{below, Member, count}
use Rattle.action.specs.Permutation.{Generator, Valid}
use Rattle.action.specs.Index.{order_of, add, inverse}
use Rattle.action.specs.Orbit.{reach, least, forward, index_back, fixes, fixing}
use Rattle.action.proofs.Lists.{bool_ext, member_below, of_member_below, no_repeats_below, length-below, count-select, count-cong, count-true, count_bijection}
use Rattle.action.proofs.Index.{Positive, valid_positive, add-below, add_comm, add-zero, add-inverse, inverse-below, add-undo, add-redo}
use Rattle.action.proofs.Reach.{reach-add, reach-inverse, reach-of-inverse}
use Rattle.action.proofs.Canonical.{least-length, forward_first, forward-below, forward-reaches, back_below}
use Rattle.action.proofs.Stabilizer.{fixes_intro, fixes_elim}
use Rattle.packed.specs.Packed.{letters_by, LessAt}
use Rattle.packed.proofs.Packing.{letters_by_cong}
use Rattle.rotation.proofs.XPlane.{least-is}
use Rattle.cyclic.proofs.BitOrder.{by_order}
use Rattle.cyclic.proofs.Keys.{less_by_x, less_by_z}
use Rattle.grid.specs.Grid.{Grid, further}
use Rattle.grid.specs.Candidates.{candidate, candidate_bit, Left, Among, Leading}
use Rattle.grid.specs.Stages.{is_tired, Staged}
use Rattle.grid.specs.declared.refine.Stage.{Stage}
use Rattle.grid.specs.declared.refine.Stage.TheVariants.{Alone, Through, Tired}
use Rattle.grid.proofs.Numbers.{candidate-letters}

-- ---- words by all their bits, the X bits of n sites and then the Z bits

-- bit p of these
abbrev joint : ℕ → (ℕ → Bool) → (ℕ → Bool) → ℕ → Bool
joint n x z p = cond (ltb p n) (x p) (z (p - n))

joint_low : (n : ℕ) (x z : ℕ → Bool) (p : ℕ) → p < n → joint n x z p ≡ x p
joint_low n x z p h = rw (lt-ltb p n h)

joint_high : (n : ℕ) (x z : ℕ → Bool) (p : ℕ) → joint n x z (n + p) ≡ z p
joint_high n x z p = rw (le-ltb (n + p) n (omega arith)) (ap z (add-sub_cancel_left n p))

module _ (n : ℕ) (x z x' z' : ℕ → Bool) where
  -- where the first t of these are the same, the X bits below t are, and the Z bits that lie below t
  low_same : (t : ℕ) → ((p : ℕ) → p < t → joint n x z p ≡ joint n x' z' p) → (p : ℕ) → p < t → p < n → x p ≡ x' p
  low_same t s p h l = sym (joint_low n x z p l) ∙ s p h ∙ joint_low n x' z' p l

  high_same : (t : ℕ) → ((p : ℕ) → p < t → joint n x z p ≡ joint n x' z' p) → (p : ℕ) → n + p < t → z p ≡ z' p
  high_same t s p h = sym (joint_high n x z p) ∙ s (n + p) h ∙ joint_high n x' z' p

  -- a word whose first bit that differs is 0 is less
  joint-less : (t : ℕ) → t ≤ n + n → LessAt t (joint n x z) (joint n x' z') → less (letters_by n x z) (letters_by n x' z') ≡ true
  joint-less t h (q, l, s, a, b) = by_order n q high low
    where
      low : q < n → less (letters_by n x z) (letters_by n x' z') ≡ true
      low k =
          less_by_x n x z x' z'
          (q, k, (λ p o. low_same q s p o (omega arith)), sym (joint_low n x z q k) ∙ a, sym (joint_low n x' z' q k) ∙ b)

      high : n ≤ q → less (letters_by n x z) (letters_by n x' z') ≡ true
      high k =
          let e : n + (q - n) ≡ q = omega arith in
          less_by_z n x z x' z' (λ p o. low_same q s p (omega arith) o) (
            q - n,
            omega arith,
            (λ p o. high_same q s p (omega arith)),
            sym (joint_high n x z (q - n)) ∙ ap (joint n x z) e ∙ a,
            sym (joint_high n x' z' (q - n)) ∙ ap (joint n x' z') e ∙ b,
          )

  -- words with the same bits are the same
  joint-same : ((p : ℕ) → p < n + n → joint n x z p ≡ joint n x' z' p) → letters_by n x z ≡ letters_by n x' z'
  joint-same s = letters_by_cong n x z x' z' (λ p h. low_same (n + n) s p (omega arith) h) (λ p h. high_same (n + n) s p (omega arith))

-- ---- candidates by their bits

module _ {n : ℕ} {gs : List Generator} (v : Valid n gs) (g : Grid n gs) (x z : ℕ → Bool) where
  -- where the first bits of the candidates in S are the least, every other gives a greater word
  pub left-among : (t : ℕ) → t ≤ n + n → {S : ℕ → Bool} → Left (order_of gs) (candidate_bit gs n x z) t S → Among gs (letters_by n x z) S
  left-among t h {S} l = record { inside = l.inside; some = l.some; rest = rest }
    where
      rest : (j k : ℕ) → S j ≡ true → k < order_of gs → S k ≡ false → less (candidate gs (letters_by n x z) j) (candidate gs (letters_by n x z) k) ≡ true
      rest j k a b c =
          ap₂ less (candidate-letters v g j x z) (candidate-letters v g k x z)
          ∙ joint-less n (λ q. x (further gs j q)) (λ q. z (further gs j q)) (λ q. x (further gs k q)) (λ q. z (further gs k q)) t h (l.rest j k a b c)

  -- where all their bits are the least, they give the least word
  pub left-leading : {S : ℕ → Bool} → Left (order_of gs) (candidate_bit gs n x z) (n + n) S → Leading gs (letters_by n x z) S
  left-leading {S} l = record { among = left-among (n + n) (omega arith) l; ties = ties }
    where
      ties : (j k : ℕ) → S j ≡ true → S k ≡ true → candidate gs (letters_by n x z) j ≡ candidate gs (letters_by n x z) k
      ties j k a b =
          candidate-letters v g j x z
          ∙ joint-same n (λ q. x (further gs j q)) (λ q. z (further gs j q)) (λ q. x (further gs k q)) (λ q. z (further gs k q)) (l.ties j k a b)
          ∙ sym (candidate-letters v g k x z)

-- a candidate that is left alone leads
pub among-alone : {gs : List Generator} {w : Word} {S : ℕ → Bool} (k : ℕ) → Among gs w S → ((j : ℕ) → S j ≡ eqb j k) → Leading gs w S
among-alone {gs} {w} {S} k a e = record { among = a; ties = λ i j p q. ap (candidate gs w) (own i p ∙ sym (own j q)) }
  where
    own : (i : ℕ) → S i ≡ true → i ≡ k
    own i p = eqb-true i k (sym (e i) ∙ p)

-- ---- what the candidates that lead say

-- where refining stopped, those that are left lead, or are among those that may
pub staged_leads : (r : Stage) {gs : List Generator} {w : Word} {S : ℕ → Bool} → is_tired r ≡ false → Staged r gs w S → Leading gs w S
staged_leads (Alone k) e s = s.0
staged_leads Through e s = s
staged_leads Tired e s = absurd (true≢false e)

pub staged_among : (r : Stage) {gs : List Generator} {w : Word} {S : ℕ → Bool} → is_tired r ≡ true → Staged r gs w S → Among gs w S
staged_among (Alone k) e s = absurd (true≢false (sym e))
staged_among Through e s = absurd (true≢false (sym e))
staged_among Tired e s = s

-- of two words not both are less
pub not-both : (u v : Word) → less u v ≡ true → less v u ≡ false
not-both u v h = go (less v u) refl
  where
    go : (t : Bool) → less v u ≡ t → less v u ≡ false
    go false e = e
    go true e = absurd (true≢false (sym (less_trans u v u h e) ∙ less_irrefl u))

-- the inverse of an inverse
pub inverse-inverse : (gs : List Generator) → Positive gs → (i : ℕ) → i < order_of gs → inverse gs (inverse gs i) ≡ i
inverse-inverse gs p i h =
    let j : ℕ = inverse gs i in
    sym (add-zero gs p (inverse gs j) (inverse-below gs p j))
    ∙ add_comm gs (inverse gs j) 0
    ∙ ap (λ (k : ℕ). add gs k (inverse gs j)) (sym (add-inverse gs p i))
    ∙ add-undo gs p i j h

-- one number below n is k
count-alone : (n k : ℕ) → k < n → count (λ j. eqb j k) (below n) ≡ 1
count-alone n k h =
    count_bijection (below n) (below 1) (λ j. eqb j k) (λ j. true) (λ j. 0) (λ j. k) (no_repeats_below n) (no_repeats_below 1)
    (λ j m e. (member_below 1 0 (omega arith), refl, sym (eqb-true j k e)))
    (λ j m e. (member_below n k h, eq-eqb k k refl, omega (arith, of_member_below 1 j m)))
    ∙ count-true (below 1)
    ∙ length-below 1

module _ {n : ℕ} {gs : List Generator} (v : Valid n gs) (w : Word) (e : length w ≡ n) {S : ℕ → Bool} (l : Leading gs w S) where
  positive : Positive gs
  positive = valid_positive v

  back-back : (i : ℕ) → i < order_of gs → inverse gs (inverse gs i) ≡ i
  back-back = inverse-inverse gs positive

  -- a candidate in S gives the least word
  leads-least : (k : ℕ) → S k ≡ true → candidate gs w k ≡ least gs w
  leads-least k s = sym (least-is v w e (inverse gs k) (inverse-below gs positive k) none)
    where
      other : (i : ℕ) → i < order_of gs → (b : Bool) → S i ≡ b → less (candidate gs w i) (candidate gs w k) ≡ false
      other i h true t = ap (λ (u : Word). less u (candidate gs w k)) (l.ties i k t s) ∙ less_irrefl (candidate gs w k)
      other i h false t = not-both (candidate gs w k) (candidate gs w i) (l.among.rest k i s h t)

      none : (j : ℕ) → j < order_of gs → less (reach gs j w) (candidate gs w k) ≡ false
      none j h =
          ap (λ (i : ℕ). less (reach gs i w) (candidate gs w k)) (sym (back-back j h))
          ∙ other (inverse gs j) (inverse-below gs positive j) (S (inverse gs j)) refl

  -- the candidates in S are those that give the least word
  pub leading-exactly : (k : ℕ) → (S k ≡ true) ↔ ((k < order_of gs) × (candidate gs w k ≡ least gs w))
  leading-exactly k = ((λ s. (l.among.inside k s, leads-least k s)), λ h. go h.0 h.1 (S k) refl)
    where
      go : k < order_of gs → candidate gs w k ≡ least gs w → (b : Bool) → S k ≡ b → S k ≡ true
      go h c true t = t
      go h c false t =
          let (j, s) = l.among.some in
          absurd (true≢false (sym (l.among.rest j k s h t) ∙ ap₂ less (leads-least j s) c ∙ less_irrefl (least gs w)))

  -- the index back is one of them
  pub leading-back : S (index_back gs w) ≡ true
  unfolding index_back
  leading-back =
      (leading-exactly (inverse gs (forward gs w))).1 (
        inverse-below gs positive (forward gs w),
        ap (λ (i : ℕ). reach gs i w) (back-back (forward gs w) (forward-below v w)) ∙ forward-reaches v w,
      )

  -- whose inverse is the smallest index that reaches the least word
  pub leading-forward : inverse gs (index_back gs w) ≡ forward gs w
  unfolding index_back
  leading-forward = back-back (forward gs w) (forward-below v w)

  -- and no inverse of another is smaller
  pub leading-first : (k : ℕ) → S k ≡ true → forward gs w ≤ inverse gs k
  leading-first k s = go (dec_lt (inverse gs k) (forward gs w))
    where
      go : Dec (inverse gs k < forward gs w) → forward gs w ≤ inverse gs k
      go (yes h) = absurd (forward_first gs w (inverse gs k) h (leads-least k s))
      go (no h) = omega arith

  -- a candidate leads exactly if it fixes the word after the smallest index that reaches the least word
  pub leading-fixes : (k : ℕ) → k < order_of gs → fixes gs w (add gs k (forward gs w)) ≡ S k
  leading-fixes k h = bool_ext (fixes gs w (add gs k f)) (S k) there back
    where
      f : ℕ
      f = forward gs w

      both : reach gs (add gs k f) w ≡ reach gs k (least gs w)
      both =
          ap (λ (i : ℕ). reach gs i w) (add_comm gs k f)
          ∙ reach-add v f k w e
          ∙ ap (reach gs k) (forward-reaches v w)

      there : fixes gs w (add gs k f) ≡ true → S k ≡ true
      there t =
          (leading-exactly k).1 (
            h,
            ap (reach gs (inverse gs k)) (sym (fixes_elim gs w (add gs k f) t) ∙ both)
                ∙ reach-inverse v k (least gs w) (least-length v w ∙ e),
          )

      back : S k ≡ true → fixes gs w (add gs k f) ≡ true
      back t =
          fixes_intro gs w (add gs k f) (both ∙ ap (reach gs k) (sym (leads-least k t)) ∙ reach-of-inverse v k w e)

  -- as many lead as fix the word
  pub leading-fixing : count S (below (order_of gs)) ≡ length (fixing gs w)
  unfolding fixing
  leading-fixing =
      count_bijection (below o) (below o) S (fixes gs w) (λ k. add gs k f) (λ i. add gs i (inverse gs f)) (no_repeats_below o) (no_repeats_below o)
      there back
      ∙ count-select (fixes gs w) (below o)
    where
      o : ℕ
      o = order_of gs

      f : ℕ
      f = forward gs w

      there : (k : ℕ) → Member k (below o) → S k ≡ true
          → Member (add gs k f) (below o) × (fixes gs w (add gs k f) ≡ true) × (add gs (add gs k f) (inverse gs f) ≡ k)
      there k m t =
          let h : k < o = of_member_below o k m in
          (member_below o (add gs k f) (add-below gs positive k f), leading-fixes k h ∙ t, add-undo gs positive k f h)

      back : (i : ℕ) → Member i (below o) → fixes gs w i ≡ true
          → Member (add gs i (inverse gs f)) (below o) × (S (add gs i (inverse gs f)) ≡ true) × (add gs (add gs i (inverse gs f)) f ≡ i)
      back i m t =
          let h : i < o = of_member_below o i m in
          let k : ℕ = add gs i (inverse gs f) in
          let r : add gs k f ≡ i = add-redo gs positive i f h in (
            member_below o k (add-below gs positive i (inverse gs f)),
            sym (leading-fixes k (add-below gs positive i (inverse gs f))) ∙ ap (fixes gs w) r ∙ t,
            r,
          )

  -- ---- a candidate that leads alone

  module _ (k : ℕ) (alone : (j : ℕ) → S j ≡ eqb j k) where
    -- it is the index back
    pub alone-back : index_back gs w ≡ k
    alone-back = eqb-true (index_back gs w) k (sym (alone (index_back gs w)) ∙ leading-back)

    -- its inverse is the smallest index that reaches the least word
    pub alone-forward : forward gs w ≡ inverse gs k
    alone-forward = sym leading-forward ∙ ap (inverse gs) alone-back

    -- index 0 alone fixes the word
    pub alone-fixing : length (fixing gs w) ≡ 1
    alone-fixing =
        sym leading-fixing
        ∙ count-cong S (λ j. eqb j k) (below (order_of gs)) (λ j m. alone j)
        ∙ count-alone (order_of gs) k (rw alone-back at (back_below v w))
