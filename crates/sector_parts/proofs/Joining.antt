-- Two decisions put together, that of the parts with labels below p and that of part p: they are the decision of the parts with labels below p + 1, by whether
-- each keeps the word.
use Prim.Native.Nat.{ℕ, zero, suc, ◌+◌, ◌*◌, ◌≤◌, ◌<◌, min}
use mathlib.Core.Path.{◌≡◌, refl, sym, ◌∙◌, ap}
use mathlib.Core.Bool.{Bool, true, false, ◌&&◌, not, cond}
use mathlib.Core.List.{List}
use native.Mathlib.Nat.{min-eq_left, min-eq_right, le_of_lt, mul-zero, zero-mul, div-le_self, le-mul_of_pos_right}
use native.Mathlib.Decide.{dec_lt}
use native.Mathlib.Omega.{arith}
use borrow.Author.Tests.{ne_eqb}
use lib.Dec.{eqb}
use lib.IntN.{ℤ}
use lib.ListN.{length}
use Rattle.pauli_word.specs.Word.{Word}
use Rattle.pauli_word.specs.Bytes.{bytes_of}
use Rattle.action.specs.Permutation.{Generator, Valid}
use Rattle.action.specs.Index.{order_of}
use Rattle.action.specs.Orbit.{least, index_back, fixing, orbit, orbit_size}
use Rattle.action.specs.Sector.{keeps, dropped_by}
use Rattle.action.proofs.Canonical.{back_below}
use Rattle.action.proofs.Dropped.{dropped-breaks}
use Rattle.action.proofs.Index.{valid_positive, order_of_positive}
use Rattle.action.proofs.Stabilizer.{orbit-stabilizer, orbit_size_is}
use Rattle.parts.specs.Labels.{chosen, spread, Divided}
use Rattle.parts.proofs.Joined.{order_joined}
use Rattle.parts.proofs.Labelled.{chosen_all, chosen_interleaved, all_apart}
use Rattle.parts.proofs.Stepwise.{before, own, chosen_valid, next-index, next-size, next-keeps, next-done-drops, next-part-drops, next-both-drop}
use Rattle.row_lists.specs.Rows.{no_word}
use Rattle.decisions.specs.Decisions.{kept, dropped, Row, decision, row_word, row_index, row_orbit}
use Rattle.decisions.specs.declared.placement.Placement.{Placement}
use Rattle.decisions.specs.Placements.{placement_of, size_in}
use Rattle.decisions.proofs.Placing.{placed-orbit}
use Rattle.sector_parts.specs.Steps.{joined_index}

-- ---- the numbers of a decision, by whether the modes keep the word

index_by : (b : Bool) (r : Row) (i : ℕ) → row_index (cond b (kept r) (dropped i)) ≡ cond b r.index i
index_by true r i = refl
index_by false r i = refl

size_by_lem : (b : Bool) (r : Row) (i : ℕ) → row_orbit (cond b (kept r) (dropped i)) ≡ cond b r.size 0
size_by_lem true r i = refl
size_by_lem false r i = refl

word_by : (b : Bool) (r : Row) (i : ℕ) → row_word (cond b (kept r) (dropped i)) ≡ cond b (bytes_of r.word) no_word
word_by true r i = refl
word_by false r i = refl

module _ (gs : List Generator) (ks : List ℤ) (w : Word) where
  pub decided-index : row_index (decision gs ks w) ≡ cond (keeps gs ks w) (index_back gs w) (dropped_by gs ks w)
  unfolding decision
  decided-index = index_by (keeps gs ks w) _ (dropped_by gs ks w)

  pub decided-size : row_orbit (decision gs ks w) ≡ cond (keeps gs ks w) (orbit_size gs w) 0
  unfolding decision
  decided-size = size_by_lem (keeps gs ks w) _ (dropped_by gs ks w)

  decided-word : row_word (decision gs ks w) ≡ cond (keeps gs ks w) (bytes_of (least gs w)) no_word
  unfolding decision
  decided-word = word_by (keeps gs ks w) _ (dropped_by gs ks w)

-- ---- their bounds

size_small : (gs : List Generator) (w : Word) → orbit_size gs w ≤ order_of gs
unfolding orbit_size
size_small gs w = div-le_self (order_of gs) (length (fixing gs w))

pub decided_small : (gs : List Generator) (ks : List ℤ) (w : Word) → row_orbit (decision gs ks w) ≤ order_of gs
decided_small gs ks w = rw (decided-size gs ks w) (go (keeps gs ks w))
  where
    go : (b : Bool) → cond b (orbit_size gs w) 0 ≤ order_of gs
    go true = size_small gs w
    go false = omega arith

-- the same by the numbers of a decision
pub placed_small : (gs : List Generator) (ks : List ℤ) (w : Word) {a : Placement} {s : ℕ} → a ≡ placement_of (decision gs ks w) → s ≡ size_in a → s ≤ order_of gs
placed_small gs ks w e h = rw (h ∙ ap size_in e ∙ placed-orbit (decision gs ks w)) (decided_small gs ks w)

module _ {n : ℕ} {gs : List Generator} (v : Valid n gs) where
  -- an orbit has words
  pub size-positive : (w : Word) → length w ≡ n → 0 < orbit_size gs w
  size-positive w long = go (dec_lt 0 (orbit_size gs w))
    where
      go : Dec (0 < orbit_size gs w) → 0 < orbit_size gs w
      go (yes h) = h
      go (no h) =
          let z : length (orbit gs w) ≡ 0 = omega (arith, orbit_size_is v w long) in
          absurd (omega (
            arith,
            orbit-stabilizer v w long,
            ap (λ (x : ℕ). x * length (fixing gs w)) z,
            order_of_positive gs (valid_positive v),
          ))

  pub decided-below : (ks : List ℤ) (w : Word) → row_index (decision gs ks w) < order_of gs
  decided-below ks w = rw (decided-index gs ks w) (go (keeps gs ks w) refl)
    where
      go : (b : Bool) → keeps gs ks w ≡ b → cond b (index_back gs w) (dropped_by gs ks w) < order_of gs
      go true e = back_below v w
      go false e = (dropped-breaks gs ks w e).0

  -- zeros are the row exactly where the size is 0
  pub decided-row : (ks : List ℤ) (w : Word) → length w ≡ n → cond (eqb (row_orbit (decision gs ks w)) 0) no_word (bytes_of (least gs w)) ≡ row_word (decision gs ks w)
  decided-row ks w long = rw (decided-size gs ks w, decided-word gs ks w) (go (keeps gs ks w))
    where
      go : (b : Bool) → cond (eqb (cond b (orbit_size gs w) 0) 0) no_word (bytes_of (least gs w)) ≡ cond b (bytes_of (least gs w)) no_word
      go true = let h = size-positive w long in rw (ne_eqb (orbit_size gs w) 0 (λ e. omega arith))
      go false = refl

  -- generators that are chosen have no larger order
  pub chosen-small : (t : ℕ → Bool) (labels : List ℕ) → length labels ≡ length gs → order_of (chosen t labels gs) ≤ order_of gs
  chosen-small t labels e =
      let s = chosen_interleaved (all_apart t) labels gs in
      let all : chosen (λ l. true) labels gs ≡ gs = chosen_all (λ l. true) labels gs e (λ l m. refl) in
      let o : order_of gs ≡ order_of (chosen t labels gs) * order_of (chosen (λ l. not (t l)) labels gs) = ap order_of (sym all) ∙ order_joined s in
      let some = order_of_positive (chosen (λ l. not (t l)) labels gs) (valid_positive (chosen_valid v (λ l. not (t l)) labels)) in
      omega (arith, o, le-mul_of_pos_right (order_of (chosen t labels gs)) some)

-- ---- two indices put together

positive : (s : ℕ) → (s ≡ 0 → ⊥) → 0 < s
positive zero h = absurd (h refl)
positive (suc s) h = omega arith

module _ (i o : ℕ) where
  joined-kept : (s t : ℕ) → 0 < s → 0 < t → joined_index i s o t ≡ i + o
  unfolding joined_index
  joined-kept s t a b = rw (ne_eqb s 0 (λ e. omega arith), ne_eqb t 0 (λ e. omega arith))

  joined-first : (t : ℕ) → 0 < t → joined_index i 0 o t ≡ i
  unfolding joined_index
  joined-first t b = rw (ne_eqb t 0 (λ e. omega arith))

  joined-second : (s : ℕ) → 0 < s → joined_index i s o 0 ≡ o
  unfolding joined_index
  joined-second s a = rw (ne_eqb s 0 (λ e. omega arith))

  joined-both : joined_index i 0 o 0 ≡ min i o
  unfolding joined_index
  joined-both = refl

  -- by the tests that the code makes
  module _ (s t : ℕ) where
    pub taken_own : s ≡ 0 → t ≡ 0 → o < i → o ≡ joined_index i s o t
    taken_own a b l = rw (a, b) (sym (joined-both ∙ min-eq_right (le_of_lt l)))

    pub taken-index : s ≡ 0 → (t ≡ 0 → i ≤ o) → i ≡ joined_index i s o t
    taken-index a h = rw a (go (dec_lt 0 t))
      where
        go : Dec (0 < t) → i ≡ joined_index i 0 o t
        go (yes b) = sym (joined-first t b)
        go (no b) = let z : t ≡ 0 = omega arith in rw z (sym (joined-both ∙ min-eq_left (h z)))

    pub taken-part : (s ≡ 0 → ⊥) → t ≡ 0 → o ≡ joined_index i s o t
    taken-part a b = rw b (sym (joined-second s (positive s a)))

    pub taken-sum : (s ≡ 0 → ⊥) → (t ≡ 0 → ⊥) → i + o ≡ joined_index i s o t
    taken-sum a b = sym (joined-kept s t (positive s a) (positive t b))

-- ---- one part more

module _ {n : ℕ} {gs : List Generator} (v : Valid n gs) (labels owners : List ℕ) (d : Divided n gs labels owners) (p : ℕ) (w : Word) (long : length w ≡ n)
    (ks : List ℤ) (modes : length gs ≡ length ks) (few : length labels ≡ length gs) where
  abbrev done : List Generator
  done = chosen (before p) labels gs

  abbrev part : List Generator
  part = chosen (own p) labels gs

  abbrev more : List Generator
  more = chosen (before (suc p)) labels gs

  abbrev done_modes : List ℤ
  done_modes = chosen (before p) labels ks

  abbrev part_modes : List ℤ
  part_modes = chosen (own p) labels ks

  abbrev more_modes : List ℤ
  more_modes = chosen (before (suc p)) labels ks

  done-positive : 0 < orbit_size done w
  done-positive = size-positive (chosen_valid v (before p) labels) w long

  part-positive : 0 < orbit_size part w
  part-positive = size-positive (chosen_valid v (own p) labels) w long

  pub next-joined : spread (before (suc p)) labels gs (row_index (decision more more_modes w))
      ≡ joined_index (spread (before p) labels gs (row_index (decision done done_modes w))) (row_orbit (decision done done_modes w))
      (spread (own p) labels gs (row_index (decision part part_modes w))) (row_orbit (decision part part_modes w))
  next-joined =
      rw (
        decided-index more more_modes w,
        decided-index done done_modes w,
        decided-size done done_modes w,
        decided-index part part_modes w,
        decided-size part part_modes w,
        next-keeps v labels owners d p w long ks modes few,
      )
      (go (keeps done done_modes w) (keeps part part_modes w) refl refl)
    where
      go : (a b : Bool) → keeps done done_modes w ≡ a → keeps part part_modes w ≡ b
          → spread (before (suc p)) labels gs (cond (a && b) (index_back more w) (dropped_by more more_modes w))
          ≡ joined_index (spread (before p) labels gs (cond a (index_back done w) (dropped_by done done_modes w))) (cond a (orbit_size done w) 0)
          (spread (own p) labels gs (cond b (index_back part w) (dropped_by part part_modes w))) (cond b (orbit_size part w) 0)
      go true true x y = next-index v labels owners d p w long ∙ sym (joined-kept _ _ (orbit_size done w) (orbit_size part w) done-positive part-positive)
      go true false x y = next-part-drops v labels owners d p w long ks modes few x y ∙ sym (joined-second _ _ (orbit_size done w) done-positive)
      go false true x y = next-done-drops v labels owners d p w long ks modes few x y ∙ sym (joined-first _ _ (orbit_size part w) part-positive)
      go false false x y = next-both-drop v labels owners d p w long ks modes few x y ∙ sym (joined-both _ _)

  pub next-orbit : row_orbit (decision more more_modes w) ≡ row_orbit (decision done done_modes w) * row_orbit (decision part part_modes w)
  next-orbit =
      rw (decided-size more more_modes w, decided-size done done_modes w, decided-size part part_modes w, next-keeps v labels owners d p w long ks modes few)
      (go (keeps done done_modes w) (keeps part part_modes w))
    where
      go : (a b : Bool) → cond (a && b) (orbit_size more w) 0 ≡ cond a (orbit_size done w) 0 * cond b (orbit_size part w) 0
      go true true = next-size v labels owners d p w long
      go true false = sym (mul-zero (orbit_size done w))
      go false b = sym (zero-mul (cond b (orbit_size part w) 0))
