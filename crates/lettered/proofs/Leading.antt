-- The walk on codes, entry by entry: the codes at hand are those of the entry of index i, and what it does to the least word so far, to its index
-- and to how many indices reach it goes by how it stands to it.
use Rattle.std.specs.declared.cmp.Ordering.{Ordering}
use Prim.Native.Nat.{ℕ, ◌+◌, ◌≤◌, ◌<◌}
use mathlib.Core.Path.{◌≡◌, refl, sym, ap, ◌∙◌}
use mathlib.Core.List.{List}
use native.Mathlib.Numerals.{add-one}
use native.Mathlib.Omega.{arith}
use lib.ListN.{length}
use Rattle.pauli_word.specs.Word.{Word}
use Rattle.pauli_word.specs.Calls.{order_of_words}
use Rattle.action.specs.Lists.{from, below}
use Rattle.action.specs.Permutation.{Generator, Valid}
use Rattle.action.specs.Index.{order_of, digits}
use Rattle.action.specs.Orbit.{reach, stepped, least_of, least, first_at, forward, fixing}
use Rattle.action.proofs.Reach.{reach-length, reach-zero, reach_step}
use Rattle.elements.specs.Letters.{codes}
use Rattle.elements.proofs.Codes.{codes-length}
use Rattle.elements.proofs.Orbits.{entries}
use Rattle.elements.proofs.LeastSoFar.{least_so_far, lead-length, lead-end, place-start, place_end}
use Rattle.rotation.specs.Rotation.{led, tied}
use Rattle.rotation.proofs.Ties.{ties, ties-start, ties-small, ties_end}
use Rattle.rotation.proofs.Walks.{lead-word, lead-index, lead-ties}

-- before the first step the codes at hand are the word's, which index 0 keeps
pub walk_start : (gs : List Generator) (w : Word) → codes w ≡ codes (reach gs 0 w)
walk_start gs w = ap codes (sym (reach-zero gs w))

-- and so are the best
pub best_start : (gs : List Generator) (w : Word) → codes w ≡ codes (least_so_far gs w 0)
unfolding below from least_of
best_start gs w = refl

-- a step goes from the entry of an index to the next
pub walk_next : {n : ℕ} {gs : List Generator} → Valid n gs → (w : Word) → length w ≡ n → (i : ℕ) {next : List ℕ}
    → next ≡ codes (stepped gs (digits gs i) (reach gs i w)) → next ≡ codes (reach gs (i + 1) w)
walk_next {gs = gs} v w long i e =
    e ∙ ap codes (sym (reach_step v i w long) ∙ ap (λ (j : ℕ). reach gs j w) (sym (add-one i)))

-- ---- what holds after the first i entries

-- the codes at hand are those of entry i, and the best, with their index and their ties, those of the least word so far; there is room to spare
pub record Walked (gs : List Generator) (w : Word) (order sites : ℕ) (here best spare : List ℕ) (index count i : ℕ) : Type 0 where
  pub inside : i ≤ order
  pub room : length spare ≡ sites
  pub hand : here ≡ codes (reach gs i w)
  pub lead : best ≡ codes (least_so_far gs w i)
  pub first : index ≡ first_at (least_so_far gs w i) (entries gs w i)
  pub many : count ≡ ties gs w i

-- before the first entry
pub walked_start : (gs : List Generator) (w : Word) (order sites : ℕ) (here best spare : List ℕ) → length spare ≡ sites → here ≡ codes w → best ≡ here
    → Walked gs w order sites here best spare 0 0 0
walked_start gs w order sites here best spare room eh eb =
    record {
      inside = omega arith;
      room = room;
      hand = eh ∙ walk_start gs w;
      lead = eb ∙ eh ∙ best_start gs w;
      first = place-start gs w;
      many = ties-start gs w;
    }

module _ {gs : List Generator} {w : Word} {order sites : ℕ} {here best spare : List ℕ} {index count i : ℕ}
    (walked : Walked gs w order sites here best spare index count i) where
  -- as many codes at hand as there are sites
  pub hand-long : length here ≡ length w
  hand-long = ap length walked.hand ∙ codes-length (reach gs i w) ∙ reach-length gs i w

  -- and as many of the best
  pub lead-long : length best ≡ length w
  lead-long = ap length walked.lead ∙ codes-length (least_so_far gs w i) ∙ lead-length gs w i

  -- no more ties than the group has indices
  pub many-small : count ≤ order
  many-small = omega (arith, walked.inside, walked.many, ties-small gs w i)

  -- one entry more
  pub walked_next : {n : ℕ} → Valid n gs → length w ≡ n → i < order → {here' best' spare' : List ℕ} {index' count' : ℕ}
      → length spare' ≡ length spare
      → ((v : Word) → here ≡ codes v → here' ≡ codes (stepped gs (digits gs i) v))
      → ((v u : Word) → here ≡ codes v → best ≡ codes u → best' ≡ codes (led (order_of_words v u) v u))
      → ((v u : Word) → here ≡ codes v → best ≡ codes u → index' ≡ led (order_of_words v u) i index)
      → ((v u : Word) → here ≡ codes v → best ≡ codes u → count' ≡ tied (order_of_words v u) count)
      → Walked gs w order sites here' best' spare' index' count' (i + 1)
  walked_next v long h room step taken place more =
      let a : Word = reach gs i w in
      let b : Word = least_so_far gs w i in
      let o : Ordering = order_of_words a b in
      record {
        inside = omega arith;
        room = room ∙ walked.room;
        hand = walk_next v w long i (step a walked.hand);
        lead = taken a b walked.hand walked.lead ∙ ap codes (lead-word gs w i o refl);
        first = place a b walked.hand walked.lead ∙ ap (led o i) walked.first ∙ lead-index gs w i o refl;
        many = more a b walked.hand walked.lead ∙ ap (tied o) walked.many ∙ lead-ties gs w i o refl;
      }

  -- after the last entry the best are the codes of the least word, with the smallest index that reaches it, and as many ties as indices that fix the word
  pub walked_end : {n : ℕ} → Valid n gs → length w ≡ n → order ≡ order_of gs → order ≤ i
      → (best ≡ codes (least gs w)) × (index ≡ forward gs w) × (count ≡ length (fixing gs w))
  walked_end v long e h =
      let all : i ≡ order_of gs = omega (arith, walked.inside) in
      (walked.lead ∙ ap codes (lead-end gs w i all), walked.first ∙ place_end gs w i all, walked.many ∙ ties_end v w long i all)
