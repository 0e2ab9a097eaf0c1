-- What is promised of tables of one generator that rotates sites by one inside blocks of b, in a reader's words: each statement is followed by the law
-- that shows it. Of all turns that give the least word, the index back is 0 if 0 is one of them, and else the largest.
use Prim.Native.Nat.{ℕ, ◌+◌, ◌-◌, ◌*◌, ◌%◌, ◌≤◌, ◌<◌}
use mathlib.Core.Path.{◌≡◌, sym, ap, ◌∙◌}
use mathlib.Core.Logic.{◌↔◌}
use mathlib.Core.Bool.{cond}
use mathlib.Core.List.{List, [], ◌∷◌}
use native.Mathlib.Nat.{zero-mod}
use lib.Dec.{eqb}
use lib.ListN.{length, get_or}
use Rattle.pauli_word.specs.Word.{I, Word}
use Rattle.action.specs.Lists.{Member}
use Rattle.action.specs.Orbit.{least, index_back, fixing}
use Rattle.action.proofs.Stabilizer.{fixing_all}
use Rattle.action.specs.Permutation.{Generator}
use Rattle.permutation.specs.Generators.{row_at}
use Rattle.elements.specs.HeldGroup.{generators_in, Tables}
use Rattle.elements.proofs.TableRows.{generator_at}
use Rattle.rotation.specs.Rotation.{Rotates}
use Rattle.rotation.proofs.Rotations.{move-rotation-zero}
use Rattle.rotation.proofs.Shaping.{rotated-at}
use Rattle.cyclic.specs.Cyclic.{turned, LeastTurn, Turns}
use Rattle.cyclic.proofs.Turned.{TurnsBlocks, turned-at, move-turned, least_turn_least, least_least_turn, back_inside, back-turn, back-zero, back-largest, turns-order, turns-least, turns-back, fixed-steps}
use Rattle.cyclic.proofs.Cycles.{one-generator, tables-turn}

-- ---- turn i of a word has at site j of each block what the word has at site j + i of that block, taken round

pub turn_at : (b i : ℕ) (w : Word) (k j : ℕ) → j < b → k * b + j < length w → get_or (turned b i w) (k * b + j) I ≡ get_or w (k * b + (j + i) % b) I
turn_at b i w k j h l = turned-at b i w (k * b + j) l ∙ ap (λ (q : ℕ). get_or w q I) (rotated-at i b k j h)

module _ {n b : ℕ} {targets orders : List ℕ} (t : Tables 1 n targets orders) (r : Rotates n 1 b (row_at n targets 0)) (o : get_or orders 0 0 ≡ b)
    (w : Word) (e : length w ≡ n) where
  -- the least word that the group makes of w
  abbrev pub least_word : Word
  least_word = least (generators_in 1 n targets orders) w

  -- the index that leads back from it to w
  abbrev pub back : ℕ
  back = index_back (generators_in 1 n targets orders) w

  -- ---- turn 0 of a word is the word

  pub unturned : turned b 0 w ≡ w
  unturned =
      let x = tables-turn t r o in
      sym (move-turned n b x.some x.blocks w e 0 0 (zero-mod b)) ∙ move-rotation-zero n b x.some x.blocks w e

  -- ---- a turn gives the least word exactly if no turn gives one that is less

  pub least-turn : (i : ℕ) → i < b → LeastTurn b w i → turned b i w ≡ least_word
  least-turn i h k = rw (one-generator t r o) (sym (least_turn_least (tables-turn t r o) w e i h k))

  pub turn-least : (i : ℕ) → turned b i w ≡ least_word → LeastTurn b w i
  turn-least i k = least_least_turn (tables-turn t r o) w e i (rw (one-generator t r o) at k)

  -- ---- the index back is a turn below b that gives the least word

  pub back_below : back < b
  back_below = rw (one-generator t r o) (back_inside (tables-turn t r o) w e)

  pub back-gives : turned b back w ≡ least_word
  back-gives = least-turn back back_below (rw (one-generator t r o) (back-turn (tables-turn t r o) w e))

  -- ---- it is 0 if the word itself is the least

  pub back_none : w ≡ least_word → back ≡ 0
  back_none k = rw (one-generator t r o) (back-zero (tables-turn t r o) w e (turn-least 0 (unturned ∙ k)))

  -- ---- otherwise no turn that gives the least word is larger

  pub back-most : (w ≡ least_word → ⊥) → (i : ℕ) → i < b → turned b i w ≡ least_word → i ≤ back
  back-most other i h k =
      rw (one-generator t r o)
      (back-largest (tables-turn t r o) w e (λ z. other (sym unturned ∙ least-turn 0 (tables-turn t r o).some z)) i h (turn-least i k))

  -- ---- where start and every step after it are the turns that give the least word

  module _ {start step : ℕ} (m : Turns b w start step) where
    -- ---- the least word is turn start, and the index back is 0 where start is, and else the last of the turns below b

    pub start_gives : turned b start w ≡ least_word
    start_gives = rw (one-generator t r o) (sym (turns-least (tables-turn t r o) w e m))

    pub back_last : back ≡ cond (eqb start 0) 0 (b - step + start)
    back_last = rw (one-generator t r o) (turns-back (tables-turn t r o) w e m)

    -- ---- the indices that fix the word are the multiples of step

    pub fixing-multiples : (i : ℕ) → Member i (fixing (generators_in 1 n targets orders) w) ↔ ((i < b) × (i % step ≡ 0))
    fixing-multiples i = rw (one-generator t r o) (there, back-again)
      where
        x : TurnsBlocks n b (generator_at n targets orders 0)
        x = tables-turn t r o

        one : List Generator
        one = generator_at n targets orders 0 ∷ []

        there : Member i (fixing one w) → (i < b) × (i % step ≡ 0)
        there k =
            let (h, e') = (fixing_all one w i).0 k in
            let inside = rw (turns-order x) at h in
            (inside, (fixed-steps x w e m i inside).0 e')

        back-again : (i < b) × (i % step ≡ 0) → Member i (fixing one w)
        back-again (h, z) = (fixing_all one w i).1 (rw (turns-order x) h, (fixed-steps x w e m i h).1 z)
