-- A list of words while its rows are put into their places, and once all are there.
use Prim.Native.Nat.{ℕ, suc, ◌+◌, ◌-◌, ◌*◌, ◌/◌, ◌≤◌, ◌<◌}
use mathlib.Core.Path.{◌≡◌, refl, sym, ap, ap₂, ◌∙◌}
use mathlib.Core.List.{List, [], ◌∷◌, ◌++◌, map}
use native.Mathlib.Omega.{arith}
use lib.ListN.{length, get_or, take, drop, replicate}
use lib.Seq.{take-add}
use Rattle.pauli_word.specs.Limits.{word_length}
use Rattle.row_lists.specs.Rows.{row_at, rows_swapped, join_rows, arranged_words}
use Rattle.row_lists.specs.Arranging.{Positions, Owned, Placed, told_positions, told_owners}
use Rattle.row_lists.proofs.Rows.{rows_swapped-length, rows_swapped-exchanged, row-behind}
use Rattle.row_lists.proofs.Arranging.{Waiting, waiting_start, waiting-next, Brought, brought_start, brought-next, brought_end}

-- ---- on the way

-- the rows asked for are in the places before k, and the places from k on wait for theirs
pub record Placing (asked words₀ : List ℕ) (used : ℕ) (positions owners words : List ℕ) (k : ℕ) : Type 0 where
  pub waiting : Waiting positions owners k used (length words₀ / word_length)
  pub long : length words ≡ length words₀
  pub word : Brought (row_at words₀) (row_at words) asked positions k used

module _ {asked words₀ : List ℕ} {used : ℕ} where
  pub placing-start : {owners : List ℕ} → Positions asked used (length words₀ / word_length) → Owned asked owners 0 used → Placing asked words₀ used asked owners words₀ 0
  placing-start ok o = record { waiting = waiting_start ok o; long = refl; word = brought_start (row_at words₀) asked used }

  module _ {positions owners words : List ℕ} {k : ℕ} (h : k < used) (p : Placing asked words₀ used positions owners words k) where
    pub here-inside : word_length * k + word_length ≤ length words
    here-inside = omega (arith, p.long, p.waiting.enough)

    pub from-inside : word_length * get_or positions k 0 + word_length ≤ length words
    from-inside = omega (arith, p.long, p.waiting.inside k (omega arith) h)

    pub placing-next :
        {positions' owners' words' : List ℕ}
        → let from = get_or positions k 0 in
        (positions' ≡ told_positions positions owners k from) × ((owners' ≡ told_owners positions owners k from) × (words' ≡ rows_swapped words k from))
        → Placing asked words₀ used positions' owners' words' (k + 1)
    placing-next e =
        let from : ℕ = get_or positions k 0 in
        rw (e.0, e.1.0, e.1.1)
        record {
          waiting = waiting-next p.waiting h;
          long = rows_swapped-length words k from here-inside from-inside ∙ p.long;
          word = brought-next p.waiting h (rows_swapped-exchanged words k from here-inside from-inside) p.word;
        }

  pub placing-end :
      {positions owners words : List ℕ} {k : ℕ} → used ≤ k → used ≤ length asked → Placing asked words₀ used positions owners words k
      → Placed (take used asked) words₀ words
  placing-end h l p = record { long = p.long; word = brought_end h l p.word }

-- ---- once all are there

first_row : (words : List ℕ) → row_at words 0 ≡ take word_length words
unfolding row_at
first_row words = refl

-- the bytes of the first rows are those rows joined
rows-joined : (row : ℕ → List ℕ) (ps words : List ℕ) → ((j : ℕ) → j < length ps → row_at words j ≡ row (get_or ps j 0))
    → take (word_length * length ps) words ≡ join_rows (map row ps)
unfolding join_rows
rows-joined row [] words same = refl
rows-joined row (p ∷ ps) words same =
    let e : word_length * suc (length ps) ≡ word_length + word_length * length ps = omega arith in
    ap (λ (n : ℕ). take n words) e
    ∙ take-add word_length (word_length * length ps) words
    ∙ ap₂ (λ (a b : List ℕ). a ++ b) (sym (first_row words) ∙ same 0 (omega arith))
    (rows-joined row ps (drop word_length words) (λ j h. row-behind words j ∙ same (suc j) (omega arith)))

-- a list with its rows in place, and zeros after those, is the list arranged
pub words_arranged : (ps : List ℕ) (used : ℕ) → length ps ≡ used → {words words' : List ℕ} → Placed ps words words'
    → take (word_length * used) words' ++ replicate (length words' - word_length * used) 0 ≡ arranged_words words ps
unfolding arranged_words
words_arranged ps used few {words} {words'} p = rw (← few, p.long, rows-joined (row_at words) ps words' p.word)
