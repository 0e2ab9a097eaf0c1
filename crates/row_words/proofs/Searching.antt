-- The search by halves among the rows at positions: what its loop knows, by the words of the rows (`Between` of keyed).
use Rattle.std.specs.declared.cmp.Ordering.TheVariants.{Less, Equal, Greater}
use Prim.Native.Nat.{ℕ, ◌+◌, ◌≤◌, ◌<◌}
use mathlib.Core.Path.{◌≡◌, sym, ap, subst, ◌∙◌}
use mathlib.Core.List.{List, [], map}
use native.Mathlib.Omega.{arith}
use lib.ListN.{length, get_or, take, length-map}
use lib.Seq.{length-take-le, get_or-take}
use Rattle.pauli_word.specs.Bytes.{plane_bits}
use Rattle.pauli_word.specs.Calls.{order_of_bits}
use Rattle.keyed.specs.Keyed.{slot_of, found, free}
use Rattle.keyed.proofs.Rising.{Between, between_start, between-up, between-down, between-found, between-free}
use Rattle.keyed.proofs.Tables.{get_d_map}
use Rattle.row_lists.specs.Rows.{row_at}
use Rattle.row_lists.proofs.Rows.{RowBytes, row-bytes}
use Rattle.row_words.specs.Words.{less_bytes}
use Rattle.row_words.specs.Held.{Places}
use Rattle.row_words.proofs.RowKeys.{byte_orders, order_less, order-greater, order_same}

-- the words of the rows at the first `used` positions
abbrev pub words_at : List ℕ → List ℕ → ℕ → List (List ℕ)
words_at words positions used = map (row_at words) (take used positions)

-- what the loop knows
abbrev pub Searching : List ℕ → List ℕ → ℕ → ℕ → ℕ → ℕ → Type 0
Searching words positions used row low high = Between less_bytes [] (row_at words row) (words_at words positions used) low high

module _ {words positions : List ℕ} {used row : ℕ} (p : Places words positions used row) where
  words-length : length (words_at words positions used) ≡ used
  words-length = length-map (take used positions) (row_at words) ∙ length-take-le used positions p.enough

  word_at : (k : ℕ) → k < used → get_or (words_at words positions used) k [] ≡ row_at words (get_or positions k 0)
  word_at k h =
      get_d_map (row_at words) (take used positions) k [] 0 (omega (arith, length-take-le used positions p.enough))
      ∙ ap (row_at words) (get_or-take used positions k 0 h)

  pub search-start : Searching words positions used row 0 used
  search-start =
      subst (Searching words positions used row 0) words-length (between_start byte_orders [] (row_at words row) (words_at words positions used))

  -- the row at place m, compared with the row that is looked for
  module _ {low high m : ℕ} (b : Searching words positions used row low high) (l : low ≤ m) (h : m < high) where
    pub below-used : m < used
    below-used = omega (arith, h, b.inside, words-length)

    pub search-up : order_of_bits (plane_bits (row_at words (get_or positions m 0))) (plane_bits (row_at words row)) ≡ Less → Searching words positions used row (m + 1) high
    search-up e = between-up byte_orders b p.rising l h (ap (λ (w : List ℕ). less_bytes w (row_at words row)) (word_at m below-used) ∙ order_less _ _ e)

    pub search-down : order_of_bits (plane_bits (row_at words (get_or positions m 0))) (plane_bits (row_at words row)) ≡ Greater → Searching words positions used row low m
    search-down e = between-down byte_orders b p.rising l h (ap (less_bytes (row_at words row)) (word_at m below-used) ∙ order-greater _ _ e)

    pub search-found : order_of_bits (plane_bits (row_at words (get_or positions m 0))) (plane_bits (row_at words row)) ≡ Equal
        → slot_of less_bytes (row_at words row) (words_at words positions used) ≡ found m
    search-found e =
        let at = word_at m below-used in
        let (not-less, not-greater) = order_same _ _ e in
        between-found byte_orders b p.rising l h
        (ap (λ (w : List ℕ). less_bytes w (row_at words row)) at ∙ not-less) (ap (less_bytes (row_at words row)) at ∙ not-greater)
        (row-bytes words row p.small p.inside)
        (subst RowBytes (sym at) (row-bytes words (get_or positions m 0) p.small (p.all m below-used)))

  pub search-free : {low high : ℕ} → Searching words positions used row low high → high ≤ low → slot_of less_bytes (row_at words row) (words_at words positions used) ≡ free low
  search-free b h = between-free byte_orders b h
