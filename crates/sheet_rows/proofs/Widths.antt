-- How long rows are: a row of n letters has at most two words and the room of three numbers, and so at most `spread` times the bytes of its line.
-- What carries it: an index, an orbit size and a weight have at most `maxDigits` digits (`written-short`).
use Prim.Native.Nat.{ℕ, ◌+◌, ◌*◌, ◌≤◌, ◌<◌}
use mathlib.Core.Path.{◌≡◌, refl, ◌∙◌}
use mathlib.Core.Bool.{Bool, true, false, cond}
use mathlib.Core.List.{List, [], ◌∷◌, map}
use native.Mathlib.Nat.{div-le_self}
use native.Mathlib.Omega.{arith}
use lib.IntN.{ℤ}
use lib.ListN.{length, take, drop, length-append, length-map}
use Rattle.pauli_word.specs.Word.{Word, weight}
use Rattle.outcome.specs.Outcome.{answer, verdict}
use Rattle.pauli_word.specs.Text.{glyph, letter, read_text, spell}
use Rattle.action.specs.Permutation.{Generator, Valid}
use Rattle.action.specs.Index.{order_of}
use Rattle.action.specs.Orbit.{least, index_back, fixing, orbit_size}
use Rattle.action.specs.Sector.{keeps, dropped_by}
use Rattle.action.proofs.Dropped.{dropped-breaks}
use Rattle.action.proofs.Canonical.{least-length, back_below}
use Rattle.permutation.specs.Limits.{max_order}
use Rattle.text.specs.Text.{decimal, signed_of, max_written}
use Rattle.text.proofs.Pieces.{four_parts}
use Rattle.sheet_lines.specs.Lines.{zero_text, fields, field, value_checks}
use Rattle.sheet_rows.specs.Rows.{one_text, missing, joined, row, line_row, row_fields, numbers_room, spread}
use Rattle.pauli_word.proofs.Sites.{weight_small}
use Rattle.sheet_rows.proofs.Rows.{checked}
use Rattle.text.proofs.Decimals.{written_short}
use Rattle.decisions.specs.Decisions.{Row, decision, kept, dropped}
use Rattle.pauli_word.specs.Limits.{max_sites}

-- six fields in a line
six : (a b c d e f : List ℕ) → length (joined (a ∷ b ∷ c ∷ d ∷ e ∷ f ∷ [])) ≡ length a + length b + length c + length d + length e + length f + 6
unfolding joined
six a b c d e f = simp length-append (omega arith)

module _ {n : ℕ} {gs : List Generator} (valid : Valid n gs) (small : order_of gs ≤ max_order) (w : Word) (long : length w ≡ n) (few : n ≤ max_sites) where
  index-small : index_back gs w < max_written
  index-small = omega (arith, back_below valid w)

  size_small : orbit_size gs w < max_written
  unfolding orbit_size
  size_small = omega (arith, div-le_self (order_of gs) (length (fixing gs w)))

  weight-few : weight w < max_written
  weight-few = omega (arith, weight_small w)

  pub row-short : (ks : List ℤ) → length (row gs w ks) ≤ 2 * n + 1 + numbers_room
  unfolding row decision
  row-short ks = go (keeps gs ks w) refl
    where
      spelled : (v : Word) → length (spell v) ≡ length v
      spelled v = length-map v glyph

      found : Row
      found = record { word = least gs w; index = index_back gs w; size = orbit_size gs w }

      go : (b : Bool) → keeps gs ks w ≡ b → length (joined (row_fields w (cond b (kept found) (dropped (dropped_by gs ks w))))) ≤ 2 * n + 1 + numbers_room
      go true k =
          rw (six (spell w) (spell (least gs w)) (decimal (index_back gs w)) (decimal (orbit_size gs w)) (decimal (weight w)) one_text)
          (omega (
            arith,
            spelled w,
            spelled (least gs w),
            least-length valid w,
            written_short (index_back gs w) index-small,
            written_short (orbit_size gs w) size_small,
            written_short (weight w) weight-few,
          ))
      go false k =
          rw (six (spell w) missing (decimal (dropped_by gs ks w)) missing (decimal (weight w)) zero_text)
          (omega (
            arith,
            spelled w,
            written_short (dropped_by gs ks w) (omega (arith, (dropped-breaks gs ks w k).0)),
            written_short (weight w) weight-few,
          ))

-- a value line that breaks no rule, in a group of order within the limit
module _ {n : ℕ} {gs : List Generator} (valid : Valid n gs) (small : order_of gs ≤ max_order) (few : n ≤ max_sites) (used : ℕ) (line : List ℕ)
    (fine : verdict (value_checks used n line 0) ≡ answer tt) where
  pub line_row_short : length (line_row used gs line) ≤ spread * (length line + 1)
  unfolding line_row
  line_row_short =
      let (four, modes, letters, long) = checked used n line fine in
      let p = four_parts line four in
      let w : Word = read_text (field 0 line) in
      let same : length w ≡ n = length-map (field 0 line) letter ∙ long in
      let short = row-short valid small w same few (map signed_of (take used (drop 1 (fields line)))) in
      omega (arith, short, long, p.second, p.third, p.fourth)
