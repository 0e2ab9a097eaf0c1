-- What is promised of what a sheet prints: each statement is followed by the law that shows it.
--
-- 1 An accepted sheet, 2 A refused sheet, 3 How long it is. `specs/Text` says what a line is, which lines are value lines, and what texts together are.
use Prim.Native.Nat.{ℕ, zero, suc, ◌+◌, ◌/◌, ◌%◌, ◌≤◌}
use mathlib.Core.Path.{◌≡◌, refl, sym, ap, ap₂, ◌∙◌}
use mathlib.Core.Bool.{Bool, true, false, cond, not, ◌&&◌, and-eq-true_iff}
use mathlib.Core.List.{List, [], ◌∷◌, ◌++◌, map, append_assoc}
use native.Mathlib.Omega.{arith}
use lib.Dec.{eqb, ltb}
use lib.IntN.{ℤ}
use lib.ListN.{length, get_or, drop}
use borrow.Author.Tests.{ne_eqb}
use Rattle.outcome.specs.Outcome.{refused, answer}
use Rattle.pauli_word.specs.Word.{I, X, Y, Z, Word, weight}
use Rattle.pauli_word.specs.Text.{read_text, spell}
use Rattle.action.specs.Lists.{every}
use Rattle.action.specs.Permutation.{Generator}
use Rattle.outcome.proofs.Outcomes.{unless_answer}
use Rattle.action.proofs.Lists.{every_append}
use Rattle.text.specs.Text.{line_end, space, pieces, digits_of, decimal, zero_digit, wide_digits}
use Rattle.sheet_rows.specs.Rows.{refused_name, one_text, missing, joined, row, line_row, row_fields}
use Rattle.sheet_lines.specs.Lines.{zero_text, modes_of, line_shape, field, line_checks}
use Rattle.sheet_text.specs.Sheet.{table_names, sheet_size, max_table, rows, line_generators, table, sheet_outcome, printed, sheet}
use Rattle.sheet_text.proofs.Fits as Fits
use Rattle.sheet_text.specs.Text.{no_end, OneLine, front, value_lines, together}
use Rattle.decisions.specs.Decisions.{decision, Decision, kept, dropped, Row}

-- ---- lines

append-whole : (xs ys : List ℕ) → no_end xs ≡ true → no_end ys ≡ true → no_end (xs ++ ys) ≡ true
append-whole xs ys a b = every_append (λ b. not (eqb b line_end)) xs ys ∙ ap₂ ◌&&◌ a b

spell-whole : (w : Word) → no_end (spell w) ≡ true
unfolding every
spell-whole [] = refl
spell-whole (I ∷ w) = spell-whole w
spell-whole (X ∷ w) = spell-whole w
spell-whole (Y ∷ w) = spell-whole w
spell-whole (Z ∷ w) = spell-whole w

digits-whole : (f n : ℕ) → no_end (digits_of f n) ≡ true
unfolding digits_of every
digits-whole zero n = refl
digits-whole (suc f) n = go (ltb n 10) (digits-whole f (n / 10))
  where
    digit : (k : ℕ) → no_end ((zero_digit + k) ∷ []) ≡ true
    digit k = rw (ne_eqb (zero_digit + k) line_end (λ e. omega arith))

    go : (b : Bool) → no_end (digits_of f (n / 10)) ≡ true → no_end (cond b ((zero_digit + n) ∷ []) (digits_of f (n / 10) ++ ((zero_digit + n % 10) ∷ []))) ≡ true
    go true h = digit n
    go false h = append-whole (digits_of f (n / 10)) ((zero_digit + n % 10) ∷ []) h (digit (n % 10))

decimal-whole : (n : ℕ) → no_end (decimal n) ≡ true
unfolding decimal
decimal-whole n = digits-whole wide_digits n

joined_one : (f : List ℕ) (fs : List (List ℕ)) → every no_end (f ∷ fs) ≡ true → OneLine (joined (f ∷ fs))
unfolding joined every
joined_one f [] h = record { line = f; ended = refl; whole = ((and-eq-true_iff (no_end f) true).0 h).0 }
joined_one f (g ∷ fs) h =
    let both = (and-eq-true_iff (no_end f) (every no_end (g ∷ fs))).0 h in
    let more = joined_one g fs both.1 in
    record {
      line = f ++ (space ∷ more.line);
      ended = ap (λ (t : List ℕ). f ++ (space ∷ t)) more.ended ∙ sym (append_assoc f (space ∷ more.line) (line_end ∷ []));
      whole = append-whole f (space ∷ more.line) both.0 more.whole;
    }

rows-together : (m : ℕ) (gs : List Generator) (ps : List (List ℕ)) → rows m gs ps ≡ together (map (line_row m gs) (front ps))
unfolding rows
rows-together m gs [] = refl
rows-together m gs (p ∷ []) = refl
rows-together m gs (p ∷ q ∷ ps) = ap (λ (t : List ℕ). line_row m gs p ++ t) (rows-together m gs (q ∷ ps))

-- ---- 1 An accepted sheet prints the names line, and then a line for each value line, in order

pub row_line : (gs : List Generator) (w : Word) (ks : List ℤ) → OneLine (row gs w ks)
unfolding row every
row_line gs w ks = go (decision gs ks w)
  where
    go : (d : Decision Row) → OneLine (joined (row_fields w d))
    go (kept r) =
        joined_one (spell w) (spell r.word ∷ decimal r.index ∷ decimal r.size ∷ decimal (weight w) ∷ one_text ∷ [])
        (rw (spell-whole w, spell-whole r.word, decimal-whole r.index, decimal-whole r.size, decimal-whole (weight w)))
    go (dropped i) =
        joined_one (spell w) (missing ∷ decimal i ∷ missing ∷ decimal (weight w) ∷ zero_text ∷ [])
        (rw (spell-whole w, decimal-whole i, decimal-whole (weight w)))

module _ (input : List ℕ) where
  -- the line of the shape
  abbrev shape : List ℕ
  shape = get_or (pieces line_end input) 1 []

  pub accepted-prints : (text : List ℕ) → sheet_outcome input ≡ answer text
      → text ≡ together ((table_names ++ (line_end ∷ [])) ∷ map (line_row (modes_of (line_shape shape)) (line_generators shape)) (value_lines input))
  unfolding sheet_outcome table
  accepted-prints text e =
      sym (unless_answer (sheet_size input ∷ line_checks (pieces line_end input)) (table (pieces line_end input)) text e).1
      ∙ ap (λ (t : List ℕ). table_names ++ (line_end ∷ t)) (rows-together (modes_of (line_shape shape)) (line_generators shape) (drop 3 (pieces line_end input)))

  pub accepted-line : (line : List ℕ) → OneLine (line_row (modes_of (line_shape shape)) (line_generators shape) line)
  unfolding line_row
  accepted-line line = row_line (line_generators shape) (read_text (field 0 line)) _

  -- ---- 2 A refused sheet prints exactly one line

  pub refused-line : (k : ℕ) (vs : List ℕ) → sheet_outcome input ≡ refused k vs → OneLine (sheet input)
  unfolding sheet every
  refused-line k vs e = rw e (go vs)
    where
      go : (vs : List ℕ) → OneLine (printed (refused k vs))
      go [] = joined_one refused_name (decimal k ∷ []) (rw (decimal-whole k))
      go (l ∷ vs) = joined_one refused_name (decimal k ∷ decimal l ∷ []) (rw (decimal-whole k, decimal-whole l))

  -- ---- 3 How long it is: a list of `maxTable` bytes suffices

  pub sheet_fits : length (sheet input) ≤ max_table
  sheet_fits = Fits.sheet_fits input
