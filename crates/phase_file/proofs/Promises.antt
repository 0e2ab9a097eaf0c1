-- What is promised of reading a file, by the outcome of the call, for any bytes: each statement is followed by the law that shows it.
--
-- 1 An accepted file, 2 The tables that files give, 3 Refusals, 4 The table that stands afterwards.
use Prim.Native.Nat.{ℕ, ◌≤◌, ◌<◌}
use mathlib.Core.Path.{◌≡◌, refl, sym, ap, subst, ◌∙◌}
use mathlib.Core.Logic.{◌⊎◌, inl, inr, ◌↔◌}
use mathlib.Core.Bool.{true, false}
use mathlib.Core.List.{List, [], ◌∷◌}
use native.Mathlib.Omega.{arith}
use lib.ListN.{length, drop}
use borrow.Author.Tests.{not-false}
use Rattle.outcome.specs.declared.Refusal.TheVariants as Refusal
use Rattle.outcome.specs.Outcome.{Outcome, refused, answer, refusal_of, verdict}
use Rattle.outcome.proofs.Outcomes.{verdict-fine, unless_answer}
use Rattle.text.specs.Text.{line_end, pieces}
use Rattle.phases.specs.declared.PhaseTable.{PhaseTable}
use Rattle.phases.specs.Table.{phase_table}
use Rattle.phases.specs.Rules.{turn, PhaseRange, PhaseRules, passes}
use Rattle.phases.specs.Checks.{broken_table}
use Rattle.phases.proofs.Tests.{passes_range, passes_rules}
use Rattle.phases.proofs.Constant.{constant_lengths, constant_passes}
use Rattle.phase_file.specs.File.{max_file, is_file, table_in, too_long, other_form, file_checks, file_outcome, table_after, max_print, printed}
use Rattle.phase_file.proofs.Tables.{column-length}
use Rattle.phase_file.proofs.FileCalls.{file-long, file-formless, file-answers, file-breaks}
use Rattle.phase_file.proofs.Printing.{print-form, print-table, print-short, read-printed}

-- ---- 1 An accepted file

module _ (file : List ℕ) (t : PhaseTable) (e : file_outcome file ≡ answer t) where
  checked : (verdict (file_checks file) ≡ answer tt) × (table_in (pieces line_end file) ≡ t)
  unfolding file_outcome
  checked = unless_answer (file_checks file) (table_in (pieces line_end file)) t e

  short : ((too_long file).broken ≡ false) × (verdict (other_form file ∷ broken_table (table_in (pieces line_end file)) ∷ []) ≡ answer tt)
  short = verdict-fine (too_long file) (other_form file ∷ broken_table (table_in (pieces line_end file)) ∷ []) checked.0

  formed : ((other_form file).broken ≡ false) × (verdict (broken_table (table_in (pieces line_end file)) ∷ []) ≡ answer tt)
  formed = verdict-fine (other_form file) (broken_table (table_in (pieces line_end file)) ∷ []) short.1

  -- its table passes the tests
  pub accepted-passes : passes t ≡ true
  accepted-passes = ap passes (sym checked.1) ∙ not-false _ (verdict-fine (broken_table (table_in (pieces line_end file))) [] formed.1).0

  -- so every number is in its range, and the rules are kept
  pub accepted-range : PhaseRange t
  accepted-range = passes_range t accepted-passes

  pub accepted-rules : PhaseRules t
  accepted-rules = passes_rules t accepted-passes

  -- there is an entry for each step of a turn
  pub accepted-lengths : (length t.cosines ≡ turn) × (length t.sines ≡ turn)
  accepted-lengths =
      subst (λ (u : PhaseTable). (length u.cosines ≡ turn) × (length u.sines ≡ turn)) checked.1
      (column-length 0 (drop 1 (pieces line_end file)), column-length 1 (drop 1 (pieces line_end file)))

  -- and the file is the print of its table: no other file gives it
  pub accepted-print : file ≡ printed t
  accepted-print = read-printed file t (not-false _ formed.0) checked.1 accepted-range

-- ---- 2 The tables that files give: those that pass, each by its own print, which is short enough

pub print_limit : max_print ≡ 17288
print_limit = refl

module _ (t : PhaseTable) where
  pub print-within : passes t ≡ true → length (printed t) ≤ max_print
  print-within fine = print-short t (passes_range t fine)

  module _ (long : length t.cosines ≡ turn) (also : length t.sines ≡ turn) where
    pub print-accepted : passes t ≡ true → file_outcome (printed t) ≡ answer t
    print-accepted fine =
        let range = passes_range t fine in
        let same = print-table t range long also in
        file-answers (printed t) (omega (arith, print-within fine)) (sym (print-form t range)) (ap passes same ∙ fine) ∙ ap answer same

    pub passes-exactly : (passes t ≡ true) ↔ ((file : List ℕ) × (file_outcome file ≡ answer t))
    passes-exactly = (λ fine. (printed t, print-accepted fine), λ (file, e). accepted-passes file t e)

-- the constant table printed as a file and read back is itself
pub constant_print : file_outcome (printed phase_table) ≡ answer phase_table
constant_print = print-accepted phase_table constant_lengths.0 constant_lengths.1 constant_passes

-- ---- 3 Refusals

module _ (file : List ℕ) where
  abbrev lines : List (List ℕ)
  lines = pieces line_end file

  -- 34: too many bytes, or another form
  pub refused-form : (max_file < length file) ⊎ (is_file lines ≡ false) → file_outcome file ≡ refusal_of Refusal.PhaseForm
  refused-form (inl long) = file-long file long
  refused-form (inr other) = file-formless file other

  -- 35: a file of the form whose table does not pass
  pub refused-rule : length file ≤ max_file → is_file lines ≡ true → passes (table_in lines) ≡ false → file_outcome file ≡ refusal_of Refusal.PhaseRule
  refused-rule short form broken = file-breaks file short (sym form) broken

  -- no other file is refused
  pub else-accepted : length file ≤ max_file → is_file lines ≡ true → passes (table_in lines) ≡ true → file_outcome file ≡ answer (table_in lines)
  else-accepted short form fine = file-answers file short (sym form) fine

  -- ---- 4 The table that stands afterwards

  -- the constant one, if the file is refused
  pub refused-stands : (k : ℕ) (vs : List ℕ) → file_outcome file ≡ refused k vs → table_after (file_outcome file) ≡ phase_table
  refused-stands k vs e = rw e

  -- and always one that passes
  pub after-passes : passes (table_after (file_outcome file)) ≡ true
  after-passes = go (file_outcome file) refl
    where
      go : (o : Outcome PhaseTable) → file_outcome file ≡ o → passes (table_after o) ≡ true
      go (refused k vs) e = constant_passes
      go (answer t) e = accepted-passes file t e
