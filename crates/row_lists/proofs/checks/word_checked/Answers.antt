-- `checks::word_checked` meets its contract: whether a bit of the row's word is above decides.
use mathlib.Core.Path.{◌≡◌, sym, ap, ◌∙◌}
use mathlib.Core.List.{List}
use Prim.Native.Nat.{ℕ}
use Rattle.pauli_word.specs.Bytes.{in_full}
use Rattle.pauli_word.specs.Calls.{clear_above}
use Rattle.row_lists.specs.Rows.{row_by}
use Rattle.row_lists.proofs.Rows.{part_by}
use Rattle.row_lists.proofs.InFull.{part-either}
use Rattle.row_lists.proofs.ListChecks.{row-clear, row-above}
use Rattle.row_lists.proofs.checks.word_checked.Goals as goal
use Rattle.row_lists.proofs.checks.word_checked.Lts as lts
use Rattle.row_lists.proofs.checks.word_checked.Tie as tie
use Rattle.row_lists.proofs.checks.word_checked.Reads as reads

abbrev ctx-After-clear_above : Type 0
ctx-After-clear_above = lts.After-clear_above tie.the-claims reads.Pre reads.Post tie.handed_clauses

-- whether no bit of the row's word is above
told :
    (c : ctx-After-clear_above)
    → let a = c.args in
    clear_above a.sites (in_full (row_by a.size a.words.now a.i)) ≡ c.clear_above.result
told c =
    let a = c.args in
    sym (c.clear_above.ensures ∙ ap (λ (row : List ℕ). clear_above a.sites (in_full row)) (part_by a.size a.words.now a.i))

pub clear_above-requires : goal.clear_above-requires
clear_above-requires c =
    part-either c.requires.either_length c.args.words.now c.args.i c.requires.size_in_bounds

pub returns-then-clear_above : goal.returns-then-clear_above
returns-then-clear_above c =
    let a = c.args in
    sym (row-clear a.sites a.i (in_full (row_by a.size a.words.now a.i)) (told c.before.before ∙ c.if-clear_above.true))

pub returns-else-clear_above : goal.returns-else-clear_above
returns-else-clear_above c =
    let a = c.args in
    sym (row-above a.sites a.i (in_full (row_by a.size a.words.now a.i)) (told c.before.before ∙ c.if-clear_above.false))
