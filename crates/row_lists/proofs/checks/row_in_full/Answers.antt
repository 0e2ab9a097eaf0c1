-- `checks::row_in_full` meets its contract: the part that is handed on is the row (`part_by`).
use mathlib.Core.Path.{ap, ◌∙◌}
use Rattle.pauli_word.specs.Bytes.{in_full}
use Rattle.row_lists.proofs.Rows.{part_by}
use Rattle.row_lists.proofs.InFull.{part-either}
use Rattle.row_lists.proofs.checks.row_in_full.Goals as goal

pub in_full-requires : goal.in_full-requires
in_full-requires c =
    part-either c.requires.either_length c.args.words.now c.args.i c.requires.size_in_bounds

pub returns : goal.returns
returns c =
    let a = c.args in
    c.in_full.ensures ∙ ap in_full (part_by a.size a.words.now a.i)
