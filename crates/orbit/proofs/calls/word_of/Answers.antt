-- `calls::word_of` meets its contract: whether the index is below the order decides (`at-range`, `at-answer`).
use mathlib.Core.Path.{sym, ap, ◌∙◌}
use native.Mathlib.Omega.{arith}
use Rattle.outcome.specs.Outcome.{on_answer, answer}
use Rattle.pauli_word.specs.Word.{Word}
use Rattle.pauli_word.specs.Bytes.{bytes_of}
use Rattle.pauli_word.proofs.Forms.{full-letters}
use Rattle.action.specs.Orbit.{reach}
use Rattle.group.specs.Value.{group_in, generators_of}
use Rattle.group.proofs.Accepted.{accepted_tables}
use Rattle.orbit.proofs.Outcomes.{at-range, at-answer}
use Rattle.orbit.proofs.WordCalls.{call-group}
use borrow.Author.Rules.{rules}
use Rattle.orbit.proofs.calls.word_of.Goals as goal

pub order-requires : goal.order-requires
order-requires c = accepted_tables (group_in c.args.group.now.sites c.args.group.now.generators c.args.group.now.orders.now c.args.group.now.targets.now) (call-group (group_in c.args.group.now.sites c.args.group.now.generators c.args.group.now.orders.now c.args.group.now.targets.now) c.args.group.now.sites c.args.word.now c.requires.word_value (search rules) (search rules))

pub returns-then-order-index : goal.returns-then-order-index
unfolding generators_of
returns-then-order-index c =
    let e = at-range (group_in c.args.group.now.sites c.args.group.now.generators c.args.group.now.orders.now c.args.group.now.targets.now) c.args.group.now.sites c.args.word.now c.requires.word_value c.args.index (omega arith) in
    sym (ap (on_answer bytes_of) e)

pub word_at-requires : goal.word_at-requires
word_at-requires c = record {
  tables = accepted_tables (group_in c.args.group.now.sites c.args.group.now.generators c.args.group.now.orders.now c.args.group.now.targets.now) (call-group (group_in c.args.group.now.sites c.args.group.now.generators c.args.group.now.orders.now c.args.group.now.targets.now) c.args.group.now.sites c.args.word.now c.requires.word_value (search rules) (search rules));
  accepted_word = c.requires.accepted_word;
}

pub returns : goal.returns
unfolding generators_of
returns c =
    let gs = generators_of (group_in c.args.group.now.sites c.args.group.now.generators c.args.group.now.orders.now c.args.group.now.targets.now) in
    let e = at-answer (group_in c.args.group.now.sites c.args.group.now.generators c.args.group.now.orders.now c.args.group.now.targets.now) c.args.group.now.sites c.args.word.now c.requires.word_value c.args.index (omega arith) in
    ap answer
    (c.word_at.ensures
    ∙ ap (λ (w : Word). bytes_of (reach gs c.args.index w)) (sym (full-letters c.args.group.now.sites c.args.word.now c.requires.accepted_word)))
    ∙ sym (ap (on_answer bytes_of) e)
