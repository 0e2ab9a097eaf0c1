-- `calls::shift_of` meets its contract: the counter's length decides (`shift-length`, `shift-answer`), and the digits fill the whole counter
-- (`overwritten`).
use mathlib.Core.Path.{sym, ap, ◌∙◌}
use native.Mathlib.Omega.{arith}
use lib.ListN.{length}
use Rattle.outcome.specs.Outcome.{on_answer, or_else, answer}
use Rattle.pauli_word.specs.Word.{Word}
use Rattle.pauli_word.specs.Bytes.{bytes_of}
use Rattle.pauli_word.proofs.Forms.{full-letters}
use Rattle.action.specs.Index.{digits}
use Rattle.action.specs.Orbit.{least, index_back}
use Rattle.group.specs.Value.{group_in, generators_of}
use Rattle.group.proofs.Accepted.{accepted_tables}
use Rattle.group.proofs.Outcomes.{overwritten}
use Rattle.orbit.specs.Calls.{word_of, shift_of}
use Rattle.orbit.proofs.Outcomes.{shift-length, shift-answer}
use Rattle.orbit.proofs.WordCalls.{call-group}
use borrow.Author.Rules.{rules}
use Rattle.orbit.proofs.calls.shift_of.Goals as goal

pub returns-then-counter-group : goal.returns-then-counter-group
returns-then-counter-group c =
    let counter = c.args.counter.now in
    let e = shift-length (group_in c.args.group.now.sites c.args.group.now.generators c.args.group.now.orders.now c.args.group.now.targets.now) c.args.group.now.sites c.args.word.now c.requires.word_value (length counter) c.if-counter-group.true in record {
      answer = sym (ap (on_answer word_of) e);
      counter = sym (ap (or_else shift_of counter) e);
    }

pub least_of-found-requires : goal.least_of-found-requires
least_of-found-requires c = record {
  tables = accepted_tables (group_in c.args.group.now.sites c.args.group.now.generators c.args.group.now.orders.now c.args.group.now.targets.now) (call-group (group_in c.args.group.now.sites c.args.group.now.generators c.args.group.now.orders.now c.args.group.now.targets.now) c.args.group.now.sites c.args.word.now c.requires.word_value (search rules) (search rules));
  accepted_word = c.requires.accepted_word;
}

pub fill_counter-requires : goal.fill_counter-requires
fill_counter-requires c = record {
  tables = accepted_tables (group_in c.args.group.now.sites c.args.group.now.generators c.args.group.now.orders.now c.args.group.now.targets.now) (call-group (group_in c.args.group.now.sites c.args.group.now.generators c.args.group.now.orders.now c.args.group.now.targets.now) c.args.group.now.sites c.args.word.now c.requires.word_value (search rules) (search rules));
  generators_in_bounds = omega (arith, c.if-counter-group.false);
}

pub returns : goal.returns
unfolding generators_of
returns c =
    let gs = generators_of (group_in c.args.group.now.sites c.args.group.now.generators c.args.group.now.orders.now c.args.group.now.targets.now) in
    let counter = c.args.counter.now in
    let same = c.if-counter-group.false in
    let letters = sym (full-letters c.args.group.now.sites c.args.word.now c.requires.accepted_word) in
    let e = shift-answer (group_in c.args.group.now.sites c.args.group.now.generators c.args.group.now.orders.now c.args.group.now.targets.now) c.args.group.now.sites c.args.word.now c.requires.word_value (length counter) same in record {
      answer = ap answer (c.least_of-found.ensures.word ∙ ap (λ (w : Word). bytes_of (least gs w)) letters) ∙ sym (ap (on_answer word_of) e);
      counter = c.fill_counter.ensures
          ∙ overwritten (digits gs c.least_of-found.result.index) counter c.args.group.now.generators same
          ∙ ap (digits gs) (c.least_of-found.ensures.index ∙ ap (index_back gs) letters)
          ∙ sym (ap (or_else shift_of counter) e);
    }
