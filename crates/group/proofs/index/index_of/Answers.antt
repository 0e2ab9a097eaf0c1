-- `index::index_of` meets its contract: of a group that has passed, the counter's length and its digits decide (`index-length`, `index-digit`).
use mathlib.Core.Path.{sym, ap, ◌∙◌}
use borrow.Author.Tests.{not-true, not-false}
use Rattle.outcome.specs.Outcome.{answer}
use Rattle.action.proofs.Index.{below-digits}
use Rattle.elements.proofs.TableRows.{generators-length}
use Rattle.group.specs.Value.{group_lent, generators_of}
use Rattle.group.proofs.Accepted.{lent-tables}
use Rattle.group.proofs.Outcomes.{index-length, index-digit, index-answer}
use Rattle.group.proofs.index.index_of.Goals as goal

pub returns-then-counter-generators : goal.returns-then-counter-generators
returns-then-counter-generators c = sym (index-length (group_lent c.args.group.now) c.requires c.args.counter.now c.if-counter-generators.true)

pub are_digits-requires : goal.are_digits-requires
are_digits-requires c = record {
  tables = lent-tables c.args.group.now c.requires;
  counter_len = c.if-counter-generators.false;
}

pub returns-then-not-are_digits : goal.returns-then-not-are_digits
unfolding generators_of
returns-then-not-are_digits c =
    sym (index-digit (group_lent c.args.group.now) c.requires c.args.counter.now c.if-counter-generators.false (sym c.are_digits.ensures ∙ not-true c.are_digits.result c.if-not-are_digits.true-raw))

pub index_of-requires : goal.index_of-requires
index_of-requires c =
    let t = lent-tables c.args.group.now c.requires in record {
      tables = t;
      digits = below-digits _ _ (c.if-counter-generators.false ∙ sym (generators-length t))
          (sym c.are_digits.ensures ∙ not-false c.are_digits.result c.if-not-are_digits.false-raw);
    }

pub returns : goal.returns
unfolding generators_of
returns c =
    ap answer c.index_of.ensures
    ∙ sym
    (index-answer (group_lent c.args.group.now) c.requires c.args.counter.now c.if-counter-generators.false
    (sym c.are_digits.ensures ∙ not-false c.are_digits.result c.if-not-are_digits.false-raw))
