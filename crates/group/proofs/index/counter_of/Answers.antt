-- `index::counter_of` meets its contract: of an accepted group, the index and the counter's length decide (`counter-range`, `counter-length`), and the
-- digits fill the whole counter (`overwritten`).
use mathlib.Core.Path.{sym, ap, ◌∙◌}
use native.Mathlib.Omega.{arith}
use lib.ListN.{length}
use Rattle.outcome.specs.Outcome.{on_answer, or_else, done, itself}
use Rattle.action.specs.Index.{digits}
use Rattle.group.specs.Value.{group_lent, generators_of}
use Rattle.group.proofs.Accepted.{lent-accepted, lent-tables}
use Rattle.group.proofs.Outcomes.{overwritten, counter-range, counter-length, counter-answer}
use Rattle.group.proofs.index.counter_of.Goals as goal

pub order-requires : goal.order-requires
order-requires c = lent-tables c.args.group.now c.requires

pub returns-then-order-index : goal.returns-then-order-index
unfolding generators_of
returns-then-order-index c =
    let counter = c.args.counter.now in
    let e = counter-range (group_lent c.args.group.now) (lent-accepted c.args.group.now c.requires) c.args.index (length counter) (omega arith) in record {
      answer = sym (ap (on_answer done) e);
      counter = sym (ap (or_else itself counter) e);
    }

pub returns-then-counter-generators : goal.returns-then-counter-generators
unfolding generators_of
returns-then-counter-generators c =
    let counter = c.args.counter.now in
    let e = counter-length (group_lent c.args.group.now) (lent-accepted c.args.group.now c.requires) c.args.index (omega arith) (length counter) c.if-counter-generators.true in record {
      answer = sym (ap (on_answer done) e);
      counter = sym (ap (or_else itself counter) e);
    }

pub fill_counter-requires : goal.fill_counter-requires
fill_counter-requires c = record {
  tables = lent-tables c.args.group.now c.requires;
  generators_in_bounds = omega arith;
}

pub returns : goal.returns
unfolding generators_of
returns c =
    let g = group_lent c.args.group.now in
    let counter = c.args.counter.now in
    let same = c.if-counter-generators.false in
    let e = counter-answer g (lent-accepted c.args.group.now c.requires) c.args.index (omega arith) (length counter) same in record {
      answer = sym (ap (on_answer done) e);
      counter = c.fill_counter.ensures
          ∙ overwritten (digits (generators_of g) c.args.index) counter g.generators same
          ∙ sym (ap (or_else itself counter) e);
    }
