-- `calls::table_of` meets its contract: the lists' lengths decide (`table-modes`, `table-length`, `table-answer`).
use mathlib.Core.Path.{◌≡◌, sym, ap, ◌∙◌}
use native.Mathlib.Omega.{arith}
use lib.ListN.{length}
use Rattle.elements.specs.HeldGroup.{Tables}
use Rattle.group.specs.declared.Group.{Group}
use Rattle.group.specs.Value.{group_lent, generators_of}
use Rattle.group.proofs.Accepted.{value-accepted, accepted_tables}
use Rattle.outcome.specs.Outcome.{on_answer, or_else, done, itself}
use Rattle.momentum.proofs.Outcomes.{table-modes, table-length, table-answer}
use borrow.Author.Rules.{rules}
use Rattle.momentum.proofs.calls.table_of.Goals as goal

pub returns-then-modes-generators : goal.returns-then-modes-generators
returns-then-modes-generators c =
    let list = c.args.list.now in
    let e = table-modes (group_lent c.args.group.now) c.requires c.args.modes.now (length list) c.if-modes-generators.true in record {
      answer = sym (ap (on_answer done) e);
      list = sym (ap (or_else itself list) e);
    }

pub order-requires : goal.order-requires
order-requires c = accepted_tables (group_lent c.args.group.now) (value-accepted (group_lent c.args.group.now) (search rules) (search rules) c.requires)

pub returns-then-list-order : goal.returns-then-list-order
unfolding generators_of
returns-then-list-order c =
    let list = c.args.list.now in
    let e = table-length (group_lent c.args.group.now) c.requires c.args.modes.now c.if-modes-generators.false (length list) (λ same. c.if-list-order.true (same ∙ sym c.order.ensures)) in record {
      answer = sym (ap (on_answer done) e);
      list = sym (ap (or_else itself list) e);
    }

pub phase_modulus-modulus-requires : goal.phase_modulus-modulus-requires
phase_modulus-modulus-requires c = accepted_tables (group_lent c.args.group.now) (value-accepted (group_lent c.args.group.now) (search rules) (search rules) c.requires)

pub fill_table-requires : goal.fill_table-requires
unfolding generators_of
fill_table-requires c = record {
  tables = accepted_tables (group_lent c.args.group.now) (value-accepted (group_lent c.args.group.now) (search rules) (search rules) c.requires);
  modulus_value = c.phase_modulus-modulus.ensures;
  modes_len = c.if-modes-generators.false;
  list_len = c.if-list-order.false ∙ c.order.ensures;
}

pub returns : goal.returns
unfolding generators_of
returns c =
    let list = c.args.list.now in
    let e = table-answer (group_lent c.args.group.now) c.requires c.args.modes.now c.if-modes-generators.false (length list) (c.if-list-order.false ∙ c.order.ensures) in record {
      answer = sym (ap (on_answer done) e);
      list = c.fill_table.ensures ∙ sym (ap (or_else itself list) e);
    }
