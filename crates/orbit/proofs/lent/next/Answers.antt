-- `lent::next` meets its contract: the checks pass or refuse, and a walk that passes is what `steps::step_of` asks.
use mathlib.Core.Path.{sym, ap}
use Rattle.outcome.specs.Outcome.{answer, or_else, on_answer}
use Rattle.outcome.proofs.Outcomes.{told-passes, told-refused}
use Rattle.group.specs.Value.{group_in}
use Rattle.orbit.specs.Calls.{walk_in, walk_checks, next_outcome, entry_of, given_entry, after_entry}
use Rattle.orbit.proofs.lent.next.Goals as goal

pub step_of-requires : goal.step_of-requires
step_of-requires c = told-passes (walk_checks (walk_in (group_in c.args.group.now.sites c.args.group.now.generators c.args.group.now.orders.now c.args.group.now.targets.now) c.args.at c.args.index)) _ c.walk_checked.ensures c.in-Ok.is

pub returns-in-Err : goal.returns-in-Err
unfolding next_outcome
returns-in-Err c =
    let w = walk_in (group_in c.args.group.now.sites c.args.group.now.generators c.args.group.now.orders.now c.args.group.now.targets.now) c.args.at c.args.index in
    let e = told-refused (walk_checks w) _ c.walk_checked.ensures (answer (entry_of w)) c.in-Err.is in record {
      answer = sym (ap (on_answer (given_entry w)) e);
      walk = sym (ap (or_else (after_entry w) w) e);
    }
