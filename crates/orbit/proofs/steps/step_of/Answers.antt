-- `steps::step_of` meets its contract: a walk that passes its checks has an accepted group and word (`walk-group`, `walk-word`), and its index decides
-- (`next-entry`, `next-finished`).
use Prim.Native.Nat.{ℕ}
use mathlib.Core.Path.{sym, ap, ◌∙◌}
use native.Mathlib.Numerals.{add-one}
use native.Mathlib.Omega.{arith}
use lib.ListN.{get_or}
use mir.Syntax.{w8}
use mir.Val.{Fits}
use Rattle.outcome.specs.Outcome.{or_else, on_answer}
use Rattle.pauli_word.proofs.Planes.{bytes_of_lem}
use Rattle.group.specs.Value.{group_in, generators_of}
use Rattle.group.proofs.Accepted.{accepted_tables}
use Rattle.orbit.specs.Calls.{walk_in, given_entry, after_entry}
use Rattle.orbit.proofs.Walking.{same_walk, walk-group, walk-word}
use Rattle.orbit.proofs.Outcomes.{next-entry, next-finished}
use borrow.Author.Rules.{rules}
use Rattle.orbit.proofs.steps.step_of.Goals as goal

pub order-requires : goal.order-requires
order-requires c = accepted_tables (group_in c.args.group.now.sites c.args.group.now.generators c.args.group.now.orders.now c.args.group.now.targets.now) (walk-group (walk_in (group_in c.args.group.now.sites c.args.group.now.generators c.args.group.now.orders.now c.args.group.now.targets.now) c.args.at c.args.index) c.requires (search rules) (search rules))

pub returns-then-order-index : goal.returns-then-order-index
unfolding generators_of
returns-then-order-index c =
    let w = walk_in (group_in c.args.group.now.sites c.args.group.now.generators c.args.group.now.orders.now c.args.group.now.targets.now) c.args.at c.args.index in
    let e = next-finished w c.requires (omega (arith, c.order.ensures)) in record {
      answer = sym (ap (on_answer (given_entry w)) e);
      walk = sym (ap (or_else (after_entry w) w) e);
    }

pub step-requires : goal.step-requires
step-requires c =
    let byte : (i : ℕ) → Fits w8 (get_or c.args.at i 0) = λ i. search rules in record {
      tables = accepted_tables (group_in c.args.group.now.sites c.args.group.now.generators c.args.group.now.orders.now c.args.group.now.targets.now) (walk-group (walk_in (group_in c.args.group.now.sites c.args.group.now.generators c.args.group.now.orders.now c.args.group.now.targets.now) c.args.at c.args.index) c.requires (search rules) (search rules));
      accepted_word = walk-word (walk_in (group_in c.args.group.now.sites c.args.group.now.generators c.args.group.now.orders.now c.args.group.now.targets.now) c.args.at c.args.index) c.requires (search rules) (bytes_of_lem c.args.at (λ i. (byte i).fits));
    }

pub returns : goal.returns
unfolding generators_of
returns c =
    let w = walk_in (group_in c.args.group.now.sites c.args.group.now.generators c.args.group.now.orders.now c.args.group.now.targets.now) c.args.at c.args.index in
    let e = next-entry w c.requires (omega (arith, c.order.ensures, c.if-order-index.false)) in record {
      answer = sym (ap (on_answer (given_entry w)) e);
      walk = same_walk (group_in c.args.group.now.sites c.args.group.now.generators c.args.group.now.orders.now c.args.group.now.targets.now) c.step.ensures (add-one c.args.index) ∙ sym (ap (or_else (after_entry w) w) e);
    }
