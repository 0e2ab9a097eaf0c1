-- `calls::orbit_of` meets its contract: the list's length decides (`orbit-length`, `orbit-answer`).
use Prim.Native.Nat.{ℕ, ◌*◌}
use mathlib.Core.Path.{sym, ap, ◌∙◌}
use native.Mathlib.Omega.{arith}
use lib.ListN.{length}
use Rattle.outcome.specs.Outcome.{on_answer, or_else, done}
use Rattle.pauli_word.specs.Limits.{word_length}
use Rattle.pauli_word.specs.Word.{Word}
use Rattle.pauli_word.proofs.Forms.{full-letters}
use Rattle.action.specs.Orbit.{orbit_list}
use Rattle.elements.specs.HeldGroup.{encode_all}
use Rattle.group.specs.Value.{group_in, generators_of}
use Rattle.group.proofs.Accepted.{accepted_tables}
use Rattle.orbit.proofs.Outcomes.{orbit-length, orbit-answer}
use Rattle.orbit.proofs.WordCalls.{call-group}
use borrow.Author.Rules.{rules}
use Rattle.orbit.proofs.calls.orbit_of.Goals as goal

pub order-order-requires : goal.order-order-requires
order-order-requires c = accepted_tables (group_in c.args.group.now.sites c.args.group.now.generators c.args.group.now.orders.now c.args.group.now.targets.now) (call-group (group_in c.args.group.now.sites c.args.group.now.generators c.args.group.now.orders.now c.args.group.now.targets.now) c.args.group.now.sites c.args.word.now c.requires.word_value (search rules) (search rules))

pub overflow_mul-order : goal.overflow_mul-order
unfolding generators_of
overflow_mul-order c = omega (arith, c.order-order.ensures, (accepted_tables (group_in c.args.group.now.sites c.args.group.now.generators c.args.group.now.orders.now c.args.group.now.targets.now) (call-group (group_in c.args.group.now.sites c.args.group.now.generators c.args.group.now.orders.now c.args.group.now.targets.now) c.args.group.now.sites c.args.word.now c.requires.word_value (search rules) (search rules))).small)

pub returns-then-list-order : goal.returns-then-list-order
unfolding generators_of
returns-then-list-order c =
    let list = c.args.list.now in
    let e =
    orbit-length (group_in c.args.group.now.sites c.args.group.now.generators c.args.group.now.orders.now c.args.group.now.targets.now) c.args.group.now.sites c.args.word.now c.requires.word_value (length list)
    (λ same. c.if-list-order.true (same ∙ ap (λ (n : ℕ). word_length * n) (sym c.order-order.ensures)))
    in record {
      answer = sym (ap (on_answer done) e);
      list = sym (ap (or_else encode_all list) e);
    }

pub fill_orbit-requires : goal.fill_orbit-requires
unfolding generators_of
fill_orbit-requires c = record {
  tables = accepted_tables (group_in c.args.group.now.sites c.args.group.now.generators c.args.group.now.orders.now c.args.group.now.targets.now) (call-group (group_in c.args.group.now.sites c.args.group.now.generators c.args.group.now.orders.now c.args.group.now.targets.now) c.args.group.now.sites c.args.word.now c.requires.word_value (search rules) (search rules));
  accepted_word = c.requires.accepted_word;
  order_value = c.order-order.ensures;
  list_len = c.if-list-order.false;
}

pub returns : goal.returns
unfolding generators_of
returns c =
    let list = c.args.list.now in
    let e =
    orbit-answer (group_in c.args.group.now.sites c.args.group.now.generators c.args.group.now.orders.now c.args.group.now.targets.now) c.args.group.now.sites c.args.word.now c.requires.word_value (length list)
    (c.if-list-order.false ∙ ap (λ (n : ℕ). word_length * n) c.order-order.ensures)
    in record {
      answer = sym (ap (on_answer done) e);
      list = c.fill_orbit.ensures
          ∙ ap (λ (w : Word). encode_all (orbit_list (generators_of (group_in c.args.group.now.sites c.args.group.now.generators c.args.group.now.orders.now c.args.group.now.targets.now)) w)) (sym (full-letters c.args.group.now.sites c.args.word.now c.requires.accepted_word))
          ∙ sym (ap (or_else encode_all list) e);
    }
