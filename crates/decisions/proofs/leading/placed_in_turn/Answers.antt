use Prim.Native.Nat.{◌<◌}
use mathlib.Core.Path.{◌≡◌, refl, sym, ◌∙◌}
use native.Mathlib.Nat.{zero-mod}
use native.Mathlib.Omega.{arith}
use lib.ListN.{get_or}
use Rattle.action.specs.Index.{order_of}
use Rattle.elements.specs.HeldGroup.{generators_in}
use Rattle.elements.proofs.TableRows.{order-positive-at}
use Rattle.decisions.proofs.Traversals.{passed_start, passed-moves, passed-fixes, placed-broken}
use Rattle.decisions.proofs.Differences.{sum-tests, traversed-kept}
use Rattle.decisions.proofs.leading.placed_in_turn.Goals as goal
use Rattle.decisions.proofs.leading.placed_in_turn.Goals.{in-Fixes, in-Moves}
use Rattle.decisions.proofs.leading.placed_in_turn.Lts as lts
use Rattle.decisions.proofs.leading.placed_in_turn.Tie as tie
use Rattle.decisions.proofs.leading.placed_in_turn.Reads as reads

abbrev ctx-After-tested : Type 0
ctx-After-tested = lts.After-tested tie.the-claims reads.Pre reads.Post goal.the-invariant-loop-d goal.the-decreases-loop-d tie.handed_clauses

pub nonzero_rem-at : goal.nonzero_rem-at
nonzero_rem-at c = order-positive-at c.requires.tables 0 c.requires.generators_nonzero

pub loop-d-init : goal.loop-d-init
loop-d-init c =
    let gs = generators_in c.args.group.now.generators c.args.group.now.sites c.args.group.now.targets.now c.args.group.now.orders.now in (
      omega arith,
      omega arith,
      (c.add-sum.ensures, sym (zero-mod (get_or c.args.group.now.orders.now 0 0)), refl),
      λ w long leads back. passed_start gs c.args.modes.now w,
    )

pub tested-requires : goal.tested-requires
tested-requires c = record {
  tables = c.requires.tables;
  m_value = c.requires.m_value;
  modes_len = c.requires.modes_len;
}

-- index d is below the order
inside : (c : ctx-After-tested)
    → (c.loop-d.d < order_of (generators_in c.args.group.now.generators c.args.group.now.sites c.args.group.now.targets.now c.args.group.now.orders.now))
inside c = omega (arith, c.loop-d-test.true, c.requires.order_value)

pub returns-in-Breaks : goal.returns-in-Breaks
returns-in-Breaks c w long leads back =
    let l = c.loop-d in
    let ks = c.args.modes.now in
    let gs = generators_in c.args.group.now.generators c.args.group.now.sites c.args.group.now.targets.now c.args.group.now.orders.now in
    let within = inside c.before.before in
    placed-broken gs ks w l.d (l.invariant.3 w long leads back) within
    (sum-tests c.requires.tables.valid ks w long leads back l.d within l.invariant.2.0 c.tested.ensures ∙ c.in-Breaks.is)

pub overflow_add-count : goal.overflow_add-count
overflow_add-count c = omega (arith, c.loop-d.invariant.1, inside c.before.before, c.requires.tables.small)

pub stepped-at-requires : goal.stepped-at-requires
stepped-at-requires c =
    let l = c.loop-d in record {
      tables = c.requires.tables;
      generators_nonzero = c.requires.generators_nonzero;
      index_lt_max_order = omega (arith, inside c.before.before, c.requires.tables.small);
      sum_value = l.invariant.2;
    }

pub loop-d-preserved : goal.loop-d-preserved
loop-d-preserved c =
    let l = c.loop-d in
    let ks = c.args.modes.now in
    let gs = generators_in c.args.group.now.generators c.args.group.now.sites c.args.group.now.targets.now c.args.group.now.orders.now in
    let came = c.match-tested.branch in (
      omega (arith, c.loop-d-test.true),
      elim came [ in-Fixes v ↦ omega (arith, l.invariant.1, v.count-is) | in-Moves v ↦ omega (arith, l.invariant.1, v.count-is) ],
      c.stepped-at.ensures,
      λ w long leads back.
          let test = sum-tests c.requires.tables.valid ks w long leads back l.d (inside c.before.before.before) l.invariant.2.0 c.tested.ensures in
          let passed = l.invariant.3 w long leads back in
          elim came [ in-Fixes v ↦ passed-fixes gs ks w l.d passed (test ∙ v.in-Fixes.is) v.count-is | in-Moves v ↦ passed-moves gs ks w l.d passed (test ∙ v.in-Moves.is) v.count-is ],
    )

pub returns : goal.returns
returns c w long leads back =
    let l = c.loop-d in
    let gs = generators_in c.args.group.now.generators c.args.group.now.sites c.args.group.now.targets.now c.args.group.now.orders.now in
    let all : l.d ≡ order_of gs = omega (arith, c.requires.order_value, l.invariant.0, c.loop-d-test.false) in
    traversed-kept c.requires.tables.valid c.args.modes.now w long leads back (l.invariant.3 w long leads back) all c.requires.order_value c.size_by.ensures
