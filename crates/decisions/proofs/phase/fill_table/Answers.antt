use mathlib.Core.Path.{refl, ◌∙◌}
use native.Mathlib.Omega.{arith}
use lib.ListN.{length-set}
use Rattle.action.specs.Lists.{from, below}
use Rattle.elements.specs.HeldGroup.{generators_in}
use Rattle.decisions.proofs.Phases.{entries_next, entries_end}
use Rattle.decisions.proofs.phase.fill_table.Goals as goal

pub loop-i-init : goal.loop-i-init
unfolding below from
loop-i-init c = (omega arith, refl, refl)

pub numerator_at-requires : goal.numerator_at-requires
numerator_at-requires c = record {
  tables = c.requires.tables;
  modulus_value = c.requires.modulus_value;
  modes_len = c.requires.modes_len;
}

pub offset_bounds-list-i : goal.offset_bounds-list-i
offset_bounds-list-i c =
    omega (arith, c.requires.tables.small, c.requires.list_len)

pub bounds-list-i : goal.bounds-list-i
bounds-list-i c = omega (arith, c.loop-i.auto.list)

pub loop-i-preserved : goal.loop-i-preserved
loop-i-preserved c =
    let l = c.loop-i in
    let gs = generators_in c.args.group.now.generators c.args.group.now.sites c.args.group.now.targets.now c.args.group.now.orders.now in (
      simp length-set (omega arith),
      simp length-set l.invariant.1,
      entries_next gs c.args.modes.now l.list l.i c.numerator_at.result (omega (arith, c.loop-i.auto.list)) l.invariant.2 c.numerator_at.ensures,
    )

pub returns : goal.returns
returns c =
    let l = c.loop-i in
    let gs = generators_in c.args.group.now.generators c.args.group.now.sites c.args.group.now.targets.now c.args.group.now.orders.now in
    entries_end gs c.args.modes.now l.list l.i (omega (arith, c.loop-i.auto.list)) l.invariant.0 (l.invariant.1 ∙ c.requires.list_len) l.invariant.2
