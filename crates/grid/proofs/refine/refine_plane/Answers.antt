use mathlib.Core.Path.{refl, sym, ◌∙◌}
use native.Mathlib.Omega.{arith}
use Rattle.elements.specs.HeldGroup.{generators_in}
use Rattle.packed.specs.Packed.{bit_of}
use Rattle.grid.proofs.Rounds.{passed_start, passed-alone, passed-tired, passed-next, passed_end, block_within, order_some}
use Rattle.grid.proofs.refine.refine_plane.Goals as goal

pub loop-base-init : goal.loop-base-init
loop-base-init c =
    let a = c.args in
    (refl, passed_start (generators_in a.group.now.generators a.group.now.sites a.group.now.targets.now a.group.now.orders.now) a.group.now.sites a.order (bit_of a.plane.now) a.left.now)

pub refine_at-stage-requires : goal.refine_at-stage-requires
refine_at-stage-requires c =
    let l = c.loop-base.invariant in record {
      tables = c.requires.tables;
      order_value = c.requires.order_value.0;
      steps = rw (← l.0) at c.requires.steps;
      base_le_sites = (l.1.inside, l.1.long ∙ c.requires.left_len ∙ sym l.0);
    }

pub returns-in-Alone : goal.returns-in-Alone
returns-in-Alone c =
    passed-alone c.requires.tables.valid c.requires.order_value.1 c.requires.order_value.0 c.loop-base.invariant.1 c.loop-base-test.true
    c.refine_at-stage.new.left c.in-Alone.k (rw c.in-Alone.is at c.refine_at-stage.ensures)

pub returns-in-Tired : goal.returns-in-Tired
returns-in-Tired c =
    passed-tired c.requires.tables.valid c.requires.order_value.1 c.requires.order_value.0 c.loop-base.invariant.1 c.loop-base-test.true
    c.refine_at-stage.new.left (rw c.in-Tired.is at c.refine_at-stage.ensures)

pub overflow_add-base : goal.overflow_add-base
overflow_add-base c =
    omega (arith, block_within c.requires.tables.valid c.requires.order_value.1 c.requires.order_value.0 c.loop-base.invariant.1 c.loop-base-test.true, c.requires.tables.sites)

pub loop-base-smaller : goal.loop-base-smaller
loop-base-smaller c =
    omega (arith, c.loop-base-test.true, order_some c.requires.tables.valid c.requires.order_value.0)

pub loop-base-preserved : goal.loop-base-preserved
loop-base-preserved c = (
  c.refine_at-stage.auto.at ∙ c.loop-base.invariant.0,
  passed-next c.requires.tables.valid c.requires.order_value.1 c.requires.order_value.0 c.loop-base.invariant.1 c.loop-base-test.true
      c.refine_at-stage.new.left c.refine_at-stage.auto.left (rw c.in-Through.is at c.refine_at-stage.ensures),
)

pub returns : goal.returns
returns c = passed_end c.loop-base.invariant.1 c.loop-base-test.false
