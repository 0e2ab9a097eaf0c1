use Rattle.renumbered.proofs.Turning.{order_some}
use mathlib.Core.Path.{ap}
use Rattle.action.specs.Arithmetic.{product}
use Rattle.grid.proofs.Grids.{place-next}
use Rattle.renumbered.proofs.Filling.{round_within}
use mathlib.Core.Path.{refl, sym, ◌∙◌}
use lib.ListN.{get_or}
use Prim.Native.Nat.{ℕ, ◌*◌}
use native.Mathlib.Omega.{arith}
use Rattle.renumbered.proofs.table.fill_block.Goals as goal

pub overflow_cast-base : goal.overflow_cast-base
overflow_cast-base c = omega arith

pub put_number-requires : goal.put_number-requires
put_number-requires c = (c.requires.tables.sites, omega (arith, c.requires.order_bound.0, c.requires.order_value, order_some c.requires.tables.valid c.requires.order_value), c.requires.site_len.0, c.requires.site_len.1)

pub loop-g-init : goal.loop-g-init
unfolding product
loop-g-init c = (omega arith, refl, c.put_number.auto.site ∙ c.requires.site_len.0, c.put_number.auto.place ∙ c.requires.site_len.1)

pub overflow_mul-round : goal.overflow_mul-round
overflow_mul-round c =
    let l = c.loop-g in
    rw l.invariant.1 (omega (arith, round_within c.requires.tables l.g c.loop-g-test.true, c.requires.tables.small))

pub fill_axis-requires : goal.fill_axis-requires
fill_axis-requires c =
    let l = c.loop-g in
    let more = c.loop-g-test.true in record {
      targets_len = (c.requires.tables.places, omega (arith, c.requires.tables.few, more), c.requires.tables.sites);
      site_len = (l.invariant.2, l.invariant.3);
      round_bound = rw l.invariant.1 (omega (arith, round_within c.requires.tables l.g more, c.requires.order_value, c.requires.order_bound.0));
    }

pub loop-g-preserved : goal.loop-g-preserved
loop-g-preserved c =
    let l = c.loop-g in
    let more = c.loop-g-test.true in (
      omega (arith, more),
      ap (λ (p : ℕ). p * get_or c.args.group.now.orders.now l.g 0) l.invariant.1 ∙ sym (place-next c.requires.tables l.g more),
      c.fill_axis.auto.site ∙ l.invariant.2,
      c.fill_axis.auto.place ∙ l.invariant.3,
    )
