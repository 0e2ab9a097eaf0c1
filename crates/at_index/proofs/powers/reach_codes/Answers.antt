use mathlib.Core.Path.{sym, ◌∙◌}
use native.Mathlib.Omega.{arith}
use Rattle.elements.specs.HeldGroup.{generators_in}
use Rattle.elements.proofs.TableRows.{order-positive-at}
use Rattle.elements.proofs.Steps.{row-part, part_permutes}
use Rattle.at_index.proofs.Going.{reached_first, reached-next, reached-end}
use Rattle.at_index.proofs.powers.reach_codes.Goals as goal

pub loop-g-init : goal.loop-g-init
loop-g-init c =
    let a = c.args in
    let gs = generators_in a.group.now.generators a.group.now.sites a.group.now.targets.now a.group.now.orders.now in
    (omega arith, c.requires.perm_len, c.requires.room_len, c.requires.here_len, c.requires.spare_len, reached_first gs a.index a.here.now)

pub overflow_mul-start : goal.overflow_mul-start
overflow_mul-start c = omega (arith, c.requires.tables.few, c.loop-g-test.true)

pub overflow_add-end : goal.overflow_add-end
overflow_add-end c =
    let t = c.requires.tables in
    omega (arith, t.few, t.sites, c.loop-g-test.true)

pub offset_bounds-orders-g : goal.offset_bounds-orders-g
offset_bounds-orders-g c = omega (arith, c.requires.tables.few, c.loop-g-test.true)

pub bounds-orders-g : goal.bounds-orders-g
bounds-orders-g c =
    let t = c.requires.tables in
    omega (arith, t.few, t.declared_orders, c.loop-g-test.true)

pub offset_bounds-targets-start : goal.offset_bounds-targets-start
offset_bounds-targets-start c = omega (arith, c.requires.tables.few, c.loop-g-test.true)

pub slice_bounds-copy-count : goal.slice_bounds-copy-count
slice_bounds-copy-count c = omega arith

pub slice_bounds-copy-start : goal.slice_bounds-copy-start
slice_bounds-copy-start c = omega arith

pub slice_bounds-copy-end : goal.slice_bounds-copy-end
slice_bounds-copy-end c =
    let t = c.requires.tables in
    omega (arith, t.few, t.sites, t.places, c.loop-g-test.true)

pub copy-requires : goal.copy-requires
copy-requires c =
    let l = c.loop-g in
    (part_permutes c.requires.tables l.g c.loop-g-test.true).long ∙ sym l.invariant.1

pub nonzero_rem-rest : goal.nonzero_rem-rest
nonzero_rem-rest c = order-positive-at c.requires.tables c.loop-g.g c.loop-g-test.true

pub move_often-requires : goal.move_often-requires
move_often-requires c =
    let l = c.loop-g in
    let permutes = part_permutes c.requires.tables l.g c.loop-g-test.true in record {
      permutes = rw (l.invariant.3, c.copy.ensures) permutes;
      room_len = l.invariant.2 ∙ sym l.invariant.3;
      spare_len = l.invariant.4 ∙ sym l.invariant.3;
    }

pub nonzero_div-rest : goal.nonzero_div-rest
nonzero_div-rest c = order-positive-at c.requires.tables c.loop-g.g c.loop-g-test.true

pub loop-g-preserved : goal.loop-g-preserved
loop-g-preserved c =
    let l = c.loop-g in
    let more = c.loop-g-test.true in
    let row = c.copy.ensures ∙ row-part c.args.group.now.sites l.g c.args.group.now.targets.now in (
      omega (arith, more),
      c.move_often.auto.perm ∙ c.copy.auto.dst ∙ l.invariant.1,
      c.move_often.auto.room ∙ l.invariant.2,
      c.move_often.auto.here ∙ l.invariant.3,
      c.move_often.auto.spare ∙ l.invariant.4,
      reached-next c.requires.tables l.g l.rest l.invariant.5 more row c.move_often.ensures,
    )

pub returns : goal.returns
returns c =
    let l = c.loop-g in
    reached-end c.requires.tables l.g l.rest l.invariant.5 c.loop-g-test.false
