use Rattle.renumbered.proofs.Filling.{round_more}
use mathlib.Core.Path.{ap}
use mathlib.Core.Bool.{false≢true}
use native.Mathlib.Nat.{mul-pos}
use borrow.Author.Count.{below_more}
use borrow.Author.Tests.{not-false}
use lib.ListN.{take}
use Rattle.action.specs.Arithmetic.{product}
use Rattle.elements.proofs.TableRows.{order-positive-at}
use Rattle.grid.proofs.Grids.{place-positive, place-next}
use Rattle.renumbered.proofs.Filling.{round_within}
use Rattle.renumbered.proofs.Tabled.{all_renumbered}
use Rattle.renumbered.proofs.Turning.{order_some}
use mathlib.Core.Path.{refl, sym, ◌∙◌}
use lib.ListN.{get_or}
use Prim.Native.Nat.{ℕ, ◌*◌}
use native.Mathlib.Omega.{arith}
use Rattle.renumbered.proofs.table.is_renumbered.Goals as goal

pub nonzero_rem-sites : goal.nonzero_rem-sites
nonzero_rem-sites c = order_some c.requires.tables.valid c.requires.order_value

pub undo_each_other-requires : goal.undo_each_other-requires
undo_each_other-requires c = omega arith

pub returns-then-sites-order-ne0 : goal.returns-then-sites-order-ne0
returns-then-sites-order-ne0 c t = absurd (false≢true t)

pub loop-g-init : goal.loop-g-init
unfolding product
loop-g-init c = (omega arith, refl, λ j h. absurd (omega arith))

pub overflow_mul-block : goal.overflow_mul-block
overflow_mul-block c =
    let l = c.loop-g in
    rw l.invariant.1 (omega (arith, round_within c.requires.tables l.g c.loop-g-test.true, c.requires.tables.small))

pub carries-requires : goal.carries-requires
carries-requires c =
    let l = c.loop-g in
    let more = c.loop-g-test.true in
    let o = order-positive-at c.requires.tables l.g more in
    let p = place-positive c.requires.tables l.g (omega (arith, more)) in
    let undo = c.undo_each_other.ensures (not-false _ c.if-not-undo_each_other.false-raw) in record {
      targets_len = (c.requires.tables.places, omega (arith, c.requires.tables.few, more), c.requires.tables.sites, c.requires.site_len.0);
      block_nonzero = rw l.invariant.1 (mul-pos p o, round_more (product (take l.g c.args.group.now.orders.now)) (get_or c.args.group.now.orders.now l.g 0) o, omega (arith, round_within c.requires.tables l.g more, c.requires.order_value, c.requires.site_len.2));
      by_index = λ a h. (undo a h).0;
    }

pub returns-then-not-carries : goal.returns-then-not-carries
returns-then-not-carries c t = absurd (false≢true t)

pub loop-g-preserved : goal.loop-g-preserved
loop-g-preserved c =
    let l = c.loop-g in
    let more = c.loop-g-test.true in
    let passed = c.carries.ensures (not-false _ c.if-not-carries.false-raw) in (
      omega (arith, more),
      ap (λ (p : ℕ). p * get_or c.args.group.now.orders.now l.g 0) l.invariant.1 ∙ sym (place-next c.requires.tables l.g more),
      below_more _ _ l.invariant.2 (rw l.invariant.1 at passed),
    )

pub returns : goal.returns
returns c t =
    let a = c.args in
    let undo = c.undo_each_other.ensures (not-false _ c.if-not-undo_each_other.false-raw) in
    all_renumbered c.requires.tables c.requires.order_value a.site.now a.place.now c.requires.site_len.0 c.requires.site_len.1 (omega (arith, c.if-sites-order-ne0.false)) undo c.loop-g.g c.loop-g-test.false c.loop-g.invariant.2
