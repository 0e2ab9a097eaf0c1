-- `shift::turn_word` meets its contract.
use lib.ListN.{get_or}
use Rattle.packed.proofs.Masks.{turned_one, turned_picked}
use Rattle.packed.proofs.shift.turn_word.Goals as goal

pub returns : goal.returns
returns c =
    let a = c.args in
    let x = get_or a.plane.now 0 0 in
    let m = get_or a.keep.now 0 0 in
    let f = c.slice_known-2-1.given 0 in
    turned_one a.s a.t a.plane.now a.keep.now c.pick.result c.requires.0 f.fits
    (λ k h. turned_picked a.s a.t x m c.lifted.result c.lowered.result c.pick.result k (c.pick.ensures k) (c.lifted.ensures k h) (c.lowered.ensures k))
