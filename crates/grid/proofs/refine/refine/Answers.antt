-- `refine::refine` meets its contract: all candidates are left at first.
use Prim.Native.Nat.{◌+◌, ◌<◌}
use mathlib.Core.Path.{sym, ap, ◌∙◌}
use native.Mathlib.Omega.{arith}
use mathlib.Core.Bool.{Bool, not, ◌&&◌}
use lib.Dec.{ltb}
use borrow.Author.Tests.{le-ltb}
use lib.ListN.{length}
use Rattle.packed.specs.Packed.{plane_words}
use Rattle.rotation.proofs.Packs.{fresh-length}
use Rattle.grid.proofs.Refining.{left-start}
use Rattle.grid.proofs.Grids.{grid-of}
use Rattle.grid.proofs.Rounds.{order_some}
use Rattle.grid.proofs.refine.refine.Goals as goal

pub fill_run-requires : goal.fill_run-requires
fill_run-requires c = (omega arith, c.requires.steps.room)

pub slice_bounds-at-end : goal.slice_bounds-at-end
slice_bounds-at-end c = omega (arith, c.fill_run.auto.mask, c.requires.steps.few)

pub refine_planes-requires : goal.refine_planes-requires
refine_planes-requires c =
    let m = length c.fill_run.new.mask in
    let e = c.fill_run.auto.mask in
    let t = c.requires.steps in
    let few : m < plane_words + 1 = omega (arith, e, t.few) in
    let long = fresh-length m (omega (arith, few)) in
    let g = grid-of c.requires.tables c.requires.shapes t.axes in
    let some = order_some c.requires.tables.valid c.requires.order_value in record {
      tables = c.requires.tables;
      order_value = (c.requires.order_value, g);
      steps = rw (long, e) t;
      left_len = sym long;
      by_index = λ F. left-start some (λ k. c.fill_run.ensures k ∙ ap (λ (t : Bool). not t && ltb k c.args.order) (le-ltb k 0 (omega arith)));
    }

pub returns : goal.returns
returns c = c.refine_planes.ensures
