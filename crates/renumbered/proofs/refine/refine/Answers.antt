-- `refine::refine` meets its contract: all candidates are left at first.
use Prim.Native.Nat.{◌+◌, ◌<◌}
use mathlib.Core.Path.{sym, ap, ◌∙◌}
use mathlib.Core.Bool.{Bool, not, ◌&&◌}
use native.Mathlib.Omega.{arith}
use borrow.Author.Tests.{le-ltb}
use lib.Dec.{ltb}
use lib.ListN.{length}
use Rattle.packed.specs.Packed.{plane_words}
use Rattle.rotation.proofs.Packs.{fresh-length}
use Rattle.grid.proofs.Refining.{left-start}
use Rattle.renumbered.proofs.Turning.{order_some}
use Rattle.renumbered.proofs.refine.refine.Goals as goal

pub refine_planes-requires : goal.refine_planes-requires
refine_planes-requires c =
    let m = length c.fill_run.new.mask in
    let e = c.fill_run.auto.mask in
    let z = c.requires.order_bound in
    let few : m < plane_words + 1 = omega (arith, e, z.1) in
    let long = fresh-length m (omega (arith, few)) in
    let some = order_some c.requires.tables.valid c.requires.order_value in record {
      tables = c.requires.tables;
      order_value = c.requires.order_value;
      axes = c.requires.axes;
      renumbered = c.requires.renumbered;
      order_bound = (omega (arith, long, e, z.0), sym long, omega (arith, long, few));
      by_index = λ F. left-start some (λ k. c.fill_run.ensures k ∙ ap (λ (t : Bool). not t && ltb k c.args.order) (le-ltb k 0 (omega arith)));
    }
