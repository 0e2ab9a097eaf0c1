-- `refine::bits_at` meets its contract: the block that the number is in, moved by the inverse of its place there.
use mathlib.Core.List.{[]}
use mathlib.Core.Path.{refl}
use mathlib.Core.Logic.{inr}
use native.Mathlib.Nat.{div-add-mod}
use native.Mathlib.Omega.{arith}
use Rattle.elements.specs.HeldGroup.{generators_in}
use Rattle.packed.proofs.Packing.{nothing_clear}
use Rattle.renumbered.specs.Renumbered.{grid_of}
use Rattle.renumbered.proofs.Turning.{grid-turns, grid-rotations, order_some, block-whole, block-bits}
use Rattle.renumbered.proofs.refine.bits_at.Goals as goal

pub nonzero_rem-h : goal.nonzero_rem-h
nonzero_rem-h c = order_some c.requires.tables.valid c.requires.order_value

pub overflow_sub-a : goal.overflow_sub-a
overflow_sub-a c = omega (arith, div-add-mod c.args.a c.args.order)

pub reach_by-requires : goal.reach_by-requires
reach_by-requires c =
    let e = c.take_block.auto.at in record {
      rotations = grid-rotations c.requires.tables c.requires.axes c.args.order (block-whole c.requires.tables.valid c.requires.order_value);
      planes_2 = record {
        few = omega (arith, e, c.requires.a_lt_max_sites.2);
        room = omega (arith, e, c.requires.a_lt_max_sites.1);
        x_long = refl;
        z_long = inr refl;
        x_clear = c.take_block.ensures.clear;
        z_clear = nothing_clear c.args.order;
      };
    }

pub returns : goal.returns
returns c =
    let a = c.args in
    let gs = generators_in a.group.now.generators a.group.now.sites a.group.now.targets.now a.group.now.orders.now in
    let moved = c.reach_by.ensures.letters (grid_of a.order gs) (grid-turns c.requires.tables c.requires.axes a.order) in record {
      bits = block-bits c.requires.tables.valid c.requires.order_value a.a a.plane.now c.take_block.new.at [] c.reach_by.new.x c.reach_by.new.z c.take_block.ensures.bits (rw c.invert-back.ensures at moved);
      clear = c.reach_by.ensures.planes.x_clear;
    }
