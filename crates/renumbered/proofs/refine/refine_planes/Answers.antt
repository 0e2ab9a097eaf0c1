-- `refine::refine_planes` meets its contract: the X plane is read from bit 0 on, the Z plane after it.
use Prim.Native.Nat.{◌+◌}
use mathlib.Core.Path.{refl, sym, ◌∙◌}
use mathlib.Core.Bool.{true≢false}
use native.Mathlib.Omega.{arith}
use Rattle.elements.specs.HeldGroup.{generators_in}
use Rattle.packed.specs.Packed.{bit_of, letters_by}
use Rattle.packed.proofs.Packing.{letters_by-length}
use Rattle.renumbered.proofs.ByBits.{bits_of, staged-alone, staged-end}
use Rattle.renumbered.proofs.Numbers.{reads_x, reads_z}
use Rattle.renumbered.proofs.refine.refine_planes.Goals as goal

pub refine_plane-stage-requires : goal.refine_plane-stage-requires
refine_plane-stage-requires c =
    let r = c.requires.renumbered in record {
      tables = c.requires.tables;
      order_value = c.requires.order_value;
      axes = c.requires.axes;
      place_len = (r.place_long, r.place_inside);
      order_bound = c.requires.order_bound;
    }

pub refine_plane-requires : goal.refine_plane-requires
refine_plane-requires c =
    let r = c.requires.renumbered in
    let z = c.requires.order_bound in
    let k = c.refine_plane-stage.auto in record {
      tables = c.requires.tables;
      order_value = c.requires.order_value;
      axes = c.requires.axes;
      place_len = (r.place_long, r.place_inside);
      order_bound = (omega (arith, z.0, k.bits), k.left ∙ z.1 ∙ sym k.bits, omega (arith, z.2, k.bits));
    }

pub returns-in-Alone : goal.returns-in-Alone
returns-in-Alone c =
    let a = c.args in
    let gs = generators_in a.group.now.generators a.group.now.sites a.group.now.targets.now a.group.now.orders.now in record {
      ends = refl;
      left = λ f g x z. staged-alone gs (letters_by a.group.now.sites f g) (letters_by-length a.group.now.sites f g) c.requires.order_value (bit_of c.refine_plane-stage.new.left) c.in-Alone.k (0 + a.group.now.sites) (omega arith)
          ((rw c.in-Alone.is at c.refine_plane-stage.ensures.left) (bits_of a.group.now.sites gs (letters_by a.group.now.sites f g)) 0 (c.requires.by_index _) (reads_x c.requires.tables.valid c.requires.renumbered f g a.order a.x.now x));
    }

pub returns-in-Tired : goal.returns-in-Tired
returns-in-Tired c =
    absurd (true≢false (rw c.in-Tired.is at c.refine_plane-stage.ensures.ends))

pub returns-in-Through : goal.returns-in-Through
returns-in-Through c =
    let a = c.args in
    let gs = generators_in a.group.now.generators a.group.now.sites a.group.now.targets.now a.group.now.orders.now in record {
      ends = c.refine_plane.ensures.ends;
      left = λ f g x z. staged-end gs (letters_by a.group.now.sites f g) (letters_by-length a.group.now.sites f g) c.requires.order_value (bit_of c.refine_plane.new.left) c.refine_plane.result
          (c.refine_plane.ensures.left (bits_of a.group.now.sites gs (letters_by a.group.now.sites f g)) (0 + a.group.now.sites)
          ((rw c.in-Through.is at c.refine_plane-stage.ensures.left) (bits_of a.group.now.sites gs (letters_by a.group.now.sites f g)) 0 (c.requires.by_index _) (reads_x c.requires.tables.valid c.requires.renumbered f g a.order a.x.now x))
          (reads_z c.requires.tables.valid c.requires.renumbered f g a.order a.z.now z));
    }
