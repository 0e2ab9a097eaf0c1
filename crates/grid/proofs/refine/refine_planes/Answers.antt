-- `refine::refine_planes` meets its contract: the X plane is read from bit 0 on, the Z plane after it.
use Prim.Native.Nat.{◌+◌}
use mathlib.Core.Path.{sym, ◌∙◌}
use native.Mathlib.Omega.{arith}
use Rattle.elements.specs.HeldGroup.{generators_in}
use Rattle.packed.specs.Packed.{bit_of}
use Rattle.grid.proofs.BothPlanes.{bits_of, reads_x, reads_z, staged-alone, staged-tired, staged-end}
use Rattle.grid.proofs.refine.refine_planes.Goals as goal

pub refine_plane-stage-requires : goal.refine_plane-stage-requires
refine_plane-stage-requires c = record {
  tables = c.requires.tables;
  order_value = c.requires.order_value;
  steps = c.requires.steps;
  left_len = c.requires.left_len;
}

pub refine_plane-requires : goal.refine_plane-requires
refine_plane-requires c =
    let at = c.refine_plane-stage.auto.at in record {
      tables = c.requires.tables;
      order_value = c.requires.order_value;
      steps = rw (← at) at c.requires.steps;
      left_len = c.refine_plane-stage.auto.left ∙ c.requires.left_len ∙ sym at;
    }

pub returns-in-Alone : goal.returns-in-Alone
returns-in-Alone c =
    let a = c.args in
    let gs = generators_in a.group.now.generators a.group.now.sites a.group.now.targets.now a.group.now.orders.now in
    staged-alone c.requires.tables.valid c.requires.order_value.1 c.requires.order_value.0 a.x.now a.z.now (bit_of c.refine_plane-stage.new.left) c.in-Alone.k (0 + a.group.now.sites) (omega arith)
    ((rw c.in-Alone.is at c.refine_plane-stage.ensures) (bits_of gs a.group.now.sites a.x.now a.z.now) 0 (c.requires.by_index _) (reads_x gs a.group.now.sites a.order a.x.now a.z.now))

pub returns-in-Tired : goal.returns-in-Tired
returns-in-Tired c =
    let a = c.args in
    let gs = generators_in a.group.now.generators a.group.now.sites a.group.now.targets.now a.group.now.orders.now in
    staged-tired c.requires.tables.valid c.requires.order_value.1 c.requires.order_value.0 a.x.now a.z.now (bit_of c.refine_plane-stage.new.left) (0 + a.group.now.sites) (omega arith)
    ((rw c.in-Tired.is at c.refine_plane-stage.ensures) (bits_of gs a.group.now.sites a.x.now a.z.now) 0 (c.requires.by_index _) (reads_x gs a.group.now.sites a.order a.x.now a.z.now))

pub returns-in-Through : goal.returns-in-Through
returns-in-Through c =
    let a = c.args in
    let gs = generators_in a.group.now.generators a.group.now.sites a.group.now.targets.now a.group.now.orders.now in
    staged-end c.requires.tables.valid c.requires.order_value.1 c.requires.order_value.0 a.x.now a.z.now (bit_of c.refine_plane.new.left) c.refine_plane.result
    (c.refine_plane.ensures (bits_of gs a.group.now.sites a.x.now a.z.now) (0 + a.group.now.sites)
    ((rw c.in-Through.is at c.refine_plane-stage.ensures) (bits_of gs a.group.now.sites a.x.now a.z.now) 0 (c.requires.by_index _) (reads_x gs a.group.now.sites a.order a.x.now a.z.now))
    (reads_z gs a.group.now.sites a.order a.x.now a.z.now))
