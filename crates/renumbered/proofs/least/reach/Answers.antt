-- `least::reach` meets its contract: the planes are moved along the axes of the numbers, and read back.
use mathlib.Core.Path.{sym, ◌∙◌}
use mathlib.Core.Logic.{inl}
use native.Mathlib.Omega.{arith}
use Rattle.elements.specs.HeldGroup.{generators_in}
use Rattle.renumbered.specs.Renumbered.{grid_of}
use Rattle.renumbered.proofs.Numbers.{reach-back}
use Rattle.renumbered.proofs.Turning.{grid-turns, grid-rotations}
use Rattle.renumbered.proofs.least.reach.Goals as goal

pub reach_by-requires : goal.reach_by-requires
reach_by-requires c = record {
  rotations = grid-rotations c.requires.tables c.requires.axes c.args.group.now.sites c.requires.renumbered.whole;
  planes_2 = c.requires.planes_2.0;
}

pub gather-requires-2 : goal.gather-requires-2
gather-requires-2 c =
    let p = c.requires.planes_2.0 in
    let e = c.requires.x_len.1 in
    let l = c.requires.renumbered.place_long in record {
      sites_in_bounds = (omega (arith, l, c.requires.tables.sites), omega (arith, l));
      sites_bound = (omega (arith, p.room, e), omega (arith, p.few, e));
    }

pub returns : goal.returns
returns c =
    let a = c.args in
    let p = c.requires.planes_2.0 in
    let lens = c.requires.x_len in
    let gs = generators_in a.group.now.generators a.group.now.sites a.group.now.targets.now a.group.now.orders.now in
    let moved = c.reach_by.ensures.letters (grid_of a.group.now.sites gs) (grid-turns c.requires.tables c.requires.axes a.group.now.sites) in record {
      planes = record {
        few = omega (arith, p.few, lens.0);
        room = omega (arith, p.room, lens.0);
        x_long = c.gather.auto.out;
        z_long = inl (c.gather-2.auto.out ∙ lens.1 ∙ sym lens.0);
        x_clear = c.gather.ensures.clear;
        z_clear = c.gather-2.ensures.clear;
      };
      letters = λ f g x z. reach-back c.requires.tables.valid c.requires.renumbered f g a.index a.u.now a.v.now c.reach_by.new.x c.reach_by.new.z c.gather.new.out c.gather-2.new.out x z moved c.gather.ensures.bits c.gather-2.ensures.bits;
    }
