-- `numbers::in_planes` meets its contract: the word in planes, read through the table, the candidates that refining leaves, and the least word by where it stopped.
use Rattle.packed.specs.Packed.{bit_of}
use native.Mathlib.Omega.{arith}
use mathlib.Core.Logic.{inl}
use mathlib.Core.Path.{refl, sym, ◌∙◌}
use Rattle.ways.proofs.numbers.in_planes.Goals as goal

pub gather-requires-2 : goal.gather-requires-2
gather-requires-2 c =
    let q = c.requires.u_len_bound in
    let long = c.requires.renumbered.site_long in record {
      sites_in_bounds = (omega (arith, c.requires.tables.sites, long), omega (arith, long));
      sites_bound = (rw q.2 q.1, rw q.2 q.0);
    }

pub refine-stage-requires : goal.refine-stage-requires
refine-stage-requires c =
    let q = c.requires.order_bound in record {
      tables = c.requires.tables;
      order_value = c.requires.order_value;
      axes = c.requires.axes;
      renumbered = c.requires.renumbered;
      order_bound = (q.0, q.1);
    }

pub by_stage-requires : goal.by_stage-requires
by_stage-requires c =
    let q = c.requires.u_len_bound in
    let x = c.pack_planes.new.x in
    let z = c.pack_planes.new.z in
    let word = c.pack_planes.ensures.letters in
    let ul = c.gather.auto.out in
    let vl = c.gather-2.auto.out ∙ q.2 ∙ sym ul in
    let xl = c.pack_planes.auto.x ∙ q.3 ∙ sym ul in
    let zl = c.pack_planes.auto.z ∙ q.4 ∙ sym ul in
    let staged = rw word at (c.refine-stage.ensures.left (bit_of x) (bit_of z) c.gather.ensures.bits c.gather-2.ensures.bits) in record {
      tables = c.requires.tables;
      order_value = c.requires.order_value;
      axes = c.requires.axes;
      renumbered = c.requires.renumbered;
      accepted_word = (c.requires.accepted_word, c.refine-stage.ensures.ends, staged);
      planes = (record { few = rw ul q.0; room = rw ul q.1; x_long = refl; z_long = inl vl; x_clear = c.gather.ensures.clear; z_clear = c.gather-2.ensures.clear }, vl, xl, zl);
      read_through = record { x = bit_of x; z = bit_of z; word = word; x_read = c.gather.ensures.bits; z_read = c.gather-2.ensures.bits };
      out_len = c.requires.order_bound.2;
    }
