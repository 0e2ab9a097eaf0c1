-- `planes::turn` meets its contract: each plane is rotated (`turned-planes`, `turned-letters`).
use mathlib.Core.Path.{refl, sym, ◌∙◌}
use native.Mathlib.Omega.{arith}
use Rattle.packed.specs.Packed.{rotated}
use Rattle.rotation.proofs.Moved.{turned-planes, turned-letters, nothing_bit, z_long_lem}
use Rattle.rotation.proofs.planes.turn.Goals as goal

pub rotate_kept-requires : goal.rotate_kept-requires
rotate_kept-requires c =
    let p = c.requires.planes_2 in
    let bl = c.requires.blocks in
    let long = p.x_long in record {
      plane_len_bound = (rw long p.few, sym long);
      block_nonzero = (omega (arith, bl.inside), omega (arith, bl.inside), bl.whole, rw long p.room);
      clear_2 = (p.x_clear, c.requires.mask);
    }

pub rotate_kept-requires-then-z-gt0 : goal.rotate_kept-requires-then-z-gt0
rotate_kept-requires-then-z-gt0 c =
    let p = c.requires.planes_2 in
    let bl = c.requires.blocks in
    let long = z_long_lem p c.if-z-gt0.true in record {
      plane_len_bound = (rw long p.few, sym long);
      block_nonzero = (omega (arith, bl.inside), omega (arith, bl.inside), bl.whole, rw long p.room);
      clear_2 = (p.z_clear, c.requires.mask);
    }

pub returns-then-z-gt0 : goal.returns-then-z-gt0
returns-then-z-gt0 c =
    let p = c.requires.planes_2 in
    let bl = c.requires.blocks in record {
      planes = turned-planes bl p c.rotate_kept.new.plane c.rotate_kept-then-z-gt0.new.plane c.rotate_kept.auto.plane c.rotate_kept-then-z-gt0.auto.plane c.rotate_kept.ensures.clear c.rotate_kept-then-z-gt0.ensures.clear;
      letters = turned-letters bl p c.rotate_kept.new.plane c.rotate_kept-then-z-gt0.new.plane c.rotate_kept.auto.plane c.rotate_kept-then-z-gt0.auto.plane c.rotate_kept.ensures.moved c.rotate_kept-then-z-gt0.ensures.moved;
    }

pub returns-else-z-gt0 : goal.returns-else-z-gt0
returns-else-z-gt0 c =
    let p = c.requires.planes_2 in
    let bl = c.requires.blocks in
    let z = c.args.z.now in
    let nothing = nothing_bit z (omega (arith, c.if-z-gt0.false)) in record {
      planes = turned-planes bl p c.rotate_kept.new.plane z c.rotate_kept.auto.plane refl c.rotate_kept.ensures.clear p.z_clear;
      letters = turned-letters bl p c.rotate_kept.new.plane z c.rotate_kept.auto.plane refl c.rotate_kept.ensures.moved (λ q h. nothing (rotated c.args.stride c.args.block q) ∙ sym (nothing q));
    }
