-- `shift::rotate_kept` meets its contract.
use native.Mathlib.Omega.{arith}
use Rattle.packed.proofs.Masks.{block_fits, turned_plane, turned_none}
use Rattle.packed.proofs.shift.rotate_kept.Goals as goal

pub returns-then-sites-eq0 : goal.returns-then-sites-eq0
returns-then-sites-eq0 c =
    let a = c.args in
    let it = turned_none a.stride a.block a.sites a.plane.now c.if-sites-eq0.true c.requires.clear_2.0 in record {
      moved = it.0;
      clear = it.1;
    }

pub returns-then-plane-eq1 : goal.returns-then-plane-eq1
returns-then-plane-eq1 c =
    let a = c.args in
    let p = c.requires.block_nonzero in
    let it = turned_plane a.stride a.block a.sites a.plane.now a.keep.now c.turn_word.new.plane p.0 p.1 p.2 p.3 c.turn_word.auto.plane c.requires.clear_2.0 c.requires.clear_2.1 c.turn_word.ensures in record {
      moved = it.0;
      clear = it.1;
    }

pub turn_few-requires : goal.turn_few-requires
turn_few-requires c =
    let few = c.if-plane-le-FEW_WORDS.true in
    let fits = block_fits c.args.block c.args.sites c.requires.block_nonzero.2 (omega arith) in record {
      plane_len_bound = (few, c.requires.plane_len_bound.1);
      s_bound = omega (arith, few, fits, c.requires.plane_len_bound, c.requires.block_nonzero);
    }

pub returns-then-plane-le-FEW_WORDS : goal.returns-then-plane-le-FEW_WORDS
returns-then-plane-le-FEW_WORDS c =
    let a = c.args in
    let p = c.requires.block_nonzero in
    let it = turned_plane a.stride a.block a.sites a.plane.now a.keep.now c.turn_few.new.plane p.0 p.1 p.2 p.3 c.turn_few.auto.plane c.requires.clear_2.0 c.requires.clear_2.1 c.turn_few.ensures in record {
      moved = it.0;
      clear = it.1;
    }

pub turn_words-requires : goal.turn_words-requires
turn_words-requires c =
    let fits = block_fits c.args.block c.args.sites c.requires.block_nonzero.2 (omega arith) in record {
      plane_len_bound = (c.requires.plane_len_bound.0, c.requires.plane_len_bound.1);
      s_bound = omega (arith, fits, c.requires.plane_len_bound, c.requires.block_nonzero);
    }

pub returns : goal.returns
returns c =
    let a = c.args in
    let p = c.requires.block_nonzero in
    let it = turned_plane a.stride a.block a.sites a.plane.now a.keep.now c.turn_words.new.plane p.0 p.1 p.2 p.3 c.turn_words.auto.plane c.requires.clear_2.0 c.requires.clear_2.1 c.turn_words.ensures in record {
      moved = it.0;
      clear = it.1;
    }
