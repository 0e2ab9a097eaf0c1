use mathlib.Core.Path.{refl, sym, ◌∙◌}
use native.Mathlib.Omega.{arith}
use Rattle.elements.specs.HeldGroup.{generators_in}
use Rattle.packed.specs.Packed.{bit_of}
use Rattle.renumbered.proofs.Turning.{order_some}
use Rattle.renumbered.proofs.Sites.{read_start, read-alone, read_next, read_end}
use Rattle.renumbered.proofs.refine.refine_plane.Goals as goal

pub loop-q-init : goal.loop-q-init
loop-q-init c =
    let a = c.args in
    (refl, refl, read_start (generators_in a.group.now.generators a.group.now.sites a.group.now.targets.now a.group.now.orders.now) a.group.now.sites a.order (bit_of a.plane.now) a.place.now (bit_of a.left.now))

pub bounds-place-q : goal.bounds-place-q
bounds-place-q c = omega (arith, c.loop-q-test.true, c.requires.tables.sites, c.requires.place_len.0)

pub bits_at-requires : goal.bits_at-requires
bits_at-requires c =
    let l = c.loop-q in
    let z = c.requires.order_bound in
    let e = l.invariant.0 in record {
      tables = c.requires.tables;
      order_value = c.requires.order_value;
      axes = c.requires.axes;
      a_lt_max_sites = (omega (arith, c.requires.place_len.1 l.q c.loop-q-test.true, c.requires.tables.sites), omega (arith, z.0, e), omega (arith, z.2, e));
    }

pub strike_round-told-requires : goal.strike_round-told-requires
strike_round-told-requires c =
    let l = c.loop-q in
    let z = c.requires.order_bound in
    let e = c.bits_at.auto.bits ∙ l.invariant.0 in
    let some = order_some c.requires.tables.valid c.requires.order_value in
    (e ∙ sym z.1 ∙ sym l.invariant.1, omega (arith, l.invariant.1, z.0, z.1, some), omega (arith, l.invariant.1, z.1, z.2))

pub returns-in-Alone : goal.returns-in-Alone
returns-in-Alone c = record {
  ends = refl;
  left = read-alone c.loop-q.invariant.2 c.loop-q-test.true (bit_of c.bits_at.new.bits) c.bits_at.ensures.bits (bit_of c.strike_round-told.new.left) c.strike_round-told.ensures.left c.in-Alone.k (rw c.in-Alone.is at c.strike_round-told.ensures.alone);
}

pub loop-q-preserved : goal.loop-q-preserved
loop-q-preserved c =
    let l = c.loop-q in (
      c.bits_at.auto.bits ∙ l.invariant.0,
      c.strike_round-told.auto.left ∙ l.invariant.1,
      read_next l.invariant.2 c.loop-q-test.true (bit_of c.bits_at.new.bits) c.bits_at.ensures.bits (bit_of c.strike_round-told.new.left) c.strike_round-told.ensures.left,
    )

pub returns : goal.returns
returns c = record {
  ends = refl;
  left = read_end c.loop-q.invariant.2 c.loop-q-test.false;
}
