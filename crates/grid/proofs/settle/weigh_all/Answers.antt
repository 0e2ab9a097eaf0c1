use mathlib.Core.Path.{◌≡◌, refl, ◌∙◌}
use native.Mathlib.Omega.{arith}
use Rattle.grid.proofs.Settling.{knows_start}
use Rattle.grid.proofs.settle.weigh_all.Goals as goal

pub loop-k-init : goal.loop-k-init
loop-k-init c = (omega arith, c.requires.planes.1, c.requires.weighed, knows_start c.requires.first_value, refl, refl, refl, refl)

pub weigh_next-known-requires : goal.weigh_next-known-requires
weigh_next-known-requires c =
    let l = c.loop-k in
    let long = c.requires.u_len in record {
      tables = c.requires.tables;
      shapes = c.requires.shapes;
      planes_2 = (c.requires.planes.0, l.invariant.1);
      u_len = (l.invariant.4 ∙ long.0, l.invariant.5 ∙ long.1, l.invariant.6 ∙ long.2);
      k_bound = omega (arith, c.requires.order_bound, c.loop-k-test.true, l.invariant.7);
      weighed_2 = l.invariant.2;
      knows = l.invariant.3;
    }

pub loop-k-preserved : goal.loop-k-preserved
loop-k-preserved c =
    let l = c.loop-k in (
      omega (arith, c.loop-k-test.true),
      c.weigh_next-known.ensures.planes,
      c.weigh_next-known.ensures.weighed,
      c.weigh_next-known.ensures.known,
      c.weigh_next-known.auto.u ∙ l.invariant.4,
      c.weigh_next-known.auto.v ∙ l.invariant.5,
      c.weigh_next-known.auto.zs ∙ l.invariant.6,
      c.weigh_next-known.auto.found ∙ l.invariant.7,
    )

pub returns : goal.returns
returns c =
    let l = c.loop-k in
    let end : l.k ≡ c.args.order = omega (arith, l.invariant.0, c.loop-k-test.false) in
    rw end at l.invariant.2
