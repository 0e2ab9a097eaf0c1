-- `axes::axis_shape` meets its contract: the identity along an axis of one place, and a rotation inside one round along any other.
use Prim.Native.Nat.{◌-◌, ◌<◌}
use mathlib.Core.Path.{refl}
use native.Mathlib.Nat.{mul-pos}
use native.Mathlib.Omega.{arith}
use Rattle.grid.proofs.Grids.{axis_one, axis_round}
use Rattle.renumbered.proofs.Filling.{round_rest}
use Rattle.renumbered.proofs.axes.axis_shape.Goals as goal

pub overflow_mul-result : goal.overflow_mul-result
overflow_mul-result c = omega (arith, round_rest c.args.place c.args.order c.requires.1, c.requires.2)

pub returns-then-order-eq1 : goal.returns-then-order-eq1
returns-then-order-eq1 c = record {
  axis = axis_one c.args.place c.if-order-eq1.true refl refl;
  some = omega arith;
  small = omega arith;
}

pub returns-else-order-eq1 : goal.returns-else-order-eq1
returns-else-order-eq1 c =
    let a = c.args in
    let round = round_rest a.place a.order c.requires.1 in
    let more : 0 < a.order - 1 = omega (arith, c.if-order-eq1.false, c.requires.1) in record {
      axis = axis_round c.requires.0 c.requires.1 refl round;
      some = mul-pos c.requires.0 more;
      small = omega (arith, round, c.requires.2);
    }
