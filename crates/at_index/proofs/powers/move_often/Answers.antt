use mathlib.Core.Path.{refl, sym, ◌∙◌}
use native.Mathlib.Omega.{arith}
use Rattle.action.specs.Orbit.{moves}
use Rattle.at_index.proofs.Squares.{squared-permutes}
use Rattle.at_index.proofs.Going.{going_start, going-last, halved_next}
use Rattle.at_index.proofs.powers.move_often.Goals as goal

pub loop-left-init : goal.loop-left-init
loop-left-init c =
    (c.requires.room_len, refl, c.requires.spare_len, c.requires.permutes, going_start (moves c.args.count c.args.perm.now) c.args.here.now)

pub move_by_digit-requires : goal.move_by_digit-requires
move_by_digit-requires c =
    let l = c.loop-left in record {
      digit_bound = omega arith;
      permutes = rw l.invariant.1 l.invariant.3;
      spare_len = l.invariant.2 ∙ sym l.invariant.1;
    }

pub square-requires : goal.square-requires
square-requires c =
    let l = c.loop-left in record {
      permutes = rw l.invariant.3.long l.invariant.3;
      room_len = l.invariant.0 ∙ sym l.invariant.3.long;
    }

pub loop-left-smaller : goal.loop-left-smaller
loop-left-smaller c = omega (arith, c.loop-left-test.true)

pub loop-left-preserved : goal.loop-left-preserved
loop-left-preserved c =
    let l = c.loop-left in (
      c.square.auto.room ∙ l.invariant.0,
      c.move_by_digit.auto.here ∙ l.invariant.1,
      c.move_by_digit.auto.spare ∙ l.invariant.2,
      rw c.square.ensures (squared-permutes l.invariant.3),
      rw c.square.ensures (halved_next l.invariant.3 l.left l.invariant.1 l.invariant.4 c.move_by_digit.ensures),
    )

pub move_by_digit-requires-2 : goal.move_by_digit-requires-2
move_by_digit-requires-2 c =
    let l = c.loop-left in record {
      digit_bound = omega arith;
      permutes = rw l.invariant.1 l.invariant.3;
      spare_len = l.invariant.2 ∙ sym l.invariant.1;
    }

pub returns : goal.returns
returns c = going-last c.loop-left.invariant.4 c.move_by_digit-2.ensures (λ v. refl)
