use mathlib.Core.Path.{sym, ◌∙◌}
use native.Mathlib.Omega.{arith}
use Rattle.text.specs.Text.{max_digits}
use Rattle.text.proofs.Decimals.{Filled, filled-start, filled-place, filled_next, filled-end}
use Rattle.text.proofs.write.fill_digits.Goals as goal

pub overflow_sub-i : goal.overflow_sub-i
overflow_sub-i c = omega arith

pub overflow_cast-digits : goal.overflow_cast-digits
overflow_cast-digits c = omega arith

pub overflow_add-digits : goal.overflow_add-digits
overflow_add-digits c = omega arith

pub bounds-digits-i : goal.bounds-digits-i
bounds-digits-i c = omega (arith, c.requires.1)

pub loop-rest-init : goal.loop-rest-init
loop-rest-init c = filled-start max_digits c.args.number c.args.digits.now (omega arith) c.requires.0 c.requires.1

pub overflow_sub-i-in-loop-rest : goal.overflow_sub-i-in-loop-rest
overflow_sub-i-in-loop-rest c =
    let l = c.loop-rest in
    filled-place max_digits c.args.number l.digits l.rest l.i (omega arith) l.invariant (omega (arith, c.loop-rest-test.true))

pub overflow_cast-digits-in-loop-rest : goal.overflow_cast-digits-in-loop-rest
overflow_cast-digits-in-loop-rest c = omega arith

pub overflow_add-digits-in-loop-rest : goal.overflow_add-digits-in-loop-rest
overflow_add-digits-in-loop-rest c = omega arith

pub bounds-digits-i-in-loop-rest : goal.bounds-digits-i-in-loop-rest
bounds-digits-i-in-loop-rest c = omega (arith, c.loop-rest.invariant.0, c.loop-rest.invariant.1)

pub loop-rest-smaller : goal.loop-rest-smaller
loop-rest-smaller c = omega (arith, c.loop-rest-test.true)

pub loop-rest-preserved : goal.loop-rest-preserved
loop-rest-preserved c =
    let l = c.loop-rest in
    filled_next max_digits c.args.number l.digits l.rest l.i (omega arith) l.invariant (omega (arith, c.loop-rest-test.true))

pub returns : goal.returns
returns c =
    let l = c.loop-rest in
    let it = filled-end max_digits c.args.number l.digits l.rest l.i (omega arith) l.invariant (omega (arith, c.loop-rest-test.false)) in record {
      place = it.0;
      digits = it.1;
    }
