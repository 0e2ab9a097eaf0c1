-- `one::round_word` meets its contract: a word that has no bit in common with the number before it has one bit, the first.
use mathlib.Core.Path.{◌≡◌}
use native.Mathlib.Omega.{arith}
use Rattle.grid.proofs.Sets.{first_bit}
use Rattle.grid.proofs.OneWord.{alone-first}
use Rattle.grid.proofs.one.round_word.Goals as goal

pub overflow_sub-after : goal.overflow_sub-after
overflow_sub-after c =
    let some : c.args.after ≡ 0 → ⊥ = λ e. c.if-after-before.false (c.requires e) in
    omega (arith, some)

pub overflow_cast-result : goal.overflow_cast-result
overflow_cast-result c =
    let some : c.args.after ≡ 0 → ⊥ = λ e. c.if-after-before.false (c.requires e) in
    omega (arith, (first_bit c.args.after some c.ranges.after.fits).0)

pub returns-then-after-eq0 : goal.returns-then-after-eq0
returns-then-after-eq0 c =
    let some : c.args.after ≡ 0 → ⊥ = λ e. c.if-after-before.false (c.requires e) in
    alone-first c.args.after some c.ranges.after.fits c.if-after-eq0.true
