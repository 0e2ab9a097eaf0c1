-- `powers::move_by_digit` meets its contract.
use Prim.Native.Nat.{ℕ}
use mathlib.Core.Path.{◌≡◌, sym, ap, ◌∙◌}
use native.Mathlib.Omega.{arith}
use Rattle.action.specs.Orbit.{moves}
use Rattle.elements.specs.Letters.{codes}
use Rattle.at_index.proofs.powers.move_by_digit.Goals as goal

pub returns-then-digit-eq1 : goal.returns-then-digit-eq1
unfolding moves
returns-then-digit-eq1 c = λ w e.
    let digit = c.if-digit-eq1.true in
    c.copy.ensures ∙ c.move_letters.ensures w e ∙ ap (λ (d : ℕ). codes (moves d c.args.perm.now w)) (sym digit)

pub returns-else-digit-eq1 : goal.returns-else-digit-eq1
unfolding moves
returns-else-digit-eq1 c = λ w e.
    let none : c.args.digit ≡ 0 = omega arith in
    e ∙ ap (λ (d : ℕ). codes (moves d c.args.perm.now w)) (sym none)
