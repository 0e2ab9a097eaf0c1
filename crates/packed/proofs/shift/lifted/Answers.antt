-- `shift::lifted` meets its contract.
use Rattle.packed.proofs.Shifts.{lift_some, lift_all}
use Rattle.packed.proofs.shift.lifted.Goals as goal

pub returns-then-s-lt-WORD_BITS : goal.returns-then-s-lt-WORD_BITS
returns-then-s-lt-WORD_BITS c =
    let a = c.args in
    λ k h. lift_some a.x a.s k h c.if-s-lt-WORD_BITS.true

pub returns-else-s-lt-WORD_BITS : goal.returns-else-s-lt-WORD_BITS
returns-else-s-lt-WORD_BITS c =
    let a = c.args in
    λ k h. lift_all a.x a.s k h c.if-s-lt-WORD_BITS.false
