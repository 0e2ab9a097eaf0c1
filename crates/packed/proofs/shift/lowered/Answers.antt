-- `shift::lowered` meets its contract.
use Rattle.packed.proofs.Shifts.{lower_some, lower_all}
use Rattle.packed.proofs.shift.lowered.Goals as goal

pub returns-then-t-lt-WORD_BITS : goal.returns-then-t-lt-WORD_BITS
returns-then-t-lt-WORD_BITS c =
    let a = c.args in
    λ k. lower_some a.x a.t k

pub returns-else-t-lt-WORD_BITS : goal.returns-else-t-lt-WORD_BITS
returns-else-t-lt-WORD_BITS c =
    λ k. lower_all c.args.x c.args.t k c.ranges.x.fits c.if-t-lt-WORD_BITS.false
