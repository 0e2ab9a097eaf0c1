-- `shift::pick` meets its contract.
use Rattle.packed.proofs.Shifts.{bit_pick}
use Rattle.packed.proofs.shift.pick.Goals as goal

pub returns : goal.returns
returns c = λ k. bit_pick c.args.mask c.args.a c.args.b k
