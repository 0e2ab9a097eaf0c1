-- `block::alike` meets its contract.
use Rattle.packed.specs.Packed.{bit_of}
use Rattle.grid.proofs.Blocks.{alike_none, alike_every}
use Rattle.grid.proofs.block.alike.Goals as goal

pub returns-then-no_bit : goal.returns-then-no_bit
returns-then-no_bit c = λ e j k h l. alike_none (bit_of c.args.at.now) (c.no_bit.ensures c.if-no_bit.true) j k

pub returns-else-no_bit : goal.returns-else-no_bit
returns-else-no_bit c = λ e. alike_every (bit_of c.args.at.now) c.args.order (c.every_bit.ensures e)
