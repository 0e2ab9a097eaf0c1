-- `shape::round` meets its contract.
use Rattle.rotation.proofs.Shaping.{round_below, round_above}
use Rattle.rotation.proofs.shape.round.Goals as goal

pub returns-then-place-block : goal.returns-then-place-block
returns-then-place-block c = round_below c.args.place c.args.block c.if-place-block.true

pub returns-else-place-block : goal.returns-else-place-block
returns-else-place-block c = round_above c.args.place c.args.block c.if-place-block.false c.requires
