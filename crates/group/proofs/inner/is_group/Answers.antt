-- `inner::is_group` meets its contract: it hands the value's tables to the function that looks through them.
use Rattle.group.specs.Value.{is_group}
use Rattle.group.proofs.inner.is_group.Goals as goal

pub returns : goal.returns
unfolding is_group
returns c = c.hold_group.ensures
