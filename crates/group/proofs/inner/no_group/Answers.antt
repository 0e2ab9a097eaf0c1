-- `inner::no_group` meets its contract: both lists are the zeros that the definition repeats.
use mathlib.Core.Path.{refl}
use Rattle.group.specs.Value.{no_group}
use Rattle.group.proofs.inner.no_group.Goals as goal

pub returns : goal.returns
unfolding no_group
returns c = refl
