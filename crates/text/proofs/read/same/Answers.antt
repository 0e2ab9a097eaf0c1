-- `read::same` meets its contract: `==` compares byte by byte (`pointwise_same`).
use mathlib.Core.Path.{◌∙◌}
use Rattle.text.proofs.Pieces.{pointwise_same}
use Rattle.text.proofs.read.same.Goals as goal

pub returns : goal.returns
returns c = c.eq.ensures ∙ pointwise_same c.args.a.now c.args.b.now
