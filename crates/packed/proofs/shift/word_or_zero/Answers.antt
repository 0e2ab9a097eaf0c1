-- `shift::word_or_zero` meets its contract: past its end a list gives 0.
use mathlib.Core.Path.{sym}
use lib.ListN.{get_or-eq_default}
use Rattle.packed.proofs.shift.word_or_zero.Goals as goal

pub returns-else-i-plane : goal.returns-else-i-plane
returns-else-i-plane c = sym (get_or-eq_default c.args.plane.now 0 c.if-i-plane.false)
