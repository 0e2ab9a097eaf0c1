-- `plane::bit_at` meets its contract: the digit that is read is the bit of the site.
use mathlib.Core.Path.{sym}
use Rattle.pauli_word.proofs.Planes.{plane_bits-at, plane_bits_past}
use Rattle.pauli_word.proofs.plane.bit_at.Goals as goal

pub returns-then-at-plane : goal.returns-then-at-plane
returns-then-at-plane c = let a = c.args in sym (plane_bits-at a.plane.now a.q)

pub returns-else-at-plane : goal.returns-else-at-plane
returns-else-at-plane c = let a = c.args in sym (plane_bits_past a.plane.now a.q c.if-at-plane.false)
