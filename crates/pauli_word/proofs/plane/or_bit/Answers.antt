-- `plane::or_bit` meets its contract: a digit that is 0 is set by adding its power of 2, and in every other case nothing changes.
use mathlib.Core.Bool.{false, ◌||◌}
use Prim.Native.Nat.{◌/◌}
use lib.ListN.{get_or}
use Rattle.pauli_word.specs.Bytes.{plane_bits}
use Rattle.pauli_word.proofs.Planes.{or-sets, or-set-already, or_nothing, or_past, or-fits}
use Rattle.pauli_word.proofs.plane.or_bit.Goals as goal

pub overflow_add-plane : goal.overflow_add-plane
overflow_add-plane c = let a = c.args in record { fits = or-fits a.plane.now a.q (c.slice_known-then-plane-at-eq0-1.given (a.q / 8)).fits c.if-plane-at-eq0.true }

pub returns-then-plane-at-eq0 : goal.returns-then-plane-at-eq0
returns-then-plane-at-eq0 c = let a = c.args in or-sets a.plane.now a.q a.b c.if-at-plane.true c.if-b.true c.if-plane-at-eq0.true

pub returns-else-plane-at-eq0 : goal.returns-else-plane-at-eq0
returns-else-plane-at-eq0 c = let a = c.args in or-set-already a.plane.now a.q a.b c.if-plane-at-eq0.false

pub returns-else-b : goal.returns-else-b
returns-else-b c = let a = c.args in or_nothing a.plane.now a.q a.b c.if-b.false

pub returns-else-at-plane : goal.returns-else-at-plane
returns-else-at-plane c = let a = c.args in or_past a.plane.now a.q (get_or (plane_bits a.plane.now) a.q false || a.b) c.if-at-plane.false
