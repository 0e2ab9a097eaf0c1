-- `plane::clear_from` meets its contract. The loop's invariant: the plane is clear from n on exactly if the rest of byte n / 8 and the bytes before j,
-- put together, and those from j on are 0.
use Prim.Native.Nat.{◌≤◌}
use mathlib.Core.Path.{◌≡◌}
use mathlib.Core.Bool.{◌&&◌}
use lib.Dec.{eqb}
use lib.ListN.{length, drop}
use Rattle.pauli_word.specs.Bytes.{plane_bits, clear, clear_from}
use Rattle.pauli_word.proofs.plane.clear_from.Given as goal

abbrev pub invariant-loop-j : goal.invariant-loop-j
invariant-loop-j l = (l.j ≤ length l.plane) × (clear_from l.n l.plane ≡ (eqb l.any 0 && clear (plane_bits (drop l.j l.plane))))
