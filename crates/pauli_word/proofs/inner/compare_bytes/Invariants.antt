-- `inner::compare_bytes` meets its contract. The loop's invariant: the words compare as their bytes from i on.
use Prim.Native.Nat.{◌≤◌, min}
use mathlib.Core.Path.{◌≡◌}
use lib.ListN.{length, drop}
use Rattle.pauli_word.specs.Bytes.{plane_bits}
use Rattle.pauli_word.specs.Calls.{order_of_bits}
use Rattle.pauli_word.proofs.inner.compare_bytes.Given as goal

abbrev pub invariant-loop-i : goal.invariant-loop-i
invariant-loop-i l = (l.n ≡ min (length l.a) (length l.b)) × (l.i ≤ l.n) × (order_of_bits (plane_bits l.a) (plane_bits l.b) ≡ order_of_bits (plane_bits (drop l.i l.a)) (plane_bits (drop l.i l.b)))
