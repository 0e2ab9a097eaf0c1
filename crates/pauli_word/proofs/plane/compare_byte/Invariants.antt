-- `plane::compare_byte` meets its contract. The loop's invariant: the two bytes compare as what is left of them, 8 - k digits.
use Prim.Native.Nat.{◌-◌, ◌≤◌}
use mathlib.Core.Path.{◌≡◌}
use Rattle.pauli_word.specs.Bytes.{low_bits}
use Rattle.pauli_word.specs.Calls.{order_of_bits}
use Rattle.pauli_word.proofs.plane.compare_byte.Given as goal

abbrev pub invariant-loop-k : goal.invariant-loop-k
invariant-loop-k l = (l._k ≤ 8) × (order_of_bits (low_bits 8 l.x) (low_bits 8 l.y) ≡ order_of_bits (low_bits (8 - l._k) l.a) (low_bits (8 - l._k) l.b))
