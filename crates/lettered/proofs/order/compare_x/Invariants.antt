-- `order::compare_x` meets its contract. The loop's invariant: the codes compare as those from site q on.
use Prim.Native.Nat.{◌≤◌}
use mathlib.Core.Path.{◌≡◌}
use mathlib.Core.List.{map}
use lib.ListN.{length, drop}
use Rattle.pauli_word.specs.Calls.{order_of_bits}
use Rattle.elements.proofs.Codes.{x_of}
use Rattle.lettered.proofs.order.compare_x.Given as goal

abbrev pub invariant-loop-q : goal.invariant-loop-q
invariant-loop-q l = (l.q ≤ length l.a) × (order_of_bits (map x_of l.a) (map x_of l.b) ≡ order_of_bits (map x_of (drop l.q l.a)) (map x_of (drop l.q l.b)))
