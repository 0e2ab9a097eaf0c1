-- `order::compare_z` meets its contract. The loop's invariant: the codes compare as those from site q on.
use Prim.Native.Nat.{◌≤◌}
use mathlib.Core.Path.{◌≡◌}
use mathlib.Core.List.{map}
use lib.ListN.{length, drop}
use Rattle.pauli_word.specs.Calls.{order_of_bits}
use Rattle.elements.proofs.Codes.{z_of}
use Rattle.lettered.proofs.order.compare_z.Given as goal

abbrev pub invariant-loop-q : goal.invariant-loop-q
invariant-loop-q l = (l.q ≤ length l.a) × (order_of_bits (map z_of l.a) (map z_of l.b) ≡ order_of_bits (map z_of (drop l.q l.a)) (map z_of (drop l.q l.b)))
