-- `words::unpack` meets its contract. The loop's invariant: the bytes of the first i machine words have their bits.
use Prim.Native.Nat.{ℕ, ◌*◌, ◌≤◌, ◌<◌}
use mathlib.Core.Path.{◌≡◌}
use mathlib.Core.Bool.{false}
use lib.ListN.{length, get_or}
use Rattle.pauli_word.specs.Bytes.{plane_bits}
use Rattle.packed.specs.Packed.{bit_of}
use Rattle.packed.proofs.words.unpack.Given as goal

abbrev pub invariant-loop-i : goal.invariant-loop-i
invariant-loop-i l =
    (l.i ≤ length l.words) × (length l.plane ≡ length l.initial.plane) × ((q : ℕ) → q < 8 * (8 * l.i) → get_or (plane_bits l.plane) q false ≡ bit_of l.words q)
