-- `words::pack` meets its contract. The loop's invariant: the first j machine words hold the bits of their bytes.
use Prim.Native.Nat.{ℕ, ◌*◌, ◌≤◌, ◌<◌}
use mathlib.Core.Path.{◌≡◌}
use mathlib.Core.Bool.{false}
use lib.ListN.{length, get_or}
use Rattle.pauli_word.specs.Bytes.{plane_bits}
use Rattle.packed.specs.Packed.{word_bits, bit_of}
use Rattle.packed.proofs.words.pack.Given as goal

abbrev pub invariant-loop-j : goal.invariant-loop-j
invariant-loop-j l = (l.j ≤ length l.initial.words) × (length l.words ≡ length l.initial.words) × ((q : ℕ) → q < word_bits * l.j → bit_of l.words q ≡ get_or (plane_bits l.plane) q false)
