-- `words::compare` meets its contract. The loop's invariant: the first i machine words have the same bits.
use Prim.Native.Nat.{ℕ, ◌*◌, ◌≤◌, ◌<◌}
use mathlib.Core.Path.{◌≡◌}
use lib.ListN.{length}
use Rattle.packed.specs.Packed.{word_bits, bit_of}
use Rattle.packed.proofs.words.compare.Given as goal

abbrev pub invariant-loop-i : goal.invariant-loop-i
invariant-loop-i l = (l.i ≤ length l.a) × ((q : ℕ) → q < word_bits * l.i → bit_of l.a q ≡ bit_of l.b q)
