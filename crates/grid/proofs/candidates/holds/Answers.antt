-- `candidates::holds` meets its contract.
use Prim.Native.Nat.{ℕ, ◌%◌}
use mathlib.Core.Path.{ap}
use Rattle.packed.specs.Packed.{word_bits, bit_at, bit_of}
use Rattle.grid.proofs.candidates.holds.Goals as goal

pub returns : goal.returns
unfolding bit_of
returns c = let a = c.args in ap (λ (x : ℕ). bit_at x (a.k % word_bits)) c.word_or_zero-word.ensures
