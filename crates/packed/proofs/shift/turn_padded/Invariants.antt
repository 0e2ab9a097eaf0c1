-- `shift::turn_padded` meets its contract. The loop's invariant: the words before i are turned.
use Prim.Native.Nat.{ℕ, ◌+◌, ◌-◌, ◌*◌, ◌≤◌}
use mathlib.Core.Path.{◌≡◌}
use mathlib.Core.Bool.{Bool, cond}
use mathlib.Core.List.{List}
use lib.ListN.{length}
use Rattle.packed.specs.Packed.{word_bits, bit_of}
use Rattle.packed.proofs.Packing.{Between}
use Rattle.packed.proofs.shift.turn_padded.Given as goal

-- the bits of a padded plane, turned
abbrev turned_in : List ℕ → ℕ → List ℕ → ℕ → ℕ → ℕ → Bool
turned_in pad before keep s t q = cond (bit_of keep q) (bit_of pad (word_bits * before + q - s)) (bit_of pad (word_bits * before + q + t))

abbrev pub invariant-loop-i : goal.invariant-loop-i
invariant-loop-i l = (l.i ≤ length l.plane) × (length l.plane ≡ length l.initial.plane) × Between (turned_in l.pad l.before l.keep l.s l.t) 0 l.i l.plane
