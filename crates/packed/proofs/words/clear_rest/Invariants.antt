-- `words::clear_rest` meets its contract. The loop's invariant: the first j bytes have the bits of f.
use Prim.Native.Nat.{ℕ, ◌*◌, ◌≤◌, ◌<◌}
use mathlib.Core.Path.{◌≡◌}
use mathlib.Core.Bool.{Bool, false}
use lib.ListN.{length, get_or}
use Rattle.pauli_word.specs.Bytes.{plane_bits}
use Rattle.packed.proofs.words.clear_rest.Given as goal

abbrev pub invariant-loop-j : goal.invariant-loop-j
invariant-loop-j l =
    (l.at ≤ l.j) × (length l.plane ≡ length l.initial.plane)
    × ((f : ℕ → Bool) → ((q : ℕ) → 8 * l.at ≤ q → f q ≡ false) → ((q : ℕ) → q < 8 * l.at → get_or (plane_bits l.initial.plane) q false ≡ f q)
    → (q : ℕ) → q < 8 * l.j → get_or (plane_bits l.plane) q false ≡ f q)
