-- `shift::fill_mask` meets its contract. The loop's invariant: the mask holds the pattern of the run over the covered sites, which are whole blocks.
use Prim.Native.Nat.{ℕ, ◌-◌, ◌%◌, ◌<◌, ◌≤◌}
use mathlib.Core.Path.{◌≡◌}
use lib.ListN.{length}
use Rattle.packed.specs.Packed.{bit_of}
use Rattle.packed.proofs.Masks.{run_bits, pattern_bits}
use Rattle.packed.proofs.shift.fill_mask.Given as goal

abbrev pub invariant-loop-covered : goal.invariant-loop-covered
invariant-loop-covered l = (0 < l.covered) × (l.covered ≤ l.sites) × (l.covered % l.block ≡ 0) × (length l.mask ≡ length l.initial.mask) × ((q : ℕ) → bit_of l.mask q ≡ pattern_bits (run_bits l.low l.high) l.block l.covered q)

abbrev pub decreases-loop-covered : goal.decreases-loop-covered
decreases-loop-covered l = l.sites - l.covered
