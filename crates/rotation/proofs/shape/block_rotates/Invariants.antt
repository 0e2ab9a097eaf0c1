-- `shape::block_rotates` meets its contract. The loop's invariant: the places before have been seen to rotate.
use Prim.Native.Nat.{ℕ, ◌+◌, ◌%◌, ◌≤◌, ◌<◌}
use mathlib.Core.Path.{◌≡◌}
use lib.ListN.{get_or}
use Rattle.rotation.proofs.shape.block_rotates.Given as goal

abbrev pub invariant-loop-place : goal.invariant-loop-place
invariant-loop-place l = (l.place ≤ l.block) × ((p : ℕ) → p < l.place → get_or l.perm (l.base + p) 0 ≡ l.base + (p + l.stride) % l.block)
