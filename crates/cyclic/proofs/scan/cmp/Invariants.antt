-- `scan::cmp` meets its contract. The loop's invariant: the bits passed are the same.
use Prim.Native.Nat.{ℕ, ◌+◌, ◌≤◌, ◌<◌}
use mathlib.Core.Path.{◌≡◌}
use Rattle.cyclic.specs.Narrowing.{round_at}
use Rattle.cyclic.proofs.scan.cmp.Given as goal

abbrev pub invariant-loop-y : goal.invariant-loop-y
invariant-loop-y l = (l.y ≤ l.step) × ((x : ℕ) → x < l.y → round_at l.ws l.base l.block (l.p + x) ≡ round_at l.ws l.base l.block (l.q + x))
