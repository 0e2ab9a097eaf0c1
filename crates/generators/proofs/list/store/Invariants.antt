-- `list::store` meets its contract. The loop's invariant is that of `copy`: the places before i hold what they hold in src, which fits 16 bits.
use Prim.Native.Nat.{ℕ, ◌≤◌}
use mathlib.Core.Path.{◌≡◌}
use lib.ListN.{length, get_or}
use Rattle.generators.proofs.Stores.{Holds}
use Rattle.generators.proofs.list.store.Given as goal

abbrev pub invariant-loop-i : goal.invariant-loop-i
invariant-loop-i l = (l.i ≤ length l.src) × (length l.dst ≡ length l.initial.dst) × Holds (λ (k : ℕ). get_or l.src k 0) l.dst l.i
