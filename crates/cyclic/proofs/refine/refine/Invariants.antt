-- `refine::refine` meets its contract. The loop's invariant: the turns left are those that the blocks passed leave. Where one is left, the rest leave it.
use Prim.Native.Nat.{◌-◌, ◌%◌, ◌≤◌}
use mathlib.Core.Path.{◌≡◌}
use Rattle.packed.specs.Packed.{bit_of}
use Rattle.cyclic.specs.Narrowing.{Narrowed}
use Rattle.cyclic.proofs.refine.refine.Given as goal

abbrev pub invariant-loop-base : goal.invariant-loop-base
invariant-loop-base l =
    (l.base % l.block ≡ 0) × (l.base ≤ l.sites) × Narrowed l.base l.block (bit_of l.ws) l.initial.left.start l.initial.left.step l.left.start l.left.step

abbrev pub decreases-loop-base : goal.decreases-loop-base
decreases-loop-base l = l.sites - l.base
