-- `scan::bit` meets its contract: the digit that is read is the bit of the place.
use Prim.Native.Nat.{ℕ, ◌<◌}
use mathlib.Core.Path.{refl, sym, subst}
use native.Mathlib.Nat.{mod-lt}
use native.Mathlib.Omega.{arith}
use Rattle.packed.specs.Packed.{bit_of}
use Rattle.packed.proofs.Packing.{bit_of_past}
use Rattle.cyclic.proofs.scan.bit.Goals as goal

pub overflow_add-q : goal.overflow_add-q
overflow_add-q c =
    let l : c.round.result < c.args.block = subst (λ (x : ℕ). x < c.args.block) (sym c.round.ensures) (mod-lt c.args.p (omega arith)) in
    omega arith

pub returns-then-at-ws : goal.returns-then-at-ws
unfolding bit_of
returns-then-at-ws c = rw (← c.round.ensures) refl

pub returns-else-at-ws : goal.returns-else-at-ws
returns-else-at-ws c = rw (← c.round.ensures) (sym (bit_of_past _ _ (omega arith)))
