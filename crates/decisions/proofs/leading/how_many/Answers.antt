use Prim.Native.Nat.{ℕ, ◌+◌, ◌≤◌}
use mathlib.Core.Path.{◌≡◌, refl, sym, ap, ap₂, ◌∙◌}
use mathlib.Core.Bool.{cond}
use native.Mathlib.Omega.{arith}
use Rattle.action.specs.Lists.{from, below, count}
use Rattle.packed.specs.Packed.{bit_of}
use Rattle.decisions.proofs.Traversals.{count_next}
use Rattle.decisions.proofs.leading.how_many.Goals as goal
use Rattle.decisions.proofs.leading.how_many.Goals.{then-holds, else-holds}
use Rattle.decisions.proofs.leading.how_many.Lts as lts
use Rattle.decisions.proofs.leading.how_many.Tie as tie
use Rattle.decisions.proofs.leading.how_many.Reads as reads

abbrev ctx-After-row_known : Type 0
ctx-After-row_known = lts.After-row_known tie.the-claims reads.Pre reads.Post goal.the-invariant-loop-k goal.the-decreases-loop-k

pub loop-k-init : goal.loop-k-init
unfolding below from count
loop-k-init c = (omega arith, omega arith, refl)

-- what k adds
adds : (c : ctx-After-row_known)
    → (c.if-holds.count ≡ cond (bit_of c.args.left.now c.loop-k.k) 1 0)
adds c =
    let told = sym c.holds.ensures in
    elim c.if-holds.branch [ then-holds w ↦ w.count-is ∙ rw (told ∙ w.if-holds.true) | else-holds w ↦ w.count-is ∙ rw (told ∙ w.if-holds.false) ]

few : (c : ctx-After-row_known) → c.if-holds.count ≤ 1
few c = elim c.if-holds.branch [ then-holds w ↦ omega (arith, w.count-is) | else-holds w ↦ omega (arith, w.count-is) ]

pub overflow_add-count : goal.overflow_add-count
overflow_add-count c =
    let l = c.loop-k in
    omega (arith, few c.before, l.invariant.1, c.loop-k-test.true, c.ranges.bound.fits)

pub loop-k-preserved : goal.loop-k-preserved
loop-k-preserved c =
    let l = c.loop-k in (
      omega (arith, c.loop-k-test.true),
      omega (arith, few c.before, l.invariant.1),
      ap₂ (λ (x y : ℕ). x + y) l.invariant.2 (adds c.before) ∙ sym (count_next (bit_of c.args.left.now) l.k),
    )

pub returns : goal.returns
returns c =
    let l = c.loop-k in
    let all : l.k ≡ c.args.bound = omega (arith, l.invariant.0, c.loop-k-test.false) in
    l.invariant.2 ∙ ap (λ (k : ℕ). count (bit_of c.args.left.now) (below k)) all
