use Prim.Native.Nat.{ℕ, min}
use mathlib.Core.Path.{sym, ap, ◌∙◌}
use native.Mathlib.Omega.{arith}
use Rattle.grid.proofs.Settling.{smallest_start, smallest-out, smallest-in, smallest_forward, smallest_none}
use Rattle.grid.proofs.settle.forward_of.Goals as goal
use Rattle.grid.proofs.settle.forward_of.Goals.{then-holds, else-holds}

pub loop-k-init : goal.loop-k-init
loop-k-init c = (omega arith, smallest_start c.requires.order_value)

pub returns-then-best-eq0 : goal.returns-then-best-eq0
returns-then-best-eq0 c =
    λ w long leads. smallest_none c.requires.tables.valid long leads c.loop-k.invariant.1 c.if-best-eq0.true

pub invert-index-requires : goal.invert-index-requires
invert-index-requires c = c.requires.tables

pub loop-k-preserved : goal.loop-k-preserved
loop-k-preserved c =
    let l = c.loop-k in
    let own = sym c.holds.ensures in (
      omega (arith, c.loop-k-test.true),
      elim c.if-holds.branch [
        | then-holds w ↦ smallest-in l.invariant.1 (own ∙ w.if-holds.true) (w.best-is ∙ w.smaller-best.ensures ∙ ap (λ (i : ℕ). min i l.best) w.invert-index.ensures)
        | else-holds w ↦ rw w.best-is (smallest-out l.invariant.1 (own ∙ w.if-holds.false))
      ],
    )

pub returns : goal.returns
returns c =
    let l = c.loop-k in
    λ w long leads. smallest_forward c.requires.tables.valid long leads (omega (arith, c.requires.order_value, c.loop-k-test.false)) l.invariant.1
