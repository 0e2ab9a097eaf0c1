use mathlib.Core.Path.{ap, refl, ◌∙◌}
use lib.ListN.{length-set, length}
use Rattle.split.proofs.PartModes.{modes-none, modes-next, modes-skip, modes-all}
use mir.Syntax.{w32}
use mir.ValLaws.{to_z-of_z}
use native.Mathlib.Omega.{arith}
use Rattle.split.proofs.modes.take_modes.Goals as goal
use Rattle.split.proofs.modes.take_modes.Goals.{then-labels-g, else-labels-g}

pub loop-g-init : goal.loop-g-init
loop-g-init c = (omega arith, refl, modes-none _ _ _ _)

pub offset_bounds-labels-g : goal.offset_bounds-labels-g
offset_bounds-labels-g c = omega arith

pub bounds-labels-g : goal.bounds-labels-g
bounds-labels-g c = omega arith

pub offset_bounds-modes-g : goal.offset_bounds-modes-g
offset_bounds-modes-g c = omega arith

pub bounds-modes-g : goal.bounds-modes-g
bounds-modes-g c = omega arith

pub offset_bounds-own-k : goal.offset_bounds-own-k
offset_bounds-own-k c = omega arith

pub bounds-own-k : goal.bounds-own-k
bounds-own-k c = omega arith

pub overflow_add-k : goal.overflow_add-k
overflow_add-k c = omega arith

pub loop-g-preserved : goal.loop-g-preserved
loop-g-preserved c =
    let l = c.loop-g in
    let i = l.invariant in
    let h = c.loop-g-test.true in (
      omega arith,
      elim c.if-labels-g.branch [ then-labels-g w ↦ ap length w.own-is ∙ simp length-set i.1 | else-labels-g w ↦ ap length w.own-is ∙ i.1 ],
      elim c.if-labels-g.branch [
        | then-labels-g w ↦ rw (w.own-is, w.k-is) (modes-next _ _ _ c.requires.0 i.2 h (omega (arith, i.2.few)) w.if-labels-g.true _ (to_z-of_z w32 _ (record { sfits = w.mode-1.given })))
        | else-labels-g w ↦ rw (w.own-is, w.k-is) (modes-skip _ _ _ c.requires.0 i.2 h w.if-labels-g.false)
      ],
    )

pub returns : goal.returns
returns c =
    let l = c.loop-g in record {
      few = omega (arith, l.invariant.2.few);
      modes = modes-all _ _ _ c.requires.0 l.invariant.2 (omega arith);
    }
