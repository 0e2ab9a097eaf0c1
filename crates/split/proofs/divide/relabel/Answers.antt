use mathlib.Core.Path.{ap, ◌≡◌, ◌∙◌}
use lib.ListN.{length-set, length}
use native.Mathlib.Omega.{arith}
use Rattle.split.proofs.divide.relabel.Goals as goal
use Rattle.split.proofs.divide.relabel.Goals.{then-labels-g, else-labels-g}
use Rattle.split.proofs.divide.relabel.Lts as lts
use Rattle.split.proofs.divide.relabel.Reads as reads

abbrev ctx-Joined1 : Type 0
ctx-Joined1 = lts.Joined1 reads.Pre reads.Post goal.the-invariant-loop-g goal.the-decreases-loop-g

-- a label more or less has as many
longer : (c : ctx-Joined1) → length c.if-labels-g.labels ≡ length c.loop-g.labels
longer c = elim c.if-labels-g.branch [ then-labels-g w ↦ ap length w.labels-is ∙ simp length-set | else-labels-g w ↦ ap length w.labels-is ]

pub loop-g-init : goal.loop-g-init
loop-g-init c = omega arith

pub offset_bounds-labels-g : goal.offset_bounds-labels-g
offset_bounds-labels-g c = omega arith

pub bounds-labels-g : goal.bounds-labels-g
bounds-labels-g c = omega arith

pub offset_bounds-labels-g-then-labels-g : goal.offset_bounds-labels-g-then-labels-g
offset_bounds-labels-g-then-labels-g c = omega arith

pub bounds-labels-g-then-labels-g : goal.bounds-labels-g-then-labels-g
bounds-labels-g-then-labels-g c = omega arith

pub loop-g-preserved : goal.loop-g-preserved
loop-g-preserved c = (omega (arith, longer c), longer c ∙ c.loop-g.invariant.1)

pub returns : goal.returns
returns c = omega arith
