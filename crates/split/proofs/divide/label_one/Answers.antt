use mathlib.Core.Path.{ap, ◌≡◌, refl, ◌∙◌}
use lib.ListN.{length-set, length}
use native.Mathlib.Omega.{arith}
use Rattle.split.proofs.divide.label_one.Goals as goal
use Rattle.split.proofs.divide.label_one.Goals.{then-meet, else-meet}
use Rattle.split.proofs.divide.label_one.Lts as lts
use Rattle.split.proofs.divide.label_one.Tie as tie
use Rattle.split.proofs.divide.label_one.Reads as reads

abbrev ctx-Joined1 : Type 0
ctx-Joined1 = lts.Joined1 tie.the-claims reads.Pre reads.Post goal.the-invariant-loop-h goal.the-decreases-loop-h

-- one label for another has as many
longer : (c : ctx-Joined1) → length c.if-meet.labels ≡ length c.loop-h.labels
longer c = elim c.if-meet.branch [ then-meet w ↦ ap length w.labels-is ∙ w.relabel.auto.labels | else-meet w ↦ ap length w.labels-is ]

pub overflow_cast-labels : goal.overflow_cast-labels
overflow_cast-labels c = omega arith

pub offset_bounds-labels-g : goal.offset_bounds-labels-g
offset_bounds-labels-g c = omega arith

pub bounds-labels-g : goal.bounds-labels-g
bounds-labels-g c = omega arith

pub loop-h-init : goal.loop-h-init
loop-h-init c = (omega arith, simp length-set (omega arith), refl)

pub meet-requires : goal.meet-requires
meet-requires c = omega arith

pub offset_bounds-labels-g-then-meet : goal.offset_bounds-labels-g-then-meet
offset_bounds-labels-g-then-meet c = omega arith

pub bounds-labels-g-then-meet : goal.bounds-labels-g-then-meet
bounds-labels-g-then-meet c = omega arith

pub offset_bounds-labels-h : goal.offset_bounds-labels-h
offset_bounds-labels-h c = omega arith

pub bounds-labels-h : goal.bounds-labels-h
bounds-labels-h c = omega arith

pub relabel-requires : goal.relabel-requires
relabel-requires c = omega arith

pub loop-h-preserved : goal.loop-h-preserved
loop-h-preserved c = (omega arith, omega (arith, longer c.before), longer c.before ∙ c.loop-h.invariant.2)

pub returns : goal.returns
returns c = omega arith
