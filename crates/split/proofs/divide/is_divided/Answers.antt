use borrow.Author.Tests.{not-false}
use native.Mathlib.Nat.{not-suc-le-zero}
use mathlib.Core.Bool.{false≢true}
use borrow.Author.Count.{below_more}
use Rattle.split.proofs.Division.{tables_divided}
use native.Mathlib.Omega.{arith}
use Rattle.split.proofs.divide.is_divided.Goals as goal

pub loop-g-init : goal.loop-g-init
loop-g-init c = (omega arith, (λ h b. absurd (not-suc-le-zero b)), λ h b. absurd (not-suc-le-zero b))

pub offset_bounds-labels-g : goal.offset_bounds-labels-g
offset_bounds-labels-g c = omega arith

pub bounds-labels-g : goal.bounds-labels-g
bounds-labels-g c = omega arith

pub leaves_others-requires : goal.leaves_others-requires
leaves_others-requires c = (c.requires.tables.places, c.requires.tables.sites, omega (arith, c.requires.tables.few), omega (arith, c.requires.tables.few), c.requires.labels_len.1)

pub returns-then-generators-label : goal.returns-then-generators-label
returns-then-generators-label c = record {
  labels = (λ e. absurd (false≢true e));
  divided = λ e. absurd (false≢true e);
}

pub loop-g-preserved : goal.loop-g-preserved
loop-g-preserved c = (omega arith, below_more _ _ c.loop-g.invariant.1 (omega arith), below_more _ _ c.loop-g.invariant.2 (c.leaves_others.ensures (not-false _ c.if-not-leaves_others.false-raw)))

pub returns : goal.returns
returns c = record {
  labels = (λ e g h. c.loop-g.invariant.1 g (omega arith));
  divided = λ e. tables_divided c.requires.tables _ _ c.requires.labels_len.0 (λ g h. c.loop-g.invariant.2 g (omega arith));
}
