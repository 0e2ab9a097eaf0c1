use mathlib.Core.Path.{refl, sym, ◌∙◌}
use native.Mathlib.Omega.{arith}
use Rattle.packed.specs.Packed.{bit_of}
use Rattle.grid.proofs.Rounds.{along-start, along-alone, along-tired, along-next, along_end}
use Rattle.grid.proofs.refine.refine_words.Goals as goal

pub loop-h-init : goal.loop-h-init
loop-h-init c = (refl, refl, along-start c.requires.tables.valid c.requires.order_value c.requires.clear.0)

pub strike_round-told-requires : goal.strike_round-told-requires
strike_round-told-requires c =
    let a = c.loop-h.invariant in
    let e = c.requires.clear.1 in
    let r = c.requires.steps.room in
    let m = c.requires.steps.few in
    (a.0 ∙ sym e ∙ sym a.1, omega (arith, a.1, e, r, c.loop-h-test.true), omega (arith, a.1, e, m))

pub returns-in-Alone : goal.returns-in-Alone
returns-in-Alone c =
    along-alone c.loop-h.invariant.2 c.loop-h-test.true (bit_of c.strike_round-told.new.left) c.strike_round-told.ensures.left c.in-Alone.k c.in-Alone.ensures.alone

pub waited-stale-requires : goal.waited-stale-requires
waited-stale-requires c = c.loop-h.invariant.2.few

pub returns-then-stale-gt-PATIENCE : goal.returns-then-stale-gt-PATIENCE
returns-then-stale-gt-PATIENCE c = along-tired c.loop-h.invariant.2 c.loop-h-test.true (bit_of c.strike_round-told.new.left) c.strike_round-told.ensures.left

pub step-requires : goal.step-requires
step-requires c =
    let a = c.loop-h.invariant in record {
      tables = c.requires.tables;
      order_value = c.requires.order_value;
      steps = rw (← a.0) at c.requires.steps;
      clear_2 = a.2.clear;
    }

pub loop-h-preserved : goal.loop-h-preserved
loop-h-preserved c =
    let a = c.loop-h.invariant in (
      c.step.auto.at ∙ a.0,
      c.strike_round-told.auto.left ∙ a.1,
      along-next a.2 c.loop-h-test.true (bit_of c.strike_round-told.new.left) c.strike_round-told.ensures.left (bit_of c.step.new.at) (omega (arith, c.if-stale-gt-PATIENCE.false)) c.step.ensures.clear c.step.ensures.bits,
    )

pub returns : goal.returns
returns c = along_end c.loop-h.invariant.2 c.loop-h-test.false
