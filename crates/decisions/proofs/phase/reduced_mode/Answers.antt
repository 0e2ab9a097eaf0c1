-- `phase::reduced_mode` meets its contract: the remainder is the reduced mode, or below zero and the order less than it (`corrected`, `uncorrected`).
use mathlib.Core.Path.{ap}
use lib.IntN.{nat_abs}
use Rattle.decisions.proofs.Remainders.{widen-fits, quotient_fits, sum_fits, corrected, uncorrected, cast_fits}
use Rattle.decisions.proofs.phase.reduced_mode.Goals as goal

pub overflow_cast-r : goal.overflow_cast-r
overflow_cast-r c = widen-fits c.args.order c.args.mode c.requires c.ranges.order c.ranges.mode

pub nonzero_rem-r : goal.nonzero_rem-r
nonzero_rem-r c = (c.requires, quotient_fits c.args.order c.args.mode c.requires c.ranges.order c.ranges.mode)

pub overflow_add-result : goal.overflow_add-result
overflow_add-result c =
    sum_fits c.args.order c.args.mode c.requires c.ranges.order c.ranges.mode c.if-r-lt0.true

pub overflow_cast-result : goal.overflow_cast-result
overflow_cast-result c =
    cast_fits c.args.order c.args.mode c.requires c.ranges.order c.ranges.mode _
    (corrected c.args.order c.args.mode c.requires c.ranges.order c.ranges.mode c.if-r-lt0.true)

pub overflow_cast-result-else-r-lt0 : goal.overflow_cast-result-else-r-lt0
overflow_cast-result-else-r-lt0 c =
    cast_fits c.args.order c.args.mode c.requires c.ranges.order c.ranges.mode _
    (uncorrected c.args.order c.args.mode c.requires c.ranges.order c.ranges.mode c.if-r-lt0.false)

pub returns-then-r-lt0 : goal.returns-then-r-lt0
returns-then-r-lt0 c =
    ap nat_abs (corrected c.args.order c.args.mode c.requires c.ranges.order c.ranges.mode c.if-r-lt0.true)

pub returns-else-r-lt0 : goal.returns-else-r-lt0
returns-else-r-lt0 c =
    ap nat_abs (uncorrected c.args.order c.args.mode c.requires c.ranges.order c.ranges.mode c.if-r-lt0.false)
