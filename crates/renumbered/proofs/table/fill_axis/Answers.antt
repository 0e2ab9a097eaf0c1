use mathlib.Core.Path.{◌∙◌}
use native.Mathlib.Omega.{arith}
use Rattle.renumbered.proofs.table.fill_axis.Goals as goal

pub loop-h-init : goal.loop-h-init
loop-h-init c = (c.requires.site_len.0, c.requires.site_len.1, omega arith)

pub overflow_add-start : goal.overflow_add-start
overflow_add-start c = omega arith

pub overflow_sub-start : goal.overflow_sub-start
overflow_sub-start c = omega arith

pub overflow_add-start-in-loop-h : goal.overflow_add-start-in-loop-h
overflow_add-start-in-loop-h c = omega arith

pub number_next-requires : goal.number_next-requires
number_next-requires c = let l = c.loop-h in record {
  targets_len = c.requires.targets_len;
  before_lt_max_sites = (omega (arith, c.requires.round_bound, l.invariant.2), omega (arith, c.requires.round_bound), l.invariant.0, l.invariant.1);
}

pub loop-h-preserved : goal.loop-h-preserved
loop-h-preserved c =
    let l = c.loop-h in
    (c.number_next.auto.site ∙ l.invariant.0, c.number_next.auto.place ∙ l.invariant.1, omega (arith, l.invariant.2))
