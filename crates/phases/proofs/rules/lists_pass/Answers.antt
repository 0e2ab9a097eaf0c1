-- `rules::lists_pass` meets its contract: the range decides, and then the rules.
use borrow.Author.Rules.{rules}
use Rattle.phases.specs.Rules.{table_of, range_test, passes}
use Rattle.phases.proofs.Tests.{range_holds}
use Rattle.phases.proofs.Steps.{passed, first_fails, second_decides}
use Rattle.phases.proofs.rules.lists_pass.Goals as goal

pub returns-then-not-range_kept : goal.returns-then-not-range_kept
unfolding passes range_test
returns-then-not-range_kept c = first_fails _ c.range_kept.ensures c.if-not-range_kept.true-raw

pub rules_kept-requires : goal.rules_kept-requires
unfolding range_test
rules_kept-requires c = record {
  cosines_len = c.requires;
  phase_range = range_holds (table_of c.args.cosines.now c.args.sines.now) (passed c.range_kept.ensures c.if-not-range_kept.false-raw);
}

pub returns : goal.returns
unfolding passes range_test
returns c = second_decides c.range_kept.ensures c.if-not-range_kept.false-raw c.rules_kept.ensures
