-- `entries::norm_at` meets its contract: the squared length is a sum of two products.
use native.Mathlib.Omega.{arith}
use mir.Syntax.{w64}
use borrow.Author.Rules.{rules}
use Rattle.phases.specs.declared.PhaseTable.{PhaseTable}
use Rattle.phases.specs.Rules.{unit, table_of, cosine, sine}
use Rattle.phases.proofs.Ranges.{Stands, stored_range}
use Rattle.phases.proofs.Steps.{cosine-stands, sine-stands}
use Rattle.phases.proofs.entries.norm_at.Goals as goal
use Rattle.phases.proofs.entries.norm_at.Lts as lts
use Rattle.phases.proofs.entries.norm_at.Tie as tie
use Rattle.phases.proofs.entries.norm_at.Reads as reads

abbrev ctx-Start : Type 0
ctx-Start = lts.Start tie.the-claims reads.Pre reads.Post tie.handed_clauses

abbrev table : ctx-Start → PhaseTable
table s = table_of s.args.cosines.now s.args.sines.now

-- the numbers of the entry
module _ (s : ctx-Start) where
  cosine-at : Stands w64 unit (cosine (table s) s.args.j) (cosine (table s) s.args.j)
  cosine-at = cosine-stands (table s) s.requires.phase_range s.args.j s.requires.j_lt_turn

  sine-at : Stands w64 unit (sine (table s) s.args.j) (sine (table s) s.args.j)
  sine-at = sine-stands (table s) s.requires.phase_range s.args.j s.requires.j_lt_turn

pub sum_near-requires : goal.sum_near-requires
unfolding cosine sine
sum_near-requires c =
    let x = stored_range (cosine-at c.before.before) in
    let y = stored_range (sine-at c.before.before) in record {
      in_range = (x, x);
      in_range_2 = (y, y);
      in_range_3 = omega arith;
    }

pub returns : goal.returns
unfolding cosine sine
returns c = rw ((cosine-at c.before.before.before).same, (sine-at c.before.before.before).same) at c.sum_near.ensures
