-- `entries::product_at` meets its contract: cosine and sine of a product are sums of two products.
use mathlib.Core.Path.{◌≡◌}
use native.Mathlib.Omega.{arith}
use lib.IntN.{pos, neg_ℤ, ◌-ℤ◌, ◌*ℤ◌}
use mir.Syntax.{w64}
use mir.Val.{to_z, of_z}
use borrow.Author.Rules.{rules}
use Rattle.phases.specs.declared.PhaseTable.{PhaseTable}
use Rattle.phases.specs.Rules.{unit, slack, table_of, cosine, sine, next, product_cosine, near}
use Rattle.phases.proofs.Ranges.{Stands, negative_stands, stored_range, product_negative}
use Rattle.phases.proofs.Steps.{first_fails, second_decides, cosine-stands, sine-stands}
use Rattle.phases.proofs.entries.product_at.Goals as goal
use Rattle.phases.proofs.entries.product_at.Lts as lts
use Rattle.phases.proofs.entries.product_at.Tie as tie
use Rattle.phases.proofs.entries.product_at.Reads as reads

abbrev ctx-Start : Type 0
ctx-Start = lts.Start tie.the-claims reads.Pre reads.Post tie.handed_clauses

abbrev ctx-After-sum_near : Type 0
ctx-After-sum_near = lts.After-sum_near tie.the-claims reads.Pre reads.Post tie.handed_clauses

abbrev table : ctx-Start → PhaseTable
table s = table_of s.args.cosines.now s.args.sines.now

-- the numbers that are multiplied, and the next entry
module _ (s : ctx-Start) where
  cosine-at : Stands w64 unit (cosine (table s) s.args.j) (cosine (table s) s.args.j)
  cosine-at = cosine-stands (table s) s.requires.phase_range s.args.j s.requires.j_lt_turn

  sine-at : Stands w64 unit (sine (table s) s.args.j) (sine (table s) s.args.j)
  sine-at = sine-stands (table s) s.requires.phase_range s.args.j s.requires.j_lt_turn

  cosine-one : Stands w64 unit (cosine (table s) 1) (cosine (table s) 1)
  cosine-one = cosine-stands (table s) s.requires.phase_range 1 (omega arith)

  sine-one : Stands w64 unit (sine (table s) 1) (sine (table s) 1)
  sine-one = sine-stands (table s) s.requires.phase_range 1 (omega arith)

  -- with the other sign
  opposite : let z = sine (table s) 1 in Stands w64 unit (pos 0 -ℤ to_z w64 (of_z w64 z)) (neg_ℤ z)
  opposite = negative_stands sine-one (omega arith)

  cosine-next : Stands w64 unit (cosine (table s) (next s.args.j)) (cosine (table s) (next s.args.j))
  cosine-next = cosine-stands (table s) s.requires.phase_range (next s.args.j) (omega arith)

  sine-next : Stands w64 unit (sine (table s) (next s.args.j)) (sine (table s) (next s.args.j))
  sine-next = sine-stands (table s) s.requires.phase_range (next s.args.j) (omega arith)

-- the first test: the cosine
first :
    (c : ctx-After-sum_near)
    → let t = table c.before.before.before.before.before.before in
    c.sum_near.result ≡ near slack (product_cosine t c.args.j) (pos unit *ℤ cosine t (next c.args.j))
unfolding cosine sine
first c =
    let t = table c.before.before.before.before.before.before in
    rw ((cosine-at c.before.before.before.before.before.before).same, (cosine-one c.before.before.before.before.before.before).same, (sine-at c.before.before.before.before.before.before).same, (opposite c.before.before.before.before.before.before).same, product_negative (sine t c.args.j) (sine t 1), (cosine-next c.before.before.before.before.before.before).same) at
    c.sum_near.ensures

pub overflow_sub-y : goal.overflow_sub-y
unfolding sine
overflow_sub-y c = (opposite c.before.before.before.before).fits

pub sum_near-requires : goal.sum_near-requires
unfolding cosine sine
sum_near-requires c = record {
  in_range = (stored_range (cosine-at c.before.before.before.before.before), stored_range (cosine-one c.before.before.before.before.before));
  in_range_2 = (stored_range (sine-at c.before.before.before.before.before), stored_range (opposite c.before.before.before.before.before));
  in_range_3 = stored_range (cosine-next c.before.before.before.before.before);
}

pub returns-then-not-sum_near : goal.returns-then-not-sum_near
returns-then-not-sum_near c = first_fails _ (first c.before) c.if-not-sum_near.true-raw

pub sum_near-requires-2 : goal.sum_near-requires-2
unfolding cosine sine
sum_near-requires-2 c = record {
  in_range = (stored_range (cosine-at c.before.before.before.before.before.before.before.before), stored_range (sine-one c.before.before.before.before.before.before.before.before));
  in_range_2 = (stored_range (sine-at c.before.before.before.before.before.before.before.before), stored_range (cosine-one c.before.before.before.before.before.before.before.before));
  in_range_3 = stored_range (sine-next c.before.before.before.before.before.before.before.before);
}

pub returns : goal.returns
unfolding cosine sine
returns c =
    second_decides (first c.before.before.before) c.if-not-sum_near.false-raw
    (rw ((cosine-at c.before.before.before.before.before.before.before.before.before).same, (sine-one c.before.before.before.before.before.before.before.before.before).same, (sine-at c.before.before.before.before.before.before.before.before.before).same, (cosine-one c.before.before.before.before.before.before.before.before.before).same, (sine-next c.before.before.before.before.before.before.before.before.before).same) at c.sum_near-2.ensures)
