-- `entries::turned_at` meets its contract: the two tests are those of the entry.
use mathlib.Core.Path.{◌≡◌, ap₂, ◌∙◌}
use native.Mathlib.Omega.{arith}
use lib.IntN.{pos, neg_ℤ, ◌-ℤ◌}
use mir.Syntax.{w64}
use mir.Val.{to_z, of_z}
use borrow.Author.Rules.{rules}
use Rattle.phases.specs.declared.PhaseTable.{PhaseTable}
use Rattle.phases.specs.Rules.{unit, table_of, cosine, sine, turned, same_integer}
use Rattle.phases.proofs.Ranges.{Stands, read_stays, negative_stands}
use Rattle.phases.proofs.Steps.{first_fails, second_decides, sine-stands}
use Rattle.phases.proofs.entries.turned_at.Goals as goal
use Rattle.phases.proofs.entries.turned_at.Lts as lts
use Rattle.phases.proofs.entries.turned_at.Tie as tie
use Rattle.phases.proofs.entries.turned_at.Reads as reads

abbrev ctx-Start : Type 0
ctx-Start = lts.Start tie.the-claims reads.Pre reads.Post tie.handed_clauses

abbrev ctx-After-same : Type 0
ctx-After-same = lts.After-same tie.the-claims reads.Pre reads.Post tie.handed_clauses

abbrev ctx-After-same2 : Type 0
ctx-After-same2 = lts.After-same2 tie.the-claims reads.Pre reads.Post tie.handed_clauses

abbrev table : ctx-Start → PhaseTable
table s = table_of s.args.cosines.now s.args.sines.now

-- the sine of the entry with the other sign
opposite : (s : ctx-Start) → let z = sine (table s) s.args.j in Stands w64 unit (pos 0 -ℤ to_z w64 (of_z w64 z)) (neg_ℤ z)
opposite s = negative_stands (sine-stands (table s) s.requires.phase_range s.args.j s.requires.j_lt_turn) (omega arith)

-- the two tests

first :
    (c : ctx-After-same)
    → c.same.result ≡ same_integer (cosine (table c.before.before.before) (turned c.args.j)) (neg_ℤ (sine (table c.before.before.before) c.args.j))
unfolding cosine sine
first c =
    c.same.ensures ∙ ap₂ same_integer (read_stays w64 (cosine (table c.before.before.before) (turned c.args.j)) c.same-arg-1.given) (opposite c.before.before.before).same

second :
    (c : ctx-After-same2)
    → c.same-2.result ≡ same_integer (sine (table c.before.before.before.before.before.before.before) (turned c.args.j)) (cosine (table c.before.before.before.before.before.before.before) c.args.j)
unfolding cosine sine
second c =
    c.same-2.ensures
    ∙ ap₂ same_integer (read_stays w64 (sine (table c.before.before.before.before.before.before.before) (turned c.args.j)) c.same-arg-3-1.given) (read_stays w64 (cosine (table c.before.before.before.before.before.before.before) c.args.j) c.same-arg-4-1.given)

pub overflow_sub-sines : goal.overflow_sub-sines
unfolding sine
overflow_sub-sines c = (opposite c.before.before).fits

pub returns-then-not-same : goal.returns-then-not-same
returns-then-not-same c = first_fails _ (first c.before) c.if-not-same.true-raw

pub returns : goal.returns
returns c = second_decides (first c.before.before.before.before) c.if-not-same.false-raw (second c)
