-- `entries::range_at` meets its contract: the two tests are those of the entry.
use mathlib.Core.Path.{◌≡◌, ap, ◌∙◌}
use mir.Syntax.{w64}
use borrow.Author.Rules.{rules}
use Rattle.phases.specs.declared.PhaseTable.{PhaseTable}
use Rattle.phases.specs.Rules.{unit, table_of, cosine, sine, in_range}
use Rattle.phases.proofs.Ranges.{read_stays}
use Rattle.phases.proofs.Steps.{first_fails, second_decides}
use Rattle.phases.proofs.entries.range_at.Goals as goal
use Rattle.phases.proofs.entries.range_at.Lts as lts
use Rattle.phases.proofs.entries.range_at.Tie as tie
use Rattle.phases.proofs.entries.range_at.Reads as reads

abbrev ctx-Start : Type 0
ctx-Start = lts.Start tie.the-claims reads.Pre reads.Post tie.handed_clauses

abbrev ctx-After-in_unit : Type 0
ctx-After-in_unit = lts.After-in_unit tie.the-claims reads.Pre reads.Post tie.handed_clauses

abbrev table : ctx-Start → PhaseTable
table s = table_of s.args.cosines.now s.args.sines.now

-- the first test
first : (c : ctx-After-in_unit) → c.in_unit.result ≡ in_range unit (cosine (table c.before.before) c.args.j)
unfolding cosine
first c =
    c.in_unit.ensures ∙ ap (in_range unit) (read_stays w64 (cosine (table c.before.before) c.args.j) c.in_unit-arg-1.given)

pub returns-then-not-in_unit : goal.returns-then-not-in_unit
returns-then-not-in_unit c = first_fails _ (first c.before) c.if-not-in_unit.true-raw

pub returns : goal.returns
unfolding sine
returns c =
    second_decides (first c.before.before.before) c.if-not-in_unit.false-raw
    (c.in_unit-2.ensures ∙ ap (in_range unit) (read_stays w64 (sine (table c.before.before.before.before.before) c.args.j) c.in_unit-arg-2-1.given))
