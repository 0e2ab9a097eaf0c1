-- `entries::first_right` meets its contract: the two tests are those of entry 0.
use mathlib.Core.Path.{◌≡◌, ap, ◌∙◌}
use lib.IntN.{ℤ, pos}
use mir.Syntax.{w64}
use borrow.Author.Rules.{rules}
use Rattle.phases.specs.declared.PhaseTable.{PhaseTable}
use Rattle.phases.specs.Rules.{unit, table_of, cosine, sine, same_integer}
use Rattle.phases.proofs.Ranges.{read_stays}
use Rattle.phases.proofs.Steps.{first_fails, second_decides}
use Rattle.phases.proofs.entries.first_right.Goals as goal
use Rattle.phases.proofs.entries.first_right.Lts as lts
use Rattle.phases.proofs.entries.first_right.Tie as tie
use Rattle.phases.proofs.entries.first_right.Reads as reads

abbrev ctx-Start : Type 0
ctx-Start = lts.Start tie.the-claims reads.Pre reads.Post

abbrev ctx-After-same : Type 0
ctx-After-same = lts.After-same tie.the-claims reads.Pre reads.Post

abbrev table : ctx-Start → PhaseTable
table s = table_of s.args.cosines.now s.args.sines.now

-- the first test
first : (c : ctx-After-same) → c.same.result ≡ same_integer (cosine (table c.before.before) 0) (pos unit)
unfolding cosine
first c = c.same.ensures ∙ ap (λ (z : ℤ). same_integer z (pos unit)) (read_stays w64 (cosine (table c.before.before) 0) c.same-arg-1.given)

pub returns-then-not-same : goal.returns-then-not-same
returns-then-not-same c = first_fails _ (first c.before) c.if-not-same.true-raw

pub returns : goal.returns
unfolding sine
returns c =
    second_decides (first c.before.before.before) c.if-not-same.false-raw
    (c.same-2.ensures ∙ ap (λ (z : ℤ). same_integer z (pos 0)) (read_stays w64 (sine (table c.before.before.before.before.before) 0) c.same-arg-2-1.given))
