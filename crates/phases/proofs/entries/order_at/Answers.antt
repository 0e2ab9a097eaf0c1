-- `entries::order_at` meets its contract: the two tests are those of the entry.
use Prim.Native.Nat.{suc, ◌+◌}
use mathlib.Core.Path.{◌≡◌, ap₂, ◌∙◌}
use native.Mathlib.Numerals.{add-one}
use lib.Signed.{lt_z}
use mir.Syntax.{w64}
use borrow.Author.Rules.{rules}
use Rattle.phases.specs.declared.PhaseTable.{PhaseTable}
use Rattle.phases.specs.Rules.{table_of, cosine, sine}
use Rattle.phases.proofs.Ranges.{read_stays}
use Rattle.phases.proofs.Steps.{first_fails, second_decides}
use Rattle.phases.proofs.entries.order_at.Goals as goal
use Rattle.phases.proofs.entries.order_at.Lts as lts
use Rattle.phases.proofs.entries.order_at.Tie as tie
use Rattle.phases.proofs.entries.order_at.Reads as reads

abbrev ctx-Start : Type 0
ctx-Start = lts.Start tie.the-claims reads.Pre reads.Post tie.handed_clauses

abbrev ctx-After-below : Type 0
ctx-After-below = lts.After-below tie.the-claims reads.Pre reads.Post tie.handed_clauses

abbrev ctx-After-below2 : Type 0
ctx-After-below2 = lts.After-below2 tie.the-claims reads.Pre reads.Post tie.handed_clauses

abbrev table : ctx-Start → PhaseTable
table s = table_of s.args.cosines.now s.args.sines.now

falls :
    (c : ctx-After-below)
    → c.below.result ≡ lt_z (cosine (table c.before.before.before) (suc c.args.j)) (cosine (table c.before.before.before) c.args.j)
unfolding cosine
falls c =
    let j = c.args.j in
    rw (← add-one j)
    (c.below.ensures
    ∙ ap₂ lt_z (read_stays w64 (cosine (table c.before.before.before) (j + 1)) c.below-arg-1.given) (read_stays w64 (cosine (table c.before.before.before) j) c.below-arg-2-1.given))

rises :
    (c : ctx-After-below2)
    → c.below-2.result ≡ lt_z (sine (table c.before.before.before.before.before.before.before) c.args.j) (sine (table c.before.before.before.before.before.before.before) (suc c.args.j))
unfolding sine
rises c =
    let j = c.args.j in
    rw (← add-one j)
    (c.below-2.ensures
    ∙ ap₂ lt_z (read_stays w64 (sine (table c.before.before.before.before.before.before.before) j) c.below-arg-3-1.given) (read_stays w64 (sine (table c.before.before.before.before.before.before.before) (j + 1)) c.below-arg-4-1.given))

pub returns-then-not-below : goal.returns-then-not-below
returns-then-not-below c = first_fails _ (falls c.before) c.if-not-below.true-raw

pub returns : goal.returns
returns c = second_decides (falls c.before.before.before.before) c.if-not-below.false-raw (rises c)
