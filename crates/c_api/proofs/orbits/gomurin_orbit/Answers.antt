-- `gomurin_orbit` meets its contract: beside a refusal it writes the word and the index of no walk (`begun-word`, `begun-index`).
use Prim.Native.Nat.{suc}
use mathlib.Core.Path.{ap, sym, ◌∙◌}
use Rattle.outcome.specs.Outcome.{outcome_of}
use Rattle.permutation.specs.Limits.{max_order}
use Rattle.group.specs.Value.{group_in}
use Rattle.row_lists.specs.Rows.{no_word}
use Rattle.orbit.specs.declared.lent.Beginning.{Beginning}
use Rattle.orbit.specs.Calls.{begin_outcome, beginning}
use Rattle.c_api.proofs.Telling.{else-told, begun-word, begun-index}
use Rattle.c_api.proofs.orbits.gomurin_orbit.Goals as goal

pub returns-in-Err-clause-at : goal.returns-in-Err-clause-at
returns-in-Err-clause-at c =
    let a = c.args in
    let o = begin_outcome (group_in a.sites a.generators a.orders.now a.targets.now) a.n a.word.now in
    let own = λ (b : Beginning). b.at in
    else-told beginning o (sym (ap outcome_of c.in-Err.is) ∙ c.orbit.ensures) own no_word ∙ begun-word o

pub returns-in-Err-clause-index : goal.returns-in-Err-clause-index
returns-in-Err-clause-index c =
    let a = c.args in
    let o = begin_outcome (group_in a.sites a.generators a.orders.now a.targets.now) a.n a.word.now in
    let own = λ (b : Beginning). b.index in
    else-told beginning o (sym (ap outcome_of c.in-Err.is) ∙ c.orbit.ensures) own (suc max_order) ∙ begun-index o
