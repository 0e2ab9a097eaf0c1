-- `calls::both_clear` meets its contract: each return is reached by the tests that decide it.
use mathlib.Core.Path.{sym, ◌∙◌}
use Rattle.pauli_word.proofs.calls.both_clear.Goals as goal

pub returns-then-clear_above-2 : goal.returns-then-clear_above-2
returns-then-clear_above-2 c =
    simp (sym c.clear_above.ensures ∙ c.if-clear_above.true, sym c.clear_above-then-clear_above.ensures ∙ c.if-clear_above-2.true)

pub returns-else-clear_above-2 : goal.returns-else-clear_above-2
returns-else-clear_above-2 c =
    simp (sym c.clear_above.ensures ∙ c.if-clear_above.true, sym c.clear_above-then-clear_above.ensures ∙ c.if-clear_above-2.false)

pub returns-else-clear_above : goal.returns-else-clear_above
returns-else-clear_above c = simp (sym c.clear_above.ensures ∙ c.if-clear_above.false)
