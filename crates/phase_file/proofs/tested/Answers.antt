-- `tested` meets its contract: the tests pass, or they refuse the table.
use mathlib.Core.Path.{refl, sym, ◌∙◌}
use Rattle.phase_file.proofs.tested.Goals as goal

pub returns-then-passes : goal.returns-then-passes
returns-then-passes c =
    rw (sym c.passes.ensures ∙ c.if-passes.true) (record {
      answer = refl;
      table = refl;
    })

pub returns-else-passes : goal.returns-else-passes
returns-else-passes c =
    rw (sym c.passes.ensures ∙ c.if-passes.false, c.refused.ensures.0, c.refused.ensures.1) (record {
      answer = refl;
      table = refl;
    })
