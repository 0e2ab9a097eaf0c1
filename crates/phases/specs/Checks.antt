-- The rule that a table may break as a call meets it.
use Rattle.std.specs.Prelude.{not}
use Rattle.outcome.specs.declared.Refusal.TheVariants as Refusal
use Rattle.outcome.specs.Outcome.{Check, rule}
use Rattle.phases.specs.declared.PhaseTable.{PhaseTable}
use Rattle.phases.specs.Rules.{passes}

-- 35: a number out of its range, or a broken rule
abbrev pub broken_table : PhaseTable → Check
broken_table t = rule Refusal.PhaseRule (not (passes t))
