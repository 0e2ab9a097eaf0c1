-- `checks::sector_checked` meets its contract: the number of modes decides, and then the remainder, and then the tests of the table.
use Prim.Native.Nat.{ℕ, ◌%◌}
use mathlib.Core.Path.{◌≡◌, sym, ap, ◌∙◌}
use native.Mathlib.Omega.{arith}
use mathlib.Core.List.{List}
use Rattle.action.specs.Permutation.{Generator}
use Rattle.action.specs.Sector.{modulus}
use Rattle.elements.specs.HeldGroup.{Tables}
use Rattle.group.specs.declared.Group.{Group}
use Rattle.group.specs.Value.{group_lent, generators_of}
use Rattle.group.proofs.Accepted.{value-accepted, accepted_tables}
use Rattle.phases.specs.Rules.{turn}
use Rattle.project.proofs.ProjectChecks.{modulus_above, modes-differ, modulus-other, table-breaks, table-passes}
use borrow.Author.Rules.{rules}
use Rattle.project.proofs.checks.sector_checked.Goals as goal

-- the remainder that is tested
remainder : (gs : List Generator) (found : ℕ) → found ≡ modulus gs → turn % modulus gs ≡ turn % found
remainder gs found e = sym (ap (λ (m : ℕ). turn % m) e)

pub returns-then-modes-generators : goal.returns-then-modes-generators
returns-then-modes-generators c =
    sym (modes-differ c.args.table (group_lent c.args.group.now) c.args.modes.now c.if-modes-generators.true)

pub phase_modulus-requires : goal.phase_modulus-requires
phase_modulus-requires c = accepted_tables (group_lent c.args.group.now) (value-accepted (group_lent c.args.group.now) (search rules) (search rules) c.requires)

pub nonzero_rem-phase_modulus : goal.nonzero_rem-phase_modulus
nonzero_rem-phase_modulus c = omega (arith, c.phase_modulus.ensures, modulus_above (accepted_tables (group_lent c.args.group.now) (value-accepted (group_lent c.args.group.now) (search rules) (search rules) c.requires)))

pub returns-then-phase_modulus-ne0 : goal.returns-then-phase_modulus-ne0
unfolding generators_of
returns-then-phase_modulus-ne0 c =
    sym
    (modulus-other c.args.table (group_lent c.args.group.now) c.args.modes.now c.if-modes-generators.false (λ e. c.if-phase_modulus-ne0.true (sym (remainder (generators_of (group_lent c.args.group.now)) c.phase_modulus.result c.phase_modulus.ensures) ∙ e)))

pub returns-then-passes : goal.returns-then-passes
unfolding generators_of
returns-then-passes c =
    sym
    (table-passes c.args.table (group_lent c.args.group.now) c.args.modes.now c.if-modes-generators.false (remainder (generators_of (group_lent c.args.group.now)) c.phase_modulus.result c.phase_modulus.ensures ∙ c.if-phase_modulus-ne0.false)
    (sym c.passes.ensures ∙ c.if-passes.true))

pub returns-else-passes : goal.returns-else-passes
unfolding generators_of
returns-else-passes c =
    sym
    (table-breaks c.args.table (group_lent c.args.group.now) c.args.modes.now c.if-modes-generators.false (remainder (generators_of (group_lent c.args.group.now)) c.phase_modulus.result c.phase_modulus.ensures ∙ c.if-phase_modulus-ne0.false)
    (sym c.passes.ensures ∙ c.if-passes.false))
