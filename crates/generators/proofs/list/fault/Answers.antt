-- `list::fault` meets its contract: a generator of the right length has the fault that its targets have.
use mathlib.Core.Path.{sym, ap, ◌∙◌}
use Rattle.outcome.specs.Outcome.{alone}
use Rattle.generators.proofs.Faults.{other_length, perm-targets}
use Rattle.generators.proofs.list.fault.Goals as goal

pub returns-then-perm-sites : goal.returns-then-perm-sites
returns-then-perm-sites c =
    let a = c.args in
    sym (ap alone (other_length a.sites a.generator a.perm.now c.if-perm-sites.true))

pub returns : goal.returns
returns c =
    let a = c.args in
    c.first_fault.ensures ∙ sym (ap alone (perm-targets a.sites a.generator a.perm.now c.if-perm-sites.false))
