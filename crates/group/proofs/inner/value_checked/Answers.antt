-- `inner::value_checked` meets its contract: each return is reached by the tests that decide it.
use mathlib.Core.Path.{sym, ◌∙◌}
use Rattle.group.specs.Value.{group_lent}
use Rattle.group.proofs.Accepted.{value-many, value_other, value_passes}
use Rattle.group.proofs.inner.value_checked.Goals as goal

pub returns-then-sites-gt-MAX_SITES : goal.returns-then-sites-gt-MAX_SITES
returns-then-sites-gt-MAX_SITES c = sym (value-many (group_lent c.args.group.now) c.if-sites-gt-MAX_SITES.true)

pub returns-then-is_group : goal.returns-then-is_group
returns-then-is_group c = sym (value_passes (group_lent c.args.group.now) c.if-sites-gt-MAX_SITES.false (sym c.is_group.ensures ∙ c.if-is_group.true))

pub returns-else-is_group : goal.returns-else-is_group
returns-else-is_group c = sym (value_other (group_lent c.args.group.now) c.if-sites-gt-MAX_SITES.false (sym c.is_group.ensures ∙ c.if-is_group.false))
