-- `read::read_signed` meets its contract: a value is the number up to the cap (`plain_value`), and one with a minus is the callee's.
use mathlib.Core.Path.{sym, ◌∙◌}
use native.Mathlib.Omega.{arith}
use borrow.Author.Rules.{rules}
use Rattle.text.proofs.Numbers.{signed_none, plain-no-number, plain_value}
use Rattle.text.proofs.read.read_signed.Goals as goal

pub returns-then-text-eq0 : goal.returns-then-text-eq0
returns-then-text-eq0 c = sym (signed_none c.args.text.now c.if-text-eq0.true)

pub returns-then-is_number : goal.returns-then-is_number
returns-then-is_number c =
    let t = c.args.text.now in
    let number = sym c.is_number.ensures ∙ c.if-is_number.true in
    plain_value t (omega arith) c.if-text-eq45.false c.value.result c.value.ensures number

pub returns-else-is_number : goal.returns-else-is_number
returns-else-is_number c =
    let t = c.args.text.now in
    sym (plain-no-number t (omega arith) c.if-text-eq45.false (sym c.is_number.ensures ∙ c.if-is_number.false))
