-- `read::is_number` meets its contract, by how many bytes there are: none, one, more with a 0 in front, more without.
use mathlib.Core.Path.{sym, ◌∙◌}
use native.Mathlib.Omega.{arith}
use borrow.Author.Rules.{rules}
use Rattle.text.proofs.Numbers.{number_none, number_one, number-zero, number_more}
use Rattle.text.proofs.read.is_number.Goals as goal

pub returns-then-text-eq0 : goal.returns-then-text-eq0
returns-then-text-eq0 c = sym (number_none c.args.text.now c.if-text-eq0.true)

pub returns-then-text-eq1 : goal.returns-then-text-eq1
returns-then-text-eq1 c = c.digits_alone.ensures ∙ sym (number_one c.args.text.now c.if-text-eq1.true)

pub returns-then-text-eq48 : goal.returns-then-text-eq48
returns-then-text-eq48 c = sym (number-zero c.args.text.now (omega arith) (omega arith))

pub returns : goal.returns
returns c =
    let t = c.args.text.now in
    c.digits_alone-2.ensures ∙ sym (number_more t (omega arith) (λ z. omega arith))
