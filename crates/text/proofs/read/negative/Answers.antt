-- `read::negative` meets its contract: the bytes after the minus are what is read (`rest_part`), and their value is made negative (`negated`).
use Prim.Native.Nat.{min}
use mathlib.Core.Path.{sym, ap, ◌∙◌}
use native.Mathlib.Omega.{arith}
use borrow.Author.Rules.{rules}
use borrow.Author.Tests.{not-true, not-false}
use Rattle.pauli_word.proofs.Words.{rest_part}
use Rattle.text.specs.Text.{is_number, number_of}
use Rattle.text.specs.Parts.{cap}
use Rattle.std.specs.Prelude.{Some}
use Rattle.text.proofs.Numbers.{minus-no-number, minus-zero, minus-value, less-fits, negated}
use Rattle.text.proofs.read.negative.Goals as goal

pub returns-then-not-is_number : goal.returns-then-not-is_number
returns-then-not-is_number c =
    let t = c.args.text.now in
    sym (minus-no-number t c.requires.0 c.requires.1 (ap is_number (sym (rest_part 1 t)) ∙ sym c.is_number.ensures ∙ not-true _ c.if-not-is_number.true-raw))

pub returns-then-v-eq0 : goal.returns-then-v-eq0
returns-then-v-eq0 c =
    let t = c.args.text.now in
    sym (minus-zero t c.requires.0 c.requires.1 c.value-v.result (c.value-v.ensures ∙ ap (λ b. min (number_of b) cap) (rest_part 1 t)) c.if-v-eq0.true)

pub overflow_sub-result : goal.overflow_sub-result
overflow_sub-result c = less-fits c.value-v.result (omega arith) (omega (arith, c.value-v.ensures))

pub returns : goal.returns
returns c =
    let t = c.args.text.now in
    let e = c.value-v.ensures ∙ ap (λ b. min (number_of b) cap) (rest_part 1 t) in
    let told = sym c.is_number.ensures ∙ not-false _ c.if-not-is_number.false-raw in
    ap Some (negated c.value-v.result (omega arith) (omega arith))
    ∙ minus-value t c.requires.0 c.requires.1 c.value-v.result e (ap is_number (sym (rest_part 1 t)) ∙ told) (omega arith)
