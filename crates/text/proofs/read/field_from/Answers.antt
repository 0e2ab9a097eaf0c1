-- `read::field_from` meets its contract: the rest of the line is what `find` searches (`rest_part`), and the field is empty, the last, or ends.
use Prim.Native.Nat.{◌+◌}
use mathlib.Core.Path.{sym, ap, ◌∙◌}
use native.Mathlib.Omega.{arith}
use borrow.Author.Rules.{rules}
use lib.ListN.{length, drop, length-drop}
use Rattle.pauli_word.proofs.Words.{rest_part}
use Rattle.text.specs.Text.{space, before}
use Rattle.text.specs.declared.read.Field.TheVariants as Field
use Rattle.text.proofs.Pieces.{before_short, field-empty, field-last, field-ends}
use Rattle.text.proofs.read.field_from.Goals as goal

pub returns-then-k-eq0 : goal.returns-then-k-eq0
returns-then-k-eq0 c =
    let a = c.args in
    let e = c.find-k.ensures ∙ ap (λ b. length (before space b)) (rest_part a.start a.line.now) in
    sym (field-empty a.line.now a.start (omega arith))

pub overflow_add-result : goal.overflow_add-result
overflow_add-result c =
    let line = c.args.line.now in
    let start = c.args.start in
    let e = c.find-k.ensures ∙ ap (λ b. length (before space b)) (rest_part start line) in
    omega (arith, e, before_short space (drop start line), length-drop start line, c.well_formed)

pub returns-then-k-text : goal.returns-then-k-text
returns-then-k-text c =
    let a = c.args in
    let r = rest_part a.start a.line.now in
    let e = c.find-k.ensures ∙ ap (λ b. length (before space b)) r in
    sym (field-last a.line.now a.start (λ z. omega arith) (sym e ∙ c.if-k-text.true ∙ ap length r))

pub returns-else-k-text : goal.returns-else-k-text
returns-else-k-text c =
    let a = c.args in
    let r = rest_part a.start a.line.now in
    let e = c.find-k.ensures ∙ ap (λ b. length (before space b)) r in
    ap (λ k. Field.Ends (a.start + k)) e
    ∙ sym (field-ends a.line.now a.start (λ z. omega arith) (λ z. c.if-k-text.false (e ∙ z ∙ sym (ap length r))))
