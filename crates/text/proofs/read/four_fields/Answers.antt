-- `read::four_fields` meets its contract: each field that ends leaves the rest of the line one field less to hold (`fails-after`, `ends-parts`).
use mathlib.Core.List.{List}
use Prim.Native.Nat.{ℕ, ◌+◌, ◌≤◌}
use mathlib.Core.Path.{◌≡◌, sym, ◌∙◌}
use mathlib.Core.Logic.{⊎_elim}
use native.Mathlib.Omega.{arith}
use borrow.Author.Rules.{rules}
use lib.ListN.{length}
use mir.Syntax.{w64}
use mir.Val.{Fits}
use Rattle.text.specs.Parts.{field_from}
use Rattle.text.specs.declared.read.Field.TheVariants as Field
use Rattle.text.proofs.Pieces.{ends-pieces, no_end, no_last, fails-after, other-fields, ends_parts, parts-read}
use Rattle.text.proofs.read.four_fields.Goals as goal

pub returns-in_default : goal.returns-in_default
returns-in_default c = sym (other-fields c.args.line.now (no_end c.args.line.now 0 2 (λ e f. c.in_default.not-Ends e (c.field_from.ensures ∙ f))))

pub overflow_add-a : goal.overflow_add-a
overflow_add-a c = omega (arith, ends-pieces c.args.line.now 0 c.in-Ends.a (sym c.field_from.ensures ∙ c.in-Ends.is), c.well_formed)

pub field_from-requires-2 : goal.field_from-requires-2
field_from-requires-2 c = omega (arith, ends-pieces c.args.line.now 0 c.in-Ends.a (sym c.field_from.ensures ∙ c.in-Ends.is))

pub overflow_add-b : goal.overflow_add-b
overflow_add-b c = omega (arith, ends-pieces c.args.line.now (c.in-Ends.a + 1) c.in-Ends-field_from.b (sym c.field_from-2.ensures ∙ c.in-Ends-field_from.is), c.well_formed)

pub field_from-requires-3 : goal.field_from-requires-3
field_from-requires-3 c = omega (arith, ends-pieces c.args.line.now (c.in-Ends.a + 1) c.in-Ends-field_from.b (sym c.field_from-2.ensures ∙ c.in-Ends-field_from.is))

pub overflow_add-c : goal.overflow_add-c
overflow_add-c c = omega (arith, ends-pieces c.args.line.now (c.in-Ends-field_from.b + 1) c.in-Ends-field_from-2.c (sym c.field_from-3.ensures ∙ c.in-Ends-field_from-2.is), c.well_formed)

pub field_from-requires-4 : goal.field_from-requires-4
field_from-requires-4 c = omega (arith, ends-pieces c.args.line.now (c.in-Ends-field_from.b + 1) c.in-Ends-field_from-2.c (sym c.field_from-3.ensures ∙ c.in-Ends-field_from-2.is))

pub returns-in_default-field_from : goal.returns-in_default-field_from
returns-in_default-field_from c =
    let other = no_end c.args.line.now (c.in-Ends.a + 1) 1 (λ e f. c.in_default-field_from.not-Ends e (c.field_from-2.ensures ∙ f)) in
    sym (other-fields c.args.line.now (fails-after c.args.line.now 0 3 c.in-Ends.a (sym c.field_from.ensures ∙ c.in-Ends.is) other))

pub returns-in_default-field_from-2 : goal.returns-in_default-field_from-2
returns-in_default-field_from-2 c =
    let other = no_end c.args.line.now (c.in-Ends-field_from.b + 1) 0 (λ e f. c.in_default-field_from-2.not-Ends e (c.field_from-3.ensures ∙ f)) in
    sym (other-fields c.args.line.now (fails-after c.args.line.now 0 3 c.in-Ends.a (sym c.field_from.ensures ∙ c.in-Ends.is) (fails-after c.args.line.now (c.in-Ends.a + 1) 2 c.in-Ends-field_from.b (sym c.field_from-2.ensures ∙ c.in-Ends-field_from.is) other)))

pub returns-in_default-field_from-3 : goal.returns-in_default-field_from-3
returns-in_default-field_from-3 c =
    let other = no_last c.args.line.now (c.in-Ends-field_from-2.c + 1) (λ f. c.in_default-field_from-3.not-Last (c.field_from-4.ensures ∙ f)) in
    sym (other-fields c.args.line.now (fails-after c.args.line.now 0 3 c.in-Ends.a (sym c.field_from.ensures ∙ c.in-Ends.is) (fails-after c.args.line.now (c.in-Ends.a + 1) 2 c.in-Ends-field_from.b (sym c.field_from-2.ensures ∙ c.in-Ends-field_from.is) (fails-after c.args.line.now (c.in-Ends-field_from.b + 1) 1 c.in-Ends-field_from-2.c (sym c.field_from-3.ensures ∙ c.in-Ends-field_from-2.is) other))))

pub returns : goal.returns
returns c = sym (parts-read c.args.line.now _ _ _ (ends_parts c.args.line.now c.in-Ends.a c.in-Ends-field_from.b c.in-Ends-field_from-2.c (sym c.field_from.ensures ∙ c.in-Ends.is) (sym c.field_from-2.ensures ∙ c.in-Ends-field_from.is) (sym c.field_from-3.ensures ∙ c.in-Ends-field_from-2.is) (sym c.field_from-4.ensures ∙ c.in-Last.is)))
