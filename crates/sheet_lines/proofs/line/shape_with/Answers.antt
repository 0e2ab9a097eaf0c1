-- `line::shape_with` meets its contract: sides that fit make the lattice of their numbers (`sides-made`, `sides-refused`), others break 31 (`sides_unfit`).
use Prim.Native.Nat.{◌≤◌}
use mathlib.Core.Path.{refl, sym, ap, subst, ◌∙◌}
use mathlib.Core.List.{[], ◌∷◌}
use borrow.Author.Tests.{not-true, not-false}
use Rattle.std.specs.Prelude.{Result}
use Rattle.outcome.specs.declared.Refusal.{Refusal}
use Rattle.outcome.specs.Outcome.{outcome_of}
use Rattle.outcome.proofs.Outcomes.{handed_on}
use Rattle.text.specs.Text.{is_number}
use Rattle.sheet_lines.specs.declared.line.Shape.{Shape}
use Rattle.sheet_lines.specs.Lines.{first_pass}
use Rattle.sheet_lines.specs.Parts.{at_line}
use Rattle.sheet_lines.proofs.Lines.{sides_few, sides_unfit, sides-refused, sides-made}
use borrow.Author.Rules.{rules}
use Rattle.sheet_lines.proofs.line.shape_with.Goals as goal

pub sides_fit-requires : goal.sides_fit-requires
sides_fit-requires c = subst (λ n. n ≤ 3) (sym c.sides_of.ensures) (sides_few c.args.kind)

pub returns-then-not-sides_fit : goal.returns-then-not-sides_fit
returns-then-not-sides_fit c =
    let a = c.args in
    let texts = a.a.now ∷ a.b.now ∷ a.c.now ∷ [] in
    let used = sym c.sides_of.ensures in
    let unfit = ap (λ n. first_pass is_number n texts) used ∙ sym c.sides_fit.ensures ∙ not-true _ c.if-not-sides_fit.true-raw in record {
      answer = sides_unfit a.kind texts unfit;
      shape = tt;
    }

pub returns-in_err-group-clause-answer : goal.returns-in_err-group-clause-answer
returns-in_err-group-clause-answer c k =
    let a = c.args in
    let fit = ap (λ n. first_pass is_number n (a.a.now ∷ a.b.now ∷ a.c.now ∷ [])) (sym c.sides_of.ensures) ∙ sym c.sides_fit.ensures ∙ not-false _ c.if-not-sides_fit.false-raw in
    ap (λ (r : Result Shape Refusal). at_line k (outcome_of r)) (handed_on c.from_residual.result c.from_residual.ensures.1)
    ∙ sides-refused a.a.now a.b.now a.c.now c.value.result c.value-2.result c.value-3.result c.value.ensures c.value-2.ensures c.value-3.ensures
    a.kind fit c.in_err-group.field-0.0 (sym (ap outcome_of c.in_err-group.was) ∙ c.lattice.ensures) k

pub returns : goal.returns
returns c =
    let a = c.args in
    let fit = ap (λ n. first_pass is_number n (a.a.now ∷ a.b.now ∷ a.c.now ∷ [])) (sym c.sides_of.ensures) ∙ sym c.sides_fit.ensures ∙ not-false _ c.if-not-sides_fit.false-raw in
    let it = sides-made a.a.now a.b.now a.c.now c.value.result c.value-2.result c.value-3.result c.value.ensures c.value-2.ensures c.value-3.ensures
    a.kind fit c.in_ok-group.group (sym (ap outcome_of c.in_ok-group.was) ∙ c.lattice.ensures) in record {
      answer = it.0;
      shape = (refl, it.1);
    }
