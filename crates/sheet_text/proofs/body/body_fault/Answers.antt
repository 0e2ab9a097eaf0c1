use Rattle.std.specs.Prelude.{Result}
use Prim.Native.Nat.{ℕ, ◌+◌, ◌-◌, ◌≤◌, ◌<◌}
use mathlib.Core.Path.{◌≡◌, refl, sym, ap, ◌∙◌}
use mathlib.Core.List.{List}
use native.Mathlib.Omega.{arith}
use lib.ListN.{length, drop, length-drop}
use Rattle.outcome.specs.Outcome.{verdict, outcome_of}
use Rattle.pauli_word.proofs.Words.{rest_part}
use Rattle.text.specs.Text.{line_end, before, pieces}
use Rattle.text.proofs.Pieces.{before_short}
use Rattle.outcome.specs.declared.Refusal.{Refusal}
use Rattle.sheet_lines.specs.declared.LineFault.{LineFault}
use Rattle.sheet_lines.specs.Lines.{body_checks}
use Rattle.sheet_lines.specs.Parts.{at_line, refused_at}
use Rattle.sheet_text.specs.Sheet.{max_sheet}
use borrow.Author.Rules.{rules}
use Rattle.sheet_lines.proofs.Faults.{placed, kept, handed_fault}
use Rattle.sheet_text.proofs.Bodies.{place_unended, place_end, place-broken, place-passed}
use Rattle.sheet_text.proofs.body.body_fault.Goals as goal

pub loop-at-init : goal.loop-at-init
loop-at-init c = (omega arith, omega arith, refl)

pub slice_bounds-find-count : goal.slice_bounds-find-count
slice_bounds-find-count c = omega arith

pub slice_bounds-find-start : goal.slice_bounds-find-start
slice_bounds-find-start c = omega arith

pub slice_bounds-find-end : goal.slice_bounds-find-end
slice_bounds-find-end c = omega arith

pub overflow_add-end : goal.overflow_add-end
overflow_add-end c =
    let a = c.args in
    let l = c.loop-at in
    let found = c.find.ensures ∙ ap (λ (t : List ℕ). length (before line_end t)) (rest_part l.at a.text.now) in
    let within : l.at + c.find.result ≤ length a.text.now = omega (arith, found, before_short line_end (drop l.at a.text.now), length-drop l.at a.text.now, l.invariant.0) in
    omega (arith, within, c.requires.1)

pub returns-then-end-text : goal.returns-then-end-text
returns-then-end-text c =
    let a = c.args in
    let l = c.loop-at in
    let found = c.find.ensures ∙ ap (λ (t : List ℕ). length (before line_end t)) (rest_part l.at a.text.now) in
    let e = place_unended a.used a.sites a.text.now l.at c.find.result l.line found c.if-end-text.true c.loop-at-test.true in record {
      fault = sym (l.invariant.2 ∙ e);
      small = omega (arith, l.invariant.0, l.invariant.1, c.requires.1);
    }

pub slice_bounds-value_fault-count : goal.slice_bounds-value_fault-count
slice_bounds-value_fault-count c = omega arith

pub slice_bounds-value_fault-start : goal.slice_bounds-value_fault-start
slice_bounds-value_fault-start c = omega arith

pub slice_bounds-value_fault-end : goal.slice_bounds-value_fault-end
slice_bounds-value_fault-end c =
    let a = c.args in
    let l = c.loop-at in
    let found = c.find.ensures ∙ ap (λ (t : List ℕ). length (before line_end t)) (rest_part l.at a.text.now) in
    let within : l.at + c.find.result ≤ length a.text.now = omega (arith, found, before_short line_end (drop l.at a.text.now), length-drop l.at a.text.now, l.invariant.0) in
    within

pub value_fault-requires : goal.value_fault-requires
value_fault-requires c = c.requires.0

pub returns-in_err-map_err : goal.returns-in_err-map_err
returns-in_err-map_err c =
    let a = c.args in
    let l = c.loop-at in
    let found = c.find.ensures ∙ ap (λ (t : List ℕ). length (before line_end t)) (rest_part l.at a.text.now) in
    let within : l.at + c.find.result ≤ length a.text.now = omega (arith, found, before_short line_end (drop l.at a.text.now), length-drop l.at a.text.now, l.invariant.0) in
    let ends : l.at + c.find.result < length a.text.now = omega (arith, within, c.if-end-text.false) in
    let (why, told, is) = placed l.line c.value_fault.result c.map_err.result c.map_err.ensures.cases c.in_err-map_err.was (λ e f k. search rules) in
    let broken = place-broken a.used a.sites a.text.now l.at c.find.result l.line found ends why
    (ap (λ (x : Result (Unit {0}) Refusal). at_line l.line (outcome_of x)) (sym told) ∙ c.value_fault.ensures l.line) in
    rw (handed_fault c.from_residual.result c.from_residual.ensures.1, is) (record {
      fault = broken ∙ sym l.invariant.2;
      small = omega (arith, l.invariant.0, l.invariant.1, c.requires.1);
    })

pub overflow_add-at : goal.overflow_add-at
overflow_add-at c =
    let a = c.args in
    let l = c.loop-at in
    let found = c.find.ensures ∙ ap (λ (t : List ℕ). length (before line_end t)) (rest_part l.at a.text.now) in
    let within : l.at + c.find.result ≤ length a.text.now = omega (arith, found, before_short line_end (drop l.at a.text.now), length-drop l.at a.text.now, l.invariant.0) in
    let ends : l.at + c.find.result < length a.text.now = omega (arith, within, c.if-end-text.false) in
    omega (arith, ends, c.requires.1)

pub overflow_add-line : goal.overflow_add-line
overflow_add-line c =
    let a = c.args in
    let l = c.loop-at in
    omega (arith, l.invariant.0, l.invariant.1, c.requires.1)

pub loop-at-smaller : goal.loop-at-smaller
loop-at-smaller c =
    let a = c.args in
    let l = c.loop-at in
    let found = c.find.ensures ∙ ap (λ (t : List ℕ). length (before line_end t)) (rest_part l.at a.text.now) in
    let within : l.at + c.find.result ≤ length a.text.now = omega (arith, found, before_short line_end (drop l.at a.text.now), length-drop l.at a.text.now, l.invariant.0) in
    let ends : l.at + c.find.result < length a.text.now = omega (arith, within, c.if-end-text.false) in
    omega (arith, ends)

pub loop-at-preserved : goal.loop-at-preserved
loop-at-preserved c =
    let a = c.args in
    let l = c.loop-at in
    let found = c.find.ensures ∙ ap (λ (t : List ℕ). length (before line_end t)) (rest_part l.at a.text.now) in
    let within : l.at + c.find.result ≤ length a.text.now = omega (arith, found, before_short line_end (drop l.at a.text.now), length-drop l.at a.text.now, l.invariant.0) in
    let ends : l.at + c.find.result < length a.text.now = omega (arith, within, c.if-end-text.false) in (
      omega (arith, ends),
      omega (arith, l.invariant.1),
      l.invariant.2
          ∙ place-passed a.used a.sites a.text.now l.at c.find.result l.line found ends
          (ap (λ (x : Result (Unit {0}) Refusal). at_line l.line (outcome_of x))
          (sym (kept _ c.value_fault.result c.map_err.result c.map_err.ensures.cases c.in_ok-map_err.was)) ∙ c.value_fault.ensures l.line),
    )

pub returns : goal.returns
returns c =
    let a = c.args in
    let l = c.loop-at in record {
      fault = sym (l.invariant.2 ∙ place_end a.used a.sites a.text.now l.at l.line c.loop-at-test.false);
      small = tt;
    }
