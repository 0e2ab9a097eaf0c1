-- `checked` meets its contract: a sheet is too long (`size-broken`), or its first three lines decide and then its value lines (`lines-decide`).
use Prim.Native.Nat.{ℕ, ◌+◌, ◌≤◌, ◌<◌}
use mathlib.Core.Path.{◌≡◌, sym, ap, ◌∙◌}
use native.Mathlib.Omega.{arith}
use borrow.Author.Rules.{rules}
use lib.ListN.{length}
use Rattle.outcome.specs.Outcome.{answer, verdict}
use Rattle.text.specs.Text.{line_end, pieces}
use Rattle.sheet_lines.specs.declared.LineFault.{LineFault}
use Rattle.sheet_lines.specs.declared.head.Head.{Head}
use Rattle.sheet_lines.specs.Lines.{body_checks, line_checks}
use Rattle.sheet_lines.specs.Parts.{refused_at, Ready, outcome_of_lines}
use Rattle.sheet_lines.proofs.Faults.{handed_fault, of_fault, of_answer}
use Rattle.sheet_text.specs.Sheet.{max_sheet}
use Rattle.sheet_text.proofs.Sheets.{size-broken, lines-decide, ready-few, ready-short, ready-checks}
use Rattle.sheet_text.proofs.checked.Goals as goal

pub returns-then-input-gt-MAX_SHEET : goal.returns-then-input-gt-MAX_SHEET
returns-then-input-gt-MAX_SHEET c = record {
  fault = (size-broken c.args.input.now c.if-input-gt-MAX_SHEET.true, omega arith);
  ready = tt;
}

pub returns-in_err-head : goal.returns-in_err-head
returns-in_err-head c =
    let input = c.args.input.now in
    let broken = of_fault (λ fault. (refused_at fault.why fault.line ≡ verdict (line_checks (pieces line_end input))) × (fault.line ≤ 3))
    c.read_head.ensures.fault c.in_err-head.was in
    rw (handed_fault c.from_residual.result c.from_residual.ensures.1) (record {
      fault = (broken.0 ∙ sym (lines-decide input c.if-input-gt-MAX_SHEET.false), omega (arith, broken.1));
      ready = tt;
    })

pub slice_bounds-body_fault-count : goal.slice_bounds-body_fault-count
slice_bounds-body_fault-count c = (of_answer (λ head. Ready c.args.input.now head) c.read_head.ensures.ready c.in_ok-head.was).inside

pub slice_bounds-body_fault-start : goal.slice_bounds-body_fault-start
slice_bounds-body_fault-start c = (of_answer (λ head. Ready c.args.input.now head) c.read_head.ensures.ready c.in_ok-head.was).inside

pub body_fault-requires : goal.body_fault-requires
body_fault-requires c =
    let input = c.args.input.now in
    let short = c.if-input-gt-MAX_SHEET.false in
    let ready = of_answer (λ head. Ready input head) c.read_head.ensures.ready c.in_ok-head.was in
    (ready-few input short c.in_ok-head.head ready, ready-short input short c.in_ok-head.head ready)

pub returns-in_err-body_fault : goal.returns-in_err-body_fault
returns-in_err-body_fault c =
    let input = c.args.input.now in
    let short = c.if-input-gt-MAX_SHEET.false in
    let h = c.in_ok-head.head in
    let ready = of_answer (λ head. Ready input head) c.read_head.ensures.ready c.in_ok-head.was in
    let small = of_fault (λ fault. fault.line ≤ max_sheet + 4) c.body_fault.ensures.small c.in_err-body_fault.was in
    let broken = ap outcome_of_lines (sym c.in_err-body_fault.was) ∙ c.body_fault.ensures.fault ∙ sym (ready-checks input short h ready) in
    rw (handed_fault c.from_residual-in_err-body_fault.result c.from_residual-in_err-body_fault.ensures.1) (record {
      fault = (broken ∙ sym (lines-decide input short), omega (arith, small));
      ready = tt;
    })

pub returns : goal.returns
returns c =
    let input = c.args.input.now in
    let short = c.if-input-gt-MAX_SHEET.false in
    let h = c.in_ok-head.head in
    let ready = of_answer (λ head. Ready input head) c.read_head.ensures.ready c.in_ok-head.was in
    let fine = sym c.body_fault.ensures.fault ∙ ap outcome_of_lines c.in_ok-body_fault.was in record {
      fault = tt;
      ready = (ready, lines-decide input short ∙ ready-checks input short h ready ∙ fine);
    }
