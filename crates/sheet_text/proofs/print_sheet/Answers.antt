-- `print_sheet` meets its contract: a sheet prints the line of its first broken rule (`sheet-broken`), or its table (`lent-prints`).
use Prim.Native.Nat.{ℕ, ◌+◌, ◌≤◌, ◌<◌}
use mathlib.Core.Path.{◌≡◌, sym, ap, ap₂, ◌∙◌}
use mathlib.Core.List.{List, [], ◌∷◌, ◌++◌}
use native.Mathlib.Omega.{arith}
use lib.ListN.{length, length-append}
use borrow.Author.Rules.{rules}
use Rattle.outcome.specs.Outcome.{answer, verdict}
use Rattle.elements.specs.HeldGroup.{generators_held}
use Rattle.text.specs.Text.{line_end, pieces, max_written, put}
use Rattle.text.proofs.Puts.{put-length, put-put}
use Rattle.sheet_lines.specs.declared.LineFault.{LineFault}
use Rattle.sheet_lines.specs.declared.head.Head.{Head}
use Rattle.sheet_lines.specs.Parts.{refused_at, outcome_of_lines, Ready}
use Rattle.sheet_lines.proofs.Faults.{of_fault, of_answer}
use Rattle.sheet_text.specs.Sheet.{table_names, sheet_checks, rows as rows_of}
use Rattle.sheet_text.proofs.Sheets.{sheet-broken, sheet-passes, body, ready-short, lent-tables, lent-few, lent-checks, lent-prints}
use Rattle.sheet_text.proofs.print_sheet.Goals as goal

-- what is told of a sheet that breaks a rule, and of one that breaks none
abbrev Broken : List ℕ → LineFault → Type 0
Broken input fault = (refused_at fault.why fault.line ≡ verdict (sheet_checks input)) × (fault.line < max_written)

abbrev Passed : List ℕ → Head → Type 0
Passed input head = Ready input head × (verdict (sheet_checks input) ≡ answer tt)

pub refused_line-requires : goal.refused_line-requires
refused_line-requires c = ((of_fault (Broken c.args.input.now) c.checked.ensures.fault c.in-Err.is).1, c.requires)

pub returns-in-Err : goal.returns-in-Err
returns-in-Err c =
    let input = c.args.input.now in
    let told = of_fault (Broken input) c.checked.ensures.fault c.in-Err.is in
    let prints = sheet-broken input c.in-Err.fault told.0 in record {
      answer = ap outcome_of_lines c.refused_line.ensures.answer ∙ prints.0;
      place = c.refused_line.ensures.place ∙ sym (ap length prints.1);
      list = c.refused_line.ensures.list ∙ sym (ap (λ (t : List ℕ). put 0 t c.args.list.now) prints.1);
    }

pub slice_bounds-fill_rows-count : goal.slice_bounds-fill_rows-count
slice_bounds-fill_rows-count c = (of_answer (Passed c.args.input.now) c.checked.ensures.ready c.in-Ok.is).0.inside

pub slice_bounds-fill_rows-start : goal.slice_bounds-fill_rows-start
slice_bounds-fill_rows-start c = (of_answer (Passed c.args.input.now) c.checked.ensures.ready c.in-Ok.is).0.inside

pub fill_rows-requires : goal.fill_rows-requires
fill_rows-requires c =
    let input = c.args.input.now in
    let h = c.in-Ok.head in
    let (ready, passes) = of_answer (Passed input) c.checked.ensures.ready c.in-Ok.is in
    let (short, fine) = sheet-passes input passes in
    let long = ap length c.append-place.ensures.list ∙ put-length 0 _ c.args.list.now (omega (arith, c.requires)) in
    let few = ready-short input short h ready in record {
      tables = lent-tables input short h ready _ c.lent.ensures;
      used_bound = lent-few input short h ready _ c.lent.ensures;
      text_value = lent-checks input short h ready _ c.lent.ensures fine;
      text_len_bound = (few, omega (arith, c.append-place.ensures.place, long, few, c.requires));
    }

pub returns : goal.returns
returns c =
    let input = c.args.input.now in
    let h = c.in-Ok.head in
    let (ready, passes) = of_answer (Passed input) c.checked.ensures.ready c.in-Ok.is in
    let (short, fine) = sheet-passes input passes in
    let long = ap length c.append-place.ensures.list ∙ put-length 0 _ c.args.list.now (omega (arith, c.requires)) in
    let prints = lent-prints input short h ready _ c.lent.ensures passes in
    let list = c.args.list.now in
    let value : List ℕ = rows_of c.lent.result.generators (generators_held c.lent.result) (pieces line_end (body input short h ready)) in
    let header : List ℕ = table_names ++ (line_end ∷ []) in
    let room : 0 + length header + length value ≤ length list = omega (arith, c.fill_rows.ensures.place, c.append-place.ensures.place, c.fill_rows.ensures.room, long) in record {
      answer = prints.0;
      place = c.fill_rows.ensures.place ∙ ap (λ (k : ℕ). k + length value) c.append-place.ensures.place ∙ sym (ap length prints.1 ∙ length-append header value);
      list = c.fill_rows.ensures.list
          ∙ ap₂ (λ (k : ℕ) (l : List ℕ). put k value l) c.append-place.ensures.place c.append-place.ensures.list
          ∙ put-put 0 header value list room
          ∙ sym (ap (λ (t : List ℕ). put 0 t list) prints.1);
    }
