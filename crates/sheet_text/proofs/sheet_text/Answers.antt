-- `sheet_text` meets its contract: the list is too short (`list-short`), or what the sheet prints is written at its front (`page-table`, `page-refused`).
use Prim.Native.Nat.{ℕ, ◌-◌, ◌≤◌}
use mathlib.Core.Path.{◌≡◌, sym, ap, ◌∙◌}
use mathlib.Core.List.{List}
use native.Mathlib.Omega.{arith}
use lib.ListN.{length, take, replicate, length-replicate}
use borrow.Author.Rules.{rules}
use Rattle.outcome.specs.Outcome.{answer, rule_number, rule_values}
use Rattle.text.specs.Text.{put}
use Rattle.sheet_lines.specs.Parts.{outcome_of_lines}
use Rattle.text.proofs.Puts.{put-length}
use Rattle.sheet_text.specs.Sheet.{sheet, max_table, written_outcome, table_page, refusal_page, list_after}
use Rattle.sheet_text.proofs.Sheets.{list-short, list-long, page-table, page-refused, printed-front}
use Rattle.sheet_text.proofs.Fits.{sheet_fits}
use Rattle.sheet_text.proofs.sheet_text.Goals as goal

-- the list is too short
pub returns-then-list-length : goal.returns-then-list-length
returns-then-list-length c =
    let a = c.args in
    let e = list-short a.input.now (length a.list.now) (omega (arith, c.print_sheet-written.ensures.place, c.if-list-length.true)) in record {
      answer = sym e;
      list = sym (ap (list_after (sheet a.input.now) a.list.now) e);
    }

pub slice_bounds-append-end : goal.slice_bounds-append-end
slice_bounds-append-end c =
    let input = c.args.input.now in
    let list = c.args.list.now in
    let p = c.print_sheet-written in
    let long =
    ap length p.ensures.list ∙ put-length 0 (sheet input) (replicate max_table 0) (omega (arith, sheet_fits input, length-replicate {A = ℕ} max_table 0))
    ∙ length-replicate {A = ℕ} max_table 0
    in
    omega (arith, p.ensures.place, sheet_fits input, long)

pub returns-in-Ok : goal.returns-in-Ok
returns-in-Ok c =
    let input = c.args.input.now in
    let list = c.args.list.now in
    let p = c.print_sheet-written in
    let room : length (sheet input) ≤ length list = omega (arith, p.ensures.place, c.if-list-length.false) in
    let front = ap (take (p.result.length - 0)) p.ensures.list ∙ printed-front (sheet input) (replicate max_table 0) p.result.length p.ensures.place in
    let written =
    c.append.ensures.list ∙ ap (λ (t : List ℕ). put 0 t list) front ∙ sym (ap (list_after (sheet input) list) (list-long input (length list) room))
    in
    let fine = ap outcome_of_lines (sym c.in-Ok.is) ∙ p.ensures.answer in record {
      answer = ap (λ (k : ℕ). answer (table_page k)) p.ensures.place ∙ page-table input (length list) room fine;
      list = written;
    }

pub returns-in-Err : goal.returns-in-Err
returns-in-Err c =
    let input = c.args.input.now in
    let list = c.args.list.now in
    let p = c.print_sheet-written in
    let room : length (sheet input) ≤ length list = omega (arith, p.ensures.place, c.if-list-length.false) in
    let front = ap (take (p.result.length - 0)) p.ensures.list ∙ printed-front (sheet input) (replicate max_table 0) p.result.length p.ensures.place in
    let written =
    c.append.ensures.list ∙ ap (λ (t : List ℕ). put 0 t list) front ∙ sym (ap (list_after (sheet input) list) (list-long input (length list) room))
    in
    let why = c.in-Err.fault.why in
    let line = c.in-Err.fault.line in
    let broken = ap outcome_of_lines (sym c.in-Err.is) ∙ p.ensures.answer in record {
      answer =
          ap (λ (k : ℕ). answer (refusal_page (rule_number why) line (rule_values why) k)) p.ensures.place
          ∙ page-refused input (length list) room why line broken;
      list = written;
    }
