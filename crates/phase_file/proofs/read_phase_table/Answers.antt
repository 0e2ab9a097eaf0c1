-- `read_phase_table` meets its contract: the file is too long, has another form, or its table is tested (`FileCalls`).
use mathlib.Core.Path.{sym, ap₂, ◌∙◌}
use native.Mathlib.Omega.{arith}
use borrow.Author.Tests.{not-true, not-false}
use Rattle.phases.specs.Rules.{table_of}
use Rattle.phase_file.proofs.FileCalls.{long-back, formless-back, tested-back}
use Rattle.phase_file.proofs.read_phase_table.Goals as goal

pub returns-then-file-gt-MAX_FILE : goal.returns-then-file-gt-MAX_FILE
returns-then-file-gt-MAX_FILE c =
    let it = long-back c.args.file.now c.refused.result c.refused.ensures c.if-file-gt-MAX_FILE.true in record {
      answer = it.0;
      table = it.1;
    }

pub returns-then-not-read_file : goal.returns-then-not-read_file
returns-then-not-read_file c =
    let file = c.args.file.now in
    let told = c.refused-then-not-read_file in
    let it = formless-back file told.result told.ensures (sym (not-true _ c.if-not-read_file.true-raw) ∙ c.read_file.ensures.form) in record {
      answer = it.0;
      table = it.1;
    }

pub returns : goal.returns
returns c =
    let file = c.args.file.now in
    let fine = not-false _ c.if-not-read_file.false-raw in
    let it = tested-back file (omega (arith, c.if-file-gt-MAX_FILE.false)) (sym fine ∙ c.read_file.ensures.form) c.tested.result _
    (ap₂ table_of (c.read_file.ensures.cosines fine) (c.read_file.ensures.sines fine)) c.tested.ensures.answer c.tested.ensures.table in record {
      answer = it.0;
      table = it.1;
    }
