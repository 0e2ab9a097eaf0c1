-- `calls::sector_of` meets its contract: the lists' lengths decide (`sector-modes`, `sector-length`), and then `decided` answers (`sector-decision`).
use mathlib.Core.Path.{sym, ap, ◌∙◌}
use lib.ListN.{length}
use Rattle.group.specs.declared.Group.{Group}
use Rattle.group.specs.Value.{group_lent, generators_of}
use Rattle.outcome.specs.Outcome.{answer, on_answer, or_else}
use Rattle.momentum.specs.Calls.{sector_of, row_counter}
use Rattle.momentum.proofs.Outcomes.{sector-modes, sector-length, sector-decision}
use borrow.Author.Rules.{rules}
use Rattle.momentum.proofs.calls.sector_of.Goals as goal

pub returns-then-modes-group : goal.returns-then-modes-group
returns-then-modes-group c =
    let counter = c.args.counter.now in
    let gs = generators_of (group_lent c.args.group.now) in
    let e = sector-modes (group_lent c.args.group.now) c.args.group.now.sites c.args.word.now c.requires.word_value c.args.modes.now (length counter) c.if-modes-group.true in record {
      answer = sym (ap (on_answer sector_of) e);
      counter = sym (ap (or_else (row_counter gs counter) counter) e);
    }

pub returns-then-counter-group : goal.returns-then-counter-group
returns-then-counter-group c =
    let counter = c.args.counter.now in
    let gs = generators_of (group_lent c.args.group.now) in
    let e =
    sector-length (group_lent c.args.group.now) c.args.group.now.sites c.args.word.now c.requires.word_value c.args.modes.now (length counter) c.if-modes-group.false
    c.if-counter-group.true
    in record {
      answer = sym (ap (on_answer sector_of) e);
      counter = sym (ap (or_else (row_counter gs counter) counter) e);
    }

pub returns : goal.returns
returns c =
    let counter = c.args.counter.now in
    let gs = generators_of (group_lent c.args.group.now) in
    let e =
    sector-decision (group_lent c.args.group.now) c.args.group.now.sites c.args.word.now c.requires.word_value c.args.modes.now (length counter) c.if-modes-group.false
    c.if-counter-group.false
    in record {
      answer = ap answer c.decided.ensures.answer ∙ sym (ap (on_answer sector_of) e);
      counter = c.decided.ensures.counter ∙ sym (ap (or_else (row_counter gs counter) counter) e);
    }
