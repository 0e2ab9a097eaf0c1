use Rattle.outcome.proofs.Outcomes.{handed_on}
use mathlib.Core.Path.{sym, ap, ◌∙◌}
use native.Mathlib.Omega.{arith}
use Rattle.outcome.specs.Outcome.{outcome_of}
use Rattle.row_lists.proofs.InFull.{row_inside}
use Rattle.row_lists.proofs.WordLists.{words-start, words-refused, words-pass, words-end}
use Rattle.row_lists.proofs.checks.words_checked.Goals as goal

pub loop-i-init : goal.loop-i-init
loop-i-init c =
    let a = c.args in
    (omega arith, words-start a.sites a.size a.rows a.words.now c.requires.0 c.requires.1)

pub word_checked-requires : goal.word_checked-requires
word_checked-requires c = record {
  either_length = c.requires.0;
  size_in_bounds = row_inside c.args.size c.args.rows c.args.words.now c.requires.1 c.loop-i.i c.loop-i-test.true;
}

pub returns-in_err-word_checked : goal.returns-in_err-word_checked
returns-in_err-word_checked c =
    ap outcome_of (handed_on c.from_residual.result c.from_residual.ensures.1)
    ∙ (let a = c.args in
    sym
    (c.loop-i.invariant.1
    ∙ words-refused a.sites a.size a.rows a.words.now c.requires.0 c.requires.1 c.loop-i.i c.in_err-word_checked.field-0.0 c.loop-i-test.true
    (sym c.word_checked.ensures ∙ ap outcome_of c.in_err-word_checked.was)))

pub loop-i-preserved : goal.loop-i-preserved
loop-i-preserved c =
    let a = c.args in (
      omega (arith, c.loop-i-test.true),
      c.loop-i.invariant.1
          ∙ words-pass a.sites a.size a.rows a.words.now c.requires.0 c.requires.1 c.loop-i.i c.loop-i-test.true
          (sym c.word_checked.ensures ∙ ap outcome_of c.in_ok-word_checked.was),
    )

pub returns : goal.returns
returns c =
    let a = c.args in
    sym
    (c.loop-i.invariant.1
    ∙ words-end a.sites a.size a.rows a.words.now c.requires.0 c.requires.1 c.loop-i.i c.loop-i-test.false)
