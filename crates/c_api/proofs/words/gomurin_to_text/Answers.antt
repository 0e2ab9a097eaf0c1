-- `gomurin_to_text` meets its contract: it writes the text that `pauli_word::to_text` answers, or zeros.
use Rattle.outcome.specs.Outcome.{outcome_of}
use Rattle.pauli_word.specs.declared.WordText.{WordText}
use Rattle.pauli_word.specs.Limits.{max_sites}
use Rattle.pauli_word.specs.Calls.{to_text_outcome, word_text, to_text_bytes}
use Rattle.c_api.proofs.Telling.{else-told}
use lib.ListN.{replicate}
use mathlib.Core.Path.{ap, sym, ◌∙◌}
use Rattle.c_api.proofs.words.gomurin_to_text.Goals as goal

pub returns-in-Ok-clause-text : goal.returns-in-Ok-clause-text
unfolding to_text_bytes
returns-in-Ok-clause-text c =
    let own = λ (r : WordText). r.text in
    let o = to_text_outcome c.args.n c.args.word.now in
    else-told word_text o (sym (ap outcome_of c.in-Ok.is) ∙ c.to_text.ensures) own (replicate max_sites 0)

pub returns-in-Err-clause-text : goal.returns-in-Err-clause-text
unfolding to_text_bytes
returns-in-Err-clause-text c =
    let own = λ (r : WordText). r.text in
    let o = to_text_outcome c.args.n c.args.word.now in
    else-told word_text o (sym (ap outcome_of c.in-Err.is) ∙ c.to_text.ensures) own (replicate max_sites 0)
