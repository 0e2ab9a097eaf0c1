-- `gomurin_from_text` meets its contract: it writes the word that `pauli_word::from_text` answers, or zeros.
use Rattle.outcome.specs.Outcome.{outcome_of}
use Rattle.pauli_word.specs.declared.TextWord.{TextWord}
use Rattle.pauli_word.specs.Limits.{word_length}
use Rattle.pauli_word.specs.Calls.{from_text_outcome, text_word, from_text_bytes}
use Rattle.c_api.proofs.Telling.{else-told}
use lib.ListN.{replicate}
use mathlib.Core.Path.{ap, sym, ◌∙◌}
use Rattle.c_api.proofs.words.gomurin_from_text.Goals as goal

pub returns-in-Ok-clause-word : goal.returns-in-Ok-clause-word
unfolding from_text_bytes
returns-in-Ok-clause-word c =
    let own = λ (r : TextWord). r.word in
    else-told text_word (from_text_outcome c.args.text.now) (sym (ap outcome_of c.in-Ok.is) ∙ c.from_text.ensures) own (replicate word_length 0)

pub returns-in-Err-clause-word : goal.returns-in-Err-clause-word
unfolding from_text_bytes
returns-in-Err-clause-word c =
    let own = λ (r : TextWord). r.word in
    else-told text_word (from_text_outcome c.args.text.now) (sym (ap outcome_of c.in-Err.is) ∙ c.from_text.ensures) own (replicate word_length 0)
