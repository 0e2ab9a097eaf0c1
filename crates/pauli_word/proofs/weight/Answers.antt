-- `weight` meets its contract: the checks pass or refuse, and the weight of an accepted word in full is what it answers.
use mathlib.Core.Path.{sym, ap, ◌∙◌}
use Rattle.outcome.specs.Outcome.{answer, outcome_of}
use Rattle.outcome.proofs.Outcomes.{told-passes, told-refused, told-answers, handed_on}
use Rattle.pauli_word.specs.Word.{weight}
use Rattle.pauli_word.specs.Bytes.{EitherWord, word_in, letters_in}
use Rattle.pauli_word.specs.Calls.{word_checks, weight_outcome}
use Rattle.pauli_word.proofs.Planes.{bytes_of_lem}
use Rattle.pauli_word.proofs.Forms.{either-length, either-accepted}
use Rattle.pauli_word.proofs.Checks.{accepted}
use Rattle.pauli_word.proofs.weight.Goals as goal
use Rattle.pauli_word.proofs.weight.Lts as lts
use Rattle.pauli_word.proofs.weight.Tie as tie
use Rattle.pauli_word.proofs.weight.Reads as reads

abbrev ctx-After-known_told : Type 0
ctx-After-known_told = lts.Past-After-known_told tie.the-claims reads.Pre reads.Post tie.handed_clauses

-- the word passes its checks
either : (c : ctx-After-known_told) → let a = c.args in EitherWord a.n a.word.now
either c =
    let a = c.args in
    accepted a.n a.word.now (told-passes (word_checks a.n a.word.now) _ c.checked.ensures c.in_ok-checked.was)
    (bytes_of_lem a.word.now (λ i. (c.shared_slice_known-1.given i).fits))

pub in_full-full-requires : goal.in_full-full-requires
in_full-full-requires c = either-length _ _ (either c.before)

pub weighed-requires : goal.weighed-requires
weighed-requires c = rw c.in_full-full.ensures (either-accepted _ _ (either c.before.before.before))

pub returns-in_err-checked : goal.returns-in_err-checked
unfolding weight_outcome
returns-in_err-checked c =
    let a = c.args in record {
      answer = ap outcome_of (handed_on c.from_residual.result c.from_residual.ensures.1)
          ∙ sym (told-refused (word_checks a.n a.word.now) _ c.checked.ensures (answer (weight (word_in a.n a.word.now))) c.in_err-checked.was);
    }

pub returns : goal.returns
unfolding weight_outcome
returns c =
    let a = c.args in record {
      answer = told-answers (word_checks a.n a.word.now) _ c.checked.ensures c.in_ok-checked.was
          (c.weighed.ensures ∙ ap (λ full. weight (letters_in a.n full)) c.in_full-full.ensures);
    }
