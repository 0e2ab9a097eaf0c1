-- `to_text` meets its contract: the checks pass or refuse, and the text of an accepted word is what it answers with.
use Prim.Native.Nat.{ℕ, ◌-◌}
use mathlib.Core.Path.{◌≡◌, sym, ap, ap₂, ◌∙◌}
use mathlib.Core.List.{List, ◌++◌}
use lib.ListN.{length, replicate, length-map}
use Rattle.outcome.specs.declared.Refusal.{Refusal}
use Rattle.pauli_word.specs.Limits.{max_sites}
use Rattle.outcome.specs.Outcome.{answer, verdict, on_answer, outcome_of, refusal_of}
use Rattle.pauli_word.specs.Bytes.{EitherWord, word_in, letters_in}
use Rattle.pauli_word.specs.Text.{glyph, spell}
use Rattle.pauli_word.specs.Calls.{word_checks, to_text_outcome, word_text}
use Rattle.pauli_word.proofs.Planes.{bytes_of_lem}
use Rattle.pauli_word.proofs.Words.{decode-length}
use Rattle.outcome.proofs.Outcomes.{call-refused, call-answers, handed_on}
use Rattle.pauli_word.proofs.Forms.{either-length, either-accepted}
use Rattle.pauli_word.proofs.Checks.{accepted}
use Rattle.pauli_word.proofs.to_text.Goals as goal
use Rattle.pauli_word.proofs.to_text.Lts as lts
use Rattle.pauli_word.proofs.to_text.Tie as tie
use Rattle.pauli_word.proofs.to_text.Reads as reads

abbrev ctx-After-known_told : Type 0
ctx-After-known_told = lts.Past-After-known_told tie.the-claims reads.Pre reads.Post tie.handed_clauses

module _ (n : ℕ) (bytes : List ℕ) where
  refused-text : (why : Refusal) → verdict (word_checks n bytes) ≡ refusal_of why → to_text_outcome n bytes ≡ refusal_of why
  unfolding to_text_outcome
  refused-text why e = call-refused (word_checks n bytes) (answer (spell (word_in n bytes))) why e

  spelled-text : verdict (word_checks n bytes) ≡ answer tt → to_text_outcome n bytes ≡ answer (spell (word_in n bytes))
  unfolding to_text_outcome
  spelled-text e = call-answers (word_checks n bytes) (answer (spell (word_in n bytes))) e

  text-long : EitherWord n bytes → length (spell (word_in n bytes)) ≡ n
  text-long ok = length-map (word_in n bytes) glyph ∙ decode-length (either-accepted n bytes ok)

-- the word passes its checks
passed : (c : ctx-After-known_told) → let a = c.args in (verdict (word_checks a.n a.word.now) ≡ answer tt)
passed c = sym c.checked.ensures ∙ ap outcome_of c.in_ok-checked.was

either : (c : ctx-After-known_told) → let a = c.args in EitherWord a.n a.word.now
either c =
    let a = c.args in
    accepted a.n a.word.now (passed c) (bytes_of_lem a.word.now (λ i. (c.shared_slice_known-1.given i).fits))

pub in_full-full-requires : goal.in_full-full-requires
in_full-full-requires c = either-length _ _ (either c.before)

pub spelled-requires : goal.spelled-requires
spelled-requires c = rw c.in_full-full.ensures (either-accepted _ _ (either c.before.before.before))

pub returns-in_err-checked : goal.returns-in_err-checked
returns-in_err-checked c =
    let a = c.args in
    ap outcome_of (handed_on c.from_residual.result c.from_residual.ensures.1)
    ∙ sym
    (ap (on_answer word_text)
    (refused-text a.n a.word.now _ (sym c.checked.ensures ∙ ap outcome_of c.in_err-checked.was)))

pub returns : goal.returns
returns c =
    let a = c.args in
    let e = spelled-text a.n a.word.now (passed c.before.before.before.before) in
    let l = text-long a.n a.word.now (either c.before.before.before.before) in
    ap answer
    (ap₂ (λ (k : ℕ) (text : List ℕ). record { letters = k; text = text }) (sym l)
    (c.spelled.ensures
    ∙ ap (λ full. spell (letters_in a.n full) ++ replicate (max_sites - a.n) 0) c.in_full-full.ensures
    ∙ ap (λ (k : ℕ). spell (word_in a.n a.word.now) ++ replicate (max_sites - k) 0) (sym l)))
    ∙ sym (ap (on_answer word_text) e)
