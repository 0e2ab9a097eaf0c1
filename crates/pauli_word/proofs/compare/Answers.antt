-- `compare` meets its contract: the checks pass or refuse, and the order of the bytes of accepted words in full is that of the words.
use mathlib.Core.Path.{sym, ap, ap₂, ◌∙◌}
use mathlib.Core.List.{List}
use Prim.Native.Nat.{ℕ}
use Rattle.outcome.specs.Outcome.{answer, outcome_of}
use Rattle.outcome.proofs.Outcomes.{told-passes, told-refused, told-answers, handed_on}
use Rattle.pauli_word.specs.Bytes.{EitherWord, plane_bits, word_in}
use Rattle.pauli_word.specs.Calls.{compare_checks, compare_outcome, order_of_words, order_of_bits}
use Rattle.pauli_word.proofs.Planes.{bytes_of_lem}
use Rattle.pauli_word.proofs.WordOrder.{order_words}
use Rattle.pauli_word.proofs.Forms.{either-length, either-accepted}
use Rattle.pauli_word.proofs.Checks.{compare_accepted}
use Rattle.pauli_word.proofs.compare.Goals as goal
use Rattle.pauli_word.proofs.compare.Lts as lts
use Rattle.pauli_word.proofs.compare.Tie as tie
use Rattle.pauli_word.proofs.compare.Reads as reads

abbrev ctx-After-known_told : Type 0
ctx-After-known_told = lts.Past-After-known_told tie.the-claims reads.Pre reads.Post tie.handed_clauses

-- the two words pass their checks
both :
    (c : ctx-After-known_told)
    → let a = c.args in
    (EitherWord a.n a.a.now × EitherWord a.n a.b.now)
both c =
    let a = c.args in
    compare_accepted a.n a.a.now a.b.now
    (told-passes (compare_checks a.n a.a.now a.b.now) _ c.both_checked.ensures c.in_ok-both_checked.was)
    (bytes_of_lem a.a.now (λ i. (c.shared_slice_known-1.given i).fits))
    (bytes_of_lem a.b.now (λ i. (c.shared_slice_known-2-1.given i).fits))

pub in_full-left-requires : goal.in_full-left-requires
in_full-left-requires c = either-length _ _ (both c.before).0

pub in_full-right-requires : goal.in_full-right-requires
in_full-right-requires c = either-length _ _ (both c.before.before).1

pub returns-in_err-both_checked : goal.returns-in_err-both_checked
unfolding compare_outcome
returns-in_err-both_checked c =
    let a = c.args in record {
      answer = ap outcome_of (handed_on c.from_residual.result c.from_residual.ensures.1)
          ∙ sym
          (told-refused (compare_checks a.n a.a.now a.b.now) _ c.both_checked.ensures
          (answer (order_of_words (word_in a.n a.a.now) (word_in a.n a.b.now))) c.in_err-both_checked.was);
    }

pub returns : goal.returns
unfolding compare_outcome
returns c =
    let a = c.args in
    let ok = both c.before.before.before.before.before.before in record {
      answer = told-answers (compare_checks a.n a.a.now a.b.now) _ c.both_checked.ensures c.in_ok-both_checked.was
          (c.compare_bytes.ensures.order
          ∙ ap₂ (λ (x y : List ℕ). order_of_bits (plane_bits x) (plane_bits y)) c.in_full-left.ensures c.in_full-right.ensures
          ∙ order_words (either-accepted _ _ ok.0) (either-accepted _ _ ok.1));
    }
