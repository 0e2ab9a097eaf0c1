-- A word of the old form, of no more sites than that form has, is answered as the word in full is. What carries it: it has the same letters, and each
-- of its checks comes to the same.
use Prim.Native.Nat.{ℕ}
use mathlib.Core.Path.{◌≡◌, ap, ap₂}
use mathlib.Core.Logic.{inl, inr}
use mathlib.Core.Bool.{false}
use mathlib.Core.List.{List}
use native.Mathlib.Decide.{ℕ_discrete}
use lib.ListN.{length}
use Rattle.outcome.specs.Outcome.{Check, answer, unless}
use Rattle.pauli_word.specs.Limits.{old_length}
use Rattle.pauli_word.specs.Word.{Word, weight}
use Rattle.pauli_word.specs.Bytes.{letters_in, in_full, word_in}
use Rattle.pauli_word.specs.Text.{spell}
use Rattle.pauli_word.specs.Calls.{past_old, word_size, old_size, bit_above, word_checks, compare_checks, weight_outcome, to_text_outcome, order_of_words, compare_outcome}
use Rattle.pauli_word.proofs.Forms.{full_full, full-length, full_other}
use Rattle.pauli_word.proofs.Checks.{either_true, past_full}

module _ (n : ℕ) (bytes : List ℕ) where
  letters-full : word_in n (in_full bytes) ≡ word_in n bytes
  letters-full = ap (letters_in n) (full_full bytes)

  module _ (fits : past_old n (length bytes) ≡ false) where
    -- 15, 36 and 17 of the word in full
    pub forms-full : (word_size (in_full bytes) ≡ word_size bytes) × (old_size n (in_full bytes) ≡ old_size n bytes) × (bit_above n (in_full bytes) ≡ bit_above n bytes)
    forms-full = go (ℕ_discrete (length bytes) old_length)
      where
        go : Dec (length bytes ≡ old_length)
            → (word_size (in_full bytes) ≡ word_size bytes) × (old_size n (in_full bytes) ≡ old_size n bytes) × (bit_above n (in_full bytes) ≡ bit_above n bytes)
        go (yes e) =
            let long = full-length bytes (inr e) in (
              rw (either_true (length (in_full bytes)) (inl long), either_true (length bytes) (inr e)),
              rw (past_full n (length (in_full bytes)) long, fits),
              rw (full_full bytes),
            )
        go (no d) = let same = full_other bytes d in (ap word_size same, ap (old_size n) same, ap (bit_above n) same)

    checks_full : word_checks n (in_full bytes) ≡ word_checks n bytes
    checks_full = rw (forms-full.0, forms-full.1, forms-full.2)

    pub weight-full : weight_outcome n (in_full bytes) ≡ weight_outcome n bytes
    unfolding weight_outcome
    weight-full = ap₂ (λ (cs : List Check) (w : Word). unless cs (answer (weight w))) checks_full letters-full

    pub to-text-full : to_text_outcome n (in_full bytes) ≡ to_text_outcome n bytes
    unfolding to_text_outcome
    to-text-full = ap₂ (λ (cs : List Check) (w : Word). unless cs (answer (spell w))) checks_full letters-full

-- of two words, each in the form that it has
module _ (n : ℕ) (a b : List ℕ) (fa : past_old n (length a) ≡ false) (fb : past_old n (length b) ≡ false) where
  both-full : compare_checks n (in_full a) (in_full b) ≡ compare_checks n a b
  both-full =
      let x = forms-full n a fa in
      let y = forms-full n b fb in
      rw (x.0, x.1, x.2, y.0, y.1, y.2)

  pub compare-full : compare_outcome n (in_full a) (in_full b) ≡ compare_outcome n a b
  unfolding compare_outcome
  compare-full =
      ap₂ (λ (cs : List Check) (p : Word × Word). unless cs (answer (order_of_words p.0 p.1))) both-full
      (ap₂ (λ (v w : Word). (v, w)) (letters-full n a) (letters-full n b))
