-- The call as its parts give it: refused by its checks, with the lists as they were; or, past them, what folding the bytes of the representatives
-- gives, which is what folding the representatives gives (`fold-representatives`).
use Prim.Native.Nat.{ℕ, ◌*◌}
use mathlib.Core.Path.{◌≡◌, sym, ap, ◌∙◌}
use mathlib.Core.List.{List, map}
use lib.ListN.{length, length-map}
use lib.Ieee.{Float}
use Rattle.outcome.specs.declared.Refusal.{Refusal}
use Rattle.outcome.specs.Outcome.{Outcome, answer, refusal_of, verdict, on_answer, or_else}
use Rattle.outcome.proofs.Outcomes.{call-refused, call-answers}
use Rattle.pauli_word.specs.Limits.{word_length}
use Rattle.pauli_word.specs.Bytes.{letters_in, bytes_of}
use Rattle.action.specs.Lists.{below}
use Rattle.action.specs.Permutation.{Generator}
use Rattle.action.specs.Orbit.{least}
use Rattle.action.proofs.Lists.{length-below}
use Rattle.elements.specs.HeldGroup.{encode_all}
use Rattle.elements.proofs.Orbits.{encode_all-length}
use Rattle.group.specs.declared.Group.{Group}
use Rattle.group.specs.Value.{generators_of, AcceptedGroup}
use Rattle.keyed.specs.Keyed.{renamed}
use Rattle.row_lists.specs.Rows.{row_at, rows_in, rows_in_full}
use Rattle.row_lists.specs.Checks.{AcceptedRows}
use Rattle.row_words.specs.Words.{words_filled}
use Rattle.sum_rows.specs.declared.row_sum.RowSum.{RowSum}
use Rattle.sum_rows.specs.Sums.{zero, fold_outcome, sums_filled, counts_filled, handed_back}
use Rattle.sum_rows.specs.Rows.{byte_sums}
use Rattle.merge.specs.Calls.{sum_checks, folded_sum, sum_outcome, after_checks, words_after, sums_after, counts_after, least_rows}
use Rattle.row_words.proofs.PlacedRows.{filled-renamed}
use Rattle.merge.proofs.FoldedRows.{fold-representatives, handed-renamed, length-renamed}

-- the bytes of the least words of k rows
pub least-bytes : (gs : List Generator) (n : ℕ) (words : List ℕ) (k : ℕ) → length (encode_all (least_rows gs n words k)) ≡ word_length * k
unfolding least_rows
least-bytes gs n words k =
    encode_all-length (least_rows gs n words k)
    ∙ ap (λ (j : ℕ). word_length * j) (length-map (below k) (λ i. least gs (letters_in n (row_at words i))) ∙ length-below k)

module _ (g : Group) (words : List ℕ) (cs : List Float) (representatives : List ℕ) (sums : List Float) (counts : List ℕ) where
  -- the words in full
  abbrev full : List ℕ
  full = rows_in_full (length cs) words

  abbrev checked : Outcome (Unit {0})
  checked = verdict (sum_checks g words cs (length representatives) (length sums) (length counts))

  -- a list after the checks
  after-refused : {A : Type 0} (was filled : A) (why : Refusal) → checked ≡ refusal_of why
      → was ≡ after_checks g words cs (length representatives) (length sums) (length counts) was filled
  after-refused was filled why e = sym (ap (or_else (λ _. filled) was) e)

  after-passed : {A : Type 0} (was filled : A) → checked ≡ answer tt
      → filled ≡ after_checks g words cs (length representatives) (length sums) (length counts) was filled
  after-passed was filled e = sym (ap (or_else (λ _. filled) was) e)

  module _ (why : Refusal) (e : checked ≡ refusal_of why) where
    pub refused-outcome : refusal_of why ≡ on_answer length (sum_outcome g words cs representatives sums counts)
    unfolding sum_outcome
    refused-outcome =
        sym (ap (on_answer length) (call-refused (sum_checks g words cs (length representatives) (length sums) (length counts)) (folded_sum g full cs) why e))

    pub refused-words : representatives ≡ words_after g words cs representatives sums counts
    unfolding words_after
    refused-words = after-refused representatives (words_filled (length cs) (map (renamed bytes_of) (handed_back (folded_sum g full cs)))) why e

    pub refused-sums : sums ≡ sums_after g words cs representatives sums counts
    unfolding sums_after
    refused-sums = after-refused sums (sums_filled (length cs) (handed_back (folded_sum g full cs))) why e

    pub refused-counts : counts ≡ counts_after g words cs representatives sums counts
    unfolding counts_after
    refused-counts = after-refused counts (counts_filled (length cs) (handed_back (folded_sum g full cs))) why e

  module _ (e : checked ≡ answer tt) (ok : AcceptedGroup g) (rows : AcceptedRows g.sites full (length cs)) where
    -- what folding the bytes of the representatives gives
    abbrev folded : Outcome (List (List ℕ × RowSum))
    folded = fold_outcome byte_sums (rows_in (encode_all (least_rows (generators_of g) g.sites full (length cs))) cs)

    handed : handed_back folded ≡ map (renamed bytes_of) (handed_back (folded_sum g full cs))
    handed = ap handed_back (fold-representatives g full cs ok rows) ∙ handed-renamed (renamed bytes_of) (folded_sum g full cs)

    pub folded-outcome : on_answer length folded ≡ on_answer length (sum_outcome g words cs representatives sums counts)
    unfolding sum_outcome
    folded-outcome =
        ap (on_answer length) (fold-representatives g full cs ok rows)
        ∙ length-renamed (renamed bytes_of) (folded_sum g full cs)
        ∙ sym (ap (on_answer length) (call-answers (sum_checks g words cs (length representatives) (length sums) (length counts)) (folded_sum g full cs) e))

    pub folded-words : words_filled (length cs) (handed_back folded) ≡ words_after g words cs representatives sums counts
    unfolding words_after
    folded-words =
        ap (words_filled (length cs)) handed
        ∙ after-passed representatives (words_filled (length cs) (map (renamed bytes_of) (handed_back (folded_sum g full cs)))) e

    pub folded-sums : sums_filled (length cs) (handed_back folded) ≡ sums_after g words cs representatives sums counts
    unfolding sums_after
    folded-sums =
        ap (sums_filled (length cs)) handed
        ∙ filled-renamed bytes_of zero (λ s. s.coefficient) (length cs) (handed_back (folded_sum g full cs))
        ∙ after-passed sums (sums_filled (length cs) (handed_back (folded_sum g full cs))) e

    pub folded-counts : counts_filled (length cs) (handed_back folded) ≡ counts_after g words cs representatives sums counts
    unfolding counts_after
    folded-counts =
        ap (counts_filled (length cs)) handed
        ∙ filled-renamed bytes_of 0 (λ s. s.rows) (length cs) (handed_back (folded_sum g full cs))
        ∙ after-passed counts (counts_filled (length cs) (handed_back (folded_sum g full cs))) e
