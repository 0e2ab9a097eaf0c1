-- What is promised of a sum by the outcome of its call, for a group that accepted generators give and any bytes: each statement is followed by
-- the law that shows it.
--
-- 1 An answered sum, 2 A refused sum, 3 Either form. The words are as they are handed, in either form; rows_in_full has them in full.
use Prim.Native.Nat.{ℕ, ◌*◌, ◌≤◌}
use mathlib.Core.Path.{◌≡◌, sym, ap, ap₂, subst, ◌∙◌}
use mathlib.Core.Logic.{◌⊎◌, inl, inr}
use mathlib.Core.Bool.{false}
use mathlib.Core.List.{List, ◌++◌, map}
use lib.ListN.{length}
use lib.Ieee.{Float}
use Rattle.outcome.specs.declared.Refusal.TheVariants as Refusal
use Rattle.outcome.specs.Outcome.{Outcome, refused, answer, refusal_of, Check, verdict, given, unless, or_else}
use Rattle.pauli_word.specs.Limits.{word_length, old_length, old_sites}
use Rattle.pauli_word.specs.Word.{Word}
use Rattle.pauli_word.specs.Bytes.{Bytes, bytes_of}
use Rattle.pauli_word.specs.Calls.{past_old}
use Rattle.pauli_word.proofs.Checks.{past_few}
use Rattle.group.specs.declared.Group.{Group}
use Rattle.group.specs.Value.{GivenBy}
use Rattle.group.specs.Calls.{value_checks}
use Rattle.group.proofs.Promises.{given-group}
use Rattle.keyed.specs.Keyed.{renamed}
use Rattle.row_lists.specs.Rows.{row_size, in_full_by, rows_in_full}
use Rattle.row_lists.proofs.InFull.{size-full, size-long, full_stays}
use Rattle.row_lists.proofs.ListChecks.{given-answered}
use Rattle.row_lists.proofs.Meanings.{full-once, checks-in-full}
use Rattle.row_words.specs.Words.{words_filled}
use Rattle.sum_rows.specs.declared.row_sum.RowSum.{RowSum}
use Rattle.sum_rows.specs.Sums.{sums_filled, counts_filled, handed_back}
use Rattle.merge.specs.Calls.{not_finite, sum_checks, folded_sum, sum_outcome, words_after, sums_after, counts_after}
use Rattle.merge.specs.Promises.{FoldedTable, OverflowsAt, Alike}
use Rattle.merge.proofs.SumChecks.{passed-rows, number_in, checks_not_25}
use Rattle.merge.proofs.FoldedSums.{table-folded, answered-table, refused-overflows}

given_refused : {A : Type 0} (v : Outcome (Unit {0})) (o : Outcome A) (k : ℕ) (vs : List ℕ) → given v o ≡ refused k vs
    → ((ws : List ℕ) × (v ≡ refused k ws)) ⊎ (o ≡ refused k vs)
given_refused (refused j ws) o k vs e = inl (ws, ap (λ (i : ℕ). refused i ws) (ap number_in e))
given_refused (answer t) o k vs e = inr e

module _ (g : Group) (words : List ℕ) (cs : List Float) (representatives : List ℕ) (sums : List Float) (counts : List ℕ) where
  -- the words in full, and what the checks come to
  abbrev full : List ℕ
  full = rows_in_full (length cs) words

  abbrev checks : Outcome (Unit {0})
  checks = verdict (sum_checks g words cs (length representatives) (length sums) (length counts))

  -- ---- 1 An answered sum: strictly rising representatives, each with how many rows have it and with their sum, which is finite

  pub answered-folded : GivenBy g → Bytes words → (table : List (Word × RowSum)) → sum_outcome g words cs representatives sums counts ≡ answer table
      → FoldedTable g (rows_in_full (length cs) words) cs table
  unfolding sum_outcome
  answered-folded by small table e =
      let (pass, folded) = given-answered checks (folded_sum g full cs) table e in
      let group = given-group g by in
      let rows = passed-rows g words cs (length representatives) (length sums) (length counts) pass group.few small in
      let (finite, same) = answered-table g full cs table folded in
      subst (FoldedTable g full cs) same (table-folded g full cs group rows finite)

  -- ---- 2 A refused sum: 25 is with the first row whose running sum is not finite; past its checks a sum is refused by nothing else

  pub refused-first : (i : ℕ) → sum_outcome g words cs representatives sums counts ≡ refusal_of (Refusal.SumNotFinite i)
      → OverflowsAt g (rows_in_full (length cs) words) cs i
  unfolding sum_outcome
  refused-first i e = go (given_refused checks (folded_sum g full cs) _ _ e)
    where
      go : ((ws : List ℕ) × (checks ≡ refused 25 ws)) ⊎ (folded_sum g full cs ≡ refusal_of (Refusal.SumNotFinite i)) → OverflowsAt g full cs i
      go (inl (ws, f)) = absurd (checks_not_25 g words cs (length representatives) (length sums) (length counts) ws f)
      go (inr f) =
          let (j, by, at) = refused-overflows g full cs _ _ f in
          let k : j ≡ i = cc in
          subst (OverflowsAt g full cs) k at

  pub refused-by-25 : verdict (sum_checks g words cs (length representatives) (length sums) (length counts)) ≡ answer tt
      → (k : ℕ) (vs : List ℕ) → sum_outcome g words cs representatives sums counts ≡ refused k vs
      → (i : ℕ) × (sum_outcome g words cs representatives sums counts ≡ refusal_of (Refusal.SumNotFinite i))
  unfolding sum_outcome
  refused-by-25 pass k vs e =
      let past = ap (λ (v : Outcome (Unit {0})). given v (folded_sum g full cs)) pass in
      let (i, by, at) = refused-overflows g full cs k vs (sym past ∙ e) in
      (i, past ∙ by)

  -- ---- 3 Either form: rows of the old form, of no more sites than that form has, are answered as the same rows in full are, also where the sum is
  -- refused, and leave the output lists as those do

  pub form-alike : length words ≡ row_size (length words) (length cs) * length cs → past_old g.sites (row_size (length words) (length cs)) ≡ false
      → Alike g words (rows_in_full (length cs) words) cs representatives sums counts
  unfolding sum_outcome words_after sums_after counts_after
  form-alike long fits =
      let once : full ≡ rows_in_full (length cs) full = sym (full-once (length cs) words long) in
      let same =
      ap (λ (ds : List Check). value_checks g ++ ds)
      (sym (checks-in-full not_finite g.sites words cs (length representatives) (length sums) (length counts) long fits))
      in
      record {
        outcome = ap₂ (λ (ds : List Check) (w : List ℕ). unless ds (folded_sum g w cs)) same once;
        words_left =
            ap₂ (λ (ds : List Check) (w : List ℕ).
            or_else (λ _. words_filled (length cs) (map (renamed bytes_of) (handed_back (folded_sum g w cs)))) representatives (verdict ds)) same once;
        sums_left = ap₂ (λ (ds : List Check) (w : List ℕ). or_else (λ _. sums_filled (length cs) (handed_back (folded_sum g w cs))) sums (verdict ds)) same once;
        counts_left = ap₂ (λ (ds : List Check) (w : List ℕ). or_else (λ _. counts_filled (length cs) (handed_back (folded_sum g w cs))) counts (verdict ds)) same once;
      }

  pub old-alike : length words ≡ old_length * length cs → g.sites ≤ old_sites
      → Alike g words (rows_in_full (length cs) words) cs representatives sums counts
  old-alike long few =
      form-alike (size-long (length words) (length cs) (inr long)) (past_few g.sites (row_size (length words) (length cs)) few)

-- words in full are read as they are

pub full_read : (k : ℕ) (words : List ℕ) → length words ≡ word_length * k → rows_in_full k words ≡ words
full_read k words long = ap (λ (size : ℕ). in_full_by size k words) (size-full (length words) k long) ∙ full_stays k words long
