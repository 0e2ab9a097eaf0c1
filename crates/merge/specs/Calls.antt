-- What folding a sum comes to: its checks in their order, then each representative with the sum of its rows' coefficients; and what the output
-- lists hold afterwards.
use Rattle.std.specs.Prelude.{ℕ, not, List, ◌++◌, map, length, Float}
use Rattle.outcome.specs.declared.Refusal.TheVariants as Refusal
use Rattle.outcome.specs.Outcome.{Outcome, Check, rule, verdict, unless, or_else}
use Rattle.pauli_word.specs.Word.{Word, less, same}
use Rattle.pauli_word.specs.Bytes.{letters_in, bytes_of}
use Rattle.action.specs.Lists.{below}
use Rattle.action.specs.Permutation.{Generator}
use Rattle.action.specs.Orbit.{least}
use Rattle.group.specs.declared.Group.{Group}
use Rattle.group.specs.Value.{generators_of}
use Rattle.group.specs.Calls.{value_checks}
use Rattle.keyed.specs.Keyed.{Fold, renamed}
use Rattle.row_lists.specs.Rows.{row_at, rows_in, rows_in_full}
use Rattle.row_lists.specs.Checks.{list_checks}
use Rattle.row_words.specs.Words.{words_filled}
use Rattle.sum_rows.specs.declared.row_sum.RowSum.{RowSum}
use Rattle.sum_rows.specs.Sums.{finite, sums_by, fold_outcome, sums_filled, counts_filled, handed_back}

-- ---- the checks: 1, 14, 22, 23, 36, and then the rows in order, each for 17 and 24

-- 24 of row i: a coefficient not finite
abbrev pub not_finite : ℕ → Float → Check
not_finite i c = rule (Refusal.NotFinite i) (not (finite c))

-- the last three are the lengths of the output lists
abbrev pub sum_checks : Group → List ℕ → List Float → ℕ → ℕ → ℕ → List Check
sum_checks g words cs representatives sums counts = value_checks g ++ list_checks not_finite g.sites words cs representatives sums counts

-- ---- the sum

-- the representative of a word in full: the least of its orbit
abbrev pub representative : Group → List ℕ → Word
representative g bytes = least (generators_of g) (letters_in g.sites bytes)

-- each row with its representative in the place of its word
unfoldable pub representative_rows : Group → List (List ℕ × Float) → List (Word × Float)
representative_rows g rows = map (renamed (representative g)) rows

-- sums by word: equal words add, in the order of words
abbrev pub word_sums : Fold Word Float RowSum
word_sums = sums_by less same

-- 25, or each representative of the rows, whose words are in full, once, in rising order, with its sum and how many rows it has
unfoldable pub folded_sum : Group → List ℕ → List Float → Outcome (List (Word × RowSum))
unfolding representative_rows fold_outcome rows_in
folded_sum g words cs = fold_outcome word_sums (representative_rows g (rows_in words cs))

unfoldable pub sum_outcome : Group → List ℕ → List Float → List ℕ → List Float → List ℕ → Outcome (List (Word × RowSum))
unfolding folded_sum
sum_outcome g words cs representatives sums counts =
    unless (sum_checks g words cs (length representatives) (length sums) (length counts)) (folded_sum g (rows_in_full (length cs) words) cs)

-- ---- the output lists afterwards: as they were on a refusal by the checks; else the rows that are handed back, and zeros after them

abbrev pub after_checks : {A : Type 0} → Group → List ℕ → List Float → ℕ → ℕ → ℕ → A → A → A
after_checks g words cs representatives sums counts was filled = or_else (λ _. filled) was (verdict (sum_checks g words cs representatives sums counts))

unfoldable pub words_after : Group → List ℕ → List Float → List ℕ → List Float → List ℕ → List ℕ
unfolding folded_sum
words_after g words cs representatives sums counts =
    after_checks g words cs (length representatives) (length sums) (length counts) representatives
    (words_filled (length cs) (map (renamed bytes_of) (handed_back (folded_sum g (rows_in_full (length cs) words) cs))))

unfoldable pub sums_after : Group → List ℕ → List Float → List ℕ → List Float → List ℕ → List Float
unfolding folded_sum
sums_after g words cs representatives sums counts =
    after_checks g words cs (length representatives) (length sums) (length counts) sums
    (sums_filled (length cs) (handed_back (folded_sum g (rows_in_full (length cs) words) cs)))

unfoldable pub counts_after : Group → List ℕ → List Float → List ℕ → List Float → List ℕ → List ℕ
unfolding folded_sum
counts_after g words cs representatives sums counts =
    after_checks g words cs (length representatives) (length sums) (length counts) counts
    (counts_filled (length cs) (handed_back (folded_sum g (rows_in_full (length cs) words) cs)))

-- ---- what the code's parts say

-- the least words of the orbits of the first k rows
unfoldable pub least_rows : List Generator → ℕ → List ℕ → ℕ → List Word
least_rows gs n words k = map (λ i. least gs (letters_in n (row_at words i))) (below k)
