-- What a folded sum's table holds, key by key, and where a fold that overflows does so first. The words are in full.
-- The fact that carries it: what a word comes to is the fold of the coefficients of its rows (`table-value`), of which the table has each word once.
use Prim.Native.Nat.{ℕ, suc, ◌<◌}
use mathlib.Core.Path.{◌≡◌, refl, sym, ap, ◌∙◌}
use mathlib.Core.Bool.{Bool, true, false, not}
use mathlib.Core.List.{List, [], ◌∷◌, map}
use native.Mathlib.Nat.{zero-add}
use native.Mathlib.Omega.{arith}
use lib.ListN.{length, get_or, take}
use lib.Ieee.{Float, binary64, add}
use borrow.Author.Tests.{not-false}
use Rattle.outcome.specs.declared.Refusal.TheVariants as Refusal
use Rattle.outcome.specs.Outcome.{refused, answer, refusal_of, rule, unless}
use Rattle.outcome.proofs.Outcomes.{refused_apart, one-answered}
use Rattle.pauli_word.specs.Word.{Word, less}
use Rattle.pauli_word.specs.Bytes.{letters_in}
use Rattle.pauli_word.proofs.Words.{decode-length}
use Rattle.pauli_word.proofs.WordOrder.{same_refl}
use Rattle.action.specs.Lists.{Member, every, total}
use Rattle.action.specs.Orbit.{is_representative}
use Rattle.action.proofs.Lists.{every-elim, total-cong, total-map}
use Rattle.action.proofs.Canonical.{least-own}
use Rattle.group.specs.declared.Group.{Group}
use Rattle.group.specs.Value.{generators_of, AcceptedGroup}
use Rattle.group.proofs.MadeGroups.{held-valid}
use Rattle.keyed.specs.Keyed.{rising, key_of, contents_of, left_fold, fold_key, table_of, running, first_failing}
use Rattle.keyed.proofs.Rising.{rising-rising, rising-member, of-rising-member}
use Rattle.keyed.proofs.Folds.{contents-some, running-length, running-at, first_failing_first}
use Rattle.keyed.proofs.Tables.{table-keys, table-key, table-value, table-running}
use Rattle.keyed.proofs.Sums.{contents-total}
use Rattle.keyed.proofs.WordKeys.{word_orders, word_equality}
use Rattle.row_lists.specs.Rows.{row_at}
use Rattle.row_lists.specs.Checks.{AcceptedRows}
use Rattle.sum_rows.specs.declared.row_sum.RowSum.{RowSum}
use Rattle.sum_rows.specs.Sums.{zero, finite, no_rows, finite_sum, overflow, fold_outcome}
use Rattle.sum_rows.proofs.RowSums.{fold_coefficient, fold-rows}
use Rattle.merge.specs.Calls.{representative, word_sums, folded_sum}
use Rattle.merge.specs.Promises.{input_rows, coefficients_of, FoldedRow, FoldedTable, sum_at, OverflowsAt}
use Rattle.merge.proofs.FoldedRows.{representatives-length, representative-at, representative-of, representative-long}

-- ---- the table

module _ (g : Group) (words : List ℕ) (cs : List Float) where
  abbrev input : List (Word × Float)
  input = input_rows g words cs

  abbrev sums : List RowSum
  sums = running word_sums input

  -- what a word comes to
  abbrev comes_to : Word → RowSum
  comes_to w = fold_key word_sums w input

  comes-counted : (w : Word) → (comes_to w).rows ≡ length (coefficients_of g words cs w)
  unfolding fold_key
  comes-counted w = fold-rows no_rows (coefficients_of g words cs w) ∙ zero-add (length (coefficients_of g words cs w))

  comes-summed : (w : Word) → (comes_to w).coefficient ≡ left_fold (add binary64) zero (coefficients_of g words cs w)
  unfolding fold_key
  comes-summed w = fold_coefficient no_rows (coefficients_of g words cs w)

  module _ (group : AcceptedGroup g) (rows : AcceptedRows g.sites words (length cs)) where
    -- a representative is the least word of its own orbit
    representative-canonical : (w : Word) → Member w (map key_of input) → is_representative (generators_of g) w ≡ true
    unfolding is_representative
    representative-canonical w m =
        let (i, h, e) = representative-of g words cs w m in
        rw (e, least-own (held-valid g group) (letters_in g.sites (row_at words i)) (decode-length (rows.word i h)))
        (same_refl (representative g (row_at words i)))

    all-counted : total (λ row. row.1.rows) (table_of word_sums input) ≡ length cs
    unfolding table_of
    all-counted =
        total-map (λ row. row.1.rows) (λ w. (w, comes_to w)) (rising less (map key_of input))
        ∙ total-cong _ _ (rising less (map key_of input)) (λ w m. comes-counted w)
        ∙ contents-total word_sums (word_orders g.sites) word_equality input (representative-long g words cs group rows)
        ∙ representatives-length g words cs

    module _ (small : every finite_sum sums ≡ true) where
      row-folded : (w : Word) (s : RowSum) → Member (w, s) (table_of word_sums input) → FoldedRow g words cs w s
      row-folded w s m =
          let e : s ≡ comes_to w = table-value word_sums input w s m in
          let counted : s.rows ≡ length (coefficients_of g words cs w) = ap (λ (t : RowSum). t.rows) e ∙ comes-counted w in
          let key = table-key word_sums input w s m in
          record {
            canonical = representative-canonical w key;
            positive = rw counted (contents-some word_sums word_equality w input key);
            counted = counted;
            summed = ap (λ (t : RowSum). t.coefficient) e ∙ comes-summed w;
            is_finite = every-elim finite_sum sums small s (table-running word_sums word_equality input w s m);
          }

      pub table-folded : FoldedTable g words cs (table_of word_sums input)
      table-folded =
          let keys = table-keys word_sums input in
          record {
            in_order = rw keys (rising-rising less (map key_of input));
            from_input = λ w m. of-rising-member less (map key_of input) w (rw keys at m);
            all_input = λ w m. rw keys (rising-member (word_orders g.sites) (map key_of input) (representative-long g words cs group rows) w m);
            row = row-folded;
            all_counted = all-counted;
          }

  -- ---- what the outcome says

  pub answered-table : (table : List (Word × RowSum)) → folded_sum g words cs ≡ answer table
      → (every finite_sum sums ≡ true) × (table_of word_sums input ≡ table)
  unfolding folded_sum fold_outcome
  answered-table table e =
      let one = one-answered (overflow word_sums input) (table_of word_sums input) table e in
      (not-false (every finite_sum sums) one.0, one.1)

  -- a running sum is a member of the list of them
  running-sum : (i : ℕ) → i < length cs → (get_or sums i no_rows).coefficient ≡ sum_at g words cs i
  unfolding fold_key
  running-sum i h =
      ap (λ (s : RowSum). s.coefficient)
      (running-at word_sums input i no_rows ([], zero) (omega (arith, representatives-length g words cs))
      ∙ ap (λ (w : Word). fold_key word_sums w (take (suc i) input)) (representative-at g words cs i h))
      ∙ fold_coefficient no_rows (contents_of word_sums (representative g (row_at words i)) (take (suc i) input))

  pub overflows-first : every finite_sum sums ≡ false → OverflowsAt g words cs (first_failing finite_sum sums)
  overflows-first e =
      let at = first_failing_first finite_sum sums no_rows e in
      let inside : first_failing finite_sum sums < length cs = omega (arith, at.0, running-length word_sums input, representatives-length g words cs) in
      record {
        inside = inside;
        fails = ap finite (sym (running-sum (first_failing finite_sum sums) inside)) ∙ at.1;
        first = λ j h. ap finite (sym (running-sum j (omega arith))) ∙ at.2 j h;
      }

  pub refused-overflows : (k : ℕ) (vs : List ℕ) → folded_sum g words cs ≡ refused k vs
      → (i : ℕ) × (folded_sum g words cs ≡ refusal_of (Refusal.SumNotFinite i)) × OverflowsAt g words cs i
  unfolding folded_sum fold_outcome
  refused-overflows k vs e = go (every finite_sum sums) refl e
    where
      i : ℕ
      i = first_failing finite_sum sums

      go : (t : Bool) → every finite_sum sums ≡ t
          → unless (rule (Refusal.SumNotFinite i) (not t) ∷ []) (answer (table_of word_sums input)) ≡ refused k vs
          → (i : ℕ) × (folded_sum g words cs ≡ refusal_of (Refusal.SumNotFinite i)) × OverflowsAt g words cs i
      go true h f = absurd (refused_apart k vs (table_of word_sums input) (sym f))
      go false h f = (i, e ∙ sym f, overflows-first h)
