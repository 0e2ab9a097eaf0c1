-- `rows::representatives` meets its contract: there is room for an index a row, and the words that the rows are answered are its list.
use borrow.Author.Rules.{rules}
use Prim.Native.Nat.{ℕ, ◌-◌, ◌*◌, ◌≤◌}
use mathlib.Core.Path.{◌≡◌, sym, ap, subst, ◌∙◌}
use mathlib.Core.List.{List}
use native.Mathlib.Omega.{arith}
use lib.ListN.{length, take, replicate, length-replicate}
use lib.Seq.{length-take-le}
use Rattle.pauli_word.specs.Limits.{word_length}
use Rattle.action.specs.Permutation.{Generator}
use Rattle.elements.specs.HeldGroup.{encode_all, generators_in}
use Rattle.row_lists.specs.Rows.{max_rows, in_full_by}
use Rattle.row_lists.specs.Checks.{AcceptedRows}
use Rattle.least_words.specs.Rows.{answered_rows, words_of}
use Rattle.least_words.proofs.Answers.{answered-words}
use Rattle.merge.specs.Calls.{least_rows}
use Rattle.merge.proofs.rows.representatives.Goals as goal

-- FEW_ROWS of the source
abbrev few_rows : ℕ
few_rows = 256

-- the first k of n places for indices
indices-length : (n k : ℕ) → k ≤ n → length (take (k - 0) (replicate {A = ℕ} n 0)) ≡ k
indices-length n k few = length-take-le (k - 0) (replicate n 0) (omega (arith, length-replicate {A = ℕ} n 0)) ∙ omega arith

-- the words that so many rows are answered
kept-words : (gs : List Generator) (sites size : ℕ) (words : List ℕ) {j k : ℕ} → j ≡ k
    → words_of (answered_rows gs sites (in_full_by size j words) j) ≡ encode_all (least_rows gs sites (in_full_by size k words) k)
unfolding least_rows
kept-words gs sites size words {j} {k} same =
    ap (λ (i : ℕ). words_of (answered_rows gs sites (in_full_by size i words) i)) same ∙ sym (answered-words gs sites (in_full_by size k words) k)

pub least_rows-requires : goal.least_rows-requires
least_rows-requires c =
    let a = c.args in
    let tables = c.requires.tables in
    let (either, long) = c.requires.either_length in
    let rows = c.requires.accepted_rows in
    let room = c.requires.out_len in
    let same = sym (indices-length few_rows a.rows (omega (arith, c.if-rows-le-FEW_ROWS.true))) in record {
      tables = tables;
      either_length = (either, long ∙ ap (λ (k : ℕ). a.size * k) same);
      accepted_rows = subst (λ (k : ℕ). AcceptedRows a.group.now.sites (in_full_by a.size k a.words.now) k) same rows;
      representatives_len = room ∙ ap (λ (k : ℕ). word_length * k) same;
    }

pub returns-then-rows-le-FEW_ROWS : goal.returns-then-rows-le-FEW_ROWS
returns-then-rows-le-FEW_ROWS c =
    let a = c.args in
    c.least_rows.ensures.representatives
    ∙ kept-words (generators_in a.group.now.generators a.group.now.sites a.group.now.targets.now a.group.now.orders.now) a.group.now.sites a.size a.words.now (indices-length few_rows a.rows (omega (arith, c.if-rows-le-FEW_ROWS.true)))

pub least_rows-requires-2 : goal.least_rows-requires-2
least_rows-requires-2 c =
    let a = c.args in
    let tables = c.requires.tables in
    let (either, long) = c.requires.either_length in
    let rows = c.requires.accepted_rows in
    let room = c.requires.out_len in
    let same = sym (indices-length max_rows a.rows rows.few) in record {
      tables = tables;
      either_length = (either, long ∙ ap (λ (k : ℕ). a.size * k) same);
      accepted_rows = subst (λ (k : ℕ). AcceptedRows a.group.now.sites (in_full_by a.size k a.words.now) k) same rows;
      representatives_len = room ∙ ap (λ (k : ℕ). word_length * k) same;
    }

pub returns : goal.returns
returns c =
    let a = c.args in
    c.least_rows-2.ensures.representatives
    ∙ kept-words (generators_in a.group.now.generators a.group.now.sites a.group.now.targets.now a.group.now.orders.now) a.group.now.sites a.size a.words.now (indices-length max_rows a.rows c.requires.accepted_rows.few)
