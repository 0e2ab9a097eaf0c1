-- `by_parts::rows_in_parts` meets its contract: the rows hold their words in full, and the parts make each the least of its orbit.
use Prim.Native.Nat.{ℕ, ◌*◌, ◌<◌}
use mathlib.Core.Path.{◌≡◌, sym, ap, ◌∙◌}
use mathlib.Core.Bool.{false≢true}
use native.Mathlib.Omega.{arith}
use borrow.Author.Tests.{not-false}
use lib.ListN.{length}
use Rattle.pauli_word.specs.Limits.{word_length}
use Rattle.pauli_word.specs.Word.{Word}
use Rattle.pauli_word.specs.Bytes.{letters_in, bytes_of}
use Rattle.action.specs.Orbit.{least, index_back}
use Rattle.elements.specs.HeldGroup.{generators_in}
use Rattle.row_lists.specs.Rows.{row_at, in_full_by}
use Rattle.row_lists.proofs.InFull.{full-row, row-accepted}
use Rattle.least_words.specs.Rows.{row_letters}
use Rattle.least_words.proofs.Answers.{words-by-row, indices-by-row}
use Rattle.least_words.proofs.by_parts.rows_in_parts.Goals as goal

pub returns-then-not-find_parts : goal.returns-then-not-find_parts
returns-then-not-find_parts c = record {
  representatives = λ e. absurd (false≢true e);
  indices = λ e. absurd (false≢true e);
}

pub least_rows-requires : goal.least_rows-requires
least_rows-requires c =
    let a = c.args in
    let (either, long) = c.requires.either_length in
    let told = not-false _ c.if-not-find_parts.false-raw in
    let same = c.take_in_full.auto.indices in record {
      tables = (c.requires.tables, c.find_parts.auto.labels ∙ c.requires.labels_len.0, c.find_parts.auto.owners ∙ c.requires.labels_len.1);
      divided = c.find_parts.ensures.divided told;
      by_index = c.find_parts.ensures.labels told;
      representatives_len = c.take_in_full.auto.representatives ∙ c.requires.representatives_len ∙ ap (λ (k : ℕ). word_length * k) (sym same);
      by_index_2 = λ i h.
          let inside : i < length a.indices.now = omega (arith, same, h) in
          let done = c.take_in_full.ensures i inside in
          (row-accepted a.size either a.words.now long c.requires.accepted_rows i inside done.0, done.1);
    }

pub returns : goal.returns
returns c =
    let a = c.args in
    let gs = generators_in a.group.now.generators a.group.now.sites a.group.now.targets.now a.group.now.orders.now in
    let k = length a.indices.now in
    let (either, long) = c.requires.either_length in
    let same = c.take_in_full.auto.indices in
    let letters : (i : ℕ) → i < k → letters_in a.group.now.sites (row_at c.take_in_full.new.representatives i) ≡ row_letters a.group.now.sites (in_full_by a.size k a.words.now) i =
    λ i h. ap (letters_in a.group.now.sites) ((c.take_in_full.ensures i h).0 ∙ sym (full-row a.size either k a.words.now long i h))
    in record {
      representatives = λ e.
          words-by-row gs a.group.now.sites (in_full_by a.size k a.words.now) k (c.least_rows.auto.representatives ∙ c.take_in_full.auto.representatives ∙ c.requires.representatives_len)
          (λ i h. (c.least_rows.ensures i (omega (arith, same, h))).0 ∙ ap (λ (w : Word). bytes_of (least gs w)) (letters i h));
      indices = λ e.
          indices-by-row gs a.group.now.sites (in_full_by a.size k a.words.now) k (c.least_rows.auto.indices ∙ same)
          (λ i h. (c.least_rows.ensures i (omega (arith, same, h))).1 ∙ ap (index_back gs) (letters i h));
    }
