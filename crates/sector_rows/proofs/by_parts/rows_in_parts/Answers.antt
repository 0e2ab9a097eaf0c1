-- `by_parts::rows_in_parts` meets its contract: the rows hold their words in full, and the parts decide each.
use Prim.Native.Nat.{ℕ, ◌*◌, ◌<◌}
use mathlib.Core.Path.{◌≡◌, sym, ap, ◌∙◌}
use mathlib.Core.Bool.{false≢true}
use native.Mathlib.Omega.{arith}
use borrow.Author.Tests.{not-false}
use lib.ListN.{length}
use Rattle.pauli_word.specs.Limits.{word_length}
use Rattle.pauli_word.specs.Word.{Word}
use Rattle.pauli_word.specs.Bytes.{letters_in}
use Rattle.elements.specs.HeldGroup.{generators_in}
use Rattle.row_lists.specs.Rows.{row_at, in_full_by}
use Rattle.row_lists.proofs.InFull.{full-row, row-accepted}
use Rattle.least_words.specs.Rows.{row_letters}
use Rattle.decisions.specs.Decisions.{decision, row_word, row_index, row_orbit}
use Rattle.sector_rows.proofs.Written.{words-by-row, indices-by-row, sizes-by-row}
use Rattle.sector_rows.proofs.by_parts.rows_in_parts.Goals as goal

pub returns-then-not-find_parts : goal.returns-then-not-find_parts
returns-then-not-find_parts c = record {
  representatives = λ e. absurd (false≢true e);
  indices = λ e. absurd (false≢true e);
  sizes = λ e. absurd (false≢true e);
}

pub place_rows-requires : goal.place_rows-requires
place_rows-requires c =
    let a = c.args in
    let (either, long) = c.requires.either_length in
    let told = not-false _ c.if-not-find_parts.false-raw in
    let same = c.take_in_full.auto.indices in
    let room = c.requires.labels_len in
    let sizes = c.requires.sizes_len in record {
      tables = (c.requires.tables, c.find_parts.auto.labels ∙ room.0, c.find_parts.auto.owners ∙ room.1, c.requires.modes_len);
      divided = c.find_parts.ensures.divided told;
      by_index = c.find_parts.ensures.labels told;
      representatives_len = (c.take_in_full.auto.representatives ∙ c.requires.representatives_len ∙ ap (λ (k : ℕ). word_length * k) (sym same), c.take_ones.auto.sizes ∙ sizes ∙ sym same);
      by_index_2 = λ i h.
          let inside : i < length a.indices.now = omega (arith, same, h) in
          let done = c.take_in_full.ensures i inside in
          (row-accepted a.size either a.words.now long c.requires.accepted_rows i inside done.0, done.1, c.take_ones.ensures i (omega (arith, inside, sizes)));
    }

pub returns : goal.returns
returns c =
    let a = c.args in
    let k = length a.indices.now in
    let ks = a.modes.now in
    let gs = generators_in a.group.now.generators a.group.now.sites a.group.now.targets.now a.group.now.orders.now in
    let full = in_full_by a.size k a.words.now in
    let (either, long) = c.requires.either_length in
    let same = c.take_in_full.auto.indices in
    let letters : (i : ℕ) → i < k → letters_in a.group.now.sites (row_at c.take_in_full.new.representatives i) ≡ row_letters a.group.now.sites full i =
    λ i h. ap (letters_in a.group.now.sites) ((c.take_in_full.ensures i h).0 ∙ sym (full-row a.size either k a.words.now long i h))
    in record {
      representatives = λ e.
          words-by-row gs ks a.group.now.sites full k (c.place_rows.auto.representatives ∙ c.take_in_full.auto.representatives ∙ c.requires.representatives_len)
          (λ i h. (c.place_rows.ensures i (omega (arith, same, h))).word ∙ ap (λ (w : Word). row_word (decision gs ks w)) (letters i h));
      indices = λ e.
          indices-by-row gs ks a.group.now.sites full k (c.place_rows.auto.indices ∙ same)
          (λ i h. (c.place_rows.ensures i (omega (arith, same, h))).index ∙ ap (λ (w : Word). row_index (decision gs ks w)) (letters i h));
      sizes = λ e.
          sizes-by-row gs ks a.group.now.sites full k (c.place_rows.auto.sizes ∙ c.take_ones.auto.sizes ∙ c.requires.sizes_len)
          (λ i h. (c.place_rows.ensures i (omega (arith, same, h))).size ∙ ap (λ (w : Word). row_orbit (decision gs ks w)) (letters i h));
    }
