-- `rows::rows_on` meets its contract: the parts have answered, or the path of the group is taken for each row.
use Prim.Native.Nat.{ℕ, ◌*◌}
use mathlib.Core.Path.{sym, ap, subst, ◌∙◌}
use native.Mathlib.Omega.{arith}
use Rattle.pauli_word.specs.Limits.{word_length}
use Rattle.elements.specs.HeldGroup.{generators_in}
use Rattle.rotation.proofs.Packs.{fresh-length}
use Rattle.row_lists.specs.Rows.{in_full_by}
use Rattle.row_lists.specs.Checks.{AcceptedRows}
use Rattle.least_words.specs.Rows.{answered_rows, words_of, indices_of}
use Rattle.least_words.proofs.rows.rows_on.Goals as goal

pub returns-then-rows_taken : goal.returns-then-rows_taken
returns-then-rows_taken c = record {
  representatives = c.rows_taken.ensures.representatives c.if-rows_taken.true;
  indices = c.rows_taken.ensures.indices c.if-rows_taken.true;
}

pub least_rows_by-requires : goal.least_rows_by-requires
least_rows_by-requires c =
    let a = c.args in
    let same = sym c.rows_taken.auto.indices in
    let (either, long) = c.requires.either_length in
    let left = fresh-length c.words-room.result (omega (arith, c.words-room.ensures, c.requires.taken.1)) ∙ c.words-room.ensures in record {
      tables = c.requires.tables;
      taken = c.requires.taken.0;
      order_value = c.requires.order_value;
      left_len = left;
      either_length = (either, long ∙ ap (λ (k : ℕ). a.size * k) same);
      accepted_rows = subst (λ (k : ℕ). AcceptedRows a.group.now.sites (in_full_by a.size k a.words.now) k) same c.requires.accepted_rows;
      representatives_len = c.rows_taken.auto.representatives ∙ c.requires.representatives_len ∙ ap (λ (k : ℕ). word_length * k) same;
    }

pub returns : goal.returns
returns c =
    let a = c.args in
    let gs = generators_in a.group.now.generators a.group.now.sites a.group.now.targets.now a.group.now.orders.now in
    let same = c.rows_taken.auto.indices in record {
      representatives = c.least_rows_by.ensures.representatives ∙ ap (λ (k : ℕ). words_of (answered_rows gs a.group.now.sites (in_full_by a.size k a.words.now) k)) same;
      indices = c.least_rows_by.ensures.indices ∙ ap (λ (k : ℕ). indices_of (answered_rows gs a.group.now.sites (in_full_by a.size k a.words.now) k)) same;
    }
