-- `by_parts::word_taken` meets its contract: where it is of no use the answer is no; else a word is rows of one.
use Prim.Native.Nat.{ℕ}
use mathlib.Core.Path.{refl, sym, ap, subst, ◌∙◌}
use mathlib.Core.Bool.{false≢true}
use mathlib.Core.Logic.{inl}
use mathlib.Core.List.{List}
use native.Mathlib.Omega.{arith}
use lib.ListN.{get_or}
use Rattle.pauli_word.specs.Limits.{word_length}
use Rattle.elements.specs.HeldGroup.{generators_in}
use Rattle.row_lists.specs.Rows.{in_full_by}
use Rattle.row_lists.specs.Checks.{AcceptedRows}
use Rattle.least_words.proofs.Answers.{one-rows}
use Rattle.sector_rows.specs.Rows.{decided_rows, sector_words, sector_indices, sector_sizes}
use Rattle.sector_rows.proofs.Written.{one_word, one_index, one_size}
use Rattle.sector_rows.proofs.by_parts.word_taken.Goals as goal

pub returns-then-not-is_worth : goal.returns-then-not-is_worth
returns-then-not-is_worth c = record {
  word = λ e. absurd (false≢true e);
  index = λ e. absurd (false≢true e);
  size = λ e. absurd (false≢true e);
}

pub rows_by_parts-requires : goal.rows_by_parts-requires
rows_by_parts-requires c =
    let tables = c.requires.tables in let modes = c.requires.modes_len in let ok = c.requires.accepted_word in let (long, one, size) = c.requires.out_len in
    let rows = subst (λ (k : ℕ). AcceptedRows c.args.group.now.sites (in_full_by word_length k c.args.word.now) k) (sym one) (one-rows ok) in record {
      tables = tables;
      modes_len = modes;
      either_length = (inl refl, omega (arith, ok.long, one));
      accepted_rows = rows;
      representatives_len = omega (arith, long, one);
      sizes_len = size ∙ sym one;
    }

pub returns : goal.returns
returns c =
    let a = c.args in
    let gs = generators_in a.group.now.generators a.group.now.sites a.group.now.targets.now a.group.now.orders.now in
    let ks = a.modes.now in
    let tables = c.requires.tables in let modes = c.requires.modes_len in let ok = c.requires.accepted_word in let (long, one, size) = c.requires.out_len in record {
      word = λ e. c.rows_by_parts.ensures.representatives e ∙ ap (λ (k : ℕ). sector_words (decided_rows gs ks a.group.now.sites (in_full_by word_length k a.word.now) k)) one ∙ one_word ok gs ks;
      index = λ e. ap (λ (l : List ℕ). get_or l 0 0) (c.rows_by_parts.ensures.indices e ∙ ap (λ (k : ℕ). sector_indices (decided_rows gs ks a.group.now.sites (in_full_by word_length k a.word.now) k)) one) ∙ one_index ok gs ks;
      size = λ e. ap (λ (l : List ℕ). get_or l 0 0) (c.rows_by_parts.ensures.sizes e ∙ ap (λ (k : ℕ). sector_sizes (decided_rows gs ks a.group.now.sites (in_full_by word_length k a.word.now) k)) one) ∙ one_size ok gs ks;
    }
