-- `by_parts::word_by_parts` meets its contract: a word is rows of one.
use Prim.Native.Nat.{ℕ}
use mathlib.Core.Path.{refl, sym, ap, subst, ◌∙◌}
use mathlib.Core.Logic.{inl}
use mathlib.Core.List.{List}
use native.Mathlib.Omega.{arith}
use lib.ListN.{get_or}
use Rattle.pauli_word.specs.Limits.{word_length}
use Rattle.elements.specs.HeldGroup.{generators_in}
use Rattle.row_lists.specs.Rows.{in_full_by}
use Rattle.row_lists.specs.Checks.{AcceptedRows}
use Rattle.least_words.specs.Rows.{answered_rows, words_of, indices_of}
use Rattle.least_words.proofs.Answers.{one-rows, one_word, one_index}
use Rattle.least_words.proofs.by_parts.word_by_parts.Goals as goal

pub rows_by_parts-requires : goal.rows_by_parts-requires
rows_by_parts-requires c =
    let tables = c.requires.tables in
    let ok = c.requires.accepted_word in
    let (long, one) = c.requires.out_len in
    let rows = subst (λ (k : ℕ). AcceptedRows c.args.group.now.sites (in_full_by word_length k c.args.word.now) k) (sym one) (one-rows ok) in record {
      tables = tables;
      either_length = (inl refl, omega (arith, ok.long, one));
      accepted_rows = rows;
      representatives_len = omega (arith, long, one);
    }

pub returns : goal.returns
returns c =
    let a = c.args in
    let gs = generators_in a.group.now.generators a.group.now.sites a.group.now.targets.now a.group.now.orders.now in
    let tables = c.requires.tables in
    let ok = c.requires.accepted_word in
    let (long, one) = c.requires.out_len in record {
      word = λ e. c.rows_by_parts.ensures.representatives e ∙ ap (λ (k : ℕ). words_of (answered_rows gs a.group.now.sites (in_full_by word_length k a.word.now) k)) one ∙ one_word ok gs;
      index = λ e. ap (λ (l : List ℕ). get_or l 0 0) (c.rows_by_parts.ensures.indices e ∙ ap (λ (k : ℕ). indices_of (answered_rows gs a.group.now.sites (in_full_by word_length k a.word.now) k)) one) ∙ one_index ok gs;
    }
