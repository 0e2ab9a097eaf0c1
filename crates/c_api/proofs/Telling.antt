-- What a call comes to as numbers: the rule's number and what the rule names are the same where the answer is put through a function.
use Prim.Native.Nat.{suc}
use mathlib.Core.Path.{◌≡◌, refl, ap, ◌∙◌}
use mathlib.Core.Bool.{false}
use Rattle.outcome.specs.Outcome.{Outcome, refused, answer, on_answer, or_else, itself}
use Rattle.permutation.specs.Limits.{max_order}
use Rattle.row_lists.specs.Rows.{no_word}
use Rattle.orbit.specs.declared.Walk.{Walk}
use Rattle.orbit.specs.Calls.{Entry, entry, finished, given_entry, entry_word, no_walk}
use Rattle.decisions.specs.Decisions.{Decision, kept, dropped, Row, row_word}
use Rattle.momentum.specs.Calls.{sector_of, size_of}
use Rattle.c_api.specs.Told.{number_of, values_of, index_of_entry, is_finished, given_word, given_index, none_given, size_in, row_size, is_kept, drop_index, sector_word, sector_size, in_sector, sector_index}

module _ {A B : Type 0} (f : A → B) (o : Outcome A) {p : Outcome B} (e : p ≡ on_answer f o) where
  pub number-told : number_of p ≡ number_of o
  number-told = ap number_of e ∙ go o
    where
      go : (q : Outcome A) → number_of (on_answer f q) ≡ number_of q
      go (refused k vs) = refl
      go (answer a) = refl

  pub values-told : values_of p ≡ values_of o
  values-told = ap values_of e ∙ go o
    where
      go : (q : Outcome A) → values_of (on_answer f q) ≡ values_of q
      go (refused k vs) = refl
      go (answer a) = refl

  pub else-told : {C : Type 0} (g : B → C) (z : C) → or_else g z p ≡ or_else (λ a. g (f a)) z o
  else-told {C} g z = ap (or_else g z) e ∙ go o
    where
      go : (q : Outcome A) → or_else g z (on_answer f q) ≡ or_else (λ a. g (f a)) z q
      go (refused k vs) = refl
      go (answer a) = refl

-- an entry as a step hands it back has the walk's word and its own index; and the walk is over where none is
module _ (w : Walk) where
  pub entry-word : (o : Outcome Entry) → or_else (λ e. given_word (given_entry w e)) no_word o ≡ or_else (entry_word w) no_word o
  entry-word (refused k vs) = refl
  entry-word (answer (entry i)) = refl
  entry-word (answer finished) = refl

  pub entry-index : (o : Outcome Entry) → or_else (λ e. given_index (given_entry w e)) 0 o ≡ or_else index_of_entry 0 o
  entry-index (refused k vs) = refl
  entry-index (answer (entry i)) = refl
  entry-index (answer finished) = refl

  pub entry-finished : (o : Outcome Entry) → or_else (λ e. none_given (given_entry w e)) false o ≡ or_else is_finished false o
  entry-finished (refused k vs) = refl
  entry-finished (answer (entry i)) = refl
  entry-finished (answer finished) = refl

-- a walk that is begun has its own word and index, and beside a refusal stand those of no walk
pub begun-word : (o : Outcome Walk) → or_else (λ w. w.word) no_word o ≡ (or_else itself no_walk o).word
unfolding no_walk
begun-word (refused k vs) = refl
begun-word (answer w) = refl

pub begun-index : (o : Outcome Walk) → or_else (λ w. w.index) (suc max_order) o ≡ (or_else itself no_walk o).index
unfolding no_walk
begun-index (refused k vs) = refl
begun-index (answer w) = refl

-- a word in a sector as it is handed back has the word and the size of its row; and it is kept, or dropped by an index, as its row is
pub word_row : (o : Outcome (Decision Row)) → or_else (λ d. sector_word (sector_of d)) no_word o ≡ or_else row_word no_word o
word_row (refused k vs) = refl
word_row (answer (kept r)) = refl
word_row (answer (dropped i)) = refl

pub size-handed : (o : Outcome (Decision Row)) → or_else (λ d. sector_size (sector_of d)) 0 o ≡ or_else row_size 0 o
size-handed (refused k vs) = refl
size-handed (answer (kept r)) = refl
size-handed (answer (dropped i)) = refl

pub kept-handed : (o : Outcome (Decision Row)) → or_else (λ d. in_sector (sector_of d)) false o ≡ or_else is_kept false o
kept-handed (refused k vs) = refl
kept-handed (answer (kept r)) = refl
kept-handed (answer (dropped i)) = refl

pub drop-handed : (o : Outcome (Decision Row)) → or_else (λ d. sector_index (sector_of d)) 0 o ≡ or_else drop_index 0 o
drop-handed (refused k vs) = refl
drop-handed (answer (kept r)) = refl
drop-handed (answer (dropped i)) = refl

-- of a kept word the size is its row's; and it is kept, or dropped by an index, with or without its row
pub size_row : (o : Outcome (Decision Row)) → or_else (λ d. size_in (size_of d)) 0 o ≡ or_else row_size 0 o
size_row (refused k vs) = refl
size_row (answer (kept r)) = refl
size_row (answer (dropped i)) = refl

pub kept_row : (o : Outcome (Decision Row)) → or_else (λ d. is_kept (size_of d)) false o ≡ or_else is_kept false o
kept_row (refused k vs) = refl
kept_row (answer (kept r)) = refl
kept_row (answer (dropped i)) = refl

pub drop-row : (o : Outcome (Decision Row)) → or_else (λ d. drop_index (size_of d)) 0 o ≡ or_else drop_index 0 o
drop-row (refused k vs) = refl
drop-row (answer (kept r)) = refl
drop-row (answer (dropped i)) = refl
