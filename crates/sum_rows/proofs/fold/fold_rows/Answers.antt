-- `fold::fold_rows` meets its contract: coefficients added at their words' places are the table's sums (`Folded`), and beside a refusal the lists
-- are zero.
use Rattle.std.specs.Prelude.{Result, Ok, Err}
use Prim.Native.Nat.{ℕ, ◌*◌}
use mathlib.Core.Path.{◌≡◌, sym, ap, subst, ◌∙◌}
use mathlib.Core.List.{List, [], ◌∷◌}
use lib.ListN.{length, replicate}
use lib.Ieee.{Float, nan}
use borrow.Author.Rules.{rules}
use Rattle.outcome.specs.declared.Refusal.{Refusal}
use Rattle.outcome.specs.Outcome.{Outcome, answer, refusal_of, Check, on_answer, outcome_of, verdict}
use Rattle.outcome.proofs.Outcomes.{call-answers, told-passes, told-refused}
use Rattle.pauli_word.specs.Limits.{word_length}
use Rattle.keyed.specs.Keyed.{placed}
use Rattle.row_lists.specs.Rows.{rows_in}
use Rattle.row_lists.proofs.Fills.{filled_all}
use Rattle.row_words.specs.Words.{RowPlaces, words_filled}
use Rattle.row_words.proofs.PlacedRows.{places-inside}
use Rattle.sum_rows.specs.declared.row_sum.RowSum.{RowSum}
use Rattle.sum_rows.specs.Sums.{zero, overflow, place_sums, fold_outcome, sums_filled, counts_filled, handed_back}
use Rattle.sum_rows.specs.Rows.{byte_sums}
use Rattle.sum_rows.specs.Added.{Added, AddedAll}
use Rattle.sum_rows.proofs.Folded.{table_in, as_many, words-filled, sums-filled, counts-filled, fold-by-place, no_members, no_words}
use Rattle.sum_rows.proofs.fold.fold_rows.Goals as goal

-- what adding checks
abbrev checks : List ℕ → List Float → List Check
checks places cs = overflow place_sums (placed nan places cs (length cs)) ∷ []

-- all rows are added
answered : (words : List ℕ) (cs : List Float) {places : List ℕ} (v : Result (Unit {0}) Refusal)
    → RowPlaces words (length cs) places
    → outcome_of v ≡ verdict (checks places cs)
    → v ≡ Ok tt
    → fold_outcome byte_sums (rows_in words cs) ≡ answer (table_in words cs)
answered words cs {places} v p told e =
    fold-by-place words cs p
    ∙ call-answers (checks places cs) (answer (table_in words cs)) (told-passes (checks places cs) v told e)

handed : {A : Type 0} (fill : List (List ℕ × RowSum) → A) (words : List ℕ) (cs : List Float)
    → fold_outcome byte_sums (rows_in words cs) ≡ answer (table_in words cs)
    → fill (table_in words cs) ≡ fill (handed_back (fold_outcome byte_sums (rows_in words cs)))
handed fill words cs e = ap (λ (o : Outcome (List (List ℕ × RowSum))). fill (handed_back o)) (sym e)

-- a running sum is not finite
refuses : (words : List ℕ) (cs : List Float) {places : List ℕ} (v : Result (Unit {0}) Refusal) (why : Refusal)
    → RowPlaces words (length cs) places
    → outcome_of v ≡ verdict (checks places cs)
    → v ≡ Err why
    → fold_outcome byte_sums (rows_in words cs) ≡ refusal_of why
refuses words cs {places} v why p told e =
    fold-by-place words cs p ∙ told-refused (checks places cs) v told (answer (table_in words cs)) e

none-handed : {A : Type 0} (fill : List (List ℕ × RowSum) → A) (words : List ℕ) (cs : List Float) (why : Refusal)
    → fold_outcome byte_sums (rows_in words cs) ≡ refusal_of why
    → fill [] ≡ fill (handed_back (fold_outcome byte_sums (rows_in words cs)))
none-handed fill words cs why e = ap (λ (o : Outcome (List (List ℕ × RowSum))). fill (handed_back o)) (sym e)

lengths : (places : List ℕ) (cs sums : List Float) (counts : List ℕ) (v : Result (Unit {0}) Refusal) (why : Refusal)
    → AddedAll v places cs sums counts
    → v ≡ Err why
    → (length sums ≡ length cs) × (length counts ≡ length cs)
lengths places cs sums counts v why h e = subst (λ (w : Result (Unit {0}) Refusal). AddedAll w places cs sums counts) e h

pub add_rows-requires : goal.add_rows-requires
add_rows-requires c =
    let folded = c.fold_words-used.ensures in
    let same = c.requires.sums_len in record {
      coefficients_len_bound = c.requires.coefficients_len_bound;
      places_len = folded.places.long;
      by_index = places-inside c.args.words.now (length c.args.coefficients.now) folded.places;
      sums_value = c.clear.ensures.sums ∙ ap (λ (n : ℕ). replicate n zero) same;
      counts_value = c.clear.ensures.counts ∙ ap (λ (n : ℕ). replicate n 0) same;
    }

pub clear-requires-in-Err : goal.clear-requires-in-Err
clear-requires-in-Err c =
    let long = lengths c.fold_words-used.new.places c.args.coefficients.now c.add_rows.new.sums c.add_rows.new.counts c.add_rows.result c.in-Err.why c.add_rows.ensures.added c.in-Err.is in
    long.1 ∙ sym long.0

pub returns-in-Ok : goal.returns-in-Ok
returns-in-Ok c =
    let words = c.args.words.now in
    let cs = c.args.coefficients.now in
    let k = length cs in
    let folded = c.fold_words-used.ensures in
    let e = answered words cs c.add_rows.result folded.places c.add_rows.ensures.answer c.in-Ok.is in
    let added : Added c.fold_words-used.new.places cs (length cs) c.add_rows.new.sums c.add_rows.new.counts =
    subst (λ (v : Result (Unit {0}) Refusal). AddedAll v c.fold_words-used.new.places cs c.add_rows.new.sums c.add_rows.new.counts) c.in-Ok.is c.add_rows.ensures.added in record {
      answer = ap answer (folded.used ∙ as_many words cs) ∙ sym (ap (on_answer length) e);
      words = folded.words ∙ words-filled words cs c.requires.words_len ∙ handed (words_filled k) words cs e;
      sums = sums-filled words cs folded.places added ∙ handed (sums_filled k) words cs e;
      counts = counts-filled words cs folded.places added ∙ handed (counts_filled k) words cs e;
    }

pub returns-in-Err : goal.returns-in-Err
returns-in-Err c =
    let words = c.args.words.now in
    let cs = c.args.coefficients.now in
    let k = length cs in
    let why = c.in-Err.why in
    let folded = c.fold_words-used.ensures in
    let e = refuses words cs c.add_rows.result why folded.places c.add_rows.ensures.answer c.in-Err.is in
    let long = lengths c.fold_words-used.new.places c.args.coefficients.now c.add_rows.new.sums c.add_rows.new.counts c.add_rows.result why c.add_rows.ensures.added c.in-Err.is in record {
      answer = sym (ap (on_answer length) e);
      words =
          c.bytes_from.ensures
          ∙ filled_all 0 c.fold_words-used.new.words (c.fold_words-used.auto.words ∙ c.requires.words_len)
          ∙ no_words k
          ∙ none-handed (words_filled k) words cs why e;
      sums = c.clear-in-Err.ensures.sums ∙ no_members zero k long.0 ∙ none-handed (sums_filled k) words cs why e;
      counts = c.clear-in-Err.ensures.counts ∙ no_members 0 k long.0 ∙ none-handed (counts_filled k) words cs why e;
    }
