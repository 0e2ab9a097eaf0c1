-- What is promised of the calls for C beyond their contracts: 0 is returned for an answer alone; no value of a rule is lost; a refused beginning of a walk
-- hands back a word and an index that `gomurin_next` refuses, whatever the group beside them; the two lists of a phase table that a call hands back pass;
-- a call on many words returns 0 or a rule of its own, and a row that it names is one of its rows; beside a dropped word stand zeros, the counter as it
-- was, and the index that drops it; and what each definition says of an example.
use Rattle.std.specs.declared.cmp.Ordering.TheVariants.{Less, Equal, Greater}
use Rattle.std.specs.Prelude.{Result, Ok, Err, Some, None}
use Prim.Native.Nat.{ℕ, zero, suc, ◌+◌, ◌<◌}
use mathlib.Core.Path.{◌≡◌, refl, ap}
use mathlib.Core.Logic.{inl, inr}
use mathlib.Core.Bool.{Bool, true, false, cond, not, ◌&&◌}
use mathlib.Core.List.{List, [], ◌∷◌, map}
use native.Mathlib.Omega.{arith}
use lib.Dec.{ltb, leb}
use lib.IntN.{ℤ, pos, negsuc}
use lib.ListN.{length, take, get_or, replicate}
use borrow.Author.Tests.{lt-leb}
use Rattle.outcome.specs.declared.Refusal.{Refusal}
use Rattle.outcome.specs.declared.Refusal.TheVariants as Refusal
use Rattle.outcome.specs.Outcome.{Outcome, answer, refused, answers, Check, rule, verdict, given, unless, or_else, rule_number, rule_values, refusal_of, outcome_of}
use Rattle.pauli_word.specs.Limits.{max_sites, word_length}
use Rattle.pauli_word.specs.Calls.{clear_above}
use Rattle.permutation.specs.Limits.{max_generators, max_order, target_places}
use Rattle.action.specs.Lists.{Member}
use Rattle.action.specs.Permutation.{Generator}
use Rattle.action.specs.Index.{order_of}
use Rattle.group.specs.declared.Group.{Group}
use Rattle.group.specs.Value.{generators_of, is_group}
use Rattle.group.proofs.Accepted.{accepted-by, accepted_tables}
use Rattle.row_lists.specs.Rows.{rows_in_full, no_word}
use Rattle.row_lists.specs.Checks.{bits_above_sites}
use Rattle.orbit.specs.declared.Entry.{Entry as EntryGiven}
use Rattle.orbit.specs.Calls.{is_walk, no_walk, next_outcome, entry, finished, walk_in}
use Rattle.orbit.specs.Words.{words_checks, words_outcome}
use Rattle.decisions.specs.Decisions.{kept, dropped, row_word}
use Rattle.decisions.specs.Placements.{placement_of, index_in}
use Rattle.momentum.specs.declared.Sector.TheVariants as Sector
use Rattle.momentum.specs.Calls.{sector_of, size_of, row_counter}
use Rattle.momentum.specs.Words.{sector_words_checks, sector_words_outcome}
use Rattle.text.specs.Text.{line_end, pieces}
use Rattle.phases.specs.Table.{phase_table}
use Rattle.phases.specs.Rules.{table_of, passes}
use Rattle.phases.proofs.Constant.{constant_passes}
use Rattle.phase_file.specs.declared.RefusedFile.{RefusedFile}
use Rattle.phase_file.specs.Calls.{outcome_of_file}
use Rattle.phase_file.specs.File.{max_file, is_file, table_in, file_outcome, table_after}
use Rattle.phase_file.proofs.Promises.{after-passes}
use Rattle.project.specs.declared.Projection.{Projection}
use Rattle.project.specs.Calls.{ProjectedSum, projection_of, counts_of}
use Rattle.sheet_text.specs.Sheet.{Page, table_page, refusal_page}
use Rattle.c_api.specs.Told.{placed, number_of, values_of, sign_of, index_of_entry, is_finished, given_word, given_index, none_given, size_in, row_size, is_kept, drop_index, sector_word, sector_size, in_sector, sector_index, kept_in, dropped_in, rows_kept, rows_dropped, page_number, page_values, page_length}

-- ---- 1 0 is returned for an answer alone: no rule has the number 0

pub rule-positive : (why : Refusal) → 0 < rule_number why
rule-positive Refusal.TooManySites = omega arith
rule-positive Refusal.ListEndsInside = omega arith
rule-positive Refusal.TooManyGenerators = omega arith
rule-positive (Refusal.LengthMismatch a b) = omega arith
rule-positive (Refusal.PermutationLength a b) = omega arith
rule-positive (Refusal.TargetOutOfRange a b) = omega arith
rule-positive (Refusal.DuplicateTarget a b) = omega arith
rule-positive (Refusal.ZeroOrder a) = omega arith
rule-positive (Refusal.PermutationOrderOverflow a) = omega arith
rule-positive (Refusal.OrderMismatch a b c) = omega arith
rule-positive (Refusal.NonCommuting a b) = omega arith
rule-positive Refusal.GroupOrderOverflow = omega arith
rule-positive Refusal.GroupOrderLimit = omega arith
rule-positive Refusal.InvalidValue = omega arith
rule-positive Refusal.WordLength = omega arith
rule-positive Refusal.OtherSites = omega arith
rule-positive Refusal.BitAboveSites = omega arith
rule-positive (Refusal.RowBitAboveSites a) = omega arith
rule-positive Refusal.ModeCount = omega arith
rule-positive Refusal.IndexRange = omega arith
rule-positive Refusal.CounterLength = omega arith
rule-positive Refusal.ListLength = omega arith
rule-positive Refusal.SumLists = omega arith
rule-positive Refusal.TooManyRows = omega arith
rule-positive (Refusal.NotFinite a) = omega arith
rule-positive (Refusal.SumNotFinite a) = omega arith
rule-positive Refusal.ZeroSide = omega arith
rule-positive Refusal.SidesTooLarge = omega arith
rule-positive Refusal.TooManyLetters = omega arith
rule-positive (Refusal.NotALetter a) = omega arith
rule-positive Refusal.SheetLength = omega arith
rule-positive Refusal.LineForm = omega arith
rule-positive Refusal.PhaseModulus = omega arith
rule-positive (Refusal.CoefficientRange a) = omega arith
rule-positive Refusal.PhaseForm = omega arith
rule-positive Refusal.PhaseRule = omega arith
rule-positive Refusal.OldWordSites = omega arith
rule-positive Refusal.DigitRange = omega arith

pub zero-answers : {A : Type 0} (r : Result A Refusal) → number_of (outcome_of r) ≡ 0 → answers (outcome_of r) ≡ true
zero-answers (Ok a) e = refl
zero-answers (Err why) e = absurd (omega (arith, rule-positive why))

pub zero_number : (n : Result ℕ Refusal) → number_of (outcome_of n) ≡ 0 → answers (outcome_of n) ≡ true
zero_number = zero-answers

pub zero-verdict : (v : Result (Unit {0}) Refusal) → number_of (outcome_of v) ≡ 0 → answers (outcome_of v) ≡ true
zero-verdict = zero-answers

-- and of a file
pub zero_file : {A : Type 0} (r : Result A RefusedFile) → number_of (outcome_of_file r) ≡ 0 → answers (outcome_of_file r) ≡ true
zero_file (Ok a) e = refl
zero_file (Err file) e = absurd (omega (arith, rule-positive file.why))

-- ---- 2 Four places suffice: nothing that a rule names is lost, nor where a line of a sheet stands before it

pub values_whole : (why : Refusal) (line : ℕ) → take (suc (length (rule_values why))) (placed (line ∷ rule_values why)) ≡ line ∷ rule_values why
values_whole Refusal.TooManySites line = refl
values_whole Refusal.ListEndsInside line = refl
values_whole Refusal.TooManyGenerators line = refl
values_whole (Refusal.LengthMismatch a b) line = refl
values_whole (Refusal.PermutationLength a b) line = refl
values_whole (Refusal.TargetOutOfRange a b) line = refl
values_whole (Refusal.DuplicateTarget a b) line = refl
values_whole (Refusal.ZeroOrder a) line = refl
values_whole (Refusal.PermutationOrderOverflow a) line = refl
values_whole (Refusal.OrderMismatch a b c) line = refl
values_whole (Refusal.NonCommuting a b) line = refl
values_whole Refusal.GroupOrderOverflow line = refl
values_whole Refusal.GroupOrderLimit line = refl
values_whole Refusal.InvalidValue line = refl
values_whole Refusal.WordLength line = refl
values_whole Refusal.OtherSites line = refl
values_whole Refusal.BitAboveSites line = refl
values_whole (Refusal.RowBitAboveSites a) line = refl
values_whole Refusal.ModeCount line = refl
values_whole Refusal.IndexRange line = refl
values_whole Refusal.CounterLength line = refl
values_whole Refusal.ListLength line = refl
values_whole Refusal.SumLists line = refl
values_whole Refusal.TooManyRows line = refl
values_whole (Refusal.NotFinite a) line = refl
values_whole (Refusal.SumNotFinite a) line = refl
values_whole Refusal.ZeroSide line = refl
values_whole Refusal.SidesTooLarge line = refl
values_whole Refusal.TooManyLetters line = refl
values_whole (Refusal.NotALetter a) line = refl
values_whole Refusal.SheetLength line = refl
values_whole Refusal.LineForm line = refl
values_whole Refusal.PhaseModulus line = refl
values_whole (Refusal.CoefficientRange a) line = refl
values_whole Refusal.PhaseForm line = refl
values_whole Refusal.PhaseRule line = refl
values_whole Refusal.OldWordSites line = refl
values_whole Refusal.DigitRange line = refl

-- ---- 3 A refused beginning of a walk

and_false : (b : Bool) → (b && false) ≡ false
and_false true = refl
and_false false = refl

module _ (g : Group) (targets : length g.targets ≡ target_places) (orders : length g.orders ≡ max_generators) where
  past_end : ltb max_sites g.sites ≡ false → is_walk (walk_in g no_word (suc max_order)) ≡ false
  unfolding is_walk generators_of
  past_end few = go (is_group g) refl
    where
      go : (b : Bool) → is_group g ≡ b → (b && clear_above g.sites no_word && leb (suc max_order) (order_of (generators_of g))) ≡ false
      go false e = refl
      go true e =
          let small = (accepted_tables g (accepted-by g targets orders few (ap not e))).small in
          let past : order_of (generators_of g) < suc max_order = omega arith in
          rw (lt-leb (suc max_order) (order_of (generators_of g)) past) (and_false (clear_above g.sites no_word))

  pub begun-refused : answers (next_outcome (walk_in g no_walk.word no_walk.index)) ≡ false
  unfolding next_outcome no_walk
  begun-refused = go (ltb max_sites g.sites) refl
    where
      go : (b : Bool) → ltb max_sites g.sites ≡ b → answers (next_outcome (walk_in g no_walk.word no_walk.index)) ≡ false
      go true e = rw e
      go false e = rw (e, past_end e)

-- ---- 4 Phase tables: a file that is read returns 0, 34 or 35; and the lists that are handed back, whatever the file holds, are those of a table that
-- passes, as the constant lists are, so that no sum with them is refused by 35 (`passing-by` of project)

pub constant_lists : passes (table_of phase_table.cosines phase_table.sines) ≡ true
constant_lists = constant_passes

three :
    {A : Type 0} (long other broken : Bool) (t : A)
    → let checks = rule Refusal.PhaseForm long ∷ rule Refusal.PhaseForm other ∷ rule Refusal.PhaseRule broken ∷ [] in
    Member (number_of (unless checks (answer t))) (0 ∷ 34 ∷ 35 ∷ [])
three true other broken t = inr (inl refl)
three false true broken t = inr (inl refl)
three false false true t = inr (inr (inl refl))
three false false false t = inl refl

module _ (file : List ℕ) where
  pub read-lists : passes (table_of (table_after (file_outcome file)).cosines (table_after (file_outcome file)).sines) ≡ true
  read-lists = after-passes file

  pub read_number : Member (number_of (file_outcome file)) (0 ∷ 34 ∷ 35 ∷ [])
  unfolding file_outcome
  read_number =
      let lines = pieces line_end file in
      three (ltb max_file (length file)) (not (is_file lines)) (not (passes (table_in lines))) (table_in lines)

-- ---- 5 Many words: a call returns 0 or the number of one of its rules; and the row that it names by 17 is one of its rows

-- a call of k rows returns 0 or one of some numbers, and by 17 it names one of the rows
abbrev pub ToldRows : {A : Type 0} → ℕ → List ℕ → Outcome A → Type 0
ToldRows k numbers o = Member (number_of o) (0 ∷ numbers) × (number_of o ≡ 17 → get_or (values_of o) 0 0 < k)

module _ (k : ℕ) (numbers : List ℕ) where
  -- checks that refuse by these numbers alone, and by 17 with one of the rows
  abbrev Among : List Check → Type 0
  Among [] = Unit {0}
  Among (c ∷ cs) = Member c.number numbers × (c.number ≡ 17 → get_or c.values 0 0 < k) × Among cs

  module _ {A : Type 0} (t : A) where
    first-told :
        (b : Bool) (number : ℕ) (named : List ℕ) (o : Outcome (Unit {0}))
        → Member number numbers → (number ≡ 17 → get_or named 0 0 < k) → ToldRows k numbers (given o (answer t))
        → ToldRows k numbers (given (cond b (refused number named) o) (answer t))
    first-told true number named o listed row rest = (inr listed, row)
    first-told false number named o listed row rest = rest

    among-told : (cs : List Check) → Among cs → ToldRows k numbers (unless cs (answer t))
    among-told [] own = (inl refl, λ e. absurd (omega arith))
    among-told (c ∷ cs) (listed, row, own) =
        first-told c.broken c.number c.values (verdict cs) listed row (among-told cs own)

  rows-among : Member 17 numbers → (n : ℕ) (words : List ℕ) (i j : ℕ) → i + j ≡ k → Among (bits_above_sites n words i j)
  rows-among listed n words i zero e = tt
  rows-among listed n words i (suc j) e = (listed, λ _. omega arith, rows-among listed n words (suc i) j (omega arith))

module _ (g : Group) (words : List ℕ) (k representatives : ℕ) where
  pub words-told : ToldRows k (1 ∷ 14 ∷ 22 ∷ 23 ∷ 36 ∷ 17 ∷ []) (words_outcome g words k representatives)
  unfolding words_outcome
  words-told =
      let numbers : List ℕ = 1 ∷ 14 ∷ 22 ∷ 23 ∷ 36 ∷ 17 ∷ [] in
      among-told k numbers _ (words_checks g words k representatives) (
        inl refl,
        λ e. absurd (omega arith),
        (
          inr (inl refl),
          λ e. absurd (omega arith),
          (
            inr (inr (inl refl)),
            λ e. absurd (omega arith),
            (
              inr (inr (inr (inl refl))),
              λ e. absurd (omega arith),
              (
                inr (inr (inr (inr (inl refl)))),
                λ e. absurd (omega arith),
                rows-among k numbers (inr (inr (inr (inr (inr (inl refl)))))) g.sites (rows_in_full k words) 0 k (omega arith),
              ),
            ),
          ),
        ),
      )

  pub sector-words-told :
      (modes : List ℤ) (sizes : ℕ)
      → ToldRows k (1 ∷ 14 ∷ 18 ∷ 22 ∷ 23 ∷ 36 ∷ 17 ∷ []) (sector_words_outcome g modes words k representatives sizes)
  unfolding sector_words_outcome
  sector-words-told modes sizes =
      let numbers : List ℕ = 1 ∷ 14 ∷ 18 ∷ 22 ∷ 23 ∷ 36 ∷ 17 ∷ [] in
      among-told k numbers _ (sector_words_checks g modes words k representatives sizes) (
        inl refl,
        λ e. absurd (omega arith),
        (
          inr (inl refl),
          λ e. absurd (omega arith),
          (
            inr (inr (inl refl)),
            λ e. absurd (omega arith),
            (
              inr (inr (inr (inl refl))),
              λ e. absurd (omega arith),
              (
                inr (inr (inr (inr (inl refl)))),
                λ e. absurd (omega arith),
                (
                  inr (inr (inr (inr (inr (inl refl))))),
                  λ e. absurd (omega arith),
                  rows-among k numbers (inr (inr (inr (inr (inr (inr (inl refl))))))) g.sites (rows_in_full k words) 0 k (omega arith),
                ),
              ),
            ),
          ),
        ),
      )

-- ---- 6 Beside a dropped word and beside a refusal no word stands, which is zeros; the size of a dropped word is 0, its counter stays as it was, and the
-- index that drops it is not lost

pub dropped-word : (i : ℕ) → (row_word (dropped i) ≡ replicate word_length 0) × (sector_word (Sector.Dropped i) ≡ replicate word_length 0)
dropped-word i = (refl, refl)

pub dropped-size : (i : ℕ) → (row_size (dropped i) ≡ 0) × (size_in (size_of (dropped i)) ≡ 0) × (sector_size (Sector.Dropped i) ≡ 0)
dropped-size i = (refl, refl, refl)

pub dropped-counter : (gs : List Generator) (counter : List ℕ) (i : ℕ) → row_counter gs counter (dropped i) ≡ counter
dropped-counter gs counter i = refl

pub dropped-index :
    (i : ℕ)
    → (drop_index (size_of (dropped i)) ≡ i) × (index_in (placement_of (dropped i)) ≡ i) × (sector_index (sector_of (dropped i)) ≡ i)
dropped-index i = (refl, refl, refl)

pub refused-word : {A : Type 0} (f : A → List ℕ) (why : Refusal) → or_else f no_word (refusal_of why) ≡ replicate word_length 0
refused-word f why = refl

-- ---- 7 Examples: what each definition says

pub numbers : map (number_of {A = ℕ}) (refused 14 [] ∷ refused 10 (0 ∷ 2 ∷ 4 ∷ []) ∷ answer 7 ∷ []) ≡ 14 ∷ 10 ∷ 0 ∷ []
numbers = refl

pub places : map (values_of {A = ℕ}) (refused 14 [] ∷ refused 10 (0 ∷ 2 ∷ 4 ∷ []) ∷ answer 7 ∷ []) ≡ (0 ∷ 0 ∷ 0 ∷ 0 ∷ []) ∷ (0 ∷ 2 ∷ 4 ∷ 0 ∷ []) ∷ (0 ∷ 0 ∷ 0 ∷ 0 ∷ []) ∷ []
places = refl

pub signs : map sign_of (Less ∷ Equal ∷ Greater ∷ []) ≡ negsuc 0 ∷ pos 0 ∷ pos 1 ∷ []
signs = refl

pub entries : (map index_of_entry (entry 3 ∷ finished ∷ []) ≡ 3 ∷ 0 ∷ []) × (map is_finished (entry 3 ∷ finished ∷ []) ≡ false ∷ true ∷ [])
entries = (refl, refl)

-- an entry as a step hands it back, its index 3 and its word 7, 0; and the end
pub given-entries :
    let three : EntryGiven = record { index = 3; word = 7 ∷ 0 ∷ [] } in
    (map given_word (Some three ∷ None ∷ []) ≡ (7 ∷ 0 ∷ []) ∷ no_word ∷ [])
    × (map given_index (Some three ∷ None ∷ []) ≡ 3 ∷ 0 ∷ [])
    × (map none_given (Some three ∷ None ∷ []) ≡ false ∷ true ∷ [])
given-entries = (refl, refl, refl)

pub decisions :
    (map size_in (kept 4 ∷ dropped 2 ∷ []) ≡ 4 ∷ 0 ∷ [])
    × (map (is_kept {A = ℕ}) (kept 4 ∷ dropped 2 ∷ []) ≡ true ∷ false ∷ [])
    × (map (drop_index {A = ℕ}) (kept 4 ∷ dropped 2 ∷ []) ≡ 0 ∷ 2 ∷ [])
decisions = (refl, refl, refl)

pub row-sizes : map row_size (kept (record { word = []; index = 3; size = 4 }) ∷ dropped 2 ∷ []) ≡ 4 ∷ 0 ∷ []
row-sizes = refl

-- a kept word as a call hands it back, its least word 7, 0 and its orbit of 4; and one that index 2 drops
pub sectors :
    let held = Sector.Kept (record { word = 7 ∷ 0 ∷ []; size = 4 }) ∷ Sector.Dropped 2 ∷ [] in
    (map sector_word held ≡ (7 ∷ 0 ∷ []) ∷ no_word ∷ [])
    × (map sector_size held ≡ 4 ∷ 0 ∷ [])
    × (map in_sector held ≡ true ∷ false ∷ [])
    × (map sector_index held ≡ 0 ∷ 2 ∷ [])
sectors = (refl, refl, refl, refl)

pub projections : let rows : Projection = record { kept = 3; dropped = 2 } in (kept_in rows ≡ 3) × (dropped_in rows ≡ 2)
projections = (refl, refl)

pub projected-rows : (s : ProjectedSum) → (rows_kept s ≡ (counts_of s).0) × (rows_dropped s ≡ (counts_of s).1)
projected-rows s = (refl, refl)

pub rows-handed : (s : ProjectedSum) → (rows_kept s ≡ kept_in (projection_of s)) × (rows_dropped s ≡ dropped_in (projection_of s))
rows-handed s = (refl, refl)

-- a sheet refused by 29 at line 4, at letter 2, its line of 13 bytes; a table of 84 bytes; a list too short
abbrev pages : List (Outcome Page)
pages = answer (refusal_page 29 4 (2 ∷ []) 13) ∷ answer (table_page 84) ∷ refused 21 [] ∷ []

pub page_numbers : (map page_number pages ≡ 29 ∷ 0 ∷ 21 ∷ []) × (map page_length pages ≡ 13 ∷ 84 ∷ 0 ∷ [])
page_numbers = (refl, refl)

pub page_values_lem : map page_values pages ≡ (4 ∷ 2 ∷ 0 ∷ 0 ∷ []) ∷ (0 ∷ 0 ∷ 0 ∷ 0 ∷ []) ∷ (0 ∷ 0 ∷ 0 ∷ 0 ∷ []) ∷ []
page_values_lem = refl
