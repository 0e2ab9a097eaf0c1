-- What is promised of a projected sum by the outcome of its call, for a group that accepted generators give, any bytes and any phase table: each
-- statement is followed by the law that shows it. Words are handed in full or in the old form, and read in full (`rowsInFull`).
--
-- 1 What an answer has checked, 2 An answered sum, 3 The output lists, 4 How large the parts are, 5 Modes that are all 0, 6 Words moved by a
-- generator, 7 Two rows of one word, 8 Refusals, 9 Tables that are never refused, 10 Rows of the old form.
use Prim.Native.Nat.{ℕ, suc, ◌+◌, ◌*◌, ◌/◌, ◌%◌, ◌^◌, ◌≤◌, ◌<◌}
use native.Mathlib.Nat.{dvd_of_mod-eq-zero}
use native.Mathlib.Omega.{arith}
use mathlib.Core.Path.{◌≡◌, refl, sym, ap, ap₂, subst, ◌∙◌}
use mathlib.Core.Logic.{◌⊎◌, inl, inr}
use mathlib.Core.Bool.{Bool, true, false, not, cond}
use mathlib.Core.List.{List, [], ◌∷◌, ◌++◌, map}
use lib.IntN.{ℤ, pos, ◌+ℤ◌, ◌*ℤ◌}
use lib.ListN.{length, get_or}
use Rattle.outcome.specs.declared.Refusal.TheVariants as Refusal
use Rattle.outcome.specs.Outcome.{Outcome, refused, answer, refusal_of, Check, verdict, given, unless}
use Rattle.outcome.proofs.Outcomes.{refused_apart, verdict-append, call-answers, unless_answer}
use Rattle.pauli_word.specs.Limits.{old_length, old_sites}
use Rattle.pauli_word.specs.Word.{Word}
use Rattle.pauli_word.specs.Bytes.{letters_in, Bytes, word_in}
use Rattle.pauli_word.specs.Calls.{past_old}
use Rattle.action.specs.Lists.{Member, below}
use Rattle.action.specs.Orbit.{orbit, is_in, least}
use Rattle.action.specs.Sector.{modulus, reduced, keeps}
use Rattle.action.proofs.Lists.{of-member-map, of-member-append, member-append-left, member-append-right, count-cong, count-true, length-below}
use Rattle.action.proofs.Canonical.{least-same}
use Rattle.action.proofs.Kept.{keeps-orbit}
use Rattle.group.specs.declared.Group.{Group}
use Rattle.group.specs.Value.{GivenBy, generators_of}
use Rattle.group.specs.Calls.{value_checks}
use Rattle.group.proofs.Accepted.{value_passes}
use Rattle.momentum.specs.Calls.{mode_count}
use Rattle.momentum.proofs.GivenGroups.{given-accepted, given-valid, given-length, given-sites}
use Rattle.keyed.specs.Keyed.{key_of}
use Rattle.row_lists.specs.Rows.{max_rows, row_by, row_size, rows_in, rows_in_full}
use Rattle.row_lists.specs.Checks.{rows_agree, row_checks, list_checks}
use Rattle.row_lists.proofs.InFull.{size-either, size-long, full-row}
use Rattle.row_lists.proofs.ListChecks.{Agreeing, lengths-old, lists-refused}
use Rattle.row_lists.proofs.Meanings.{full-once, checks-in-full, old-checks}
use Rattle.phases.specs.declared.PhaseTable.{PhaseTable}
use Rattle.phases.specs.Table.{phase_table}
use Rattle.phases.specs.Rules.{turn, unit, cosine, sine, PhaseRange, PhaseRules, passes}
use Rattle.phases.specs.Checks.{broken_table}
use Rattle.phases.proofs.Tests.{passes_range, passes_rules}
use Rattle.phases.proofs.Constant.{constant_passes}
use Rattle.phase_file.specs.File.{file_outcome, table_after}
use Rattle.phase_file.proofs.Promises.{after-passes}
use Rattle.projection.specs.Projection.{Parts, entry_at, entry_of, sum_of, projected}
use Rattle.projection.proofs.Entries.{keeps-zero-modes, entry-generator}
use Rattle.projection.proofs.Projected.{projected-zero-modes}
use Rattle.projection.proofs.OneWord.{one_word}
use Rattle.project.specs.Calls.{
  other_modulus,
  out_of_range,
  project_checks,
  input_rows,
  ProjectedSum,
  projected_sum,
  project_outcome,
  words_after,
  cosines_after,
  sines_after,
}
use Rattle.project.specs.Rows.{max_part, Sector, WholeRows}
use Rattle.project.specs.Promises.{word_at, keeps_row, rows_with, no_generator, generator_at, moved_by, turns_by, PartsWithin, ProjectedTable, OutputLists}
use Rattle.project.proofs.ProjectChecks.{
  sector_checks,
  table-breaks,
  table-passes,
  sector_refused,
  lists-decide,
  passed-sector,
  passed-table,
  passed-lengths,
  passed-rows,
}
use Rattle.project.proofs.ProjectCalls.{project-refused}
use Rattle.project.proofs.ProjectedSums.{input-long, table-projected, table-parts}
use Rattle.project.proofs.OutputLists.{lists-hold}
use Rattle.project.proofs.OneGenerator.{generator-orbit, generator-turns}

-- as many rows as there may be, each with the largest part, come to this
pub largest_part : max_rows * max_part ≡ 2 ^ 62
largest_part = refl

module _ (t : PhaseTable) (g : Group) (ks : List ℤ) (words : List ℕ) (cs : List ℤ) (a b c : ℕ)
    (s : ProjectedSum) (answered : project_outcome t g ks words cs a b c ≡ answer s) where
  -- the words of the rows, in full
  abbrev full : List ℕ
  full = rows_in_full (length cs) words

  -- an answer comes after checks that pass, and is what the rows come to
  passed : (verdict (project_checks t g ks words cs a b c) ≡ answer tt) × (projected_sum t g ks (input_rows g.sites full cs) ≡ s)
  unfolding project_outcome
  passed = unless_answer (project_checks t g ks words cs a b c) (projected_sum t g ks (input_rows g.sites full cs)) s answered

  table_is : projected t.cosines t.sines (generators_of g) ks (input_rows g.sites full cs) ≡ s.table
  unfolding projected_sum
  table_is = ap (λ (r : ProjectedSum). r.table) passed.1

  module _ (by : GivenBy g) (small : Bytes words) where
    -- ---- 1 What an answer has checked

    -- there is a mode for each generator, and the phase modulus divides a turn
    pub answered-sector : Sector g.generators g.sites g.targets g.orders ks
    answered-sector = passed-sector t g ks words cs a b c passed.0 (given-accepted g by)

    -- the five lists have as many rows, words of the old form have few enough sites, and there are few enough rows
    pub answered-lists : Agreeing g.sites (length words) (length cs) a b c
    answered-lists = passed-lengths t g ks words cs a b c passed.0

    -- the table has its numbers in their range, and keeps the rules
    pub answered-range : PhaseRange t
    answered-range = passes_range t (passed-table t g ks words cs a b c passed.0)

    pub answered-rules : PhaseRules t
    answered-rules = passes_rules t (passed-table t g ks words cs a b c passed.0)

    -- each row has a word of the sites and a coefficient in its range
    pub answered-rows : WholeRows g.sites full cs
    answered-rows = passed-rows t g ks words cs a b c passed.0 small

    -- ---- 2 An answered sum: strictly rising representatives of the kept rows, each with the exact sums of what its rows add

    pub answered-table : ProjectedTable t g ks full cs s
    answered-table = subst (ProjectedTable t g ks full cs) passed.1 (table-projected t g (given-accepted g by) ks full cs answered-rows)

    -- ---- 3 The output lists: the rows of the sum and zeros after them, and where the rows end

    pub answered-output : (was : List ℕ) (xs ys : List ℤ)
        → let outcome = project_outcome t g ks words cs a b c in
        OutputLists s.table (length cs) (words_after was (length cs) outcome) (cosines_after xs (length cs) outcome) (sines_after ys (length cs) outcome)
    answered-output was xs ys =
        let holds = answered-table in
        rw answered
        (lists-hold (length cs) s.table (omega (arith, holds.few, holds.all_counted)) g.sites (given-sites g by)
        (λ v m. let (row, l, e) = of-member-map key_of s.table v m in ap length e ∙ (holds.row row.0 row.1 l).long)
        holds.later)

    -- ---- 4 How large the parts are: a row adds at most the largest coefficient times a unit, and as many rows as there may be stay inside 64 bits

    pub answered-parts : (v : Word) (p : Parts) → Member (v, p) s.table → PartsWithin (length cs * max_part) p
    answered-parts v p m = table-parts t g (given-accepted g by) ks full cs answered-rows answered-range v p (rw passed.1 m)

    pub answered-inside : (v : Word) (p : Parts) → Member (v, p) s.table → PartsWithin (2 ^ 62) p
    answered-inside v p m = omega (arith, answered-parts v p m, answered-lists.few)

    -- ---- 5 Modes that are all 0: nothing is dropped, and each word has the sum of its rows' coefficients, in units, and no sine

    module _ (zeros : (k : ℤ) → Member k ks → k ≡ pos 0) where
      pub zero-modes-kept : s.kept ≡ length cs
      zero-modes-kept =
          answered-table.kept_count
          ∙ count-cong (keeps_row g ks full) (λ i. true) (below (length cs)) (λ i m. keeps-zero-modes (generators_of g) ks zeros _)
          ∙ count-true (below (length cs))
          ∙ length-below (length cs)

      pub zero-modes-dropped : s.dropped ≡ 0
      zero-modes-dropped = omega (arith, answered-table.all_counted, zero-modes-kept)

      pub zero-modes-sums : (v : Word) (p : Parts) → Member (v, p) s.table → p ≡ (pos unit *ℤ sum_of (rows_with g ks full cs v), pos 0)
      unfolding cosine sine
      zero-modes-sums v p m =
          projected-zero-modes t.cosines t.sines (generators_of g) ks (input_rows g.sites full cs) zeros (pos unit) answered-rules.first_cosine
          answered-rules.first_sine v p (rw table_is m)

-- ---- 6 Words moved by a generator

module _ (g : Group) (by : GivenBy g) (w : Word) (long : length w ≡ g.sites) (k : ℕ) (inside : k < g.generators) where
  among : k < length (generators_of g)
  among = rw (given-length g by) inside

  moved-in-orbit : is_in (moved_by g k w) (orbit (generators_of g) w) ≡ true
  moved-in-orbit = generator-orbit (given-valid g by) k no_generator among w long

  -- the representative stays
  pub moved-least : least (generators_of g) (moved_by g k w) ≡ least (generators_of g) w
  moved-least = least-same (given-valid g by) w long (moved_by g k w) moved-in-orbit

  module _ (ks : List ℤ) where
    -- whether the orbit is kept stays
    pub moved_keeps : keeps (generators_of g) ks (moved_by g k w) ≡ keeps (generators_of g) ks w
    moved_keeps = keeps-orbit (given-valid g by) w long ks (moved_by g k w) moved-in-orbit

    -- and the entry of a kept word goes on by what the generator turns, round a turn
    pub moved-entry : turn % modulus (generators_of g) ≡ 0 → keeps (generators_of g) ks w ≡ true
        → entry_of (generators_of g) ks (moved_by g k w) ≡ (entry_of (generators_of g) ks w + turns_by g ks k) % turn
    unfolding entry_at
    moved-entry divides kept =
        entry-generator (given-valid g by) ks (dvd_of_mod-eq-zero (modulus (generators_of g)) divides) w long kept k no_generator among

-- what a generator turns is its mode, modulo its order, over its order, of a turn: its momentum
pub turns_by_mode : (g : Group) → GivenBy g → (k : ℕ) → k < g.generators → (ks : List ℤ)
    → turns_by g ks k ≡ reduced (generator_at g k).order (get_or ks k (pos 0)) * turn / (generator_at g k).order
turns_by_mode g by k inside ks = generator-turns (given-valid g by) k no_generator (rw (given-length g by) inside) ks

-- ---- 7 Two rows of one word give what one row with their sum gives, wherever they stand and whatever else the lists hold

module _ (t : PhaseTable) (g : Group) (ks : List ℤ) (words : List ℕ) (cs : List ℤ) (a b c : ℕ)
    (s : ProjectedSum) (answered : project_outcome t g ks words cs a b c ≡ answer s) (by : GivenBy g) (small : Bytes words)
    (words' : List ℕ) (cs' : List ℤ) (a' b' c' : ℕ) (s' : ProjectedSum) (answered' : project_outcome t g ks words' cs' a' b' c' ≡ answer s') where
  pub one-word-table :
      (w : Word) (x y : ℤ) (xs ys zs : List (Word × ℤ))
      → input_rows g.sites (rows_in_full (length cs) words) cs ≡ xs ++ ((w, x) ∷ (ys ++ ((w, y) ∷ zs)))
      → input_rows g.sites (rows_in_full (length cs') words') cs' ≡ xs ++ ((w, x +ℤ y) ∷ (ys ++ zs))
      → s.table ≡ s'.table
  one-word-table w x y xs ys zs parted joined =
      let table : List (Word × ℤ) → List (Word × Parts) = projected t.cosines t.sines (generators_of g) ks in
      let rows = answered-rows t g ks words cs a b c s answered by small in
      sym (table_is t g ks words cs a b c s answered)
      ∙ ap table parted
      ∙ one_word t.cosines t.sines (generators_of g) ks (given-valid g by) w x y xs ys zs
      (λ row m. input-long g.sites (rows_in_full (length cs) words) cs rows row (rw parted m))
      ∙ ap table (sym joined)
      ∙ table_is t g ks words' cs' a' b' c' s' answered'

-- ---- 8 Refusals

-- a refusal is by the number of a check
verdict-number : (checks : List Check) (k : ℕ) (vs : List ℕ) → verdict checks ≡ refused k vs → Member k (map (λ (c : Check). c.number) checks)
verdict-number [] k vs e = absurd (refused_apart k vs tt (sym e))
verdict-number (c ∷ checks) k vs e = go c.broken (verdict-number checks k vs) e
  where
    go : (b : Bool) → (verdict checks ≡ refused k vs → Member k (map (λ (d : Check). d.number) checks))
        → cond b (refused c.number c.values) (verdict checks) ≡ refused k vs → Member k (map (λ (d : Check). d.number) (c ∷ checks))
    go true later f = inl (cc)
    go false later f = inr (later f)

-- a call that would answer and is refused, is refused by its checks
checks_refuse : {A : Type 0} (checks : List Check) (x : A) (k : ℕ) (vs : List ℕ) → unless checks (answer x) ≡ refused k vs → verdict checks ≡ refused k vs
checks_refuse checks x k vs e = go (verdict checks) refl e
  where
    go : (v : Outcome (Unit {0})) → verdict checks ≡ v → given v (answer x) ≡ refused k vs → verdict checks ≡ refused k vs
    go (refused j ws) p q = cc
    go (answer tt) p q = absurd (refused_apart k vs x (sym q))

-- a rule that is not broken may be left out
skip_fine : (front : List Check) (check : Check) (rest : List Check) → check.broken ≡ false → verdict (front ++ (check ∷ rest)) ≡ verdict (front ++ rest)
skip_fine front check rest e = verdict-append front (check ∷ rest) ∙ rw e (sym (verdict-append front rest))

row-numbers : (n i : ℕ) (rows : List (List ℕ × ℤ)) (k : ℕ) → Member k (map (λ (c : Check). c.number) (row_checks out_of_range n i rows))
    → Member k (17 ∷ 33 ∷ [])
row-numbers n i [] k m = absurd m
row-numbers n i (row ∷ rows) k (inl e) = inl e
row-numbers n i (row ∷ rows) k (inr (inl e)) = inr (inl e)
row-numbers n i (row ∷ rows) k (inr (inr m)) = row-numbers n (suc i) rows k m

-- rules, and then those of the rows
with_rows : (n : ℕ) (rows : List (List ℕ × ℤ)) (front : List ℕ) (k : ℕ)
    → Member k (front ++ map (λ (c : Check). c.number) (row_checks out_of_range n 0 rows)) → Member k (front ++ (17 ∷ 33 ∷ []))
with_rows n rows front k m = go (of-member-append front (map (λ c. c.number) (row_checks out_of_range n 0 rows)) k m)
  where
    go : Member k front ⊎ Member k (map (λ (c : Check). c.number) (row_checks out_of_range n 0 rows)) → Member k (front ++ (17 ∷ 33 ∷ []))
    go (inl l) = member-append-left front (17 ∷ 33 ∷ []) k l
    go (inr l) = member-append-right front (17 ∷ 33 ∷ []) k (row-numbers n 0 rows k l)

-- a group that accepted generators give passes its checks
given-passes : (g : Group) → GivenBy g → verdict (value_checks g) ≡ answer tt
given-passes g by = value_passes g (given-accepted g by).few (given-accepted g by).is_one

module _ (t : PhaseTable) (g : Group) (ks : List ℤ) (words : List ℕ) (cs : List ℤ) (a b c : ℕ) where
  -- nothing that passes the checks is refused
  pub passing-answered : verdict (project_checks t g ks words cs a b c) ≡ answer tt
      → project_outcome t g ks words cs a b c ≡ answer (projected_sum t g ks (input_rows g.sites (rows_in_full (length cs) words) cs))
  unfolding project_outcome
  passing-answered = call-answers (project_checks t g ks words cs a b c) (answer (projected_sum t g ks (input_rows g.sites (rows_in_full (length cs) words) cs)))

  module _ (k : ℕ) (vs : List ℕ) (no : project_outcome t g ks words cs a b c ≡ refused k vs) where
    checks-no : verdict (project_checks t g ks words cs a b c) ≡ refused k vs
    unfolding project_outcome
    checks-no = checks_refuse (project_checks t g ks words cs a b c) (projected_sum t g ks (input_rows g.sites (rows_in_full (length cs) words) cs)) k vs no

    -- the output lists are as they were
    pub refused-output : (was : List ℕ) (xs ys : List ℤ) (n : ℕ)
        → let outcome = project_outcome t g ks words cs a b c in
        (words_after was n outcome ≡ was) × (cosines_after xs n outcome ≡ xs) × (sines_after ys n outcome ≡ ys)
    refused-output was xs ys n = rw no (refl, refl, refl)

    -- a refusal is by one of these rules
    pub refused-by : Member k (1 ∷ 14 ∷ 18 ∷ 32 ∷ 35 ∷ 22 ∷ 23 ∷ 36 ∷ 17 ∷ 33 ∷ [])
    refused-by =
        with_rows g.sites (rows_in (rows_in_full (length cs) words) cs) (1 ∷ 14 ∷ 18 ∷ 32 ∷ 35 ∷ 22 ∷ 23 ∷ 36 ∷ []) k
        (verdict-number (project_checks t g ks words cs a b c) k vs checks-no)

    -- and by neither of the first two for a group that accepted generators give
    pub refused-given : GivenBy g → Member k (18 ∷ 32 ∷ 35 ∷ 22 ∷ 23 ∷ 36 ∷ 17 ∷ 33 ∷ [])
    refused-given by =
        let later : List Check = sector_checks t g ks ++ list_checks out_of_range g.sites words cs a b c in
        let fine = given-passes g by in
        with_rows g.sites (rows_in (rows_in_full (length cs) words) cs) (18 ∷ 32 ∷ 35 ∷ 22 ∷ 23 ∷ 36 ∷ []) k
        (verdict-number later k vs
        (sym (verdict-append (value_checks g) later ∙ ap (λ (v : Outcome (Unit {0})). given v (verdict later)) fine) ∙ checks-no))

    -- and, with a table that passes its tests, never by 35
    pub passing-by : passes t ≡ true → Member k (1 ∷ 14 ∷ 18 ∷ 32 ∷ 22 ∷ 23 ∷ 36 ∷ 17 ∷ 33 ∷ [])
    passing-by fine =
        let front : List Check = value_checks g ++ (mode_count g ks ∷ other_modulus g ∷ []) in
        let rest : List Check = list_checks out_of_range g.sites words cs a b c in
        let skipped = skip_fine front (broken_table t) rest (ap not fine) in
        with_rows g.sites (rows_in (rows_in_full (length cs) words) cs) (1 ∷ 14 ∷ 18 ∷ 32 ∷ 22 ∷ 23 ∷ 36 ∷ []) k
        (verdict-number (front ++ rest) k vs (sym skipped ∙ checks-no))

  -- a table that does not is refused, whatever the lists are
  pub broken-refused : GivenBy g → length ks ≡ g.generators → turn % modulus (generators_of g) ≡ 0 → passes t ≡ false
      → project_outcome t g ks words cs a b c ≡ refusal_of Refusal.PhaseRule
  broken-refused by long divides broken =
      project-refused t g ks words cs a b c Refusal.PhaseRule
      (sector_refused t g ks words cs a b c (given-passes g by) Refusal.PhaseRule
      (table-breaks t g ks long divides broken))

-- ---- 9 Tables that are never refused: the constant one, and the one that stands after a file was read, whatever the file holds

module _ (g : Group) (ks : List ℤ) (words : List ℕ) (cs : List ℤ) (a b c k : ℕ) (vs : List ℕ) where
  pub constant_by : project_outcome phase_table g ks words cs a b c ≡ refused k vs → Member k (1 ∷ 14 ∷ 18 ∷ 32 ∷ 22 ∷ 23 ∷ 36 ∷ 17 ∷ 33 ∷ [])
  constant_by e = passing-by phase_table g ks words cs a b c k vs e constant_passes

  pub read_by : (file : List ℕ) → project_outcome (table_after (file_outcome file)) g ks words cs a b c ≡ refused k vs
      → Member k (1 ∷ 14 ∷ 18 ∷ 32 ∷ 22 ∷ 23 ∷ 36 ∷ 17 ∷ 33 ∷ [])
  read_by file e = passing-by (table_after (file_outcome file)) g ks words cs a b c k vs e (after-passes file)

-- ---- 10 Rows of the old form: each stands for its word, and their sum comes to what the sum of the same rows in full comes to

-- the letters of row i are those that its bytes stand for, in either form
pub row-letters : (g : Group) (words : List ℕ) (k : ℕ) → length words ≡ row_size (length words) k * k → (i : ℕ) → i < k
    → word_at g (rows_in_full k words) i ≡ word_in g.sites (row_by (row_size (length words) k) words i)
row-letters g words k long i h =
    ap (letters_in g.sites) (full-row (row_size (length words) k) (size-either (length words) k) k words long i h)

module _ (t : PhaseTable) (g : Group) (ks : List ℤ) (words : List ℕ) (cs : List ℤ) (a b c : ℕ) where
  same_outcome : length words ≡ row_size (length words) (length cs) * length cs
      → list_checks out_of_range g.sites (rows_in_full (length cs) words) cs a b c ≡ list_checks out_of_range g.sites words cs a b c
      → project_outcome t g ks words cs a b c ≡ project_outcome t g ks (rows_in_full (length cs) words) cs a b c
  unfolding project_outcome
  same_outcome long checks =
      ap₂
      (λ (lists : List Check) (full : List ℕ).
      unless (value_checks g ++ (sector_checks t g ks ++ lists)) (answer (projected_sum t g ks (input_rows g.sites full cs))))
      (sym checks)
      (sym (full-once (length cs) words long))

  -- words of either form, whatever their bytes
  pub in-full-same : length words ≡ row_size (length words) (length cs) * length cs → past_old g.sites (row_size (length words) (length cs)) ≡ false
      → project_outcome t g ks words cs a b c ≡ project_outcome t g ks (rows_in_full (length cs) words) cs a b c
  in-full-same long fits = same_outcome long (checks-in-full out_of_range g.sites words cs a b c long fits)

  -- words of the old form
  pub old-same : length words ≡ old_length * length cs → g.sites ≤ old_sites
      → project_outcome t g ks words cs a b c ≡ project_outcome t g ks (rows_in_full (length cs) words) cs a b c
  old-same long few = same_outcome (size-long (length words) (length cs) (inr long)) (old-checks out_of_range g.sites words cs a b c long few)

  -- so what is answered is answered of the words in full
  pub answered-in-full : (s : ProjectedSum) → project_outcome t g ks words cs a b c ≡ answer s
      → project_outcome t g ks (rows_in_full (length cs) words) cs a b c ≡ answer s
  answered-in-full s answered =
      let lists = passed-lengths t g ks words cs a b c (passed t g ks words cs a b c s answered).0 in
      sym (in-full-same lists.words_long lists.fits) ∙ answered

  -- and rows of the old form with more sites than it has are refused, whatever their bytes
  pub old-refused : GivenBy g → length ks ≡ g.generators → turn % modulus (generators_of g) ≡ 0 → passes t ≡ true
      → rows_agree (length words) (length cs) a b c ≡ true → length cs ≤ max_rows → past_old g.sites (row_size (length words) (length cs)) ≡ true
      → project_outcome t g ks words cs a b c ≡ refusal_of Refusal.OldWordSites
  old-refused by long divides fine agree few past =
      project-refused t g ks words cs a b c Refusal.OldWordSites
      (lists-decide t g ks words cs a b c (given-passes g by) (table-passes t g ks long divides fine)
      ∙ lists-refused out_of_range g.sites words cs a b c Refusal.OldWordSites
      (lengths-old g.sites (length words) (length cs) a b c agree few past))
