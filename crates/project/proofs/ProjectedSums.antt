-- A projected sum of accepted rows: what its table holds, and how large its parts are.
-- The fact that carries it: the input rows are the words' letters with their coefficients, place by place (`input-at` of TurnedRows).
use Prim.Native.Nat.{ℕ, ◌*◌, ◌<◌}
use native.Mathlib.Omega.{arith}
use mathlib.Core.Path.{◌≡◌, refl, sym, ap, ◌∙◌}
use mathlib.Core.Bool.{Bool, true, false, ◌&&◌}
use mathlib.Core.List.{List, [], map}
use lib.Dec.{ltb}
use lib.IntN.{ℤ, pos, ◌+ℤ◌, ◌*ℤ◌}
use lib.ListN.{length, get_or, take, length-take, get_or-eq_default}
use lib.Seq.{get_or-take}
use borrow.Author.Tests.{ltb-true, ltb-false}
use Rattle.pauli_word.specs.Word.{Word, same}
use Rattle.pauli_word.proofs.Words.{decode-length}
use Rattle.action.specs.Lists.{Member, below, count}
use Rattle.action.specs.Permutation.{Generator, Valid}
use Rattle.action.specs.Orbit.{least}
use Rattle.action.specs.Sector.{keeps}
use Rattle.action.proofs.Lists.{member-map, count-cong, count-places, count-select, of_member_below, of-member-map, of-member-select, member_at, of_member_at}
use Rattle.action.proofs.Index.{valid_positive}
use Rattle.action.proofs.Characters.{modulus-positive}
use Rattle.group.specs.declared.Group.{Group}
use Rattle.group.specs.Value.{generators_of, AcceptedGroup}
use Rattle.group.proofs.MadeGroups.{held-valid}
use Rattle.keyed.specs.Keyed.{key_of, left_fold}
use Rattle.keyed.proofs.Tables.{map-cong}
use Rattle.phases.specs.declared.PhaseTable.{PhaseTable}
use Rattle.phases.specs.Rules.{turn, unit, InRange, cosine, sine, PhaseRange}
use Rattle.phases.proofs.Ranges.{product_range}
use Rattle.projection.specs.Projection.{Parts, no_parts, entry_at, entry_of, turned, kept_rows, turned_row, rows_of, sum_along}
use Rattle.projection.proofs.Entries.{word_below, entry-which}
use Rattle.projection.proofs.Projected as Projected
use Rattle.projection.proofs.Projected.{
  counts-add,
  rows_few,
  projected-rising,
  projected-sum,
  projected-words,
  projected-own,
  projected-kept,
  projected-long,
  projected-few,
  projected-none,
  projected-later,
}
use Rattle.projection.proofs.Bounds.{sum_bound}
use Rattle.project.specs.Calls.{max_coefficient, input_rows, projected_sum}
use Rattle.project.specs.Rows.{max_part, PhaseLists, WholeRows, turned_rows}
use Rattle.project.specs.Promises.{word_at, keeps_row, rows_with, PartsWithin, ProjectedTable}
use Rattle.project.proofs.TurnedRows.{row_of, input-length, input-at}

-- ---- the input rows

-- what stands in the place of no row
abbrev no_row : Word × ℤ
no_row = ([], pos 0)

module _ (n : ℕ) (words : List ℕ) (cs : List ℤ) where
  pub input-member : (i : ℕ) → i < length cs → Member (row_of n words cs i) (input_rows n words cs)
  input-member i h = rw (input-at n words cs i no_row h) at (member_at (input_rows n words cs) no_row i (rw (input-length n words cs) h))

  pub of-input-member : (row : Word × ℤ) → Member row (input_rows n words cs) → (i : ℕ) × (i < length cs) × (row ≡ row_of n words cs i)
  of-input-member row m =
      let (i, l, e) = of_member_at (input_rows n words cs) no_row row m in
      let h : i < length cs = rw (input-length n words cs) at l in
      (i, h, e ∙ input-at n words cs i no_row h)

  pub input-long : WholeRows n words cs → (row : Word × ℤ) → Member row (input_rows n words cs) → length row.0 ≡ n
  input-long whole row m =
      let (i, h, e) = of-input-member row m in
      ap (λ (r : Word × ℤ). length r.0) e ∙ decode-length (whole.rows.word i h)

-- ---- the table

module _ (t : PhaseTable) (g : Group) (ok : AcceptedGroup g) (ks : List ℤ) (words : List ℕ) (cs : List ℤ) (whole : WholeRows g.sites words cs) where
  abbrev gs : List Generator
  gs = generators_of g

  abbrev rows : List (Word × ℤ)
  rows = input_rows g.sites words cs

  valid : Valid g.sites gs
  valid = held-valid g ok

  word-long : (i : ℕ) → i < length cs → length (word_at g words i) ≡ g.sites
  word-long i h = decode-length (whole.rows.word i h)

  rows_long : (row : Word × ℤ) → Member row rows → length row.0 ≡ g.sites
  rows_long = input-long g.sites words cs whole

  kept-count : length (kept_rows gs ks rows) ≡ count (keeps_row g ks words) (below (length cs))
  unfolding kept_rows
  kept-count =
      sym (count-select kept rows)
      ∙ sym (count-places kept no_row rows)
      ∙ ap (λ (n : ℕ). count (λ q. kept (get_or rows q no_row)) (below n)) (input-length g.sites words cs)
      ∙ count-cong (λ q. kept (get_or rows q no_row)) (keeps_row g ks words) (below (length cs))
      (λ q m. ap kept (input-at g.sites words cs q no_row (of_member_below (length cs) q m)))
    where
      kept : Word × ℤ → Bool
      kept row = keeps gs ks row.0

  pub table-projected : ProjectedTable t g ks words cs (projected_sum t g ks rows)
  unfolding projected_sum entry_at
  table-projected =
      let words_of = projected-words t.cosines t.sines gs ks rows valid rows_long in
      record {
        kept_count = kept-count;
        all_counted = counts-add gs ks rows ∙ input-length g.sites words cs;
        in_order = projected-rising t.cosines t.sines gs ks rows;
        from_input = λ v m.
            let (row, l, kept, e) = (words_of v).0 m in
            let (i, h, f) = of-input-member g.sites words cs row l in
            (i, h, rw f at kept, e ∙ ap (λ (r : Word × ℤ). least gs r.0) f);
        all_input = λ v r. let (i, h, kept, e) = r in (words_of v).1 ((word_at g words i, get_or cs i (pos 0)), input-member g.sites words cs i h, kept, e);
        row = λ v p m.
            let key = member-map key_of (projected_sum t g ks rows).table (v, p) m in
            record {
              long = projected-long t.cosines t.sines gs ks rows valid rows_long v key;
              canonical = projected-own t.cosines t.sines gs ks rows valid rows_long v key;
              kept = projected-kept t.cosines t.sines gs ks rows valid rows_long v key;
              sums = projected-sum t.cosines t.sines gs ks rows v p m;
            };
        which_index = λ i h kept j below e. sym (entry-which valid ks (word_at g words i) (word-long i h) kept j below e);
        few = projected-few t.cosines t.sines gs ks rows valid rows_long;
        none = projected-none t.cosines t.sines gs ks rows valid rows_long;
        later = projected-later t.cosines t.sines gs ks rows valid rows_long;
      }

  -- ---- its parts

  -- the numbers of a list in their range, up to a turn
  abbrev RangeOf : List ℤ → Type 0
  RangeOf numbers = (e : ℕ) → e < turn → InRange unit (get_or numbers e (pos 0))

  -- a list cut after a turn holds nothing else
  cut_range : (numbers : List ℤ) → RangeOf numbers → (e : ℕ) → InRange unit (get_or (take turn numbers) e (pos 0))
  cut_range numbers inside e = go (ltb e turn) refl
    where
      go : (b : Bool) → ltb e turn ≡ b → InRange unit (get_or (take turn numbers) e (pos 0))
      go true l = rw (get_or-take turn numbers e (pos 0) (ltb-true e turn l)) (inside e (ltb-true e turn l))
      go false l =
          rw (get_or-eq_default (take turn numbers) (pos 0) {n = e} (omega (arith, length-take turn numbers, ltb-false e turn l))) (omega arith)

  -- sums read a list up to a turn
  sum-cut : (numbers : List ℤ) (own : List (Word × ℤ)) → sum_along numbers gs ks own ≡ sum_along (take turn numbers) gs ks own
  unfolding sum_along
  sum-cut numbers own =
      ap (left_fold ◌+ℤ◌ (pos 0))
      (map-cong (λ row. row.1 *ℤ get_or numbers (entry_of gs ks row.0) (pos 0))
      (λ row. row.1 *ℤ get_or (take turn numbers) (entry_of gs ks row.0) (pos 0)) own
      (λ row m.
      ap (λ (z : ℤ). row.1 *ℤ z)
      (sym (get_or-take turn numbers (entry_of gs ks row.0) (pos 0) (word_below gs ks (modulus-positive gs (valid_positive valid)) row.0)))))

  own-small : (v : Word) (row : Word × ℤ) → Member row (rows_with g ks words cs v) → InRange max_coefficient row.1
  unfolding rows_of
  own-small v row m =
      let (l, passes) = of-member-select (λ r. keeps gs ks r.0 && same (least gs r.0) v) rows row m in
      let (i, h, e) = of-input-member g.sites words cs row l in
      rw e (whole.range i h)

  sum_range : (numbers : List ℤ) → RangeOf numbers → (v : Word) → InRange (length cs * max_part) (sum_along numbers gs ks (rows_with g ks words cs v))
  sum_range numbers inside v =
      let own = rows_with g ks words cs v in
      rw (sum-cut numbers own)
      (omega (
        arith,
        sum_bound gs ks max_coefficient unit (take turn numbers) (cut_range numbers inside) own (own-small v),
        rows_few gs ks v rows,
        input-length g.sites words cs,
      ))

  -- each part is at most as large as if every row had this representative, the largest coefficient and the largest number
  pub table-parts : PhaseRange t → (v : Word) (p : Parts) → Member (v, p) (projected_sum t g ks rows).table → PartsWithin (length cs * max_part) p
  unfolding projected_sum cosine sine
  table-parts range v p m =
      rw (projected-sum t.cosines t.sines gs ks rows v p m)
      (sum_range t.cosines range.cosines v, sum_range t.sines range.sines v)

-- ---- what the turned rows add, and their words

module _ (cosines sines : List ℤ) (lists : PhaseLists cosines sines) {n : ℕ} {gs : List Generator} (valid : Valid n gs) (ks : List ℤ) (words : List ℕ)
    (cs : List ℤ) (whole : WholeRows n words cs) where
  abbrev turned_all : List (Word × Parts)
  turned_all = turned_rows cosines sines gs ks (input_rows n words cs)

  pub turned-in : (row : Word × Parts) → Member row (turned_rows cosines sines gs ks (input_rows n words cs))
      → InRange max_part row.1.0 × InRange max_part row.1.1
  unfolding kept_rows turned_row turned
  turned-in row m =
      let (r, l, e) = of-member-map (turned_row cosines sines gs ks) (kept_rows gs ks (input_rows n words cs)) row m in
      let inside = (of-member-select (λ r. keeps gs ks r.0) (input_rows n words cs) r l).0 in
      let (i, h, f) = of-input-member n words cs r inside in
      let small : InRange max_coefficient r.1 = rw f (whole.range i h) in
      let at : ℕ = entry_of gs ks r.0 in
      rw e (
        product_range max_coefficient unit r.1 (get_or cosines at (pos 0)) small (lists.cosines_in at),
        product_range max_coefficient unit r.1 (get_or sines at (pos 0)) small (lists.sines_in at),
      )

  pub turned-at : (j : ℕ) → j < length turned_all → InRange max_part (get_or turned_all j ([], no_parts)).1.0 × InRange max_part (get_or turned_all j ([], no_parts)).1.1
  turned-at j h = turned-in (get_or turned_all j ([], no_parts)) (member_at turned_all ([], no_parts) j h)

  pub turned-long : (w : Word) → Member w (map key_of turned_all) → length w ≡ n
  turned-long = Projected.input-long cosines sines gs ks (input_rows n words cs) valid (input-long n words cs whole)
