use Prim.Native.Nat.{ℕ, ◌+◌, ◌-◌, ◌≤◌, ◌<◌}
use mathlib.Core.Path.{◌≡◌, refl, sym, ap, subst, ◌∙◌}
use mathlib.Core.Bool.{true}
use mathlib.Core.List.{List}
use native.Mathlib.Omega.{arith}
use lib.ListN.{length, get_or, length-replicate}
use lib.Ieee.{Float}
use borrow.Author.Rules.{rules}
use borrow.Author.Tests.{not-true, not-false}
use Rattle.action.specs.Lists.{every}
use Rattle.keyed.specs.Keyed.{running_from, running, placed}
use Rattle.sum_rows.specs.Sums.{zero, finite_sum, place_sums}
use Rattle.sum_rows.specs.Added.{Added}
use Rattle.sum_rows.proofs.RowAdding.{rows_to, added-start, sums-length, counts-length, few-counted, added_next, finite-next, add-refused, add-passes}
use Rattle.sum_rows.proofs.adding.add_rows.Goals as goal

pub loop-i-init : goal.loop-i-init
unfolding placed running_from every
loop-i-init c = (
  omega arith,
  rw (c.requires.sums_value, c.requires.counts_value) (added-start c.args.places.now c.args.coefficients.now),
  refl,
)

pub add_row-requires : goal.add_row-requires
add_row-requires c =
    let ps = c.args.places.now in
    let cs = c.args.coefficients.now in
    let l = c.loop-i in
    let h = c.loop-i-test.true in
    let inside = c.requires.by_index l.i h in
    let few = c.requires.coefficients_len_bound in
    let sums : length l.sums ≡ length cs = sums-length ps cs l.invariant.1 in
    let counts : length l.counts ≡ length cs = counts-length ps cs l.invariant.1 in record {
      at_in_bounds = omega (arith, inside, sums);
      counts_len = counts ∙ sym sums;
      sums_len_bound = omega (arith, sums, few);
      at_bound = few-counted ps cs l.invariant.1 inside h few;
    }

pub returns-then-not-add_row : goal.returns-then-not-add_row
returns-then-not-add_row c =
    let ps = c.args.places.now in
    let cs = c.args.coefficients.now in
    let l = c.loop-i in
    let h = c.loop-i-test.true in
    let inside = c.requires.by_index l.i h in
    let added = added_next ps cs l.invariant.1 inside c.add_row.ensures.sums c.add_row.ensures.counts in
    let infinite = sym c.add_row.ensures.finite ∙ not-true c.add_row.result c.if-not-add_row.true-raw in record {
      answer = sym (add-refused ps cs l.invariant.1 inside l.invariant.2 infinite h);
      added = (sums-length ps cs added, counts-length ps cs added);
    }

pub loop-i-preserved : goal.loop-i-preserved
loop-i-preserved c =
    let ps = c.args.places.now in
    let cs = c.args.coefficients.now in
    let l = c.loop-i in
    let h = c.loop-i-test.true in
    let inside = c.requires.by_index l.i h in
    let finite = sym c.add_row.ensures.finite ∙ not-false c.add_row.result c.if-not-add_row.false-raw in (
      omega (arith, h),
      added_next ps cs l.invariant.1 inside c.add_row.ensures.sums c.add_row.ensures.counts,
      finite-next ps cs l.invariant.1 inside l.invariant.2 finite,
    )

pub returns : goal.returns
returns c =
    let l = c.loop-i in
    let all : l.i ≡ length c.args.coefficients.now = omega (arith, c.loop-i-test.false, l.invariant.0) in record {
      answer = add-passes c.args.places.now c.args.coefficients.now (rw all at l.invariant.2);
      added = subst (λ (i : ℕ). Added c.args.places.now c.args.coefficients.now i l.sums l.counts) all l.invariant.1;
    }
