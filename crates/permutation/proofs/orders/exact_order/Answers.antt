-- `orders::exact_order` meets its contract: its three calls are the three steps.
use Prim.Native.Nat.{ℕ, ◌-◌, ◌≤◌}
use mathlib.Core.Path.{◌≡◌, ap, subst, ◌∙◌}
use native.Mathlib.Omega.{arith}
use lib.ListN.{length, take}
use Rattle.action.specs.Lists.{Member}
use Rattle.pauli_word.specs.Limits.{max_sites}
use Rattle.permutation.specs.Limits.{max_lengths}
use Rattle.permutation.specs.Lengths.{different_lengths, marked_within, multiple_outcome}
use Rattle.permutation.proofs.Walks.{get_d_zeros}
use Rattle.permutation.proofs.Lengths.{length-within}
use Rattle.permutation.proofs.Meanings.{lengths_some, lengths-most, struck-out, multiple-exact}
use Rattle.permutation.proofs.orders.exact_order.Goals as goal
use Rattle.permutation.proofs.orders.exact_order.Lts as lts
use Rattle.permutation.proofs.orders.exact_order.Tie as tie
use Rattle.permutation.proofs.orders.exact_order.Reads as reads

abbrev ctx-After-cycle_lengths : Type 0
ctx-After-cycle_lengths = lts.After-cycle_lengths tie.the-claims reads.Pre reads.Post tie.handed_clauses

abbrev ctx-After-strike_equal : Type 0
ctx-After-strike_equal = lts.After-strike_equal tie.the-claims reads.Pre reads.Post tie.handed_clauses

pub cycle_lengths-span-requires : goal.cycle_lengths-span-requires
cycle_lengths-span-requires c = record {
  permutes = (c.requires.0, c.requires.1, omega (arith, c.requires.1));
  by_index = get_d_zeros max_sites;
}

-- the lengths that are read off are the different lengths
different :
    (c : ctx-After-cycle_lengths)
    → marked_within c.cycle_lengths-span.result.shortest c.cycle_lengths-span.result.longest c.cycle_lengths-span.new.marks
    ≡ different_lengths c.args.perm.now
different c =
    ap (marked_within c.cycle_lengths-span.result.shortest c.cycle_lengths-span.result.longest) c.cycle_lengths-span.ensures.marks
    ∙ struck-out c.requires.0 max_sites c.cycle_lengths-span.result.shortest c.cycle_lengths-span.result.longest c.cycle_lengths-span.ensures.inside.0
    (omega (arith, c.requires.1, c.cycle_lengths-span.ensures.inside.1)) c.cycle_lengths-span.ensures.span

few :
    (c : ctx-After-cycle_lengths)
    → length (marked_within c.cycle_lengths-span.result.shortest c.cycle_lengths-span.result.longest c.cycle_lengths-span.new.marks) ≤ max_lengths
few c = omega (arith, ap length (different c), lengths-most c.requires.0 c.requires.1)

pub strike_equal-count-requires : goal.strike_equal-count-requires
strike_equal-count-requires c = record {
  shortest_nonzero = (c.cycle_lengths-span.ensures.inside.0, omega (arith, c.cycle_lengths-span.auto.marks, c.cycle_lengths-span.ensures.inside.1, c.requires.1));
  marks_in_bounds = few c.before.before.before.before;
}

-- those left are the different lengths
left :
    (c : ctx-After-strike_equal)
    → take (c.strike_equal-count.result - 0) c.strike_equal-count.new.left
    ≡ different_lengths c.args.perm.now
left c =
    let count : c.strike_equal-count.result - 0 ≡ c.strike_equal-count.result = omega arith in
    ap (λ (k : ℕ). take k c.strike_equal-count.new.left) count ∙ c.strike_equal-count.ensures.left ∙ different c.before.before.before.before

pub slice_bounds-common_multiple-end : goal.slice_bounds-common_multiple-end
slice_bounds-common_multiple-end c =
    omega (arith, c.strike_equal-count.auto.left, c.strike_equal-count.ensures.count, few c.before.before.before.before.before.before)

pub common_multiple-requires : goal.common_multiple-requires
common_multiple-requires c l m =
    let (positive, small) = length-within c.requires.0 l (lengths_some c.requires.0 l (subst (Member l) (left c.before.before.before) m)) in
    (positive, omega (arith, c.requires.1))

pub returns : goal.returns
returns c =
    c.common_multiple.ensures ∙ ap (multiple_outcome c.args.generator) (left c.before.before.before.before) ∙ multiple-exact c.requires.0 c.args.generator
