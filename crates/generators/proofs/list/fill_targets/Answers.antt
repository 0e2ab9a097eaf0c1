use Prim.Native.Nat.{◌+◌, ◌*◌, ◌≤◌, ◌<◌}
use mathlib.Core.Path.{◌≡◌, sym, ap, ◌∙◌}
use mathlib.Core.Bool.{false}
use native.Mathlib.Omega.{arith}
use native.Mathlib.Nat.{add-sub_cancel_left}
use lib.ListN.{length, get_or}
use borrow.Rule.Slice.PartMut.{mid_len}
use Rattle.pauli_word.specs.Limits.{max_sites}
use Rattle.permutation.specs.Limits.{max_generators}
use Rattle.permutation.specs.Generators.{perm_check}
use Rattle.outcome.specs.Outcome.{outcome_of, alone}
use Rattle.outcome.proofs.Outcomes.{refused-broken, answered-fine, handed_on}
use Rattle.generators.proofs.Reading.{perm_at, read_none, generator-fits, generator-room, generator-long, generator-inside, read-broken, read_next, read_all, targets-long}
use Rattle.generators.proofs.list.fill_targets.Goals as goal
use Rattle.generators.proofs.list.fill_targets.Lts as lts
use Rattle.generators.proofs.list.fill_targets.Tie as tie
use Rattle.generators.proofs.list.fill_targets.Reads as reads

abbrev ctx-In-loop : Type 0
ctx-In-loop = lts.In-loop tie.the-claims reads.Pre reads.Post goal.the-invariant-loop-at goal.the-decreases-loop-at tie.handed_clauses

abbrev ctx-After-known_told : Type 0
ctx-After-known_told = lts.Past-After-known_told tie.the-claims reads.Pre reads.Post goal.the-invariant-loop-at goal.the-decreases-loop-at tie.handed_clauses

-- the generator at `at` has all its targets, and a place among the four
whole-generator :
    (c : ctx-In-loop)
    → let l = c.loop-at in
    (l.at + 1 + get_or c.args.list.now l.at 0 ≤ length c.args.list.now)
whole-generator c =
    generator-fits c.loop-at.invariant.1 c.requires.list_value.1 c.loop-at-test.true

room : (c : ctx-In-loop) → c.loop-at.g < max_generators
room c = generator-room c.loop-at.invariant.1 c.requires.list_value.1 c.loop-at-test.true

-- the generator breaks no rule
passes :
    (c : ctx-After-known_told)
    → let a = c.args in
    ((perm_check a.sites c.loop-at.g (perm_at a.list.now c.loop-at.at)).broken ≡ false)
passes c =
    let a = c.args in
    answered-fine (perm_check a.sites c.loop-at.g (perm_at a.list.now c.loop-at.at))
    (sym (ap outcome_of c.in_ok-fault.was) ∙ c.fault.ensures)

pub loop-at-init : goal.loop-at-init
loop-at-init c = (omega arith, read_none c.args.list.now c.args.sites c.args.targets.now c.requires.list_value.0 c.requires.targets_value)

pub offset_bounds-list-at : goal.offset_bounds-list-at
offset_bounds-list-at c = omega arith

pub bounds-list-at : goal.bounds-list-at
bounds-list-at c = omega arith

pub overflow_add-start : goal.overflow_add-start
overflow_add-start c = omega arith

pub overflow_add-end : goal.overflow_add-end
overflow_add-end c = omega (arith, whole-generator c.before.before)

pub offset_bounds-list-start : goal.offset_bounds-list-start
offset_bounds-list-start c = omega arith

pub slice_bounds-fault-count : goal.slice_bounds-fault-count
slice_bounds-fault-count c = omega arith

pub slice_bounds-fault-start : goal.slice_bounds-fault-start
slice_bounds-fault-start c = omega arith

pub slice_bounds-fault-end : goal.slice_bounds-fault-end
slice_bounds-fault-end c = whole-generator c.before.before

pub fault-requires : goal.fault-requires
fault-requires c = c.requires.sites_le_max_sites

pub returns-in_err-fault : goal.returns-in_err-fault
returns-in_err-fault c =
    let r = c.loop-at.invariant.1 in
    let why = c.in_err-fault.field-0.0 in
    let check = perm_check c.args.sites c.loop-at.g (perm_at c.args.list.now c.loop-at.at) in
    let e = sym (ap outcome_of c.in_err-fault.was) ∙ c.fault.ensures in
    let (first, placed) = read-broken r c.requires.list_value.1 c.loop-at-test.true (refused-broken check why e) in record {
      answer = ap outcome_of (handed_on c.from_residual.result c.from_residual.ensures.1)
          ∙ e ∙ sym (ap alone first);
      targets = placed;
    }

pub overflow_mul-place : goal.overflow_mul-place
overflow_mul-place c = omega (arith, room c.before.before.before.before.before.before, c.requires.sites_le_max_sites)

pub overflow_add-stop : goal.overflow_add-stop
overflow_add-stop c = omega (arith, room c.before.before.before.before.before.before, c.requires.sites_le_max_sites)

pub offset_bounds-list-start-in-loop-at : goal.offset_bounds-list-start-in-loop-at
offset_bounds-list-start-in-loop-at c = omega arith

pub slice_bounds-store-count : goal.slice_bounds-store-count
slice_bounds-store-count c = omega arith

pub slice_bounds-store-start : goal.slice_bounds-store-start
slice_bounds-store-start c = omega arith

pub slice_bounds-store-end : goal.slice_bounds-store-end
slice_bounds-store-end c = whole-generator c.before.before.before.before.before.before

pub offset_bounds-targets-place : goal.offset_bounds-targets-place
offset_bounds-targets-place c = omega (arith, room c.before.before.before.before.before.before.before, c.requires.sites_le_max_sites)

pub slice_bounds-store-count-in-loop-at : goal.slice_bounds-store-count-in-loop-at
slice_bounds-store-count-in-loop-at c = omega arith

pub slice_bounds-store-start-in-loop-at : goal.slice_bounds-store-start-in-loop-at
slice_bounds-store-start-in-loop-at c = omega arith

pub slice_bounds-store-end-in-loop-at : goal.slice_bounds-store-end-in-loop-at
slice_bounds-store-end-in-loop-at c =
    omega (arith, room c.before.before.before.before.before.before.before, c.requires.sites_le_max_sites, targets-long c.loop-at.invariant.1 c.requires.list_value.1)

pub store-requires : goal.store-requires
store-requires c =
    let targets = c.loop-at.targets in
    let start = max_sites * c.loop-at.g in
    let long = targets-long c.loop-at.invariant.1 c.requires.list_value.1 in
    let r = c.loop-at.invariant.1 in
    let more = c.loop-at-test.true in
    let ok = passes c.before.before.before in record {
      src_len = generator-long r c.requires.list_value.1 more c.requires.sites_le_max_sites ok
          ∙ sym (mid_len start (start + c.args.sites) targets (omega (arith, room c.before.before.before.before.before.before.before.before, c.requires.sites_le_max_sites)) ∙ add-sub_cancel_left start c.args.sites);
      by_index = generator-inside r c.requires.list_value.1 more c.requires.sites_le_max_sites ok;
    }

pub overflow_add-g : goal.overflow_add-g
overflow_add-g c = omega (arith, room c.before.before.before.before.before.before.before.before.before.before.before)

pub loop-at-smaller : goal.loop-at-smaller
loop-at-smaller c = omega arith

pub loop-at-preserved : goal.loop-at-preserved
loop-at-preserved c = (
  whole-generator c.before.before.before.before.before.before.before.before.before.before.before,
  rw c.store.ensures
      (read_next c.loop-at.invariant.1 c.requires.list_value.1 c.loop-at-test.true c.requires.sites_le_max_sites (passes c.before.before.before.before.before.before)),
)

pub returns : goal.returns
returns c =
    let all = read_all c.loop-at.invariant.1 c.requires.list_value.1 c.loop-at-test.false in record {
      answer = sym (ap alone all.0);
      targets = all.1;
    }
