use Prim.Native.Nat.{◌<◌}
use mathlib.Core.Path.{refl, sym, ap, ◌∙◌}
use native.Mathlib.Omega.{arith}
use lib.ListN.{set, length-set}
use Rattle.action.specs.Permutation.{target, after, cycle_length}
use Rattle.action.proofs.ExactOrders.{cycle_positive}
use Rattle.permutation.specs.Lengths.{Marked}
use Rattle.permutation.proofs.Cycles.{after_next, cycle-short, walk_next, walk_end, marked_none, marked_next, marked_again, marked_on}
use Rattle.permutation.proofs.orders.mark_cycle.Goals as goal
use Rattle.permutation.proofs.orders.mark_cycle.Lts as lts
use Rattle.permutation.proofs.orders.mark_cycle.Tie as tie
use Rattle.permutation.proofs.orders.mark_cycle.Reads as reads

abbrev ctx-Start : Type 0
ctx-Start = lts.Start reads.Pre reads.Post goal.the-invariant-loop-q goal.the-decreases-loop-q tie.handed_clauses

abbrev ctx-In-loop : Type 0
ctx-In-loop = lts.In-loop reads.Pre reads.Post goal.the-invariant-loop-q goal.the-decreases-loop-q tie.handed_clauses

pub bounds-seen-start : goal.bounds-seen-start
bounds-seen-start c = omega arith

pub offset_bounds-perm-start : goal.offset_bounds-perm-start
offset_bounds-perm-start c = omega arith

pub bounds-perm-start : goal.bounds-perm-start
bounds-perm-start c = omega arith

-- the first site is marked
first :
    (c : ctx-Start)
    → let a = c.args in
    Marked a.perm.now a.start 1 a.seen.now (set a.seen.now a.start 1)
unfolding after
first c =
    let a = c.args in
    marked_next (marked_none a.perm.now a.start a.seen.now) a.start refl (omega (arith, c.requires.start_in_bounds, c.requires.perm_in_bounds))

pub loop-q-init : goal.loop-q-init
unfolding after
loop-q-init c =
    let a = c.args in
    (refl, c.requires.permutes.inside a.start c.requires.start_in_bounds, omega arith, cycle_positive a.perm.now a.start, refl, marked_again (first c.before.before))

pub bounds-seen-q : goal.bounds-seen-q
bounds-seen-q c =
    let a = c.args in
    omega (arith, length-set a.seen.now a.start 1, c.requires.perm_in_bounds)

pub offset_bounds-perm-q : goal.offset_bounds-perm-q
offset_bounds-perm-q c = omega arith

pub bounds-perm-q : goal.bounds-perm-q
bounds-perm-q c = omega arith

-- start has not come back, so its cycle has more steps
longer :
    (c : ctx-In-loop)
    → let a = c.args in
    c.loop-q.steps < cycle_length a.perm.now a.start
longer c =
    let l = c.loop-q in
    walk_next c.requires.permutes c.args.start c.requires.start_in_bounds l.steps l.invariant.3 (λ e. c.loop-q-test.true (l.invariant.4 ∙ e))

pub overflow_add-steps : goal.overflow_add-steps
overflow_add-steps c = omega (arith, cycle-short c.requires.permutes c.args.start c.requires.start_in_bounds)

pub loop-q-smaller : goal.loop-q-smaller
loop-q-smaller c = omega (arith, longer c.before.before)

pub loop-q-preserved : goal.loop-q-preserved
loop-q-preserved c =
    let l = c.loop-q in
    let perm = c.args.perm.now in
    let start = c.args.start in (
      length-set l.seen l.q 1 ∙ l.invariant.0,
      c.requires.permutes.inside l.q l.invariant.1,
      omega arith,
      omega (arith, longer c.before.before),
      ap (target perm) l.invariant.4 ∙ sym (after_next perm l.steps start),
      marked_next l.invariant.5 l.q l.invariant.4 (omega (arith, l.invariant.0, l.invariant.1, length-set c.args.seen.now start 1, c.requires.perm_in_bounds)),
    )

pub returns : goal.returns
returns c =
    let l = c.loop-q in
    let start = c.args.start in
    let size = walk_end c.requires.permutes start c.requires.start_in_bounds l.steps l.invariant.2 l.invariant.3 (sym l.invariant.4 ∙ c.loop-q-test.false) in record {
      length = size;
      marked = marked_on (first c.before.before.before.before) l.invariant.5 l.invariant.2;
    }
