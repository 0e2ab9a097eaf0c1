use Prim.Native.Nat.{ℕ, ◌+◌, ◌-◌, ◌<◌}
use mathlib.Core.Path.{refl, sym, ap, subst, ◌∙◌}
use mathlib.Core.Logic.{inl, inr, ⊎_elim}
use native.Mathlib.Omega.{arith}
use lib.ListN.{length, set, length-set}
use Rattle.action.proofs.ExactOrders.{cycle_positive}
use Rattle.pauli_word.specs.Limits.{max_sites}
use Rattle.permutation.specs.Lengths.{Marked}
use Rattle.permutation.proofs.Cycles.{cycle-short}
use Rattle.permutation.proofs.Walks.{walked_none, walked-past, walked_more, walked_next, walked_all, found_none, found-next, found-marks, found-span}
use Rattle.permutation.proofs.orders.cycle_lengths.Goals as goal
use Rattle.permutation.proofs.orders.cycle_lengths.Goals.{then-seen-q-ne1, else-seen-q-ne1}
use Rattle.permutation.proofs.orders.cycle_lengths.Lts as lts
use Rattle.permutation.proofs.orders.cycle_lengths.Tie as tie
use Rattle.permutation.proofs.orders.cycle_lengths.Reads as reads

abbrev ctx-In-loop : Type 0
ctx-In-loop = lts.In-loop tie.the-claims reads.Pre reads.Post goal.the-invariant-loop-walked goal.the-decreases-loop-walked tie.handed_clauses

pub loop-walked-init : goal.loop-walked-init
loop-walked-init c =
    (refl, refl, walked_none c.args.perm.now max_sites, found_none c.args.perm.now c.args.marks.now max_sites max_sites (omega arith) c.requires.by_index)

-- while sites are left to walk, q is one
site : (c : ctx-In-loop) → c.loop-walked.q < length c.args.perm.now
site c = walked_more c.loop-walked.invariant.2 c.loop-walked-test.true

pub bounds-seen-q : goal.bounds-seen-q
bounds-seen-q c = omega (arith, walked_more c.loop-walked.invariant.2 c.loop-walked-test.true, c.requires.permutes.1)

pub slice_bounds-mark_cycle-end : goal.slice_bounds-mark_cycle-end
slice_bounds-mark_cycle-end c = sym c.loop-walked.invariant.0

pub mark_cycle-length-requires : goal.mark_cycle-length-requires
mark_cycle-length-requires c = record {
  permutes = c.requires.permutes.0;
  start_in_bounds = site c.before.before.before;
  perm_in_bounds = omega (arith, c.requires.permutes.1, c.loop-walked.invariant.0);
}

pub overflow_sub-marks : goal.overflow_sub-marks
overflow_sub-marks c =
    omega (arith, c.mark_cycle-length.ensures.length, cycle_positive c.args.perm.now c.loop-walked.q)

pub bounds-marks-length : goal.bounds-marks-length
bounds-marks-length c =
    let l = c.loop-walked in
    let short = cycle-short c.requires.permutes.0 l.q (site c.before.before.before.before.before) in
    omega (arith, c.requires.permutes.2, l.invariant.1, c.mark_cycle-length.ensures.length)

pub overflow_add-walked : goal.overflow_add-walked
overflow_add-walked c =
    omega (arith, c.loop-walked-test.true, c.requires.permutes.1, c.mark_cycle-length.ensures.length, cycle-short c.requires.permutes.0 c.loop-walked.q (site c.before.before.before.before.before.before.before))

pub overflow_add-q : goal.overflow_add-q
overflow_add-q c = omega (arith, site c.before.before, c.requires.permutes.1)

pub loop-walked-smaller : goal.loop-walked-smaller
loop-walked-smaller c = omega (arith, site c.before.before)

pub loop-walked-preserved : goal.loop-walked-preserved
loop-walked-preserved c =
    let l = c.loop-walked in
    let h = site c.before.before in
    elim c.if-seen-q-ne1.branch [
      | then-seen-q-ne1 w ↦
          let m = w.mark_cycle-length in
          let size = m.ensures.length in
          let seen = m.auto.seen in
          let cycle = subst (λ (k : ℕ). Marked c.args.perm.now l.q k l.seen m.new.seen) size m.ensures.marked in
          let low = w.lesser-shortest.ensures in
          let high = w.greater-longest.ensures in
          let there = w.marks-is ∙ ap (λ (k : ℕ). set l.marks (k - 1) 1) size in
          let more = w.walked-is ∙ ap (λ (k : ℕ). l.walked + k) size in (
            ap length w.seen-is ∙ m.auto.seen ∙ l.invariant.0,
            ap length w.marks-is ∙ length-set l.marks (m.result - 1) 1 ∙ l.invariant.1,
            rw (w.seen-is, more) (walked_next l.invariant.2 c.requires.permutes.0 h w.if-seen-q-ne1.true m.new.seen cycle),
            rw (there, w.seen-is, w.shortest-is, w.longest-is)
                (found-next l.invariant.3 c.requires.permutes.0 l.q h (omega (arith, c.requires.permutes.2, l.invariant.1)) m.new.seen cycle w.lesser-shortest.result w.greater-longest.result
                (low.0, omega (arith, low.1, size), ⊎_elim inl (λ k. inr (k ∙ size)) low.2)
                (high.0, omega (arith, high.1, size), ⊎_elim inl (λ k. inr (k ∙ size)) high.2)),
          )
      | else-seen-q-ne1 w ↦ (
        ap length w.seen-is ∙ l.invariant.0,
        ap length w.marks-is ∙ l.invariant.1,
        rw (w.seen-is, w.walked-is) (walked-past l.invariant.2 w.if-seen-q-ne1.false),
        rw (w.marks-is, w.seen-is, w.shortest-is, w.longest-is) l.invariant.3,
      )
    ]

pub returns : goal.returns
returns c =
    let l = c.loop-walked in
    let all = walked_all l.invariant.2 c.loop-walked-test.false in record {
      marks = found-marks l.invariant.3 all (length c.args.marks.now) l.invariant.1;
      inside = l.invariant.3.span;
      span = found-span l.invariant.3 all;
    }
