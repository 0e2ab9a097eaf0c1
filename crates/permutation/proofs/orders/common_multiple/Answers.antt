use Prim.Native.Nat.{ℕ, ◌+◌}
use mathlib.Core.Path.{◌≡◌, refl, sym, ap, ◌∙◌}
use native.Mathlib.Omega.{arith}
use lib.ListN.{get_or, take}
use lib.Seq.{take_all}
use Rattle.outcome.specs.Outcome.{answer}
use Rattle.action.specs.Arithmetic.{lcm, lcm_all}
use Rattle.action.proofs.Lists.{member_at}
use Rattle.permutation.proofs.Multiples.{multiple-next, multiple-positive, multiple-overflow, multiple_fits}
use Rattle.permutation.proofs.orders.common_multiple.Goals as goal
use Rattle.permutation.proofs.orders.common_multiple.Lts as lts
use Rattle.permutation.proofs.orders.common_multiple.Tie as tie
use Rattle.permutation.proofs.orders.common_multiple.Reads as reads

abbrev ctx-After-lcm : Type 0
ctx-After-lcm = lts.After-lcm tie.the-claims reads.Pre reads.Post goal.the-invariant-loop-length goal.the-decreases-loop-length

pub loop-length-init : goal.loop-length-init
unfolding lcm_all
loop-length-init c = (omega arith, omega arith, refl)

pub lcm-order-requires : goal.lcm-order-requires
lcm-order-requires c =
    let l = c.loop-length in
    let own = c.requires (get_or c.args.lengths.now l.length-index 0) (member_at c.args.lengths.now 0 l.length-index c.loop-length-test.true) in
    (rw l.invariant.2 (multiple-positive c.args.lengths.now (λ k m. (c.requires k m).0) l.length-index), omega arith, own.0, omega (arith, own.1))

-- the multiple of one length more
next :
    (c : ctx-After-lcm)
    → let l = c.loop-length in
    c.lcm-order.result ≡ lcm_all (take (l.length-index + 1) c.args.lengths.now)
next c =
    let ls = c.args.lengths.now in
    let l = c.loop-length in
    c.lcm-order.ensures ∙ ap (λ (k : ℕ). lcm k (get_or ls l.length-index 0)) l.invariant.2 ∙ sym (multiple-next ls l.length-index c.loop-length-test.true)

pub returns-then-order-gt-MAX_DECLARED : goal.returns-then-order-gt-MAX_DECLARED
returns-then-order-gt-MAX_DECLARED c =
    let l = c.loop-length in
    sym (multiple-overflow c.args.generator c.args.lengths.now (λ k m. (c.requires k m).0) (l.length-index + 1) (omega (arith, next c.before.before)))

pub loop-length-preserved : goal.loop-length-preserved
loop-length-preserved c = (omega arith, c.if-order-gt-MAX_DECLARED.false, next c.before.before)

pub returns : goal.returns
returns c =
    let l = c.loop-length in
    let all = l.invariant.2 ∙ ap lcm_all (take_all l.length-index c.args.lengths.now c.loop-length-test.false) in
    sym (multiple_fits c.args.generator c.args.lengths.now (omega (arith, l.invariant.1, all)) ∙ ap answer (sym all))
