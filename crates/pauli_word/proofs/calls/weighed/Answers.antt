use Prim.Native.Nat.{ℕ, ◌+◌}
use mathlib.Core.Path.{◌≡◌, refl, sym, ◌∙◌, ap}
use native.Mathlib.Omega.{arith}
use Rattle.pauli_word.specs.Word.{letter_of, letter_weight, weight}
use Rattle.pauli_word.proofs.Sites.{letter-counts, letter-passed, letter_weight_small, weigh-next, all_sites}
use Rattle.pauli_word.proofs.calls.weighed.Goals as goal
use Rattle.pauli_word.proofs.calls.weighed.Goals.{then-spelled-ne73, else-spelled-ne73}
use Rattle.pauli_word.proofs.calls.weighed.Lts as lts
use Rattle.pauli_word.proofs.calls.weighed.Tie as tie
use Rattle.pauli_word.proofs.calls.weighed.Reads as reads

abbrev ctx-Joined1 : Type 0
ctx-Joined1 = lts.Joined1 tie.the-claims reads.Pre reads.Post goal.the-invariant-loop-q goal.the-decreases-loop-q tie.handed_clauses

pub loop-q-init : goal.loop-q-init
unfolding weight
loop-q-init c = (omega arith, omega arith, refl)

pub site_at-s-requires : goal.site_at-s-requires
site_at-s-requires c = c.requires.long

pub overflow_add-sum : goal.overflow_add-sum
overflow_add-sum c = omega (arith, c.requires.sites)

-- a site adds its letter's weight
added :
    (c : ctx-Joined1) → let s = c.site_at-s.result in
    c.if-spelled-ne73.sum ≡ c.loop-q.sum + letter_weight (letter_of s.x s.z)
added c =
    let s = c.site_at-s.result in
    let e = c.spelled.ensures in
    elim c.if-spelled-ne73.branch [
      | then-spelled-ne73 w ↦ omega (arith, w.sum-is, letter-counts (letter_of s.x s.z) (λ i. w.if-spelled-ne73.true (e ∙ i)))
      | else-spelled-ne73 w ↦ omega (arith, w.sum-is, letter-passed (letter_of s.x s.z) (sym e ∙ w.if-spelled-ne73.false))
    ]

pub loop-q-preserved : goal.loop-q-preserved
loop-q-preserved c =
    let l = c.loop-q in
    let ok = c.requires in (
      omega arith,
      omega (arith, added c.before, letter_weight_small (letter_of c.site_at-s.result.x c.site_at-s.result.z)),
      added c.before
          ∙ ap (λ (k : ℕ). k + letter_weight (letter_of c.site_at-s.result.x c.site_at-s.result.z)) l.invariant.2
          ∙ weigh-next ok l.q c.loop-q-test.true c.site_at-s.result.x c.site_at-s.result.z c.site_at-s.ensures.x c.site_at-s.ensures.z,
    )

pub returns : goal.returns
returns c =
    let l = c.loop-q in
    l.invariant.2 ∙ ap weight (all_sites c.requires l.q c.loop-q-test.false)
