use Prim.Native.Nat.{ℕ, ◌+◌, ◌-◌, ◌%◌, ◌≤◌}
use mathlib.Core.Path.{◌≡◌, refl, ap, ◌∙◌}
use mathlib.Core.Bool.{not}
use native.Mathlib.Nat.{mod_self}
use native.Mathlib.Omega.{arith}
use lib.Dec.{ltb}
use Rattle.packed.proofs.Masks.{run_bits, pattern_start, pattern_next, pattern_done, pattern_none, blocks_add, blocks_less, blocks_least, block_fits}
use Rattle.packed.proofs.shift.fill_mask.Goals as goal

pub fill_run-requires : goal.fill_run-requires
fill_run-requires c = omega arith

pub returns-then-sites-eq0 : goal.returns-then-sites-eq0
returns-then-sites-eq0 c =
    let a = c.args in
    let none = c.if-sites-eq0.true in
    λ q. c.fill_run.ensures q ∙ pattern_none (λ p. not (ltb (p % a.block) a.low)) (λ p. ltb (p % a.block) a.high) a.sites q none

pub fill_run-requires-2 : goal.fill_run-requires-2
fill_run-requires-2 c =
    let p = c.requires in
    let fits = block_fits c.args.block c.args.sites p.1 (omega arith) in
    (p.2, omega (arith, p.3, p.4))

pub loop-covered-init : goal.loop-covered-init
loop-covered-init c =
    let a = c.args in
    let p = c.requires in
    let has = c.fill_run-2.ensures in (
      p.0,
      block_fits a.block a.sites p.1 (omega arith),
      mod_self a.block,
      refl,
      λ q. has q ∙ pattern_start a.low a.high a.block q p.3,
    )

pub overflow_sub-sites : goal.overflow_sub-sites
overflow_sub-sites c = omega arith

pub overflow_add-covered : goal.overflow_add-covered
overflow_add-covered c = omega (arith, c.smaller-step.ensures)

pub loop-covered-smaller : goal.loop-covered-smaller
loop-covered-smaller c =
    let l = c.loop-covered in
    omega (arith, c.smaller-step.ensures, l.invariant.0)

pub loop-covered-preserved : goal.loop-covered-preserved
loop-covered-preserved c =
    let a = c.args in
    let p = c.requires in
    let l = c.loop-covered in
    let start = c.fill_run-2.auto.mask in
    let whole : c.smaller-step.result % a.block ≡ 0 = ap (λ (x : ℕ). x % a.block) c.smaller-step.ensures ∙ blocks_least a.block l.covered (a.sites - l.covered) l.invariant.2 (blocks_less a.block a.sites l.covered p.1 l.invariant.2) in
    let reach : l.covered + c.smaller-step.result ≤ a.sites = omega (arith, c.smaller-step.ensures, l.invariant.1) in (
      omega (arith, l.invariant.0),
      reach,
      blocks_add a.block l.covered c.smaller-step.result l.invariant.2 whole,
      c.or_moved_up.auto.mask ∙ l.invariant.3,
      pattern_next (run_bits a.low a.high) a.block l.covered c.smaller-step.result l.mask c.or_moved_up.new.mask whole (omega (arith, c.smaller-step.ensures)) (omega (arith, reach, p.4, start, l.invariant.3)) c.or_moved_up.auto.mask l.invariant.4 c.or_moved_up.ensures,
    )

pub returns : goal.returns
returns c =
    let a = c.args in
    let l = c.loop-covered in
    λ q. l.invariant.4 q ∙ pattern_done a.low a.high a.block l.covered a.sites q (omega (arith, l.invariant.1, c.loop-covered-test.false))
