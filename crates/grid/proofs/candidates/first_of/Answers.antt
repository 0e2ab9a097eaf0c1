use Prim.Native.Nat.{ℕ}
use mathlib.Core.Path.{ap, sym, ◌∙◌}
use native.Mathlib.Omega.{arith}
use mathlib.Core.Bool.{false, false≢true}
use lib.ListN.{get_or}
use Rattle.packed.specs.Packed.{bit_at}
use Rattle.packed.proofs.Packing.{bit-zero}
use Rattle.grid.proofs.Sets.{first_bit, first_in, between_more, none_whole}
use Rattle.grid.proofs.candidates.first_of.Goals as goal

pub loop-i-init : goal.loop-i-init
loop-i-init c = (omega arith, λ q h l. absurd (omega arith))

pub offset_bounds-left-i : goal.offset_bounds-left-i
offset_bounds-left-i c = omega arith

pub bounds-left-i : goal.bounds-left-i
bounds-left-i c = omega arith

pub overflow_mul-result : goal.overflow_mul-result
overflow_mul-result c = omega arith

pub overflow_cast-result : goal.overflow_cast-result
overflow_cast-result c =
    let l = c.loop-i in
    let x = get_or c.args.left.now l.i 0 in
    omega (arith, (first_bit x c.if-x-ne0.true (c.shared_slice_known-1.given l.i).fits).0)

pub overflow_add-result : goal.overflow_add-result
overflow_add-result c =
    let l = c.loop-i in
    let x = get_or c.args.left.now l.i 0 in
    omega (arith, (first_bit x c.if-x-ne0.true (c.shared_slice_known-1.given l.i).fits).0)

pub returns-then-x-ne0 : goal.returns-then-x-ne0
returns-then-x-ne0 c =
    let l = c.loop-i in
    let left = c.args.left.now in
    let fits = (c.shared_slice_known-1.given l.i).fits in record {
      inside = omega (arith, (first_bit (get_or left l.i 0) c.if-x-ne0.true fits).0);
      first = λ k e. first_in left l.i c.if-x-ne0.true fits;
    }

pub loop-i-preserved : goal.loop-i-preserved
loop-i-preserved c =
    let l = c.loop-i in
    let left = c.args.left.now in
    (omega arith, between_more (λ q. false) left l.i (λ k h. ap (λ (x : ℕ). bit_at x k) c.if-x-ne0.false ∙ bit-zero k) l.invariant.1)

pub returns : goal.returns
returns c =
    let l = c.loop-i in
    let left = c.args.left.now in record {
      inside = omega arith;
      first = λ k e. absurd (false≢true (sym (none_whole left l.i (omega arith) l.invariant.1 k) ∙ e));
    }
