use Prim.Native.Nat.{◌+◌, ◌-◌}
use mathlib.Core.Path.{◌≡◌, subst, ◌∙◌}
use native.Mathlib.Omega.{arith}
use lib.ListN.{length-set}
use Rattle.row_words.proofs.Inserting.{Shifted, shift-start, shift-next, shift-end}
use Rattle.row_words.proofs.merging.insert.Goals as goal

pub loop-i-init : goal.loop-i-init
loop-i-init c = (c.requires.k_le_used, omega arith, shift-start 0 c.args.positions.now c.args.used c.requires.used_in_bounds)

pub loop-i-preserved : goal.loop-i-preserved
loop-i-preserved c =
    let l = c.loop-i in
    let back : l.i - 1 + 1 ≡ l.i = omega (arith, c.loop-i-test.true) in
    (omega (arith, c.loop-i-test.true), omega (arith, l.invariant.1), rw back (shift-next 0 c.args.positions.now c.args.used c.requires.used_in_bounds l.positions l.i (omega (arith, c.loop-i-test.true)) l.invariant.1 l.invariant.2))

pub offset_bounds-positions-k : goal.offset_bounds-positions-k
offset_bounds-positions-k c = omega (arith)

pub bounds-positions-k : goal.bounds-positions-k
bounds-positions-k c = omega (arith)

pub returns : goal.returns
returns c =
    let l = c.loop-i in
    let at-k : l.i ≡ c.args.k = omega (arith, c.loop-i-test.false, l.invariant.0) in record {
      length = length-set l.positions c.args.k c.args.row ∙ l.invariant.2.long;
      list = shift-end 0 c.args.positions.now c.args.used c.requires.used_in_bounds l.positions c.args.k c.args.row c.requires.k_le_used (subst (Shifted c.args.positions.now l.positions c.args.used) at-k l.invariant.2);
    }
