use native.Mathlib.Nat.{not-suc-le-zero}
use lib.ListN.{length-set, get_or}
use Rattle.pauli_word.specs.Limits.{max_sites}
use Rattle.split.proofs.Placing.{taken_next}
use mathlib.Core.Path.{refl}
use Prim.Native.Nat.{◌+◌, ◌*◌}
use native.Mathlib.Omega.{arith}
use Rattle.split.proofs.tables.fill_row.Goals as goal

pub loop-a-init : goal.loop-a-init
loop-a-init c = (omega arith, refl, λ b h. absurd (not-suc-le-zero h))

pub offset_bounds-table-a : goal.offset_bounds-table-a
offset_bounds-table-a c = omega arith

pub bounds-table-a : goal.bounds-table-a
bounds-table-a c = omega arith

pub overflow_mul-target : goal.overflow_mul-target
overflow_mul-target c = omega arith

pub overflow_add-target : goal.overflow_add-target
overflow_add-target c = omega (arith, c.requires.by_index c.loop-a.a (omega arith))

pub offset_bounds-targets-g : goal.offset_bounds-targets-g
offset_bounds-targets-g c = omega (arith, c.requires.by_index c.loop-a.a (omega arith))

pub bounds-targets-g : goal.bounds-targets-g
bounds-targets-g c = omega (arith, c.requires.by_index c.loop-a.a (omega arith))

pub offset_bounds-number-target : goal.offset_bounds-number-target
offset_bounds-number-target c = omega (arith, c.requires.by_index c.loop-a.a (omega arith))

pub bounds-number-target : goal.bounds-number-target
bounds-number-target c = omega (arith, c.requires.by_index c.loop-a.a (omega arith))

pub offset_bounds-row-a : goal.offset_bounds-row-a
offset_bounds-row-a c = omega arith

pub bounds-row-a : goal.bounds-row-a
bounds-row-a c = omega arith

pub loop-a-preserved : goal.loop-a-preserved
loop-a-preserved c = (omega arith, simp length-set c.loop-a.invariant.1, taken_next (λ b. get_or c.args.number.now (get_or c.args.targets.now (max_sites * c.args.g + get_or c.args.table.now b 0) 0) 0) c.loop-a.a c.loop-a.row (omega arith) c.loop-a.invariant.2)

pub returns : goal.returns
returns c = λ b h. c.loop-a.invariant.2 b (omega arith)
