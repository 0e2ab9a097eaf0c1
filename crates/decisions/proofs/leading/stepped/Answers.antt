-- `leading::stepped` meets its contract: by the first digits of the index and of the sum (`stands-first`, `stands-rolls`, `stands-stays`).
use native.Mathlib.Omega.{arith}
use Rattle.elements.proofs.TableRows.{order-positive-at}
use Rattle.decisions.proofs.Differences.{stands-index, stands-sum, stands-under, stands-first, stands-rolls, stands-stays}
use Rattle.decisions.proofs.leading.stepped.Goals as goal

pub overflow_add-low : goal.overflow_add-low
overflow_add-low c =
    omega (
      arith,
      c.requires.index_lt_max_order,
      stands-index c.requires.tables c.requires.generators_nonzero c.args.other c.args.index c.requires.sum_value,
    )

pub nonzero_rem-result : goal.nonzero_rem-result
nonzero_rem-result c = order-positive-at c.requires.tables 0 c.requires.generators_nonzero

pub returns-then-low-o : goal.returns-then-low-o
returns-then-low-o c =
    stands-first c.requires.tables c.requires.generators_nonzero c.args.other c.args.index c.requires.sum_value c.if-low-o.true c.add-next.ensures

pub overflow_add-turn : goal.overflow_add-turn
overflow_add-turn c =
    omega (
      arith,
      c.requires.tables.small,
      stands-under c.requires.tables c.requires.generators_nonzero c.args.other c.args.index c.requires.sum_value,
      stands-sum c.requires.tables c.requires.generators_nonzero c.args.other c.args.index c.requires.sum_value,
    )

pub overflow_sub-result : goal.overflow_sub-result
overflow_sub-result c =
    stands-under c.requires.tables c.requires.generators_nonzero c.args.other c.args.index c.requires.sum_value

pub overflow_add-result : goal.overflow_add-result
overflow_add-result c =
    omega (
      arith,
      c.requires.index_lt_max_order,
      stands-index c.requires.tables c.requires.generators_nonzero c.args.other c.args.index c.requires.sum_value,
    )

pub overflow_add-result-else-turn-o : goal.overflow_add-result-else-turn-o
overflow_add-result-else-turn-o c =
    omega (arith, c.requires.tables.small, stands-sum c.requires.tables c.requires.generators_nonzero c.args.other c.args.index c.requires.sum_value)

pub overflow_add-result-else-turn-o-2 : goal.overflow_add-result-else-turn-o-2
overflow_add-result-else-turn-o-2 c =
    omega (
      arith,
      c.requires.index_lt_max_order,
      stands-index c.requires.tables c.requires.generators_nonzero c.args.other c.args.index c.requires.sum_value,
    )

pub overflow_add-result-else-turn-o-3 : goal.overflow_add-result-else-turn-o-3
overflow_add-result-else-turn-o-3 c =
    omega (
      arith,
      c.requires.tables.small,
      stands-under c.requires.tables c.requires.generators_nonzero c.args.other c.args.index c.requires.sum_value,
      stands-sum c.requires.tables c.requires.generators_nonzero c.args.other c.args.index c.requires.sum_value,
    )

pub returns-then-turn-o : goal.returns-then-turn-o
returns-then-turn-o c =
    stands-rolls c.requires.tables c.requires.generators_nonzero c.args.other c.args.index c.requires.sum_value c.if-low-o.false c.if-turn-o.true

pub returns-else-turn-o : goal.returns-else-turn-o
returns-else-turn-o c =
    stands-stays c.requires.tables c.requires.generators_nonzero c.args.other c.args.index c.requires.sum_value c.if-low-o.false c.if-turn-o.false
