-- `row_sum::is_finite` meets its contract: 1.0 / 0.0 is the infinity, and a float between the two infinities is finite (`between`).
use lib.Ieee.{of_bits, div, neg}
use Rattle.sum_rows.proofs.Finite.{between, not_above}
use Rattle.sum_rows.proofs.row_sum.is_finite.Goals as goal

pub returns-then-infinity-x : goal.returns-then-infinity-x
unfolding of_bits div neg
returns-then-infinity-x c = between c.args.x c.if-infinity-x.true

pub returns-else-infinity-x : goal.returns-else-infinity-x
unfolding of_bits div neg
returns-else-infinity-x c = not_above c.args.x c.if-infinity-x.false
