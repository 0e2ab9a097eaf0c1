-- `integers::sum_near` meets its contract: each step stays inside 64 bits, and the last is the difference of the two numbers.
use Prim.Native.Nat.{◌+◌, ◌*◌}
use mathlib.Core.Path.{ap, ◌∙◌}
use native.Mathlib.Omega.{arith}
use lib.IntN.{ℤ, pos, ◌+ℤ◌, ◌-ℤ◌, ◌*ℤ◌}
use mir.Syntax.{w64}
use mir.Val.{to_z, of_z}
use borrow.Author.Rules.{rules}
use Rattle.phases.specs.Rules.{unit, slack, in_range}
use Rattle.phases.proofs.Ranges.{Stands, given_stands, product-stands, sum-stands, difference-stands}
use Rattle.phases.proofs.integers.sum_near.Goals as goal
use Rattle.phases.proofs.integers.sum_near.Lts as lts
use Rattle.phases.proofs.integers.sum_near.Tie as tie
use Rattle.phases.proofs.integers.sum_near.Reads as reads

abbrev ctx-Start : Type 0
ctx-Start = lts.Start tie.the-claims reads.Pre reads.Post tie.handed_clauses

-- a number as it is stored
abbrev stored : ℤ → ℤ
stored z = to_z w64 (of_z w64 z)

-- the steps
module _ (c : ctx-Start) where
  first : Stands w64 (unit * unit) (stored c.args.a *ℤ stored c.args.b) (c.args.a *ℤ c.args.b)
  first = product-stands (given_stands c.ranges.a c.requires.in_range.0) (given_stands c.ranges.b c.requires.in_range.1) (omega arith)

  second : Stands w64 (unit * unit) (stored c.args.c *ℤ stored c.args.d) (c.args.c *ℤ c.args.d)
  second = product-stands (given_stands c.ranges.c c.requires.in_range_2.0) (given_stands c.ranges.d c.requires.in_range_2.1) (omega arith)

  sum :
      Stands w64 (unit * unit + unit * unit) (stored (stored c.args.a *ℤ stored c.args.b) +ℤ stored (stored c.args.c *ℤ stored c.args.d))
      (c.args.a *ℤ c.args.b +ℤ c.args.c *ℤ c.args.d)
  sum = sum-stands first second (omega arith)

  third : Stands w64 (unit * unit) (pos unit *ℤ stored c.args.z) (pos unit *ℤ c.args.z)
  third =
      let one : Stands w64 unit (pos unit) (pos unit) = given_stands (search rules) (omega arith) in
      product-stands one (given_stands c.ranges.z c.requires.in_range_3) (omega arith)

  difference :
      Stands w64 (unit * unit + unit * unit + unit * unit)
      (stored (stored (stored c.args.a *ℤ stored c.args.b) +ℤ stored (stored c.args.c *ℤ stored c.args.d)) -ℤ stored (pos unit *ℤ stored c.args.z))
      (c.args.a *ℤ c.args.b +ℤ c.args.c *ℤ c.args.d -ℤ pos unit *ℤ c.args.z)
  difference = difference-stands sum third (omega arith)

pub overflow_mul-a : goal.overflow_mul-a
overflow_mul-a c = (first c).fits

pub overflow_mul-c : goal.overflow_mul-c
overflow_mul-c c = (second c).fits

pub overflow_add-a : goal.overflow_add-a
overflow_add-a c = (sum c).fits

pub overflow_mul-z : goal.overflow_mul-z
overflow_mul-z c = (third c).fits

pub overflow_sub-a : goal.overflow_sub-a
overflow_sub-a c = (difference c).fits

pub returns : goal.returns
returns c = c.in_slack.ensures ∙ ap (in_range slack) (difference c.before).same
