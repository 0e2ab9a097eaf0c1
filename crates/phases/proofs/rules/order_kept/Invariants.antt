-- `rules::order_kept` meets its contract. The loop's invariant: no entry below j fails.
use Prim.Native.Nat.{◌-◌}
use borrow.Author.Rules.{rules}
use Rattle.phases.specs.Rules.{quarter, table_of, order_right}
use Rattle.phases.proofs.Steps.{Passing, each_start, each_next, each-fails, each-passes}
use Rattle.phases.proofs.rules.order_kept.Given as goal

abbrev pub invariant-loop-j : goal.invariant-loop-j
invariant-loop-j l = Passing (order_right (table_of l.cosines l.sines)) quarter l.j
