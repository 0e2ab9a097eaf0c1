-- `read::value` meets its contract. The loop's invariant: up to the cap, reading on from v what is left gives the number.
use Prim.Native.Nat.{◌-◌, ◌≤◌, min}
use mathlib.Core.Path.{◌≡◌, refl, sym, ◌∙◌}
use native.Mathlib.Omega.{arith}
use lib.ListN.{length, drop}
use Rattle.text.specs.Text.{read_on, number_of}
use Rattle.text.specs.Parts.{cap}
use Rattle.text.proofs.Numbers.{value_next, value_end}
use Rattle.text.proofs.read.value.Given as goal

abbrev pub invariant-loop-byte : goal.invariant-loop-byte
invariant-loop-byte l = (l.byte-index ≤ length l.text) × (l.v ≤ cap) × (min (number_of l.text) cap ≡ min (read_on l.v (drop l.byte-index l.text)) cap)
