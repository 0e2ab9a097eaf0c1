-- `gather::gather_word` meets its contract. The loop's invariant: the bits from k on are put together.
use Rattle.packed.specs.Packed.{bit_of}
use Rattle.renumbered.specs.Renumbered.{at}
use Rattle.renumbered.proofs.Gathered.{Gathered}
use Prim.Native.Nat.{◌+◌, ◌≤◌}
use Rattle.renumbered.proofs.gather.gather_word.Given as goal

abbrev pub invariant-loop-k : goal.invariant-loop-k
invariant-loop-k l = (l.k ≤ l.count) × Gathered (λ i. bit_of l.plane (at l.table (l.start + i))) l.count l.k l.word
