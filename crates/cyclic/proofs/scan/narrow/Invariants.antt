-- `scan::narrow` meets its contract. The loop's invariant is that of the scan; the measure is what is left of three times round.
use Prim.Native.Nat.{◌+◌, ◌-◌}
use Rattle.packed.specs.Packed.{bit_of}
use Rattle.cyclic.proofs.Scans.{Scanning}
use Rattle.cyclic.proofs.Symbols.{SameSymbol, LessSymbol}
use Rattle.cyclic.proofs.scan.narrow.Given as goal

abbrev pub invariant-loop-s : goal.invariant-loop-s
invariant-loop-s l =
    Scanning l.m (SameSymbol (λ y. bit_of l.ws (l.base + y)) l.block l.turn.start l.turn.step) (LessSymbol (λ y. bit_of l.ws (l.base + y)) l.block l.turn.start l.turn.step)
    l.s.i l.s.j l.s.k

abbrev pub decreases-loop-s : goal.decreases-loop-s
decreases-loop-s l = l.m + l.m + l.m - (l.s.i + l.s.j + l.s.k)
