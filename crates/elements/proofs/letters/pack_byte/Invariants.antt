-- `letters::pack_byte` meets its contract. The loop's invariant: x and z are the bytes of the letters from k on.
use Prim.Native.Nat.{◌≤◌}
use mathlib.Core.Path.{◌≡◌}
use mathlib.Core.List.{map}
use lib.ListN.{length, drop}
use Rattle.pauli_word.specs.Bytes.{number}
use Rattle.elements.proofs.Codes.{x_of, z_of}
use Rattle.elements.proofs.letters.pack_byte.Given as goal

abbrev pub invariant-loop-k : goal.invariant-loop-k
invariant-loop-k l = (l.k ≤ length l.letters) × (l.x ≡ number (map x_of (drop l.k l.letters))) × (l.z ≡ number (map z_of (drop l.k l.letters)))
