-- `calls::weighed` meets its contract. The loop's invariant: the sum is the weight of the first q letters.
use Prim.Native.Nat.{◌≤◌}
use mathlib.Core.Path.{◌≡◌}
use lib.ListN.{take}
use Rattle.pauli_word.specs.Word.{weight}
use Rattle.pauli_word.specs.Bytes.{letters_in}
use Rattle.pauli_word.proofs.calls.weighed.Given as goal

abbrev pub invariant-loop-q : goal.invariant-loop-q
invariant-loop-q l = (l.q ≤ l.n) × (l.sum ≤ l.q) × (l.sum ≡ weight (take l.q (letters_in l.n l.word)))
