-- `letters::unpack` meets its contract. The loop's invariant: the first q codes are those of the word.
use Prim.Native.Nat.{◌≤◌}
use mathlib.Core.Path.{◌≡◌}
use lib.ListN.{length, take}
use Rattle.pauli_word.specs.Bytes.{letters_in}
use Rattle.elements.specs.Letters.{codes}
use Rattle.elements.proofs.letters.unpack.Given as goal

abbrev pub invariant-loop-q : goal.invariant-loop-q
invariant-loop-q l = (l.q ≤ l.sites) × (length l.letters ≡ length l.initial.letters) × (take l.q l.letters ≡ take l.q (codes (letters_in l.sites l.word)))
