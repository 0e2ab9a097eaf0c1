-- `calls::spelled` meets its contract. The loop's invariant: the text of the first q letters, and zeros after it.
use Prim.Native.Nat.{◌-◌, ◌≤◌}
use mathlib.Core.Path.{◌≡◌}
use mathlib.Core.List.{◌++◌}
use lib.ListN.{take, replicate}
use Rattle.pauli_word.specs.Limits.{max_sites}
use Rattle.pauli_word.specs.Text.{spell}
use Rattle.pauli_word.specs.Bytes.{letters_in}
use Rattle.pauli_word.proofs.calls.spelled.Given as goal

abbrev pub invariant-loop-q : goal.invariant-loop-q
invariant-loop-q l = (l.q ≤ l.n) × (l.text ≡ spell (take l.q (letters_in l.n l.word)) ++ replicate (max_sites - l.q) 0)
