-- `from_text` meets its contract. The loop's invariant: the first i bytes are letters, and the word is theirs.
use Prim.Native.Nat.{◌≤◌}
use mathlib.Core.Path.{◌≡◌}
use mathlib.Core.Bool.{true}
use lib.ListN.{length, take}
use Rattle.pauli_word.specs.Limits.{max_sites}
use Rattle.pauli_word.specs.Bytes.{bytes_of}
use Rattle.pauli_word.specs.Text.{letters_alone, read_text}
use Rattle.pauli_word.proofs.from_text.Given as goal

abbrev pub invariant-loop-i : goal.invariant-loop-i
invariant-loop-i l = (l.n ≡ length l.text) × (l.i ≤ l.n) × (l.n ≤ max_sites) × (letters_alone (take l.i l.text) ≡ true) × (l.word ≡ bytes_of (read_text (take l.i l.text)))
