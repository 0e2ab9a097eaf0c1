-- Words turned round inside blocks of one length, and the turns that give the least of them.
use Rattle.std.specs.Prelude.{ℕ, ◌-◌, ◌%◌, ◌<◌, ◌≡◌, false, List, map, length, get_or}
use Rattle.pauli_word.specs.Word.{Word, I, less}
use Rattle.pauli_word.specs.Bytes.{bytes_of}
use Rattle.action.specs.Lists.{below}
use Rattle.action.specs.Orbit.{move}
use Rattle.packed.specs.Packed.{rotated}
use Rattle.rotation.specs.Rotation.{rotation}

-- the word that has at site j of each block of b sites what w has at site j + r of that block, taken round
unfoldable pub turned : ℕ → ℕ → Word → Word
turned b r w = map (λ q. get_or w (rotated r b q) I) (below (length w))

-- no turn gives a word that is less than that of r
abbrev pub LeastTurn : ℕ → Word → ℕ → Type 0
LeastTurn b w r = (j : ℕ) → j < b → less (turned b j w) (turned b r w) ≡ false

-- the turns below b that give the least word are start and every step after it
pub record Turns (b : ℕ) (w : Word) (start step : ℕ) : Type 0 where
  pub inside : start < step
  pub divides : b % step ≡ 0
  pub least : (r : ℕ) → r < b → r % step ≡ start → LeastTurn b w r
  pub only : (r : ℕ) → r < b → LeastTurn b w r → r % step ≡ start

-- bytes, an index and a step found of a word of n letters: turns by start and every step after it give the least word, the index is what start is short
-- of a step, and the bytes are those of the word rotated by the index
pub record Found (n b : ℕ) (w : Word) (bytes : List ℕ) (index step : ℕ) : Type 0 where
  pub start : ℕ
  pub turns : Turns b w start step
  pub short : index ≡ (step - start) % step
  pub moved : bytes ≡ bytes_of (move (rotation n index b) w)
