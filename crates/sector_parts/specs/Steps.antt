-- Decisions for words part by part: two decisions put together, what one part does to a row and its numbers, and where all rows stand before a part.
use Rattle.std.specs.Prelude.{ℕ, ◌+◌, ◌*◌, ◌<◌, min, ◌≡◌, cond, List, eqb, ltb, ℤ, length, get_or}
use Rattle.pauli_word.specs.Word.{Word}
use Rattle.pauli_word.specs.Bytes.{letters_in, bytes_of}
use Rattle.action.specs.Permutation.{Generator}
use Rattle.action.specs.Orbit.{least}
use Rattle.parts.specs.Labels.{chosen, spread}
use Rattle.parts.specs.Numbered.{read_by}
use Rattle.row_lists.specs.Rows.{row_at}
use Rattle.parted.specs.Steps.{PartLeast}
use Rattle.decisions.specs.Decisions.{Decision, Row, decision, row_word, row_index, row_orbit}

-- the index of two decisions, each by an index of the whole and an orbit size, which is 0 where it drops the word: both indices where both keep it, the one
-- that drops it where one does, and the smaller where both do
unfoldable pub joined_index : ℕ → ℕ → ℕ → ℕ → ℕ
joined_index i s o t = cond (eqb s 0) (cond (eqb t 0) (min i o) i) (cond (eqb t 0) o (i + o))

-- what a part with its modes does to a row, its index and its size, where the row holds a word: its decision for the letters at its sites is put to the one so
-- far, and these letters become the least
pub record SectorStepped (n m : ℕ) (site : ℕ → ℕ) (hs gs : List Generator) (labels : List ℕ) (modes : List ℤ) (part : ℕ) (row : List ℕ) (i s : ℕ) (out : List ℕ) (o t : ℕ) : Type 0 where
  pub index : o ≡ joined_index i s (spread (λ l. eqb l part) labels gs (row_index (decision hs modes (read_by m site (letters_in n row))))) (row_orbit (decision hs modes (read_by m site (letters_in n row))))
  pub size : t ≡ s * row_orbit (decision hs modes (read_by m site (letters_in n row)))
  pub word : PartLeast n m site hs (letters_in n row) out

-- where a row, its index and its size stand, of a word, before part p: the least word by the parts before, and their decision, its index as one of the whole
pub record SectorStands (n : ℕ) (gs : List Generator) (labels : List ℕ) (ks : List ℤ) (p : ℕ) (w : Word) (row : List ℕ) (i s : ℕ) : Type 0 where
  pub long : length w ≡ n
  pub word : row ≡ bytes_of (least (chosen (λ l. ltb l p) labels gs) w)
  pub index : i ≡ spread (λ l. ltb l p) labels gs (row_index (decision (chosen (λ l. ltb l p) labels gs) (chosen (λ l. ltb l p) labels ks) w))
  pub size : s ≡ row_orbit (decision (chosen (λ l. ltb l p) labels gs) (chosen (λ l. ltb l p) labels ks) w)

-- every row with its numbers, of words by the numbers of the rows
abbrev pub AllPlaced : ℕ → List Generator → List ℕ → List ℤ → ℕ → (ℕ → Word) → List ℕ → List ℕ → List ℕ → Type 0
AllPlaced n gs labels ks p words rows indices sizes =
    (i : ℕ) → i < length indices → SectorStands n gs labels ks p (words i) (row_at rows i) (get_or indices i 0) (get_or sizes i 0)

-- a row with the numbers beside it that is a decision's
pub record Decided (d : Decision Row) (row : List ℕ) (i s : ℕ) : Type 0 where
  pub word : row ≡ row_word d
  pub index : i ≡ row_index d
  pub size : s ≡ row_orbit d
