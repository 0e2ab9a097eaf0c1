-- What modes make of a word: the numerator of every index, and whether they keep the word, with what goes with either.
use Rattle.std.specs.Prelude.{ℕ, cond, List, map, ℤ}
use Rattle.pauli_word.specs.Word.{Word}
use Rattle.pauli_word.specs.Bytes.{bytes_of}
use Rattle.action.specs.Lists.{below}
use Rattle.action.specs.Permutation.{Generator}
use Rattle.action.specs.Index.{order_of, digits}
use Rattle.action.specs.Orbit.{least, index_back, orbit_size}
use Rattle.action.specs.Sector.{numerator, keeps, dropped_by}
use Rattle.row_lists.specs.Rows.{no_word}

-- the numerator of every index
unfoldable pub numerators : List Generator → List ℤ → List ℕ
numerators gs ks = map (λ i. numerator gs ks (digits gs i)) (below (order_of gs))

-- whether modes keep a word, with what goes with a kept one, and the index that drops a dropped one
pub data Decision (A : Type 0) : Type 0 where
  kept : A → Decision A
  dropped : ℕ → Decision A

-- what goes with a kept word: the least word of its orbit, the index that leads from it back to the word, and the orbit size
pub record Row : Type 0 where
  pub word : Word
  pub index : ℕ
  pub size : ℕ

-- dropped exactly if some index that fixes the word has a numerator other than 0, by the smallest such index
unfoldable pub decision : List Generator → List ℤ → Word → Decision Row
decision gs ks w =
    cond (keeps gs ks w) (kept (record { word = least gs w; index = index_back gs w; size = orbit_size gs w })) (dropped (dropped_by gs ks w))

-- the word beside the answer: zeros beside a dropped one
abbrev pub row_word : Decision Row → List ℕ
row_word (kept r) = bytes_of r.word
row_word (dropped i) = no_word

-- the index beside a decision: of a kept row the one that leads back, of a dropped one the one that drops it
abbrev pub row_index : Decision Row → ℕ
row_index (kept r) = r.index
row_index (dropped i) = i

-- the orbit size beside it: 0 beside a dropped one
abbrev pub row_orbit : Decision Row → ℕ
row_orbit (kept r) = r.size
row_orbit (dropped i) = 0
