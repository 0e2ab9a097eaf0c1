-- Words whose planes are read through a table of other numbers.
use Rattle.std.specs.Prelude.{ℕ, ◌<◌, ◌≡◌, Bool, List}
use Rattle.pauli_word.specs.Word.{Word}
use Rattle.packed.specs.Packed.{bit_of, letters_by}
use Rattle.renumbered.specs.Renumbered.{at}

-- the planes u and v hold a word of n sites read through a table: bit a is that of the site with number a
pub record ReadThrough (n : ℕ) (site u v : List ℕ) (w : Word) : Type 0 where
  pub x : ℕ → Bool
  pub z : ℕ → Bool
  pub word : letters_by n x z ≡ w
  pub x_read : (a : ℕ) → a < n → bit_of u a ≡ x (at site a)
  pub z_read : (a : ℕ) → a < n → bit_of v a ≡ z (at site a)
