-- Text words: a letter a byte, site 0 first, in I, X, Y and Z alone.
use Rattle.std.specs.Prelude.{ℕ, suc, Bool, true, ◌&&◌, ◌||◌, cond, List, [], ◌∷◌, map, eqb}
use Rattle.pauli_word.specs.Word.{Letter, I, X, Y, Z, Word}

-- the byte that writes a letter
abbrev pub glyph : Letter → ℕ
glyph I = 73
glyph X = 88
glyph Y = 89
glyph Z = 90

-- whether a byte writes a letter
abbrev pub is_letter : ℕ → Bool
is_letter b = eqb b 73 || eqb b 88 || eqb b 89 || eqb b 90

-- the letter that a byte writes; I for a byte that writes none
abbrev pub letter : ℕ → Letter
letter b = cond (eqb b 88) X (cond (eqb b 89) Y (cond (eqb b 90) Z I))

-- whether a text holds letters alone
unfoldable pub letters_alone : List ℕ → Bool
letters_alone [] = true
letters_alone (b ∷ text) = is_letter b && letters_alone text

-- the position of the first byte that writes no letter
unfoldable pub first_other : List ℕ → ℕ
first_other [] = 0
first_other (b ∷ text) = let r = suc (first_other text) in cond (is_letter b) r 0

-- the word that a text writes
abbrev pub read_text : List ℕ → Word
read_text text = map letter text

-- the text of a word
abbrev pub spell : Word → List ℕ
spell w = map glyph w
