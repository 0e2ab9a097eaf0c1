-- Words as one byte a site: the code of its letter.
use Rattle.std.specs.Prelude.{ℕ, List, map}
use Rattle.pauli_word.specs.Word.{Letter, I, X, Y, Z, Word}

-- a letter's code: 1 for its X bit and 2 for its Z bit
abbrev pub letter_code : Letter → ℕ
letter_code I = 0
letter_code X = 1
letter_code Z = 2
letter_code Y = 3

-- the codes of a word's letters, site 0 first
abbrev pub codes : Word → List ℕ
codes w = map letter_code w
