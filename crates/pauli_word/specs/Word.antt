-- Pauli words: letters, their two bits, the order of words, and their weight.
use Rattle.std.specs.Prelude.{ℕ, ◌+◌, Bool, true, false, ◌&&◌, not, List, [], ◌∷◌, ◌++◌, map}

pub data Letter : Type 0 where
  I X Y Z : Letter

-- a word is its letters, site 0 first
abbrev pub Word : Type 0
Word = List Letter

abbrev pub x_bit : Letter → Bool
x_bit I = false
x_bit X = true
x_bit Y = true
x_bit Z = false

abbrev pub z_bit : Letter → Bool
z_bit I = false
z_bit X = false
z_bit Y = true
z_bit Z = true

-- the letter with these two bits
abbrev pub letter_of : Bool → Bool → Letter
letter_of false false = I
letter_of false true = Z
letter_of true false = X
letter_of true true = Y

-- the bits that order words: the X plane from site 0, then the Z plane
unfoldable pub bits : Word → List Bool
bits w = map x_bit w ++ map z_bit w

-- 1 for a set bit
abbrev pub bit : Bool → ℕ
bit false = 0
bit true = 1

-- whether two bits are the same
abbrev pub same_bit : Bool → Bool → Bool
same_bit true b = b
same_bit false b = not b

abbrev pub same_letter : Letter → Letter → Bool
same_letter a b = same_bit (x_bit a) (x_bit b) && same_bit (z_bit a) (z_bit b)

-- whether two words have the same letter at every site
unfoldable pub same : Word → Word → Bool
same [] [] = true
same [] (b ∷ w) = false
same (a ∷ v) [] = false
same (a ∷ v) (b ∷ w) = same_letter a b && same v w

-- the lesser list has 0 at the first place where the two differ
unfoldable pub less_bits : List Bool → List Bool → Bool
less_bits [] bs = false
less_bits (a ∷ xs) [] = false
less_bits (false ∷ xs) (false ∷ bs) = less_bits xs bs
less_bits (false ∷ xs) (true ∷ bs) = true
less_bits (true ∷ xs) (false ∷ bs) = false
less_bits (true ∷ xs) (true ∷ bs) = less_bits xs bs

-- the order of words
unfoldable pub less : Word → Word → Bool
unfolding less_bits bits
less v w = less_bits (bits v) (bits w)

-- 1 for a letter other than I
abbrev pub letter_weight : Letter → ℕ
letter_weight a = bit (not (same_letter a I))

-- the number of sites whose letter is other than I
unfoldable pub weight : Word → ℕ
weight [] = 0
weight (a ∷ w) = letter_weight a + weight w
