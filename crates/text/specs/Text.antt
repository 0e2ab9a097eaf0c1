-- Texts as lists of bytes: their pieces, and decimal numbers read and written.
use Rattle.std.specs.Prelude.{ℕ, zero, suc, ◌+◌, ◌-◌, ◌*◌, ◌/◌, ◌%◌, ◌^◌, Bool, false, ◌&&◌, not, cond, List, [], ◌∷◌, ◌++◌, eqb, leb, ltb, ℤ, pos, negsuc, length, take, drop}
use Rattle.action.specs.Lists.{every}

-- ---- bytes by their names

abbrev pub line_end : ℕ
line_end = 10

abbrev pub space : ℕ
space = 32

abbrev pub minus : ℕ
minus = 45

abbrev pub zero_digit : ℕ
zero_digit = 48

abbrev pub nine_digit : ℕ
nine_digit = 57

-- ---- pieces

-- the bytes before the first c, or all
unfoldable pub before : ℕ → List ℕ → List ℕ
before c [] = []
before c (b ∷ bs) = let r = b ∷ before c bs in cond (eqb b c) [] r

-- one byte more at the front of the first piece
abbrev pub extended : ℕ → List (List ℕ) → List (List ℕ)
extended b [] = []
extended b (p ∷ ps) = (b ∷ p) ∷ ps

-- the pieces of a text that the bytes c part: one more than there are such bytes
unfoldable pub pieces : ℕ → List ℕ → List (List ℕ)
pieces c [] = [] ∷ []
pieces c (b ∷ bs) = let ps = pieces c bs in cond (eqb b c) ([] ∷ ps) (extended b ps)

-- pieces with a byte between them
abbrev pub parted : ℕ → List (List ℕ) → List ℕ
parted c [] = []
parted c (p ∷ []) = p
parted c (p ∷ q ∷ ps) = p ++ (c ∷ parted c (q ∷ ps))

-- ---- numbers

abbrev pub is_digit : ℕ → Bool
is_digit b = leb zero_digit b && leb b nine_digit

-- a number in decimal, without leading zeros
unfoldable pub is_number : List ℕ → Bool
unfolding every
is_number [] = false
is_number (b ∷ []) = is_digit b
is_number (b ∷ c ∷ bs) = is_digit b && not (eqb b zero_digit) && every is_digit (c ∷ bs)

-- a read so far, and the digits that follow
unfoldable pub read_on : ℕ → List ℕ → ℕ
read_on a [] = a
read_on a (b ∷ bs) = read_on (10 * a + (b - zero_digit)) bs

-- the number that a text writes
unfoldable pub number_of : List ℕ → ℕ
unfolding read_on
number_of bs = read_on 0 bs

-- a signed number in decimal: an optional minus before it, which 0 has not
unfoldable pub is_signed : List ℕ → Bool
unfolding is_number number_of
is_signed [] = false
is_signed (b ∷ bs) = cond (eqb b minus) (is_number bs && not (eqb (number_of bs) 0)) (is_number (b ∷ bs))

-- the signed number that a text writes
unfoldable pub signed_of : List ℕ → ℤ
unfolding number_of
signed_of [] = pos 0
signed_of (b ∷ bs) = cond (eqb b minus) (negsuc (number_of bs - 1)) (pos (number_of (b ∷ bs)))

-- modes lie below it, and no lower than minus it
abbrev pub mode_bound : ℕ
mode_bound = 2 ^ 31

-- whether a number is a mode: a signed number of 32 bits
abbrev pub in_modes : ℤ → Bool
in_modes (pos n) = ltb n mode_bound
in_modes (negsuc n) = ltb n mode_bound

-- a mode
unfoldable pub is_mode : List ℕ → Bool
is_mode text = is_signed text && in_modes (signed_of text)

-- the digits of a number, most significant first; the first argument bounds how many
unfoldable pub digits_of : ℕ → ℕ → List ℕ
digits_of zero n = []
digits_of (suc f) n = let r = digits_of f (n / 10) ++ ((zero_digit + n % 10) ∷ []) in cond (ltb n 10) ((zero_digit + n) ∷ []) r

-- the most digits of a number in decimal: as many as a number of 64 bits has
abbrev pub wide_digits : ℕ
wide_digits = 20

-- a number in decimal
unfoldable pub decimal : ℕ → List ℕ
unfolding digits_of
decimal n = digits_of wide_digits n

-- a signed number in decimal
abbrev pub signed_text : ℤ → List ℕ
signed_text (pos n) = decimal n
signed_text (negsuc n) = minus ∷ decimal (suc n)

-- the most digits of a number that is written
abbrev pub max_digits : ℕ
max_digits = 7

-- the numbers that are written lie below it
abbrev pub max_written : ℕ
max_written = 10 ^ max_digits

-- ---- a text written into a list from a place on; the rest stays

unfoldable pub put : ℕ → List ℕ → List ℕ → List ℕ
put at text list = take at list ++ (text ++ drop (at + length text) list)
