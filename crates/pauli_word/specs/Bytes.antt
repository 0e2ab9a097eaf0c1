-- Words as bytes: the X plane and then the Z plane, m bytes each. Site q is bit q mod 8 of a plane's byte q div 8, least significant first.
-- The plane's length m is a parameter: a word in full has m = plane_length, one of the old form m = old_plane_length.
use Rattle.std.specs.Prelude.{ℕ, zero, suc, ◌+◌, ◌-◌, ◌*◌, ◌/◌, ◌%◌, ◌<◌, ◌≤◌, ◌≡◌, ◌⊎◌, Bool, true, false, ◌&&◌, ◌||◌, not, cond, List, [], ◌∷◌, ◌++◌, map, eqb, length, get_or, set, take, drop, replicate}
use Rattle.pauli_word.specs.Limits.{plane_length, word_length, old_plane_length, old_length}
use Rattle.pauli_word.specs.Word.{Word, x_bit, z_bit, letter_of, bit}

abbrev pub odd : ℕ → Bool
odd x = eqb (x % 2) 1

-- the k lowest binary digits of a number, least significant first
unfoldable pub low_bits : ℕ → ℕ → List Bool
low_bits zero x = []
low_bits (suc k) x = odd x ∷ low_bits k (x / 2)

-- the number with these binary digits, least significant first
unfoldable pub number : List Bool → ℕ
number [] = 0
number (b ∷ bs) = bit b + 2 * number bs

-- the bits of a plane, site 0 first: eight of each byte
unfoldable pub plane_bits : List ℕ → List Bool
plane_bits [] = []
plane_bits (x ∷ xs) = low_bits 8 x ++ plane_bits xs

-- the plane of m bytes that holds these bits, and 0 above them
unfoldable pub plane_of : ℕ → List Bool → List ℕ
plane_of zero bs = []
plane_of (suc m) bs = number (take 8 bs) ∷ plane_of m (drop 8 bs)

-- the word whose letters have these X and Z bits
unfoldable pub letters_of : List Bool → List Bool → Word
letters_of [] zs = []
letters_of (x ∷ xs) [] = []
letters_of (x ∷ xs) (z ∷ zs) = letter_of x z ∷ letters_of xs zs

-- the letters of the first n sites
unfoldable pub decode : ℕ → ℕ → List ℕ → Word
decode m n bytes = letters_of (take n (plane_bits (take m bytes))) (take n (plane_bits (drop m bytes)))

-- the bytes of a word
unfoldable pub encode : ℕ → Word → List ℕ
encode m w = plane_of m (map x_bit w) ++ plane_of m (map z_bit w)

-- the letters of n sites in the bytes of a word in full
abbrev pub letters_in : ℕ → List ℕ → Word
letters_in n bytes = decode plane_length n bytes

-- the bytes of a word in full
abbrev pub bytes_of : Word → List ℕ
bytes_of w = encode plane_length w

-- bits with bit q set where b holds
abbrev pub or_at : List Bool → ℕ → Bool → List Bool
or_at bs q b = set bs q (get_or bs q false || b)

-- the bytes of a word with the bits of site q set where they hold
unfoldable pub with_site : ℕ → List ℕ → ℕ → Bool → Bool → List ℕ
with_site m bytes q x z = plane_of m (or_at (plane_bits (take m bytes)) q x) ++ plane_of m (or_at (plane_bits (drop m bytes)) q z)

-- whether no bit is set
unfoldable pub clear : List Bool → Bool
clear [] = true
clear (b ∷ bs) = not b && clear bs

-- whether a plane has no bit at or above n
unfoldable pub clear_from : ℕ → List ℕ → Bool
clear_from n plane = clear (drop n (plane_bits plane))

-- how many values a byte has
abbrev pub byte_values : ℕ
byte_values = 256

-- every member is a byte
abbrev pub Bytes : List ℕ → Type 0
Bytes [] = Unit {0}
Bytes (x ∷ xs) = (x < byte_values) × Bytes xs

-- an accepted word of n sites in planes of m bytes: two planes, and no bit at or above n
pub record Accepted (m n : ℕ) (bytes : List ℕ) : Type 0 where
  pub sites : n ≤ 8 * m
  pub long : length bytes ≡ m + m
  pub small : Bytes bytes
  pub x_clear : clear_from n (take m bytes) ≡ true
  pub z_clear : clear_from n (drop m bytes) ≡ true

-- an accepted word in full
abbrev pub AcceptedWord : ℕ → List ℕ → Type 0
AcceptedWord n bytes = Accepted plane_length n bytes

-- ---- either form

-- a plane with zeros after it, up to m bytes
abbrev pub filled_up : ℕ → List ℕ → List ℕ
filled_up m plane = plane ++ replicate (m - length plane) 0

-- the word in full of two planes of h bytes: the bytes that a plane lacks are 0
abbrev pub spread : ℕ → List ℕ → List ℕ
spread h bytes = filled_up plane_length (take h bytes) ++ filled_up plane_length (drop h bytes)

-- the bytes of a word in full: those of the old form are spread, and all others stay
unfoldable pub in_full : List ℕ → List ℕ
in_full bytes = cond (eqb (length bytes) old_length) (spread old_plane_length bytes) bytes

-- the letters of n sites that a list of bytes stands for, in either form
abbrev pub word_in : ℕ → List ℕ → Word
word_in n bytes = letters_in n (in_full bytes)

-- the length of a word in full, or of one of the old form
abbrev pub EitherLength : ℕ → Type 0
EitherLength k = (k ≡ word_length) ⊎ (k ≡ old_length)

-- an accepted word, in full or of the old form
abbrev pub EitherWord : ℕ → List ℕ → Type 0
EitherWord n bytes = AcceptedWord n bytes ⊎ Accepted old_plane_length n bytes
