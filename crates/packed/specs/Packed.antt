-- Planes as machine words: bit q of a plane is bit q mod word_bits of its word q div word_bits, least significant first. What a plane holds is said
-- bit by bit, for a plane of any number of words.
use Rattle.std.specs.declared.cmp.Ordering.{Ordering}
use Rattle.std.specs.declared.cmp.Ordering.TheVariants.{Less, Equal, Greater}
use Rattle.std.specs.Prelude.{ℕ, ◌+◌, ◌*◌, ◌/◌, ◌%◌, ◌^◌, ◌<◌, ◌≤◌, ◌≡◌, Bool, true, false, ◌&&◌, not, List, map, ltb, get_or}
use Rattle.pauli_word.specs.Limits.{plane_length}
use Rattle.pauli_word.specs.Word.{Word, letter_of}
use Rattle.pauli_word.specs.Bytes.{odd}
use Rattle.action.specs.Lists.{below}

-- the bits of a machine word
abbrev pub word_bits : ℕ
word_bits = 64

-- the machine words of a plane, eight bytes each
abbrev pub plane_words : ℕ
plane_words = plane_length / 8

-- the machine words of a plane with as many words before it and after it, and one more
abbrev pub padded_words : ℕ
padded_words = 3 * plane_words + 1

-- planes of so few machine words have room of their own where they are moved
abbrev pub few_words : ℕ
few_words = 8

-- bit k of a number
abbrev pub bit_at : ℕ → ℕ → Bool
bit_at x k = odd (x / 2 ^ k)

-- bit q of a plane; false past its end
unfoldable pub bit_of : List ℕ → ℕ → Bool
bit_of ws q = bit_at (get_or ws (q / word_bits) 0) (q % word_bits)

-- a plane without a bit at or above n
abbrev pub Clear : ℕ → List ℕ → Type 0
Clear n ws = (q : ℕ) → n ≤ q → bit_of ws q ≡ false

-- the letters of n sites, by their X and Z bits
unfoldable pub letters_by : ℕ → (ℕ → Bool) → (ℕ → Bool) → Word
letters_by n x z = map (λ q. letter_of (x q) (z q)) (below n)

-- the letters of n sites that two planes hold
abbrev pub letters_at : ℕ → List ℕ → List ℕ → Word
letters_at n xs zs = letters_by n (bit_of xs) (bit_of zs)

-- of the first n bits, the first that differs is false in f and true in g
abbrev pub LessAt : ℕ → (ℕ → Bool) → (ℕ → Bool) → Type 0
LessAt n f g = (q : ℕ) × (q < n) × ((p : ℕ) → p < q → f p ≡ g p) × (f q ≡ false) × (g q ≡ true)

-- how the first n bits of f stand to those of g
abbrev pub Compared : Ordering → ℕ → (ℕ → Bool) → (ℕ → Bool) → Type 0
Compared Less n f g = LessAt n f g
Compared Equal n f g = (q : ℕ) → q < n → f q ≡ g q
Compared Greater n f g = LessAt n g f

-- where a rotation by s inside blocks of b sites sends site q
unfoldable pub rotated : ℕ → ℕ → ℕ → ℕ
rotated s b q = b * (q / b) + (q % b + s) % b

-- whether site q, of n, takes its bit from s sites below it: all but the first s of each block
unfoldable pub keep_at : ℕ → ℕ → ℕ → ℕ → Bool
keep_at s b n q = ltb q n && not (ltb (q % b) s)

-- whether site q, of n, is among the last s of its block, whose bits go round
unfoldable pub high_at : ℕ → ℕ → ℕ → ℕ → Bool
high_at s b n q = ltb q n && not (ltb (q % b + s) b)

-- a mask of the sites where p holds
abbrev pub Mask : (ℕ → Bool) → List ℕ → Type 0
Mask p ws = (q : ℕ) → bit_of ws q ≡ p q
