-- What each call of this crate comes to: its checks in their order, then its answer.
use Rattle.pauli_word.specs.declared.TextWord.{TextWord}
use Rattle.pauli_word.specs.declared.WordText.{WordText}
use Rattle.pauli_word.specs.declared.inner.Site.{Site}
use Rattle.std.specs.declared.cmp.Ordering.{Ordering}
use Rattle.std.specs.declared.cmp.Ordering.TheVariants.{Less, Equal, Greater}
use Rattle.outcome.specs.declared.Refusal.{Refusal}
use Rattle.std.specs.Prelude.{ℕ, ◌-◌, Bool, not, ◌&&◌, ◌||◌, cond, List, [], ◌∷◌, ◌++◌, ltb, eqb, length, take, drop, replicate, Option, Some, None}
use Rattle.pauli_word.specs.Limits.{max_sites, plane_length, word_length, old_sites, old_length}
use Rattle.outcome.specs.Outcome.{Outcome, answer, Check, rule, unless, or_else}
use Rattle.pauli_word.specs.Word.{Word, x_bit, z_bit, less_bits, less, weight}
use Rattle.pauli_word.specs.Bytes.{clear_from, bytes_of, in_full, word_in}
use Rattle.pauli_word.specs.Text.{is_letter, letter, letters_alone, first_other, read_text, spell}

-- 1: a site count above max_sites
abbrev pub site_count : ℕ → Check
site_count n = rule Refusal.TooManySites (ltb max_sites n)

-- whether a length is that of a word in full, or of one of the old form
unfoldable pub either_length : ℕ → Bool
either_length k = eqb k word_length || eqb k old_length

-- 15: a length of neither form
abbrev pub length_check : ℕ → Check
length_check k = rule Refusal.WordLength (not (either_length k))

abbrev pub word_size : List ℕ → Check
word_size bytes = length_check (length bytes)

-- whether a word of k bytes is of the old form and has more sites than that
unfoldable pub past_old : ℕ → ℕ → Bool
past_old n k = eqb k old_length && ltb old_sites n

-- 36: a word of the old form with more than old_sites sites
abbrev pub old_size : ℕ → List ℕ → Check
old_size n bytes = rule Refusal.OldWordSites (past_old n (length bytes))

-- whether neither plane of a word in full has a bit at or above n
abbrev pub clear_above : ℕ → List ℕ → Bool
clear_above n bytes = clear_from n (take plane_length bytes) && clear_from n (drop plane_length bytes)

-- 17: a word bit set at or above the site count
abbrev pub bit_above : ℕ → List ℕ → Check
bit_above n bytes = rule Refusal.BitAboveSites (not (clear_above n (in_full bytes)))

-- 28: a text word of more than max_sites letters
abbrev pub text_length : List ℕ → Check
text_length text = rule Refusal.TooManyLetters (ltb max_sites (length text))

-- 29: a letter other than I, X, Y, Z, with its position
abbrev pub other_letter : List ℕ → Check
other_letter text = rule (Refusal.NotALetter (first_other text)) (not (letters_alone text))

-- the checks of a call that is handed a word
abbrev pub word_checks : ℕ → List ℕ → List Check
word_checks n bytes = site_count n ∷ word_size bytes ∷ old_size n bytes ∷ bit_above n bytes ∷ []

-- ---- from_text: the word that a text writes

unfoldable pub from_text_outcome : List ℕ → Outcome Word
from_text_outcome text = unless (text_length text ∷ other_letter text ∷ []) (answer (read_text text))

-- what a call hands back of the word: its letters counted, and its bytes
abbrev pub text_word : Word → TextWord
text_word w = record { sites = length w; word = bytes_of w }

-- the bytes of the word, or zeros on refusal
unfoldable pub from_text_bytes : List ℕ → List ℕ
from_text_bytes text = or_else bytes_of (replicate word_length 0) (from_text_outcome text)

-- ---- to_text: the text of a word

unfoldable pub to_text_outcome : ℕ → List ℕ → Outcome (List ℕ)
to_text_outcome n bytes = unless (word_checks n bytes) (answer (spell (word_in n bytes)))

-- what a call hands back of the text: its letters counted, and the text with zeros after it
abbrev pub word_text : List ℕ → WordText
word_text text = record { letters = length text; text = text ++ replicate (max_sites - length text) 0 }

-- the text and zeros after it, or zeros alone on refusal
unfoldable pub to_text_bytes : ℕ → List ℕ → List ℕ
to_text_bytes n bytes =
    or_else (λ (text : List ℕ). text ++ replicate (max_sites - length text) 0) (replicate max_sites 0) (to_text_outcome n bytes)

-- ---- weight

unfoldable pub weight_outcome : ℕ → List ℕ → Outcome ℕ
weight_outcome n bytes = unless (word_checks n bytes) (answer (weight (word_in n bytes)))

-- ---- the letter that a byte of a text writes, as its two bits

abbrev pub letter_bits : ℕ → Option Site
letter_bits b = cond (is_letter b) (Some (record { x = x_bit (letter b); z = z_bit (letter b) })) None

-- ---- compare: how the first of two words stands to the second

unfoldable pub order_of_words : Word → Word → Ordering
order_of_words v w = cond (less v w) Less (cond (less w v) Greater Equal)

-- 1, then 15 of either word, then 36 of either, then 17 of either
abbrev pub compare_checks : ℕ → List ℕ → List ℕ → List Check
compare_checks n a b =
    site_count n ∷ word_size a ∷ word_size b ∷ old_size n a ∷ old_size n b ∷ bit_above n a ∷ bit_above n b ∷ []

unfoldable pub compare_outcome : ℕ → List ℕ → List ℕ → Outcome Ordering
compare_outcome n a b = unless (compare_checks n a b) (answer (order_of_words (word_in n a) (word_in n b)))

-- the order of two lists of bits
unfoldable pub order_of_bits : List Bool → List Bool → Ordering
order_of_bits a b = cond (less_bits a b) Less (cond (less_bits b a) Greater Equal)
