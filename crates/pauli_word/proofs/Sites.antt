-- Loops over the sites of a word: what one site more adds to its weight, to its text and to a list that is filled from the front.
use Prim.Native.Nat.{ℕ, suc, ◌+◌, ◌-◌, ◌≤◌, ◌<◌}
use mathlib.Core.Path.{◌≡◌, refl, sym, ap, ap₂, ◌∙◌}
use mathlib.Core.Bool.{Bool, false}
use mathlib.Core.List.{List, [], ◌∷◌, ◌++◌, append_assoc}
use native.Mathlib.Nat.{add-zero, zero-add, add_assoc, le_of_lt, lt_of_lt_of_le}
use native.Mathlib.Numerals.{add-one}
use native.Mathlib.Omega.{arith}
use lib.ListN.{length, get_or, set, take, drop, replicate, length-map}
use lib.Seq.{take-suc, take_all, set_at, length-take-le}
use Rattle.pauli_word.specs.Limits.{max_sites, plane_length}
use Rattle.pauli_word.specs.Word.{Letter, I, X, Y, Z, Word, letter_of, letter_weight, weight}
use Rattle.pauli_word.specs.Bytes.{plane_bits, AcceptedWord, letters_in}
use Rattle.pauli_word.specs.Text.{glyph, spell}
use Rattle.pauli_word.proofs.Words.{map-append, decode-length, decode-at}

-- the first q + 1 members are the first q and the next
pub take_next : {A : Type 0} (l : List A) (q : ℕ) (d : A) → q < length l → take (q + 1) l ≡ take q l ++ (get_or l q d ∷ [])
take_next l q d h = ap (λ (k : ℕ). take k l) (add-one q) ∙ take-suc l q d h

-- a list that is filled from the front, one store more
pub fill_next : {A : Type 0} (z : A) (n q : ℕ) (xs : List A) (b : A) → length xs ≡ q → q < n
    → set (xs ++ replicate (n - q) z) q b ≡ (xs ++ (b ∷ [])) ++ replicate (n - (q + 1)) z
fill_next z n q xs b e h =
    let k : n - q ≡ suc (n - (q + 1)) = omega arith in
    ap (λ (j : ℕ). set (xs ++ replicate j z) q b) k
    ∙ set_at xs z (replicate (n - (q + 1)) z) b q e
    ∙ sym (append_assoc xs (b ∷ []) (replicate (n - (q + 1)) z))

-- ---- weight

weight-append : (v w : Word) → weight (v ++ w) ≡ weight v + weight w
unfolding weight
weight-append [] w = sym (zero-add (weight w))
weight-append (a ∷ v) w = ap (λ (k : ℕ). letter_weight a + k) (weight-append v w) ∙ sym (add_assoc (letter_weight a) (weight v) (weight w))

weight-next : (w : Word) (q : ℕ) → q < length w → weight (take (q + 1) w) ≡ weight (take q w) + letter_weight (get_or w q I)
unfolding weight
weight-next w q h =
    ap weight (take_next w q I h) ∙ weight-append (take q w) (get_or w q I ∷ []) ∙ ap (λ (k : ℕ). weight (take q w) + k) (add-zero (letter_weight (get_or w q I)))

-- a letter counts if it is not written as an I
pub letter-counts : (a : Letter) → (glyph a ≡ glyph I → ⊥) → letter_weight a ≡ 1
letter-counts I h = absurd (h refl)
letter-counts X h = refl
letter-counts Y h = refl
letter-counts Z h = refl

pub letter-passed : (a : Letter) → glyph a ≡ glyph I → letter_weight a ≡ 0
letter-passed I e = refl
letter-passed X e = omega arith
letter-passed Y e = omega arith
letter-passed Z e = omega arith

pub letter_weight_small : (a : Letter) → letter_weight a ≤ 1
letter_weight_small I = omega arith
letter_weight_small X = omega arith
letter_weight_small Y = omega arith
letter_weight_small Z = omega arith

-- a weight is at most the number of sites
pub weight_small : (w : Word) → weight w ≤ length w
unfolding weight
weight_small [] = omega arith
weight_small (a ∷ w) = omega (arith, letter_weight_small a, weight_small w)

-- ---- the sites of an accepted word

module _ {n : ℕ} {bytes : List ℕ} (ok : AcceptedWord n bytes) (q : ℕ) (h : q < n) where
  site : q < length (letters_in n bytes)
  site = rw (decode-length ok) h

  -- the letter of site q from its two bits
  pub letter_at : (x z : Bool) → x ≡ get_or (plane_bits (take plane_length bytes)) q false → z ≡ get_or (plane_bits (drop plane_length bytes)) q false
      → letter_of x z ≡ get_or (letters_in n bytes) q I
  letter_at x z ex ez = ap₂ letter_of ex ez ∙ sym (decode-at ok q h)

  pub weigh-next : (x z : Bool) → x ≡ get_or (plane_bits (take plane_length bytes)) q false → z ≡ get_or (plane_bits (drop plane_length bytes)) q false
      → weight (take q (letters_in n bytes)) + letter_weight (letter_of x z) ≡ weight (take (q + 1) (letters_in n bytes))
  weigh-next x z ex ez =
      ap (λ (a : Letter). weight (take q (letters_in n bytes)) + letter_weight a) (letter_at x z ex ez)
      ∙ sym (weight-next (letters_in n bytes) q site)

  pub spell_next : (x z : Bool) → x ≡ get_or (plane_bits (take plane_length bytes)) q false → z ≡ get_or (plane_bits (drop plane_length bytes)) q false
      → set (spell (take q (letters_in n bytes)) ++ replicate (max_sites - q) 0) q (glyph (letter_of x z))
      ≡ spell (take (q + 1) (letters_in n bytes)) ++ replicate (max_sites - (q + 1)) 0
  spell_next x z ex ez =
      let w = letters_in n bytes in
      fill_next 0 max_sites q (spell (take q w)) (glyph (letter_of x z)) (length-map (take q w) glyph ∙ length-take-le q w (le_of_lt site)) (lt_of_lt_of_le h ok.sites)
      ∙ ap (λ (t : List ℕ). t ++ replicate (max_sites - (q + 1)) 0)
      (ap (λ (a : Letter). spell (take q w) ++ (glyph a ∷ [])) (letter_at x z ex ez)
      ∙ sym (map-append glyph (take q w) (get_or w q I ∷ []))
      ∙ ap spell (sym (take_next w q I site)))

-- after the last site
pub all_sites : {n : ℕ} {bytes : List ℕ} → AcceptedWord n bytes → (q : ℕ) → n ≤ q → take q (letters_in n bytes) ≡ letters_in n bytes
all_sites {n} {bytes} ok q h = take_all q (letters_in n bytes) (rw (decode-length ok) h)
