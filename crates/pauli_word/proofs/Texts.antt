-- Text words: words and texts go into each other without loss, and what a text that is read letter by letter comes to.
use Rattle.pauli_word.specs.declared.inner.Site.{Site}
use Rattle.std.specs.Prelude.{Option, Some, None}
use Prim.Native.Nat.{ℕ, zero, suc, ◌+◌, ◌≤◌, ◌<◌}
use mathlib.Core.Path.{◌≡◌, refl, sym, ap, ap₂, subst, ◌∙◌}
use mathlib.Core.Bool.{Bool, true, false, ◌&&◌, cond, false≢true, and-eq-true_iff}
use mathlib.Core.List.{List, [], ◌∷◌, ◌++◌}
use native.Mathlib.Nat.{le_of_suc-le-suc, not-suc-le-zero, le_of_lt, lt_of_lt_of_le}
use native.Mathlib.Omega.{arith}
use lib.Dec.{eqb}
use lib.ListN.{length, get_or, take, length-map}
use lib.Seq.{length-take-le, take_all}
use borrow.Author.Tests.{ne_eqb, eqb-true, lt-ltb, le-ltb}
use Rattle.pauli_word.specs.Limits.{max_sites, plane_length}
use Rattle.outcome.specs.declared.Refusal.TheVariants as Refusal
use Rattle.outcome.specs.Outcome.{answer, refusal_of}
use Rattle.pauli_word.specs.Word.{Letter, I, X, Y, Z, Word, x_bit, z_bit}
use Rattle.pauli_word.specs.Bytes.{with_site, bytes_of}
use Rattle.pauli_word.specs.Text.{glyph, is_letter, letter, letters_alone, first_other, read_text, spell}
use Rattle.pauli_word.specs.Calls.{letter_bits, from_text_outcome}
use Rattle.pauli_word.proofs.Words.{map-append, encode-next}
use Rattle.pauli_word.proofs.Sites.{take_next}

-- ---- letters and their bytes

letter-glyph : (a : Letter) → letter (glyph a) ≡ a
letter-glyph I = refl
letter-glyph X = refl
letter-glyph Y = refl
letter-glyph Z = refl

glyph-is_letter : (a : Letter) → is_letter (glyph a) ≡ true
glyph-is_letter I = refl
glyph-is_letter X = refl
glyph-is_letter Y = refl
glyph-is_letter Z = refl

-- a text that is written from a word is read as that word
pub read_text-spell : (w : Word) → read_text (spell w) ≡ w
read_text-spell [] = refl
read_text-spell (a ∷ w) = ap₂ ◌∷◌ (letter-glyph a) (read_text-spell w)

pub spell-letters_alone : (w : Word) → letters_alone (spell w) ≡ true
unfolding letters_alone
spell-letters_alone [] = refl
spell-letters_alone (a ∷ w) = ap₂ ◌&&◌ (glyph-is_letter a) (spell-letters_alone w)

glyph-letter : (b : ℕ) → is_letter b ≡ true → glyph (letter b) ≡ b
glyph-letter b h = go (eqb b 73) (eqb b 88) (eqb b 89) (eqb b 90) refl refl refl refl
  where
    go : (i x y z : Bool) → eqb b 73 ≡ i → eqb b 88 ≡ x → eqb b 89 ≡ y → eqb b 90 ≡ z → glyph (letter b) ≡ b
    go i true y z ei ex ey ez = sym (simp (ex) (eqb-true b 88 ex))
    go i false true z ei ex ey ez = sym (simp (ex, ey) (eqb-true b 89 ey))
    go i false false true ei ex ey ez = sym (simp (ex, ey, ez) (eqb-true b 90 ez))
    go true false false false ei ex ey ez = sym (simp (ex, ey, ez) (eqb-true b 73 ei))
    go false false false false ei ex ey ez = absurd (false≢true (sym (simp (ei, ex, ey, ez)) ∙ h))

-- a text of letters is written again from its word
pub spell-read_text : (text : List ℕ) → letters_alone text ≡ true → spell (read_text text) ≡ text
unfolding letters_alone
spell-read_text [] h = refl
spell-read_text (b ∷ text) h =
    let p = (and-eq-true_iff (is_letter b) (letters_alone text)).0 h in
    ap₂ ◌∷◌ (glyph-letter b p.0) (spell-read_text text p.1)

-- ---- what `read` tells of a byte

-- a byte other than the four writes no letter
pub no_letter : (b : ℕ) → (b ≡ 73 → ⊥) → (b ≡ 88 → ⊥) → (b ≡ 89 → ⊥) → (b ≡ 90 → ⊥) → letter_bits b ≡ None
no_letter b i x y z = simp (ne_eqb b 73 i, ne_eqb b 88 x, ne_eqb b 89 y, ne_eqb b 90 z)

-- the letter that a byte writes, as it is read
abbrev told : ℕ → Option Site
told b = Some (record { x = x_bit (letter b); z = z_bit (letter b) })

never : (s : Site) → Some s ≡ None → ⊥
never s e = let n : ◌≡◌ {A = ℕ} 0 1 = cc in omega arith

pub bits-letter : (b : ℕ) (s : Site) → letter_bits b ≡ Some s → (is_letter b ≡ true) × (s.x ≡ x_bit (letter b)) × (s.z ≡ z_bit (letter b))
bits-letter b s = go (is_letter b)
  where
    go : (t : Bool) → cond t (told b) None ≡ Some s → (t ≡ true) × (s.x ≡ x_bit (letter b)) × (s.z ≡ z_bit (letter b))
    go true e = (refl, cc, cc)
    go false e = absurd (never s (sym e))

pub other-letter : (b : ℕ) → letter_bits b ≡ None → is_letter b ≡ false
other-letter b = go (is_letter b)
  where
    go : (t : Bool) → cond t (told b) None ≡ None → t ≡ false
    go true e = absurd (never _ e)
    go false e = refl

-- ---- what reading a text comes to

alone-append : (xs ys : List ℕ) → letters_alone (xs ++ ys) ≡ (letters_alone xs && letters_alone ys)
unfolding letters_alone
alone-append [] ys = refl
alone-append (x ∷ xs) ys = ap (λ (t : Bool). is_letter x && t) (alone-append xs ys) ∙ assoc (is_letter x) (letters_alone xs) (letters_alone ys)
  where
    assoc : (a b c : Bool) → a && (b && c) ≡ (a && b && c)
    assoc true b c = refl
    assoc false b c = refl

and_true : (b : Bool) → (b && true) ≡ b
and_true true = refl
and_true false = refl

module _ (text : List ℕ) where
  pub too_long : max_sites < length text → from_text_outcome text ≡ refusal_of Refusal.TooManyLetters
  unfolding from_text_outcome
  too_long h = simp (lt-ltb max_sites (length text) h)

  pub no_other : length text ≤ max_sites → letters_alone text ≡ true → from_text_outcome text ≡ answer (read_text text)
  unfolding from_text_outcome
  no_other h e = simp (le-ltb max_sites (length text) h, e)

  some-other : length text ≤ max_sites → letters_alone text ≡ false → from_text_outcome text ≡ refusal_of (Refusal.NotALetter (first_other text))
  unfolding from_text_outcome
  some-other h e = simp (le-ltb max_sites (length text) h, e)

-- the first byte that writes no letter, after letters alone
other_at : (text : List ℕ) (i : ℕ) → i < length text → letters_alone (take i text) ≡ true → is_letter (get_or text i 0) ≡ false
    → (letters_alone text ≡ false) × (first_other text ≡ i)
unfolding letters_alone first_other
other_at [] i h e f = absurd (not-suc-le-zero h)
other_at (b ∷ text) zero h e f = (ap (λ (t : Bool). t && letters_alone text) f, ap (λ (t : Bool). cond t (suc (first_other text)) 0) f)
other_at (b ∷ text) (suc i) h e f =
    let p = (and-eq-true_iff (is_letter b) (letters_alone (take i text))).0 e in
    let r = other_at text i (le_of_suc-le-suc h) p.1 f in
    (ap (λ (t : Bool). is_letter b && t) r.0 ∙ ap (λ (t : Bool). t && false) p.0, ap (λ (t : Bool). cond t (suc (first_other text)) 0) p.0 ∙ ap suc r.1)

pub first_other_lem : (text : List ℕ) (i : ℕ) → length text ≤ max_sites → i < length text → letters_alone (take i text) ≡ true → is_letter (get_or text i 0) ≡ false
    → from_text_outcome text ≡ refusal_of (Refusal.NotALetter i)
first_other_lem text i l h e f =
    let r = other_at text i h e f in
    some-other text l r.0 ∙ ap (λ (k : ℕ). refusal_of (Refusal.NotALetter k)) r.1

-- one letter more
module _ (text : List ℕ) (i : ℕ) (h : i < length text) where
  pub alone-next : letters_alone (take i text) ≡ true → is_letter (get_or text i 0) ≡ true → letters_alone (take (i + 1) text) ≡ true
  unfolding letters_alone
  alone-next e f =
      ap letters_alone (take_next text i 0 h)
      ∙ alone-append (take i text) (get_or text i 0 ∷ [])
      ∙ ap₂ ◌&&◌ e (and_true (is_letter (get_or text i 0)) ∙ f)

  pub text-next : length text ≤ max_sites
      → with_site plane_length (bytes_of (read_text (take i text))) i (x_bit (letter (get_or text i 0))) (z_bit (letter (get_or text i 0)))
      ≡ bytes_of (read_text (take (i + 1) text))
  text-next l =
      let w = read_text (take i text) in
      let a = letter (get_or text i 0) in
      let e : length w ≡ i = length-map (take i text) letter ∙ length-take-le i text (le_of_lt h) in
      ap (λ (k : ℕ). with_site plane_length (bytes_of w) k (x_bit a) (z_bit a)) (sym e)
      ∙ encode-next plane_length w a (subst (λ (k : ℕ). k < max_sites) (sym e) (lt_of_lt_of_le h l))
      ∙ ap bytes_of (sym (map-append letter (take i text) (get_or text i 0 ∷ [])) ∙ ap read_text (sym (take_next text i 0 h)))

pub all_text : (text : List ℕ) (i : ℕ) → length text ≤ i → take i text ≡ text
all_text text i h = take_all i text h
