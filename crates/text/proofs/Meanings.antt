-- The definitions are what their names say: statements, with what shows them. The pieces of a text, with the byte between them, are the text, and no
-- piece has the byte; the fields are pieces; a number in decimal is read as that number, and its text is the only one that is; so are a
-- signed number's and a mode's; a text that is put into a list stands there, and the rest stays. What such laws leave open, as the base of the numbers,
-- examples settle.
use Prim.Native.Nat.{ℕ, suc, ◌+◌, ◌-◌, ◌^◌, ◌≤◌, ◌<◌}
use mathlib.Core.Path.{◌≡◌, refl, sym, ap, ap₂, subst, ◌∙◌}
use mathlib.Core.Bool.{Bool, true, false, ◌&&◌, not, cond, false≢true, and-eq-true_iff}
use mathlib.Core.List.{List, [], ◌∷◌, ◌++◌, map}
use native.Mathlib.Omega.{arith}
use lib.Dec.{eqb}
use lib.IntN.{ℤ, pos, negsuc, nat_abs}
use lib.ListN.{length, get_or, take, drop}
use lib.Seq.{length-take-le, take_at, drop_at, drop-drop, take-append_seam, drop-append_seam}
use borrow.Author.Tests.{eqb-true, eqb-false, ne_eqb, leb-true, le-leb, not-true}
use mir.Syntax.{w32}
use mir.Val.{SFits}
use Rattle.pauli_word.specs.Bytes.{byte_values}
use Rattle.action.specs.Lists.{from, below, select, count, every}
use Rattle.text.specs.Text.{line_end, space, minus, zero_digit, nine_digit, before, extended, pieces, is_digit, is_number, read_on, number_of, is_signed, signed_of, in_modes, is_mode, digits_of, wide_digits, decimal, put, parted, signed_text}
use Rattle.text.specs.Parts.{cap, clamped, signed_read, mode_read, field_from, four_fields, field_length, fields_read}
use Rattle.text.specs.Quoted.{bytes}
use Rattle.std.specs.Prelude.{Option, Some, None}
use Rattle.text.specs.declared.read.Field.TheVariants as Field
use Rattle.text.proofs.Pieces.{pieces-some, FourParts, four_parts}
use Rattle.text.proofs.Numbers.{value-signed, minus_first, plain_first, clamped-same, clamped_large, modes_fit_lem, fit_modes, modes_small}
use Rattle.text.proofs.Roundtrip.{digits_number, digits-is_number, number_digits, number_begins}

-- ---- bytes

pub byte_names : line_end ∷ space ∷ minus ∷ zero_digit ∷ nine_digit ∷ [] ≡ bytes "\n -09"
byte_names = refl

pub digit-bytes : select is_digit (below byte_values) ≡ bytes "0123456789"
unfolding select below from
digit-bytes = refl

-- ---- pieces

parted-extended : (c b : ℕ) (p : List ℕ) (ps : List (List ℕ)) → parted c ((b ∷ p) ∷ ps) ≡ b ∷ parted c (p ∷ ps)
parted-extended c b p [] = refl
parted-extended c b p (q ∷ ps) = refl

pub pieces-parted : (c : ℕ) (text : List ℕ) → parted c (pieces c text) ≡ text
unfolding pieces
pieces-parted c [] = refl
pieces-parted c (b ∷ bs) = go (eqb b c) refl (pieces-some c bs) (pieces-parted c bs)
  where
    go : (t : Bool) → eqb b c ≡ t → (p : List ℕ) × (ps : List (List ℕ)) × (pieces c bs ≡ p ∷ ps) → parted c (pieces c bs) ≡ bs
        → parted c (cond t ([] ∷ pieces c bs) (extended b (pieces c bs))) ≡ b ∷ bs
    go true t (p, ps, s) e =
        rw s (ap (λ (l : List ℕ). c ∷ l) (sym (ap (parted c) s) ∙ e) ∙ ap (λ (k : ℕ). k ∷ bs) (sym (eqb-true b c t)))
    go false t (p, ps, s) e = rw s (parted-extended c b p ps ∙ ap (λ (l : List ℕ). b ∷ l) (sym (ap (parted c) s) ∙ e))

pub pieces_whole : (c : ℕ) (text : List ℕ) → every (λ p. every (λ b. not (eqb b c)) p) (pieces c text) ≡ true
unfolding pieces every
pieces_whole c [] = refl
pieces_whole c (b ∷ bs) = go (eqb b c) refl (pieces-some c bs) (pieces_whole c bs)
  where
    go : (t : Bool) → eqb b c ≡ t → (p : List ℕ) × (ps : List (List ℕ)) × (pieces c bs ≡ p ∷ ps)
        → every (λ p. every (λ b. not (eqb b c)) p) (pieces c bs) ≡ true
        → every (λ p. every (λ b. not (eqb b c)) p) (cond t ([] ∷ pieces c bs) (extended b (pieces c bs))) ≡ true
    go true t s e = e
    go false t (p, ps, s) e = rw (s, t) (sym (ap (every (λ p. every (λ b. not (eqb b c)) p)) s) ∙ e)

pub pieces-count : (c : ℕ) (text : List ℕ) → length (pieces c text) ≡ suc (count (λ b. eqb b c) text)
unfolding pieces count
pieces-count c [] = refl
pieces-count c (b ∷ bs) = go (eqb b c) (pieces-some c bs) (pieces-count c bs)
  where
    go : (t : Bool) → (p : List ℕ) × (ps : List (List ℕ)) × (pieces c bs ≡ p ∷ ps) → length (pieces c bs) ≡ suc (count (λ b. eqb b c) bs)
        → length (cond t ([] ∷ pieces c bs) (extended b (pieces c bs))) ≡ suc (cond t 1 0 + count (λ b. eqb b c) bs)
    go true s e = omega arith
    go false (p, ps, s) e = ap (λ (l : List (List ℕ)). length (extended b l)) s ∙ omega (arith, ap length s)

pub first_before : (c : ℕ) (text : List ℕ) → get_or (pieces c text) 0 [] ≡ before c text
unfolding pieces before
first_before c [] = refl
first_before c (b ∷ bs) = go (eqb b c) (pieces-some c bs) (first_before c bs)
  where
    go : (t : Bool) → (p : List ℕ) × (ps : List (List ℕ)) × (pieces c bs ≡ p ∷ ps) → get_or (pieces c bs) 0 [] ≡ before c bs
        → get_or (cond t ([] ∷ pieces c bs) (extended b (pieces c bs))) 0 [] ≡ cond t [] (b ∷ before c bs)
    go true s e = refl
    go false (p, ps, s) e =
        ap (λ (l : List (List ℕ)). get_or (extended b l) 0 []) s
        ∙ ap (λ (l : List ℕ). b ∷ l) (sym (ap (λ (l : List (List ℕ)). get_or l 0 []) s) ∙ e)

-- ---- fields

-- where the four fields of a line end; `parts-read` is the converse
pub fields_parts : (line : List ℕ) (a b c : ℕ) → fields_read line ≡ Some (a, b, c) → FourParts line a b c
fields_parts line a b c e = go (four_fields line) refl e
  where
    x : ℕ
    x = field_length line 0

    y : ℕ
    y = x + 1 + field_length line 1

    z : ℕ
    z = y + 1 + field_length line 2

    go : (t : Bool) → four_fields line ≡ t → cond {A = Option (ℕ × ℕ × ℕ)} t (Some (x, y, z)) None ≡ Some (a, b, c) → FourParts line a b c
    go true t e =
        let same : ◌≡◌ {A = ℕ × ℕ × ℕ} (x, y, z) (a, b, c) = cc in
        subst (λ (p : ℕ × ℕ × ℕ). FourParts line p.0 p.1 p.2) same (four_parts line t)
    go false t e = let w : ◌≡◌ {A = ℕ} 0 1 = cc in absurd (omega arith)

pub fields-examples :
    map fields_read (bytes "ab c def g" ∷ bytes "ab c def" ∷ bytes "ab c def g h" ∷ bytes "ab  def g" ∷ bytes "ab c def " ∷ [])
    ≡ Some (2, 4, 8) ∷ None ∷ None ∷ None ∷ None ∷ []
unfolding four_fields pieces every
fields-examples = refl

pub field-examples :
    map (field_from (bytes "ab c  d")) (0 ∷ 1 ∷ 3 ∷ 5 ∷ 6 ∷ 7 ∷ [])
    ≡ Field.Ends 2 ∷ Field.Ends 2 ∷ Field.Ends 4 ∷ Field.Empty ∷ Field.Last ∷ Field.Empty ∷ []
unfolding before
field-examples = refl

-- ---- numbers; `Roundtrip` has these laws for any number of digits

module _ (n : ℕ) (small : n < 10 ^ wide_digits) where
  pub decimal-number : number_of (decimal n) ≡ n
  unfolding decimal
  decimal-number = digits_number (wide_digits - 1) n small

  pub decimal-is_number : is_number (decimal n) ≡ true
  unfolding decimal
  decimal-is_number = digits-is_number (wide_digits - 1) n small

pub number-decimal : (t : List ℕ) → is_number t ≡ true → number_of t < 10 ^ wide_digits → decimal (number_of t) ≡ t
unfolding decimal
number-decimal t h small = number_digits (wide_digits - 1) t h small

pub decimal-examples :
    map decimal (0 ∷ 9 ∷ 10 ∷ 907 ∷ (2 ^ 64 - 1) ∷ [])
    ≡ bytes "0" ∷ bytes "9" ∷ bytes "10" ∷ bytes "907" ∷ bytes "18446744073709551615" ∷ []
unfolding decimal digits_of
decimal-examples = refl

-- ---- signed numbers

pub signed_text_lem : (z : ℤ) → nat_abs z < 10 ^ wide_digits → (is_signed (signed_text z) ≡ true) × (signed_of (signed_text z) ≡ z)
signed_text_lem (pos n) wide =
    let is = decimal-is_number n wide in
    let (some, other) = number_begins (decimal n) is in
    let (test, value) = plain_first (decimal n) other some in
    (test ∙ is, value ∙ ap pos (decimal-number n wide))
signed_text_lem (negsuc n) wide =
    let same = decimal-number (suc n) wide in
    let (test, value) = minus_first (minus ∷ decimal (suc n)) (omega arith) refl in
    let some : number_of (decimal (suc n)) ≡ 0 → ⊥ = λ e. omega (arith, same) in
    let e : number_of (decimal (suc n)) - 1 ≡ n = omega (arith, same) in
    (test ∙ simp (decimal-is_number (suc n) wide, ne_eqb (number_of (decimal (suc n))) 0 some), value ∙ ap negsuc e)

pub text_signed : (t : List ℕ) → is_signed t ≡ true → nat_abs (signed_of t) < 10 ^ wide_digits → signed_text (signed_of t) ≡ t
unfolding is_signed signed_of
text_signed [] h wide = absurd (false≢true h)
text_signed (b ∷ bs) h wide = go (eqb b minus) refl h wide
  where
    go : (t : Bool) → eqb b minus ≡ t → cond t (is_number bs && not (eqb (number_of bs) 0)) (is_number (b ∷ bs)) ≡ true
        → nat_abs (cond t (negsuc (number_of bs - 1)) (pos (number_of (b ∷ bs)))) < 10 ^ wide_digits
        → signed_text (cond t (negsuc (number_of bs - 1)) (pos (number_of (b ∷ bs)))) ≡ b ∷ bs
    go true e k small =
        let (is, some) = (and-eq-true_iff (is_number bs) (not (eqb (number_of bs) 0))).0 k in
        let other = eqb-false (number_of bs) 0 (not-true (eqb (number_of bs) 0) some) in
        let one : suc (number_of bs - 1) ≡ number_of bs = omega arith in
        ap₂ ◌∷◌ (sym (eqb-true b minus e)) (ap decimal one ∙ number-decimal bs is (omega arith))
    go false e k small = number-decimal (b ∷ bs) k small

-- up to the cap, and below it
pub signed_read_lem : (z : ℤ) → nat_abs z ≤ cap → signed_read (signed_text z) ≡ Some z
signed_read_lem z near = let (is, value) = signed_text_lem z (omega arith) in rw (is, value) (ap Some (clamped-same z near))

pub read_signed_lem : (t : List ℕ) (z : ℤ) → signed_read t ≡ Some z → nat_abs z < cap → signed_text z ≡ t
read_signed_lem t z e near =
    let (is, same) = value-signed t z e in
    let small = le-leb (nat_abs (clamped (signed_of t))) (cap - 1) (omega (arith, ap nat_abs same)) in
    let low = leb-true (nat_abs (signed_of t)) (cap - 1) (sym (clamped_large (cap - 1) (omega arith) (signed_of t)) ∙ small) in
    ap signed_text (same ∙ clamped-same (signed_of t) (omega arith)) ∙ text_signed t is (omega arith)

-- a number of 30 digits, more than any number of 64 bits has
abbrev long_number : List ℕ
long_number = bytes "123456789012345678901234567890"

pub signed_examples :
    (map is_signed (bytes "0" ∷ bytes "-1" ∷ bytes "12" ∷ long_number ∷ []) ≡ true ∷ true ∷ true ∷ true ∷ [])
    × (map is_signed (bytes "-0" ∷ bytes "01" ∷ bytes "-01" ∷ bytes "" ∷ bytes "-" ∷ bytes "+1" ∷ bytes "--1" ∷ bytes "1 " ∷ [])
    ≡ false ∷ false ∷ false ∷ false ∷ false ∷ false ∷ false ∷ false ∷ [])
    × (map signed_of (bytes "0" ∷ bytes "-1" ∷ bytes "12" ∷ bytes "-907" ∷ long_number ∷ [])
    ≡ pos 0 ∷ negsuc 0 ∷ pos 12 ∷ negsuc 906 ∷ pos 123456789012345678901234567890 ∷ [])
unfolding is_signed signed_of is_number number_of read_on every
signed_examples = (refl, refl, refl)

-- ---- modes

pub mode_text : (z : ℤ) → SFits w32 z → (is_mode (signed_text z) ≡ true) × (signed_of (signed_text z) ≡ z)
unfolding is_mode
mode_text z fits =
    let within = fit_modes z fits in
    let (is, value) = signed_text_lem z (omega (arith, modes_small z within)) in
    (simp (is, value, within), value)

pub text_mode : (t : List ℕ) → is_mode t ≡ true → SFits w32 (signed_of t) × (signed_text (signed_of t) ≡ t)
unfolding is_mode
text_mode t h =
    let (is, within) = (and-eq-true_iff (is_signed t) (in_modes (signed_of t))).0 h in
    (modes_fit_lem (signed_of t) within, text_signed t is (omega (arith, modes_small (signed_of t) within)))

pub mode_read_lem : (z : ℤ) → SFits w32 z → mode_read (signed_text z) ≡ Some z
mode_read_lem z fits = let (is, value) = mode_text z fits in rw is (ap Some value)

pub read_mode_lem : (t : List ℕ) (z : ℤ) → mode_read t ≡ Some z → SFits w32 z × (signed_text z ≡ t)
read_mode_lem t z e = go (is_mode t) refl e
  where
    go : (b : Bool) → is_mode t ≡ b → cond b (Some (signed_of t)) None ≡ Some z → SFits w32 z × (signed_text z ≡ t)
    go true is e = let same : z ≡ signed_of t = cc in rw same (text_mode t is)
    go false is e = let w : ◌≡◌ {A = ℕ} 0 1 = cc in absurd (omega arith)

-- ---- a text put into a list where there is room for it; `put-length` says that the list keeps its length

module _ (at : ℕ) (text list : List ℕ) (room : at + length text ≤ length list) where
  long : length (take at list) ≡ at
  long = length-take-le at list (omega arith)

  from_place : drop at (put at text list) ≡ text ++ drop (at + length text) list
  unfolding put
  from_place = drop_at (take at list) (text ++ drop (at + length text) list) at long

  pub put-before : take at (put at text list) ≡ take at list
  unfolding put
  put-before = take_at (take at list) (text ++ drop (at + length text) list) at long

  pub put-text : take (length text) (drop at (put at text list)) ≡ text
  put-text = rw from_place (take-append_seam text (drop (at + length text) list))

  pub put-after : drop (at + length text) (put at text list) ≡ drop (at + length text) list
  put-after =
      sym (drop-drop (length text) at (put at text list))
      ∙ ap (drop (length text)) from_place
      ∙ drop-append_seam text (drop (at + length text) list)
