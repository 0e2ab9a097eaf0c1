-- Texts that are the same, the first piece of a text, all its pieces, pieces put together, and the fields of a line.
-- What carries it: a text is its first piece alone, or its first piece, a byte that parts, and the pieces of the rest (`pieces-last`, `pieces-next`).
use Prim.Native.Nat.{ℕ, suc, ◌+◌, ◌-◌, ◌≤◌, ◌<◌}
use mathlib.Core.Path.{◌≡◌, refl, sym, ap, subst, ◌∙◌}
use mathlib.Core.Logic.{◌⊎◌, inl, inr}
use mathlib.Core.Bool.{Bool, true, false, ◌&&◌, not, cond, false≢true, and-eq-true_iff, and-false}
use mathlib.Core.List.{List, [], ◌∷◌, ◌++◌, append-nil}
use native.Mathlib.Nat.{eq-or-lt_of_le, le_of_suc-le-suc}
use native.Mathlib.Numerals.{add-one}
use native.Mathlib.Omega.{arith}
use lib.Dec.{eqb, eqb-suc-suc, ltb}
use lib.ListN.{length, get_or, take, drop, length-drop, drop_of_length-le}
use lib.Seq.{drop-cons, drop-drop, take_all, length-take-le}
use borrow.Author.Tests.{eqb-true, eqb-false, eq-eqb, ne_eqb, ltb-false, not-true}
use Rattle.pauli_word.proofs.Words.{rest_part}
use Rattle.action.specs.Lists.{same_numbers, every}
use Rattle.action.proofs.Lists.{same_numbers_eq}
use Rattle.text.specs.Text.{space, before, extended, pieces, parted}
use Rattle.text.specs.Parts.{four_fields, field_length, field_from, fields_read}
use Rattle.text.specs.declared.read.Field.{Field}
use Rattle.text.specs.declared.read.Field.TheVariants as Field
use lib.Pointwise.{pointwise}
use Rattle.std.specs.List.{position_or_len}
use Rattle.std.specs.Option.{unwrap_or}
use Rattle.std.proofs.lemmas.List.Recursion.{is_position_or_len}
use Rattle.std.specs.Prelude.{Option, Some, None}

-- ---- texts that are the same

pub pointwise_same : (xs ys : List ℕ) → pointwise eqb xs ys ≡ same_numbers xs ys
unfolding same_numbers
pointwise_same [] [] = refl
pointwise_same [] (y ∷ ys) = refl
pointwise_same (x ∷ xs) [] = refl
pointwise_same (x ∷ xs) (y ∷ ys) = ap (λ (t : Bool). eqb x y && t) (pointwise_same xs ys)

-- ---- the bytes before the first c

module _ (c b : ℕ) (bs : List ℕ) where
  before-found : eqb b c ≡ true → before c (b ∷ bs) ≡ []
  unfolding before
  before-found e = simp e

  before-other : eqb b c ≡ false → before c (b ∷ bs) ≡ b ∷ before c bs
  unfolding before
  before-other e = simp e

  pieces-found : eqb b c ≡ true → pieces c (b ∷ bs) ≡ [] ∷ pieces c bs
  unfolding pieces
  pieces-found e = simp e

  pieces-other : eqb b c ≡ false → pieces c (b ∷ bs) ≡ extended b (pieces c bs)
  unfolding pieces
  pieces-other e = simp e

pub before_short : (c : ℕ) (text : List ℕ) → length (before c text) ≤ length text
unfolding before
before_short c [] = omega arith
before_short c (b ∷ bs) = go (eqb b c) (before_short c bs)
  where
    go : (t : Bool) → length (before c bs) ≤ length bs → length (cond t [] (b ∷ before c bs)) ≤ suc (length bs)
    go true h = omega arith
    go false h = omega arith

-- they end where the first c stands, or with the text
before_position : (c : ℕ) (text : List ℕ) → length (before c text) ≡ position_or_len (λ b. eqb b c) text
unfolding before
before_position c text = is_position_or_len (λ bs. length (before c bs)) (λ b. eqb b c) refl (λ b bs. go b bs (eqb b c)) text
  where
    go : (b : ℕ) (bs : List ℕ) (t : Bool) → length (cond t [] (b ∷ before c bs)) ≡ cond t 0 (1 + length (before c bs))
    go b bs true = refl
    go b bs false = omega arith

pub position_before : (c : ℕ) (text : List ℕ) (o : Option ℕ)
    → (let k = position_or_len (λ b. eqb b c) text in o ≡ cond (ltb k (length text)) (Some k) None)
    → unwrap_or o (length text) ≡ length (before c text)
position_before c text o e =
    let k = position_or_len (λ b. eqb b c) text in
    ap (λ (o : Option ℕ). unwrap_or o (length text)) e ∙ go (ltb k (length text)) refl
  where
    go : (let k = position_or_len (λ b. eqb b c) text in (t : Bool) → ltb k (length text) ≡ t
        → unwrap_or (cond t (Some k) None) (length text) ≡ length (before c text))
    go true t = sym (before_position c text)
    go false t = omega (arith, ltb-false (position_or_len (λ b. eqb b c) text) (length text) t, before_position c text, before_short c text)

-- ---- the pieces

last_step : (c b : ℕ) (bs : List ℕ) (t : Bool) → eqb b c ≡ t → (length (before c bs) ≡ length bs → pieces c bs ≡ bs ∷ [])
    → length (before c (b ∷ bs)) ≡ suc (length bs) → pieces c (b ∷ bs) ≡ (b ∷ bs) ∷ []
last_step c b bs true e r h =
    let z : 0 ≡ suc (length bs) = sym (ap length (before-found c b bs e)) ∙ h in
    absurd (omega arith)
last_step c b bs false e r h =
    let z : suc (length (before c bs)) ≡ suc (length bs) = sym (ap length (before-other c b bs e)) ∙ h in
    pieces-other c b bs e ∙ ap (extended b) (r (omega arith))

pub pieces_last : (c : ℕ) (text : List ℕ) → length (before c text) ≡ length text → pieces c text ≡ text ∷ []
unfolding pieces
pieces_last c [] h = refl
pieces_last c (b ∷ bs) h = last_step c b bs (eqb b c) refl (λ k. pieces_last c bs k) h

-- the text starts with a piece of k bytes and a byte that parts
abbrev Parted : ℕ → ℕ → List ℕ → Type 0
Parted c k text = k < length text → pieces c text ≡ take k text ∷ pieces c (drop (suc k) text)

parted_step : (c b : ℕ) (bs : List ℕ) (t : Bool) → eqb b c ≡ t → Parted c (length (before c bs)) bs → Parted c (length (before c (b ∷ bs))) (b ∷ bs)
parted_step c b bs true e r =
    subst (λ (p : List ℕ). Parted c (length p) (b ∷ bs)) (sym (before-found c b bs e)) (λ h. pieces-found c b bs e)
parted_step c b bs false e r =
    subst (λ (p : List ℕ). Parted c (length p) (b ∷ bs)) (sym (before-other c b bs e))
    (λ h. pieces-other c b bs e ∙ ap (extended b) (r (le_of_suc-le-suc h)))

parted-before : (c : ℕ) (text : List ℕ) → Parted c (length (before c text)) text
parted-before c [] = λ h. absurd (omega arith)
parted-before c (b ∷ bs) = parted_step c b bs (eqb b c) refl (parted-before c bs)

pub pieces-next : (c : ℕ) (text : List ℕ) (k : ℕ) → k ≡ length (before c text) → k < length text
    → pieces c text ≡ take k text ∷ pieces c (drop (k + 1) text)
pieces-next c text k e h =
    subst (λ (j : ℕ). Parted c j text) (sym e) (parted-before c text) h
    ∙ ap (λ (j : ℕ). take k text ∷ pieces c (drop j text)) (sym (add-one k))

pub pieces-some : (c : ℕ) (text : List ℕ) → (p : List ℕ) × (ps : List (List ℕ)) × (pieces c text ≡ p ∷ ps)
pieces-some c text = go (eq-or-lt_of_le (before_short c text))
  where
    go : (length (before c text) ≡ length text) ⊎ (length (before c text) < length text) → (p : List ℕ) × (ps : List (List ℕ)) × (pieces c text ≡ p ∷ ps)
    go (inl e) = (text, [], pieces_last c text e)
    go (inr h) = (take (length (before c text)) text, pieces c (drop (length (before c text) + 1) text), pieces-next c text _ refl h)

-- the first of several pieces, and those of the rest
pieces_first : (c : ℕ) (text p q : List ℕ) (ps : List (List ℕ)) → pieces c text ≡ p ∷ q ∷ ps
    → (length p < length text) × (take (length p) text ≡ p) × (pieces c (drop (length p + 1) text) ≡ q ∷ ps)
pieces_first c text p q ps e = go (length (before c text)) refl (eq-or-lt_of_le (before_short c text))
  where
    go : (k : ℕ) → k ≡ length (before c text) → (k ≡ length text) ⊎ (k < length text)
        → (length p < length text) × (take (length p) text ≡ p) × (pieces c (drop (length p + 1) text) ≡ q ∷ ps)
    go k b (inl h) =
        let f : text ∷ [] ≡ p ∷ q ∷ ps = sym (pieces_last c text (sym b ∙ h)) ∙ e in
        let z : ◌≡◌ {A = ℕ} 1 (suc (suc (length ps))) = ap length f in
        absurd (omega arith)
    go k b (inr h) =
        let f : take k text ∷ pieces c (drop (k + 1) text) ≡ p ∷ q ∷ ps = sym (pieces-next c text k b h) ∙ e in
        let t : take k text ≡ p = cc in
        let r : pieces c (drop (k + 1) text) ≡ q ∷ ps = cc in
        let l : length p ≡ k = sym (ap length t) ∙ length-take-le k text (omega arith) in
        (omega arith, ap (λ (j : ℕ). take j text) l ∙ t, ap (λ (j : ℕ). pieces c (drop (j + 1) text)) l ∙ r)

-- a piece that stands alone
pieces_only : (c : ℕ) (text p : List ℕ) → pieces c text ≡ p ∷ [] → p ≡ text
pieces_only c text p e = go (eq-or-lt_of_le (before_short c text))
  where
    go : (length (before c text) ≡ length text) ⊎ (length (before c text) < length text) → p ≡ text
    go (inl h) = let f : text ∷ [] ≡ p ∷ [] = sym (pieces_last c text h) ∙ e in cc
    go (inr h) =
        let k = length (before c text) in
        let s = pieces-some c (drop (k + 1) text) in
        let f : take k text ∷ s.0 ∷ s.1 ≡ p ∷ [] = ap (λ (ps : List (List ℕ)). take k text ∷ ps) (sym s.2) ∙ sym (pieces-next c text k refl h) ∙ e in
        let z : ◌≡◌ {A = ℕ} (suc (suc (length s.1))) 1 = ap length f in
        absurd (omega arith)

-- a piece in front of a text that begins with the end of it
pieces-front : (c : ℕ) (p rest : List ℕ) (ps : List (List ℕ)) → every (λ b. not (eqb b c)) p ≡ true → pieces c rest ≡ [] ∷ ps
    → pieces c (p ++ rest) ≡ p ∷ ps
unfolding every
pieces-front c [] rest ps h e = e
pieces-front c (b ∷ bs) rest ps h e =
    let (other, others) = (and-eq-true_iff (not (eqb b c)) (every (λ b. not (eqb b c)) bs)).0 h in
    pieces-other c b (bs ++ rest) (not-true (eqb b c) other) ∙ ap (extended b) (pieces-front c bs rest ps others e)

-- pieces that do not have the byte, with it between them
pub parted-pieces : (c : ℕ) (p : List ℕ) (ps : List (List ℕ)) → every (λ q. every (λ b. not (eqb b c)) q) (p ∷ ps) ≡ true
    → pieces c (parted c (p ∷ ps)) ≡ p ∷ ps
unfolding every pieces
parted-pieces c p [] h =
    ap (pieces c) (sym (append-nil p)) ∙ pieces-front c p [] [] ((and-eq-true_iff (every (λ b. not (eqb b c)) p) true).0 h).0 refl
parted-pieces c p (q ∷ ps) h =
    let (first, others) = (and-eq-true_iff (every (λ b. not (eqb b c)) p) (every (λ q. every (λ b. not (eqb b c)) q) (q ∷ ps))).0 h in
    let rest : List ℕ = parted c (q ∷ ps) in
    pieces-front c p (c ∷ rest) (q ∷ ps) first
    (pieces-found c c rest (eq-eqb c c refl) ∙ ap (λ (l : List (List ℕ)). [] ∷ l) (parted-pieces c q ps others))

-- ---- the four fields of a line

abbrev non_empty : List ℕ → Bool
non_empty f = not (eqb (length f) 0)

non_empty_true : (f : List ℕ) → non_empty f ≡ true → 0 < length f
non_empty_true f h = let n = eqb-false (length f) 0 (not-true (eqb (length f) 0) h) in omega arith

true_non_empty : (f : List ℕ) → 0 < length f → non_empty f ≡ true
true_non_empty f h = let n : length f ≡ 0 → ⊥ = λ e. omega arith in simp (ne_eqb (length f) 0 n)

all_non_empty : (p q r s : List ℕ) → 0 < length p → 0 < length q → 0 < length r → 0 < length s → every non_empty (p ∷ q ∷ r ∷ s ∷ []) ≡ true
unfolding every
all_non_empty p q r s hp hq hr hs = simp (true_non_empty p hp, true_non_empty q hq, true_non_empty r hr, true_non_empty s hs)

drop_two : (line : List ℕ) (m n k : ℕ) → n + m ≡ k → drop m (drop n line) ≡ drop k line
drop_two line m n k e = drop-drop m n line ∙ ap (λ (j : ℕ). drop j line) e

-- the bytes from one place up to another: what `&line[from..to]` denotes
abbrev pub part : ℕ → ℕ → List ℕ → List ℕ
part start end line = take (end - start) (drop start line)

-- the first three end at a, b and c
pub record FourParts (line : List ℕ) (a b c : ℕ) : Type 0 where
  pub first : 0 < a
  pub second : a + 1 < b
  pub third : b + 1 < c
  pub fourth : c + 1 < length line
  pub parts :
      pieces space line
      ≡ take a line ∷ part (a + 1) b line ∷ part (b + 1) c line ∷ part (c + 1) (length line) line ∷ []

module _ (line : List ℕ) (a b c : ℕ) (four : FourParts line a b c) where
  part-first : length (take a line) ≡ a
  part-first = length-take-le a line (omega arith)

  part-second : length (part (a + 1) b line) ≡ b - (a + 1)
  part-second = length-take-le (b - (a + 1)) (drop (a + 1) line) (simp length-drop (omega arith))

  part-third : length (part (b + 1) c line) ≡ c - (b + 1)
  part-third = length-take-le (c - (b + 1)) (drop (b + 1) line) (simp length-drop (omega arith))

  part-fourth : length (part (c + 1) (length line) line) ≡ length line - (c + 1)
  part-fourth = length-take-le (length line - (c + 1)) (drop (c + 1) line) (simp length-drop (omega arith))

  parts-some :
      (0 < length (take a line)) × (0 < length (part (a + 1) b line)) × (0 < length (part (b + 1) c line))
      × (0 < length (part (c + 1) (length line) line))
  parts-some = (omega (arith, part-first), omega (arith, part-second), omega (arith, part-third), omega (arith, part-fourth))

  pub parts-four : four_fields line ≡ true
  unfolding four_fields every
  parts-four =
      let (p, q, r, s) = parts-some in
      ap (λ (ps : List (List ℕ)). eqb (length ps) 4 && every non_empty ps) four.parts
      ∙ all_non_empty (take a line) (part (a + 1) b line) (part (b + 1) c line) (part (c + 1) (length line) line) p q r s

  pub parts-read : fields_read line ≡ Some (a, b, c)
  parts-read =
      let x : field_length line 0 ≡ a = ap (λ (ps : List (List ℕ)). length (get_or ps 0 [])) four.parts ∙ part-first in
      let g : field_length line 1 ≡ b - (a + 1) = ap (λ (ps : List (List ℕ)). length (get_or ps 1 [])) four.parts ∙ part-second in
      let h : field_length line 2 ≡ c - (b + 1) = ap (λ (ps : List (List ℕ)). length (get_or ps 2 [])) four.parts ∙ part-third in
      let y : field_length line 0 + 1 + field_length line 1 ≡ b = omega arith in
      let z : field_length line 0 + 1 + field_length line 1 + 1 + field_length line 2 ≡ c = omega arith in
      rw parts-four (cc)

-- four pieces that are not empty, by their lengths
parts_of : (line p q r s : List ℕ) → pieces space line ≡ p ∷ q ∷ r ∷ s ∷ []
    → 0 < length p → 0 < length q → 0 < length r → 0 < length s
    → FourParts line (length p) (length p + 1 + length q) (length p + 1 + length q + 1 + length r)
parts_of line p q r s e hp hq hr hs =
    let a = length p in
    let b : ℕ = length p + 1 + length q in
    let c : ℕ = length p + 1 + length q + 1 + length r in
    let x = pieces_first space line p q (r ∷ s ∷ []) e in
    let y = pieces_first space (drop (a + 1) line) q r (s ∷ []) x.2 in
    let f : drop (length q + 1) (drop (a + 1) line) ≡ drop (b + 1) line = drop_two line (length q + 1) (a + 1) (b + 1) (omega arith) in
    let z = pieces_first space (drop (b + 1) line) r s [] (ap (pieces space) (sym f) ∙ y.2) in
    let g : drop (length r + 1) (drop (b + 1) line) ≡ drop (c + 1) line = drop_two line (length r + 1) (b + 1) (c + 1) (omega arith) in
    let w : s ≡ drop (c + 1) line = pieces_only space (drop (c + 1) line) s (ap (pieces space) (sym g) ∙ z.2) in
    let m : length s ≡ length line - (c + 1) = ap length w ∙ length-drop (c + 1) line in
    let k : length q + 1 ≤ length line - (a + 1) = omega (arith, y.0, length-drop (a + 1) line) in
    let n : length r + 1 ≤ length line - (b + 1) = omega (arith, z.0, length-drop (b + 1) line) in
    let i : b - (a + 1) ≡ length q = omega arith in
    let j : c - (b + 1) ≡ length r = omega arith in
    record {
      first = hp;
      second = omega arith;
      third = omega arith;
      fourth = omega arith;
      parts =
          e
          ∙ ap (λ (t : List ℕ). t ∷ q ∷ r ∷ s ∷ []) (sym x.1)
          ∙ ap (λ (t : List ℕ). take a line ∷ t ∷ r ∷ s ∷ []) (sym y.1 ∙ ap (λ (l : ℕ). take l (drop (a + 1) line)) (sym i))
          ∙ ap (λ (t : List ℕ). take a line ∷ part (a + 1) b line ∷ t ∷ s ∷ []) (sym z.1 ∙ ap (λ (l : ℕ). take l (drop (b + 1) line)) (sym j))
          ∙ ap (λ (t : List ℕ). take a line ∷ part (a + 1) b line ∷ part (b + 1) c line ∷ t ∷ [])
          (w ∙ sym (take_all (length line - (c + 1)) (drop (c + 1) line) (omega (arith, length-drop (c + 1) line))));
    }

-- a list of four that are not empty
four_of : (ps : List (List ℕ)) → (eqb (length ps) 4 && every non_empty ps) ≡ true
    → (p : List ℕ) × (q : List ℕ) × (r : List ℕ) × (s : List ℕ) × (ps ≡ p ∷ q ∷ r ∷ s ∷ [])
    × (0 < length p) × (0 < length q) × (0 < length r) × (0 < length s)
unfolding every
four_of [] h = absurd (false≢true h)
four_of (p ∷ []) h = absurd (false≢true h)
four_of (p ∷ q ∷ []) h = absurd (false≢true h)
four_of (p ∷ q ∷ r ∷ []) h = absurd (false≢true h)
four_of (p ∷ q ∷ r ∷ s ∷ []) h =
    let x = (and-eq-true_iff (non_empty p) _).0 h in
    let y = (and-eq-true_iff (non_empty q) _).0 x.1 in
    let z = (and-eq-true_iff (non_empty r) _).0 y.1 in
    let w = (and-eq-true_iff (non_empty s) _).0 z.1 in
    (p, q, r, s, refl, non_empty_true p x.0, non_empty_true q y.0, non_empty_true r z.0, non_empty_true s w.0)
four_of (p ∷ q ∷ r ∷ s ∷ t ∷ ps) h =
    let x = eqb-true (suc (suc (suc (suc (suc (length ps)))))) 4 ((and-eq-true_iff (eqb (suc (suc (suc (suc (suc (length ps)))))) 4) _).0 h).0 in
    absurd (omega arith)

-- a line of four fields, by where they end
pub four_parts : (line : List ℕ) → four_fields line ≡ true
    → FourParts line (field_length line 0) (field_length line 0 + 1 + field_length line 1)
    (field_length line 0 + 1 + field_length line 1 + 1 + field_length line 2)
unfolding four_fields
four_parts line h =
    let (p, q, r, s, e, hp, hq, hr, hs) = four_of (pieces space line) h in
    rw e (parts_of line p q r s e hp hq hr hs)

-- ---- the field that begins at a place

-- n fields from a place on, none of them empty
abbrev Fields-from : List ℕ → ℕ → ℕ → Bool
Fields-from line n start = eqb (length (pieces space (drop start line))) n && every non_empty (pieces space (drop start line))

first_empty : (n : ℕ) (p : List ℕ) (ps : List (List ℕ)) → length p ≡ 0 → (eqb (length (p ∷ ps)) n && every non_empty (p ∷ ps)) ≡ false
unfolding every
first_empty n p ps h = simp (eq-eqb (length p) 0 h, and-false (eqb (suc (length ps)) n))

module _ (line : List ℕ) (start : ℕ) where
  abbrev rest : List ℕ
  rest = drop start line

  abbrev k : ℕ
  k = length (before space rest)

  pub field-empty : k ≡ 0 → field_from line start ≡ Field.Empty
  field-empty z = simp (eq-eqb k 0 z)

  pub field-last : (k ≡ 0 → ⊥) → k ≡ length rest → field_from line start ≡ Field.Last
  field-last n e = simp (ne_eqb k 0 n, eq-eqb k (length rest) e)

  pub field-ends : (k ≡ 0 → ⊥) → (k ≡ length rest → ⊥) → field_from line start ≡ Field.Ends (start + k)
  field-ends n m = simp (ne_eqb k 0 n, ne_eqb k (length rest) m)

  -- it is empty, the last, or ends before the line does
  kinds : (k ≡ 0) ⊎ (((k ≡ 0 → ⊥) × (k ≡ length rest)) ⊎ ((k ≡ 0 → ⊥) × (k < length rest)))
  kinds = go (eqb k 0) refl (eq-or-lt_of_le (before_short space rest))
    where
      go : (t : Bool) → eqb k 0 ≡ t → (k ≡ length rest) ⊎ (k < length rest)
          → (k ≡ 0) ⊎ (((k ≡ 0 → ⊥) × (k ≡ length rest)) ⊎ ((k ≡ 0 → ⊥) × (k < length rest)))
      go true e s = inl (eqb-true k 0 e)
      go false e (inl s) = inr (inl (eqb-false k 0 e, s))
      go false e (inr s) = inr (inr (eqb-false k 0 e, s))

  not-length : k < length rest → k ≡ length rest → ⊥
  not-length h e = omega arith

  -- one that ends at e
  pub ends-pieces : (e : ℕ) → field_from line start ≡ Field.Ends e
      → (start < e) × (e < length line) × (pieces space rest ≡ take (e - start) rest ∷ pieces space (drop (e + 1) line))
  ends-pieces e f = go kinds
    where
      go : (k ≡ 0) ⊎ (((k ≡ 0 → ⊥) × (k ≡ length rest)) ⊎ ((k ≡ 0 → ⊥) × (k < length rest)))
          → (start < e) × (e < length line) × (pieces space rest ≡ take (e - start) rest ∷ pieces space (drop (e + 1) line))
      go (inl z) = let g : Field.Empty ≡ Field.Ends e = sym (field-empty z) ∙ f in let w : ◌≡◌ {A = ℕ} 0 1 = cc in absurd (omega arith)
      go (inr (inl (n, l))) = let g : Field.Last ≡ Field.Ends e = sym (field-last n l) ∙ f in let w : ◌≡◌ {A = ℕ} 0 1 = cc in absurd (omega arith)
      go (inr (inr (n, l))) =
          let g : Field.Ends (start + k) ≡ Field.Ends e = sym (field-ends n (not-length l)) ∙ f in
          let w : start + k ≡ e = cc in
          let b : length rest ≡ length line - start = length-drop start line in
          let d : k ≡ e - start = omega arith in (
            omega arith,
            omega arith,
            pieces-next space rest k refl l
                ∙ ap (λ (j : ℕ). take j rest ∷ pieces space (drop (k + 1) rest)) d
                ∙ ap (λ (t : List ℕ). take (e - start) rest ∷ pieces space t) (drop_two line (k + 1) start (e + 1) (omega arith)),
          )

  -- the last
  last-pieces : field_from line start ≡ Field.Last → (start < length line) × (pieces space rest ≡ rest ∷ [])
  last-pieces f = go kinds
    where
      go : (k ≡ 0) ⊎ (((k ≡ 0 → ⊥) × (k ≡ length rest)) ⊎ ((k ≡ 0 → ⊥) × (k < length rest))) → (start < length line) × (pieces space rest ≡ rest ∷ [])
      go (inl z) = let g : Field.Empty ≡ Field.Last = sym (field-empty z) ∙ f in let w : ◌≡◌ {A = ℕ} 0 1 = cc in absurd (omega arith)
      go (inr (inl (n, l))) =
          let b : length rest ≡ length line - start = length-drop start line in
          (omega arith, pieces_last space rest l)
      go (inr (inr (n, l))) =
          let g : Field.Ends (start + k) ≡ Field.Last = sym (field-ends n (not-length l)) ∙ f in
          let w : ◌≡◌ {A = ℕ} 0 1 = cc in
          absurd (omega arith)

  -- an empty field
  none : (n : ℕ) → k ≡ 0 → Fields-from line n start ≡ false
  none n z = go (eq-or-lt_of_le (before_short space rest))
    where
      go : (k ≡ length rest) ⊎ (k < length rest) → Fields-from line n start ≡ false
      go (inl l) = ap (λ (ps : List (List ℕ)). eqb (length ps) n && every non_empty ps) (pieces_last space rest l) ∙ first_empty n rest [] (sym l ∙ z)
      go (inr l) =
          ap (λ (ps : List (List ℕ)). eqb (length ps) n && every non_empty ps) (pieces-next space rest k refl l)
          ∙ first_empty n (take k rest) (pieces space (drop (k + 1) rest)) (length-take-le k rest (omega arith) ∙ z)

  -- no field that ends before the line does: not two fields or more
  pub no_end : (n : ℕ) → ((e : ℕ) → field_from line start ≡ Field.Ends e → ⊥) → Fields-from line (suc (suc n)) start ≡ false
  unfolding every
  no_end n h = go kinds
    where
      one : (p : List ℕ) → (eqb 1 (suc (suc n)) && every non_empty (p ∷ [])) ≡ false
      one p = let m : 1 ≡ suc (suc n) → ⊥ = λ e. omega arith in simp (ne_eqb 1 (suc (suc n)) m)

      go : (k ≡ 0) ⊎ (((k ≡ 0 → ⊥) × (k ≡ length rest)) ⊎ ((k ≡ 0 → ⊥) × (k < length rest))) → Fields-from line (suc (suc n)) start ≡ false
      go (inl z) = none (suc (suc n)) z
      go (inr (inl (m, l))) =
          ap (λ (ps : List (List ℕ)). eqb (length ps) (suc (suc n)) && every non_empty ps) (pieces_last space rest l) ∙ one rest
      go (inr (inr (m, l))) = absurd (h (start + k) (field-ends m (not-length l)))

  -- no last field: not one field
  pub no_last : (field_from line start ≡ Field.Last → ⊥) → Fields-from line 1 start ≡ false
  unfolding every
  no_last h = go kinds
    where
      more : (p : List ℕ) (ps : List (List ℕ)) (q : List ℕ) (qs : List (List ℕ)) → ps ≡ q ∷ qs
          → (eqb (length (p ∷ ps)) 1 && every non_empty (p ∷ ps)) ≡ false
      more p ps q qs e =
          let m : suc (length ps) ≡ 1 → ⊥ = λ f. omega (arith, ap length e) in
          simp (ne_eqb (suc (length ps)) 1 m)

      go : (k ≡ 0) ⊎ (((k ≡ 0 → ⊥) × (k ≡ length rest)) ⊎ ((k ≡ 0 → ⊥) × (k < length rest))) → Fields-from line 1 start ≡ false
      go (inl z) = none 1 z
      go (inr (inl (m, l))) = absurd (h (field-last m l))
      go (inr (inr (m, l))) =
          let s = pieces-some space (drop (k + 1) rest) in
          ap (λ (ps : List (List ℕ)). eqb (length ps) 1 && every non_empty ps) (pieces-next space rest k refl l)
          ∙ more (take k rest) (pieces space (drop (k + 1) rest)) s.0 s.1 s.2

  -- a field that ends at e, and too few or too many after it, or an empty one
  pub fails-after : (n e : ℕ) → field_from line start ≡ Field.Ends e → Fields-from line n (e + 1) ≡ false → Fields-from line (suc n) start ≡ false
  unfolding every
  fails-after n e f h =
      ap (λ (ps : List (List ℕ)). eqb (length ps) (suc n) && every non_empty ps) (ends-pieces e f).2
      ∙ step (take (e - start) rest) (pieces space (drop (e + 1) line)) h
    where
      both : (s t u : Bool) → (s && u) ≡ false → (s && (t && u)) ≡ false
      both true true u g = g
      both true false u g = refl
      both false t u g = refl

      step : (p : List ℕ) (ps : List (List ℕ)) → (eqb (length ps) n && every non_empty ps) ≡ false
          → (eqb (length (p ∷ ps)) (suc n) && every non_empty (p ∷ ps)) ≡ false
      step p ps g =
          ap (λ (t : Bool). t && every non_empty (p ∷ ps)) (eqb-suc-suc (length ps) n)
          ∙ both (eqb (length ps) n) (non_empty p) (every non_empty ps) g

-- ---- the fields of a line, one after the other

pub other-fields : (line : List ℕ) → Fields-from line 4 0 ≡ false → fields_read line ≡ None
unfolding four_fields
other-fields line h = simp h

pub ends_parts : (line : List ℕ) (a b c : ℕ)
    → field_from line 0 ≡ Field.Ends a → field_from line (a + 1) ≡ Field.Ends b → field_from line (b + 1) ≡ Field.Ends c → field_from line (c + 1) ≡ Field.Last
    → FourParts line a b c
ends_parts line a b c x y z w =
    let p = ends-pieces line 0 a x in
    let q = ends-pieces line (a + 1) b y in
    let r = ends-pieces line (b + 1) c z in
    let s = last-pieces line (c + 1) w in
    let d : a - 0 ≡ a = omega arith in
    record {
      first = p.0;
      second = q.0;
      third = r.0;
      fourth = s.0;
      parts =
          p.2
          ∙ ap (λ (j : ℕ). take j line ∷ pieces space (drop (a + 1) line)) d
          ∙ ap (λ (ps : List (List ℕ)). take a line ∷ ps) q.2
          ∙ ap (λ (ps : List (List ℕ)). take a line ∷ part (a + 1) b line ∷ ps) r.2
          ∙ ap (λ (ps : List (List ℕ)). take a line ∷ part (a + 1) b line ∷ part (b + 1) c line ∷ ps)
          (s.1 ∙ ap (λ (t : List ℕ). t ∷ []) (sym (rest_part (c + 1) line)));
    }
