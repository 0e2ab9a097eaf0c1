-- The lines of a file: a line of two numbers by where its first space stands, and so many of them with nothing after them.
use Prim.Native.Nat.{ℕ, zero, suc, ◌+◌, ◌<◌}
use mathlib.Core.Path.{◌≡◌, refl, sym, ap, ap₂, ◌∙◌}
use mathlib.Core.Logic.{◌⊎◌, inl, inr}
use mathlib.Core.Bool.{Bool, true, false, ◌&&◌, cond, false≢true, and-eq-true_iff, and-false}
use mathlib.Core.List.{List, [], ◌∷◌, ◌++◌}
use native.Mathlib.Nat.{eq-or-lt_of_le}
use native.Mathlib.Omega.{arith}
use lib.IntN.{ℤ}
use lib.ListN.{length, get_or, take, drop}
use borrow.Author.Tests.{eqb-true}
use Rattle.action.specs.Lists.{every}
use Rattle.text.specs.Text.{space, before, pieces, is_signed, signed_of}
use Rattle.text.specs.Parts.{clamped, signed_read}
use Rattle.std.specs.Prelude.{Option, Some, None}
use Rattle.text.proofs.Numbers.{value-signed}
use Rattle.text.proofs.Pieces.{before_short, pieces_last, pieces-next, pieces-some, parted-pieces}
use Rattle.text.proofs.Roundtrip.{signed-without}
use Rattle.phase_file.specs.File.{two_numbers, is_entry, entries_alone, number_at}
use Rattle.phase_file.specs.Read.{entry_read}

-- ---- one line

-- the first of two fields is no number
first_fails : (c : List ℕ) (ps : List (List ℕ)) → is_signed c ≡ false → two_numbers (c ∷ ps) ≡ false
first_fails c [] e = refl
first_fails c (s ∷ []) e = rw e
first_fails c (s ∷ more ∷ ps) e = refl

-- the rest is no number, whatever fields it has
rest_fails : (c text : List ℕ) → is_signed text ≡ false → two_numbers (c ∷ pieces space text) ≡ false
rest_fails c text e = go (eq-or-lt_of_le (before_short space text))
  where
    go : (length (before space text) ≡ length text) ⊎ (length (before space text) < length text) → two_numbers (c ∷ pieces space text) ≡ false
    go (inl h) = ap (λ (ps : List (List ℕ)). two_numbers (c ∷ ps)) (pieces_last space text h) ∙ rw e (and-false (is_signed c))
    go (inr h) =
        let (p, ps, s) = pieces-some space (drop (length (before space text) + 1) text) in
        ap (λ (qs : List (List ℕ)). two_numbers (c ∷ qs)) (pieces-next space text _ refl h)
        ∙ ap (λ (qs : List (List ℕ)). two_numbers (c ∷ take (length (before space text)) text ∷ qs)) s

-- a number has no space
one_piece : (text : List ℕ) → is_signed text ≡ true → pieces space text ≡ text ∷ []
unfolding every
one_piece text e = parted-pieces space text [] (rw (signed-without space (omega arith) text e))

-- the first space stands at k
module _ (line : List ℕ) (k : ℕ) (e : k ≡ length (before space line)) where
  pub entry-unparted : k ≡ length line → is_entry line ≡ false
  unfolding is_entry
  entry-unparted h = ap two_numbers (pieces_last space line (sym e ∙ h))

  module _ (h : k < length line) where
    parts : pieces space line ≡ take k line ∷ pieces space (drop (k + 1) line)
    parts = pieces-next space line k e h

    pub entry-no-first : is_signed (take k line) ≡ false → is_entry line ≡ false
    unfolding is_entry
    entry-no-first f = ap two_numbers parts ∙ first_fails (take k line) (pieces space (drop (k + 1) line)) f

    pub entry-no-second : is_signed (drop (k + 1) line) ≡ false → is_entry line ≡ false
    unfolding is_entry
    entry-no-second f = ap two_numbers parts ∙ rest_fails (take k line) (drop (k + 1) line) f

    module _ (f : is_signed (take k line) ≡ true) (g : is_signed (drop (k + 1) line) ≡ true) where
      two : pieces space line ≡ take k line ∷ drop (k + 1) line ∷ []
      two = parts ∙ ap (λ (ps : List (List ℕ)). take k line ∷ ps) (one_piece (drop (k + 1) line) g)

      pub entry-both : is_entry line ≡ true
      unfolding is_entry
      entry-both = ap two_numbers two ∙ ap₂ ◌&&◌ f g

      pub entry-cosine : number_at 0 line ≡ signed_of (take k line)
      unfolding number_at
      entry-cosine = ap (λ (ps : List (List ℕ)). signed_of (get_or ps 0 [])) two

      pub entry-sine : number_at 1 line ≡ signed_of (drop (k + 1) line)
      unfolding number_at
      entry-sine = ap (λ (ps : List (List ℕ)). signed_of (get_or ps 1 [])) two

-- ---- a line as it is read

pub other_read : (line : List ℕ) → is_entry line ≡ false → None ≡ entry_read line
other_read line e = sym (rw e)

-- its two parts read
pub both_read : (line : List ℕ) (k : ℕ) → k ≡ length (before space line) → k < length line → (c s : ℤ)
    → signed_read (take k line) ≡ Some c → signed_read (drop (k + 1) line) ≡ Some s → Some (c, s) ≡ entry_read line
both_read line k e h c s x y =
    let (f, u) = value-signed (take k line) c x in
    let (g, v) = value-signed (drop (k + 1) line) s y in
    let cosine = u ∙ ap clamped (sym (entry-cosine line k e h f g)) in
    let sine = v ∙ ap clamped (sym (entry-sine line k e h f g)) in
    ap₂ (λ (a b : ℤ). Some (a, b)) cosine sine ∙ sym (rw (entry-both line k e h f g))

-- and back
pub read_other : (line : List ℕ) → entry_read line ≡ None → is_entry line ≡ false
read_other line e = go (is_entry line) e
  where
    go : (b : Bool) → cond {A = Option (ℤ × ℤ)} b (Some (clamped (number_at 0 line), clamped (number_at 1 line))) None ≡ None → b ≡ false
    go true f = let no : ◌≡◌ {A = ℕ} 0 1 = cc in absurd (omega arith)
    go false f = refl

pub read_numbers : (line : List ℕ) (c s : ℤ) → entry_read line ≡ Some (c, s)
    → (is_entry line ≡ true) × (c ≡ clamped (number_at 0 line)) × (s ≡ clamped (number_at 1 line))
read_numbers line c s e = go (is_entry line) refl e
  where
    go : (b : Bool) → is_entry line ≡ b
        → cond {A = Option (ℤ × ℤ)} b (Some (clamped (number_at 0 line), clamped (number_at 1 line))) None ≡ Some (c, s)
        → (is_entry line ≡ true) × (c ≡ clamped (number_at 0 line)) × (s ≡ clamped (number_at 1 line))
    go true d f =
        let same : ◌≡◌ {A = ℤ × ℤ} (c, s) (clamped (number_at 0 line), clamped (number_at 1 line)) = cc in
        (d, ap (λ p. p.0) same, ap (λ p. p.1) same)
    go false d f = let no : ◌≡◌ {A = ℕ} 0 1 = cc in absurd (omega arith)

-- ---- the two fields of an entry

pub entry_fields : (line : List ℕ) → is_entry line ≡ true
    → (c : List ℕ) × (s : List ℕ) × (pieces space line ≡ c ∷ s ∷ []) × (is_signed c ≡ true) × (is_signed s ≡ true)
unfolding is_entry
entry_fields line e = go (pieces space line) refl e
  where
    go : (ps : List (List ℕ)) → pieces space line ≡ ps → two_numbers ps ≡ true
        → (c : List ℕ) × (s : List ℕ) × (pieces space line ≡ c ∷ s ∷ []) × (is_signed c ≡ true) × (is_signed s ≡ true)
    go [] p h = absurd (false≢true h)
    go (c ∷ []) p h = absurd (false≢true h)
    go (c ∷ s ∷ []) p h = let (f, g) = (and-eq-true_iff (is_signed c) (is_signed s)).0 h in (c, s, p, f, g)
    go (c ∷ s ∷ more ∷ ps) p h = absurd (false≢true h)

-- ---- so many lines

-- no line is left
pub entries_none : (n : ℕ) → entries_alone n [] ≡ false
unfolding entries_alone
entries_none zero = refl
entries_none (suc n) = refl

-- one more line
pub entries_next : (n : ℕ) (line : List ℕ) (lines : List (List ℕ)) → is_entry line ≡ true → entries_alone (suc n) (line ∷ lines) ≡ entries_alone n lines
unfolding entries_alone
entries_next n line lines e = rw e

pub entries-broken : (n : ℕ) (line : List ℕ) (lines : List (List ℕ)) → is_entry line ≡ false → entries_alone (suc n) (line ∷ lines) ≡ false
unfolding entries_alone
entries-broken n line lines e = rw e

-- a line that no line end follows
pub entries_unended : (n : ℕ) (line : List ℕ) → entries_alone (suc n) (line ∷ []) ≡ false
unfolding entries_alone
entries_unended n line = ap (λ (b : Bool). is_entry line && b) (entries_none n) ∙ and-false (is_entry line)

-- entries with nothing after them, and back
pub entries_made : (lines : List (List ℕ)) → every is_entry lines ≡ true → entries_alone (length lines) (lines ++ ([] ∷ [])) ≡ true
unfolding entries_alone every
entries_made [] e = refl
entries_made (line ∷ lines) e =
    let (f, g) = (and-eq-true_iff (is_entry line) (every is_entry lines)).0 e in
    entries_next (length lines) line (lines ++ ([] ∷ [])) f ∙ entries_made lines g

empty_is : (l : List ℕ) → length l ≡ 0 → l ≡ []
empty_is [] e = refl
empty_is (b ∷ l) e = absurd (omega arith)

pub entries_parts : (n : ℕ) (lines : List (List ℕ)) → entries_alone n lines ≡ true
    → (lines ≡ take n lines ++ ([] ∷ [])) × (length (take n lines) ≡ n) × (every is_entry (take n lines) ≡ true)
unfolding entries_alone every
entries_parts zero [] e = absurd (false≢true e)
entries_parts zero (rest ∷ []) e = (ap (λ (l : List ℕ). l ∷ []) (empty_is rest (eqb-true (length rest) 0 e)), refl, refl)
entries_parts zero (rest ∷ more ∷ lines) e = absurd (false≢true e)
entries_parts (suc n) [] e = absurd (false≢true e)
entries_parts (suc n) (line ∷ lines) e =
    let (f, g) = (and-eq-true_iff (is_entry line) (entries_alone n lines)).0 e in
    let (same, long, all) = entries_parts n lines g in
    (ap (λ (ls : List (List ℕ)). line ∷ ls) same, ap suc long, rw (f, all))
