-- The lines of a text read one after the other into two lists, and what is known at each place of the text.
-- What carries it: the pieces from a place on are the lines that are left (`rest`), and the first j numbers of either list are those of the first j
-- lines.
use Prim.Native.Nat.{ℕ, suc, ◌+◌, ◌-◌, ◌≤◌, ◌<◌}
use mathlib.Core.Path.{◌≡◌, refl, sym, ap, ◌∙◌}
use mathlib.Core.Logic.{◌⊎◌, inl, inr, ⊎_elim}
use mathlib.Core.Bool.{Bool, true, false, ◌&&◌, and-false}
use mathlib.Core.List.{List, [], ◌∷◌}
use native.Mathlib.Nat.{eq-or-lt_of_le, add-zero}
use native.Mathlib.Numerals.{add-one}
use native.Mathlib.Omega.{arith}
use lib.Dec.{eqb}
use lib.IntN.{ℤ, pos}
use lib.ListN.{length, get_or, take, drop, set, length-set, length-drop}
use lib.Seq.{get_or-set_same, get_or-set_other, get_or-drop, drop-drop}
use borrow.Author.Tests.{eq-eqb, ne_eqb}
use Rattle.action.specs.Lists.{same_numbers}
use Rattle.action.proofs.Below.{map-below-of}
use Rattle.text.specs.Text.{line_end, before, pieces}
use Rattle.text.specs.Parts.{clamped}
use Rattle.text.specs.Names.{names_read}
use Rattle.std.specs.Prelude.{None}
use Rattle.text.proofs.Pieces.{before_short, pieces_last, pieces-next, pieces-some}
use Rattle.text.proofs.Lines.{after_line, Ended, ended-pieces, names-other}
use Rattle.phases.specs.Rules.{turn}
use Rattle.phase_file.specs.File.{column_names, is_entry, entries_alone, is_file, number_at}
use Rattle.phase_file.specs.Read.{column_read}
use Rattle.phase_file.proofs.Entries.{entries_none, entries_next, entries-broken, entries_unended}

-- the first j places of a list hold number i of the first j lines
abbrev pub Holds : ℕ → List ℕ → ℕ → List ℤ → Type 0
Holds i text j list = (q : ℕ) → q < j → get_or list q (pos 0) ≡ clamped (number_at i (get_or (pieces line_end text) q []))

-- j lines are read, up to a place
pub record Reading (text : List ℕ) (j at : ℕ) (cosines sines : List ℤ) : Type 0 where
  pub inside : at ≤ length text
  pub few : j ≤ turn
  pub rest : pieces line_end (drop at text) ≡ drop j (pieces line_end text)
  pub form : entries_alone turn (pieces line_end text) ≡ entries_alone (turn - j) (pieces line_end (drop at text))
  pub cosines_long : length cosines ≡ turn
  pub sines_long : length sines ≡ turn
  pub cosines_hold : Holds 0 text j cosines
  pub sines_hold : Holds 1 text j sines

pub reading_start : (text : List ℕ) (cosines sines : List ℤ) → length cosines ≡ turn → length sines ≡ turn → Reading text 0 0 cosines sines
reading_start text cosines sines c s =
    record {
      inside = omega arith;
      few = omega arith;
      rest = refl;
      form = refl;
      cosines_long = c;
      sines_long = s;
      cosines_hold = λ q h. absurd (omega arith);
      sines_hold = λ q h. absurd (omega arith);
    }

-- one number more
holds-next : (i : ℕ) (text : List ℕ) (j : ℕ) (list : List ℤ) (line : List ℕ) → j < length list → get_or (pieces line_end text) j [] ≡ line
    → Holds i text j list → Holds i text (j + 1) (set list j (clamped (number_at i line)))
holds-next i text j list line inside is holds q h = ⊎_elim here before-it (eq-or-lt_of_le (omega arith))
  where
    here : q ≡ j → get_or (set list j (clamped (number_at i line))) q (pos 0) ≡ clamped (number_at i (get_or (pieces line_end text) q []))
    here e = rw (e, is) (get_or-set_same list j (clamped (number_at i line)) (pos 0) inside)

    before-it : q < j → get_or (set list j (clamped (number_at i line))) q (pos 0) ≡ clamped (number_at i (get_or (pieces line_end text) q []))
    before-it l = get_or-set_other list j q (clamped (number_at i line)) (pos 0) (λ e. omega arith) ∙ holds q l

-- what is left after the last line
nothing_left : (t : List ℕ) → length t ≡ 0 → entries_alone 0 (pieces line_end t) ≡ true
unfolding entries_alone pieces
nothing_left [] z = refl
nothing_left (b ∷ t) z = absurd (omega arith)

something_left : (t : List ℕ) → 0 < length t → entries_alone 0 (pieces line_end t) ≡ false
unfolding entries_alone
something_left t some = go (eq-or-lt_of_le (before_short line_end t))
  where
    go : (length (before line_end t) ≡ length t) ⊎ (length (before line_end t) < length t) → entries_alone 0 (pieces line_end t) ≡ false
    go (inl h) = ap (entries_alone 0) (pieces_last line_end t h) ∙ ne_eqb (length t) 0 (λ z. omega arith)
    go (inr h) =
        let (p, ps, s) = pieces-some line_end (drop (length (before line_end t) + 1) t) in
        ap (entries_alone 0) (pieces-next line_end t _ refl h ∙ ap (λ (qs : List (List ℕ)). take (length (before line_end t)) t ∷ qs) s)

module _ {text : List ℕ} {j at : ℕ} {cosines sines : List ℤ} (now : Reading text j at cosines sines) where
  -- ---- a line more: it ends after r bytes, or does not

  module _ (r : ℕ) (e : r ≡ length (before line_end (drop at text))) (some : j < turn) where
    abbrev line : List ℕ
    line = take r (drop at text)

    abbrev left : ℕ
    left = turn - suc j

    one_left : turn - j ≡ suc left
    one_left = omega arith

    form-left : entries_alone turn (pieces line_end text) ≡ entries_alone (suc left) (pieces line_end (drop at text))
    form-left = now.form ∙ ap (λ (n : ℕ). entries_alone n (pieces line_end (drop at text))) one_left

    pub reading-unended : at + r ≡ length text → false ≡ entries_alone turn (pieces line_end text)
    reading-unended h =
        let whole : length (before line_end (drop at text)) ≡ length (drop at text) = omega (arith, length-drop at text) in
        sym (form-left ∙ ap (entries_alone (suc left)) (pieces_last line_end (drop at text) whole) ∙ entries_unended left (drop at text))

    module _ (h : at + r < length text) where
      next : pieces line_end (drop at text) ≡ line ∷ pieces line_end (drop (at + r + 1) text)
      next =
          pieces-next line_end (drop at text) r e (omega (arith, length-drop at text))
          ∙ ap (λ (t : List ℕ). line ∷ pieces line_end t) (after_line text at r)

      pub reading-broken : is_entry line ≡ false → false ≡ entries_alone turn (pieces line_end text)
      reading-broken f = sym (form-left ∙ ap (entries_alone (suc left)) next ∙ entries-broken left line (pieces line_end (drop (at + r + 1) text)) f)

      line-is : get_or (pieces line_end text) j [] ≡ line
      line-is =
          ap (λ (q : ℕ). get_or (pieces line_end text) q []) (sym (add-zero j))
          ∙ sym (get_or-drop j (pieces line_end text) 0 [])
          ∙ ap (λ (ps : List (List ℕ)). get_or ps 0 []) (sym now.rest ∙ next)

      pub reading-next : is_entry line ≡ true
          → Reading text (j + 1) (at + r + 1) (set cosines j (clamped (number_at 0 line))) (set sines j (clamped (number_at 1 line)))
      reading-next f =
          record {
            inside = omega arith;
            few = omega arith;
            rest = ap (drop 1) (sym next ∙ now.rest) ∙ drop-drop 1 j (pieces line_end text);
            form =
                form-left
                ∙ ap (entries_alone (suc left)) next
                ∙ entries_next left line (pieces line_end (drop (at + r + 1) text)) f
                ∙ ap (λ (n : ℕ). entries_alone (turn - n) (pieces line_end (drop (at + r + 1) text))) (sym (add-one j));
            cosines_long = length-set cosines j (clamped (number_at 0 line)) ∙ now.cosines_long;
            sines_long = length-set sines j (clamped (number_at 1 line)) ∙ now.sines_long;
            cosines_hold = holds-next 0 text j cosines line (rw now.cosines_long some) line-is now.cosines_hold;
            sines_hold = holds-next 1 text j sines line (rw now.sines_long some) line-is now.sines_hold;
          }

  -- ---- all lines

  module _ (all : turn ≤ j) where
    form-none : entries_alone turn (pieces line_end text) ≡ entries_alone 0 (pieces line_end (drop at text))
    form-none = let none : turn - j ≡ 0 = omega arith in now.form ∙ ap (λ (n : ℕ). entries_alone n (pieces line_end (drop at text))) none

    pub reading-ends : eqb at (length text) ≡ entries_alone turn (pieces line_end text)
    reading-ends = go (eq-or-lt_of_le now.inside)
      where
        go : (at ≡ length text) ⊎ (at < length text) → eqb at (length text) ≡ entries_alone turn (pieces line_end text)
        go (inl h) = eq-eqb at (length text) h ∙ sym (form-none ∙ nothing_left (drop at text) (omega (arith, length-drop at text)))
        go (inr h) =
            ne_eqb at (length text) (λ z. omega arith) ∙ sym (form-none ∙ something_left (drop at text) (omega (arith, length-drop at text)))

    column-is : (i : ℕ) (list : List ℤ) → length list ≡ turn → Holds i text j list → list ≡ column_read i (pieces line_end text)
    unfolding column_read
    column-is i list long holds =
        map-below-of (λ q. clamped (number_at i (get_or (pieces line_end text) q []))) turn (pos 0) list long (λ q h. holds q (omega arith))

    pub reading-cosines : cosines ≡ column_read 0 (pieces line_end text)
    reading-cosines = column-is 0 cosines now.cosines_long now.cosines_hold

    pub reading-sines : sines ≡ column_read 1 (pieces line_end text)
    reading-sines = column-is 1 sines now.sines_long now.sines_hold

-- ---- a file: its line of names, and then its lines of numbers

pub file_other : (file : List ℕ) → names_read column_names file ≡ None → false ≡ is_file (pieces line_end file)
unfolding is_file
file_other file e = go (names-other column_names file e)
  where
    go : (length (before line_end file) ≡ length file)
        ⊎ (Ended file (length (before line_end file)) × (same_numbers (take (length (before line_end file)) file) column_names ≡ false))
        → false ≡ is_file (pieces line_end file)
    go (inl h) =
        sym
        (ap is_file (pieces_last line_end file h)
        ∙ ap (λ (b : Bool). same_numbers file column_names && b) (entries_none turn)
        ∙ and-false (same_numbers file column_names))
    go (inr (at, d)) = sym (ap is_file (ended-pieces file (length (before line_end file)) at) ∙ rw d)

module _ (file : List ℕ) (k : ℕ) (at : Ended file k) where
  pub file-lines : same_numbers (take k file) column_names ≡ true → is_file (pieces line_end file) ≡ entries_alone turn (pieces line_end (drop (k + 1) file))
  unfolding is_file
  file-lines e = ap is_file (ended-pieces file k at) ∙ rw e

  pub file-rest : drop 1 (pieces line_end file) ≡ pieces line_end (drop (k + 1) file)
  file-rest = ap (drop 1) (ended-pieces file k at)
