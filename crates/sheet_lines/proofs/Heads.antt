-- The first three lines of a sheet.
-- What carries it: a text is its first line, a line end, and the lines of the rest, so that each line's checks come before those of the rest
-- (`first-decides`, `second-decides`, `third-decides`).
use Prim.Native.Nat.{ℕ, ◌+◌, ◌-◌, ◌≤◌}
use mathlib.Core.Path.{◌≡◌, sym, ap, ap₂, ◌∙◌}
use mathlib.Core.Logic.{◌⊎◌, inl, inr}
use mathlib.Core.Bool.{Bool, true, false, not, cond}
use mathlib.Core.List.{List, [], ◌∷◌}
use native.Mathlib.Omega.{arith}
use lib.ListN.{length, get_or, take, drop, length-drop}
use lib.Seq.{drop-drop}
use Rattle.outcome.specs.declared.Refusal.{Refusal}
use Rattle.outcome.specs.declared.Refusal.TheVariants as Refusal
use Rattle.outcome.specs.Outcome.{Outcome, answer, Check, verdict, given}
use Rattle.action.specs.Lists.{same_numbers}
use Rattle.text.specs.Text.{line_end, before, pieces}
use Rattle.text.specs.Names.{names_read}
use Rattle.std.specs.Prelude.{None}
use Rattle.text.proofs.Pieces.{pieces_last, pieces-some}
use Rattle.text.proofs.Lines.{Ended, ended-pieces, names-other}
use Rattle.outcome.proofs.Outcomes.{verdict-append}
use Rattle.sheet_lines.specs.declared.head.Head.{Head}
use Rattle.sheet_lines.specs.Lines.{shape_names, word_names, modes_of, line_shape, line_sites, shape_checks, body_checks, third_checks, second_checks, line_checks}
use Rattle.sheet_lines.specs.Parts.{refused_at, line_group, Ready}

-- ---- the checks line by line

module _ (text : List ℕ) (k : ℕ) (at : Ended text k) where
  first-decides : verdict (line_checks (pieces line_end text))
      ≡ cond (not (same_numbers (take k text) shape_names)) (refused_at Refusal.LineForm 1) (verdict (second_checks (pieces line_end (drop (k + 1) text))))
  unfolding line_checks
  first-decides =
      let s = pieces-some line_end (drop (k + 1) text) in
      ap (λ (ps : List (List ℕ)). verdict (line_checks ps)) (ended-pieces text k at ∙ ap (λ (ps : List (List ℕ)). take k text ∷ ps) s.2)
      ∙ ap (λ (ps : List (List ℕ)). cond (not (same_numbers (take k text) shape_names)) (refused_at Refusal.LineForm 1) (verdict (second_checks ps))) (sym s.2)

  second_decides : verdict (second_checks (pieces line_end text))
      ≡ given (verdict (shape_checks (take k text) 2))
      (verdict (third_checks (modes_of (line_shape (take k text))) (line_sites (take k text)) (pieces line_end (drop (k + 1) text))))
  unfolding second_checks
  second_decides =
      let s = pieces-some line_end (drop (k + 1) text) in
      let rest : List (List ℕ) → List Check = λ ps. third_checks (modes_of (line_shape (take k text))) (line_sites (take k text)) ps in
      ap (λ (ps : List (List ℕ)). verdict (second_checks ps)) (ended-pieces text k at ∙ ap (λ (ps : List (List ℕ)). take k text ∷ ps) s.2)
      ∙ verdict-append (shape_checks (take k text) 2) (rest (s.0 ∷ s.1))
      ∙ ap (λ (ps : List (List ℕ)). given (verdict (shape_checks (take k text) 2)) (verdict (rest ps))) (sym s.2)

  third-decides : (m n : ℕ) → verdict (third_checks m n (pieces line_end text))
      ≡ cond (not (same_numbers (take k text) word_names)) (refused_at Refusal.LineForm 3) (verdict (body_checks m n (pieces line_end (drop (k + 1) text)) 4))
  unfolding third_checks
  third-decides m n =
      let s = pieces-some line_end (drop (k + 1) text) in
      ap (λ (ps : List (List ℕ)). verdict (third_checks m n ps)) (ended-pieces text k at ∙ ap (λ (ps : List (List ℕ)). take k text ∷ ps) s.2)
      ∙ ap (λ (ps : List (List ℕ)). cond (not (same_numbers (take k text) word_names)) (refused_at Refusal.LineForm 3) (verdict (body_checks m n ps 4))) (sym s.2)

-- the first line
pub first_other_lem : (text : List ℕ) → names_read shape_names text ≡ None → refused_at Refusal.LineForm 1 ≡ verdict (line_checks (pieces line_end text))
unfolding line_checks
first_other_lem text e = go (names-other shape_names text e)
  where
    go : (length (before line_end text) ≡ length text)
        ⊎ (Ended text (length (before line_end text)) × (same_numbers (take (length (before line_end text)) text) shape_names ≡ false))
        → refused_at Refusal.LineForm 1 ≡ verdict (line_checks (pieces line_end text))
    go (inl h) = sym (ap (λ (ps : List (List ℕ)). verdict (line_checks ps)) (pieces_last line_end text h))
    go (inr (at, d)) =
        let k = length (before line_end text) in
        sym (first-decides text k at
        ∙ ap (λ (t : Bool). cond (not t) (refused_at Refusal.LineForm 1) (verdict (second_checks (pieces line_end (drop (k + 1) text))))) d)

pub first_passes : (text : List ℕ) (a : ℕ) → Ended text a → same_numbers (take a text) shape_names ≡ true
    → verdict (line_checks (pieces line_end text)) ≡ verdict (second_checks (pieces line_end (drop (a + 1) text)))
first_passes text a at s =
    first-decides text a at ∙ ap (λ (t : Bool). cond (not t) (refused_at Refusal.LineForm 1) (verdict (second_checks (pieces line_end (drop (a + 1) text))))) s

-- the second
pub second_missing : (text : List ℕ) (k : ℕ) → k ≡ length (before line_end text) → k ≡ length text
    → refused_at Refusal.LineForm 2 ≡ verdict (second_checks (pieces line_end text))
unfolding second_checks
second_missing text k e h = sym (ap (λ (ps : List (List ℕ)). verdict (second_checks ps)) (pieces_last line_end text (sym e ∙ h)))

module _ (text : List ℕ) (k : ℕ) (at : Ended text k) where
  pub second-refused : (why : Refusal) → refused_at why 2 ≡ verdict (shape_checks (take k text) 2)
      → refused_at why 2 ≡ verdict (second_checks (pieces line_end text))
  second-refused why e =
      ap
      (λ (v : Outcome (Unit {0})).
      given v (verdict (third_checks (modes_of (line_shape (take k text))) (line_sites (take k text)) (pieces line_end (drop (k + 1) text))))) e
      ∙ sym (second_decides text k at)

  pub second-passes : verdict (shape_checks (take k text) 2) ≡ answer tt
      → verdict (second_checks (pieces line_end text))
      ≡ verdict (third_checks (modes_of (line_shape (take k text))) (line_sites (take k text)) (pieces line_end (drop (k + 1) text)))
  second-passes e =
      second_decides text k at
      ∙ ap
      (λ (v : Outcome (Unit {0})).
      given v (verdict (third_checks (modes_of (line_shape (take k text))) (line_sites (take k text)) (pieces line_end (drop (k + 1) text))))) e

-- the third
pub third_other : (m n : ℕ) (text : List ℕ) → names_read word_names text ≡ None
    → refused_at Refusal.LineForm 3 ≡ verdict (third_checks m n (pieces line_end text))
unfolding third_checks
third_other m n text e = go (names-other word_names text e)
  where
    go : (length (before line_end text) ≡ length text)
        ⊎ (Ended text (length (before line_end text)) × (same_numbers (take (length (before line_end text)) text) word_names ≡ false))
        → refused_at Refusal.LineForm 3 ≡ verdict (third_checks m n (pieces line_end text))
    go (inl h) = sym (ap (λ (ps : List (List ℕ)). verdict (third_checks m n ps)) (pieces_last line_end text h))
    go (inr (at, d)) =
        let k = length (before line_end text) in
        sym (third-decides text k at m n
        ∙ ap (λ (t : Bool). cond (not t) (refused_at Refusal.LineForm 3) (verdict (body_checks m n (pieces line_end (drop (k + 1) text)) 4))) d)

third_passes : (m n : ℕ) (text : List ℕ) (k : ℕ) → Ended text k → same_numbers (take k text) word_names ≡ true
    → verdict (third_checks m n (pieces line_end text)) ≡ verdict (body_checks m n (pieces line_end (drop (k + 1) text)) 4)
third_passes m n text k at s =
    third-decides text k at m n
    ∙ ap (λ (t : Bool). cond (not t) (refused_at Refusal.LineForm 3) (verdict (body_checks m n (pieces line_end (drop (k + 1) text)) 4))) s

-- ---- what is handed back

-- the three lines end at a, b and c, each in what follows the one before
module _ (input text rest : List ℕ) (a b c : ℕ) (x : Ended input a) (first : text ≡ drop (a + 1) input) (y : Ended text b)
    (second : rest ≡ drop (b + 1) text) (z : Ended rest c) where
  pub body-within : a + b + c + 3 ≤ length input
  body-within =
      let l : length text ≡ length input - (a + 1) = ap length first ∙ length-drop (a + 1) input in
      let m : length rest ≡ length text - (b + 1) = ap length second ∙ length-drop (b + 1) text in
      omega arith

  body-rest : drop (c + 1) rest ≡ drop (a + b + c + 3) input
  body-rest =
      let e : a + 1 + (b + 1) + (c + 1) ≡ a + b + c + 3 = omega arith in
      ap (drop (c + 1)) (second ∙ ap (drop (b + 1)) first ∙ drop-drop (b + 1) (a + 1) input)
      ∙ drop-drop (c + 1) (a + 1 + (b + 1)) input
      ∙ ap (λ (j : ℕ). drop j input) e

  lines_are : pieces line_end input ≡ take a input ∷ take b text ∷ take c rest ∷ pieces line_end (drop (a + b + c + 3) input)
  lines_are =
      ended-pieces input a x
      ∙ ap (λ (ps : List (List ℕ)). take a input ∷ ps)
      (ap (pieces line_end) (sym first)
      ∙ ended-pieces text b y
      ∙ ap (λ (ps : List (List ℕ)). take b text ∷ ps)
      (ap (pieces line_end) (sym second) ∙ ended-pieces rest c z ∙ ap (λ (t : List ℕ). take c rest ∷ pieces line_end t) body-rest))

  pub head-ready : (h : Head) → same_numbers (take a input) shape_names ≡ true → verdict (shape_checks (take b text) 2) ≡ answer tt
      → same_numbers (take c rest) word_names ≡ true
      → h.group ≡ line_group (take b text) → h.used ≡ modes_of (line_shape (take b text)) → h.body ≡ a + b + c + 3
      → Ready input h
  head-ready h s fine t g u e = record {
    line = take b text;
    second = ap (λ (ps : List (List ℕ)). get_or ps 1 []) lines_are;
    fine = fine;
    group = g;
    used = u;
    inside = omega (arith, body-within);
    lines = ap (drop 3) lines_are ∙ ap (λ (j : ℕ). pieces line_end (drop j input)) (sym e);
    checks =
        first_passes input a x s
        ∙ ap (λ (l : List ℕ). verdict (second_checks (pieces line_end l))) (sym first)
        ∙ second-passes text b y fine
        ∙ ap (λ (l : List ℕ). verdict (third_checks (modes_of (line_shape (take b text))) (line_sites (take b text)) (pieces line_end l))) (sym second)
        ∙ third_passes (modes_of (line_shape (take b text))) (line_sites (take b text)) rest c z t
        ∙ ap₂ (λ (m : ℕ) (l : List ℕ). verdict (body_checks m (line_sites (take b text)) (pieces line_end l) 4)) (sym u)
        (body-rest ∙ ap (λ (j : ℕ). drop j input) (sym e));
  }
