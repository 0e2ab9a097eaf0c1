-- The value lines of a text, one after the other: the checks of a line come before those of the lines after it, and so do the rows.
-- What carries it: the pieces of a text are its first line and the pieces of what follows (`pieces-next`).
use Prim.Native.Nat.{ℕ, suc, ◌+◌, ◌-◌, ◌*◌, ◌≤◌, ◌<◌}
use mathlib.Core.Path.{◌≡◌, refl, sym, ap, ap₂, ◌∙◌}
use mathlib.Core.Bool.{Bool, true, false, cond, ◌&&◌, not}
use mathlib.Core.List.{List, [], ◌∷◌, ◌++◌, append_assoc, append-nil}
use native.Mathlib.Nat.{add-zero}
use native.Mathlib.Numerals.{add-one}
use native.Mathlib.Omega.{arith}
use lib.Dec.{eqb, ltb}
use lib.ListN.{length, take, drop, length-append, length-drop}
use lib.Seq.{length-take-le}
use borrow.Author.Tests.{ne_eqb, eqb-true, eqb-false}
use Rattle.outcome.specs.declared.Refusal.{Refusal}
use Rattle.outcome.specs.declared.Refusal.TheVariants as Refusal
use Rattle.pauli_word.specs.Limits.{max_sites}
use Rattle.pauli_word.specs.Text.{letters_alone, first_other}
use Rattle.outcome.specs.Outcome.{Outcome, refused, answer, verdict, given}
use Rattle.action.specs.Permutation.{Generator}
use Rattle.outcome.proofs.Outcomes.{verdict-append, refused_apart}
use Rattle.text.specs.Text.{line_end, before, pieces, is_mode, put}
use Rattle.text.specs.Parts.{four_fields}
use Rattle.text.proofs.Pieces.{before_short, pieces_last, pieces-next, pieces-some}
use Rattle.text.proofs.Lines.{line_slice, after_line}
use Rattle.text.proofs.Puts.{put_nothing, put-length, put-put}
use Rattle.sheet_lines.specs.Lines.{fields, field, first_pass, value_checks, body_checks}
use Rattle.sheet_rows.specs.Rows.{line_row, spread}
use Rattle.sheet_text.specs.Sheet.{rows}
use Rattle.sheet_lines.specs.Parts.{refused_at}

-- ---- the checks

module _ (m n : ℕ) (text : List ℕ) (k : ℕ) where
  pub body_end : length text ≡ 0 → verdict (body_checks m n (pieces line_end text) k) ≡ answer tt
  unfolding body_checks pieces
  body_end e = go text e
    where
      go : (t : List ℕ) → length t ≡ 0 → verdict (body_checks m n (pieces line_end t) k) ≡ answer tt
      go [] e = refl
      go (b ∷ t) e = absurd (omega arith)

  pub body-unended : length (before line_end text) ≡ length text → 0 < length text → verdict (body_checks m n (pieces line_end text) k) ≡ refused_at Refusal.LineForm k
  unfolding body_checks
  body-unended e h = rw (pieces_last line_end text e, ne_eqb (length text) 0 (λ z. omega arith))

  module _ (j : ℕ) (e : j ≡ length (before line_end text)) (h : j < length text) where
    pub body-next :
        verdict (body_checks m n (pieces line_end text) k)
        ≡ given (verdict (value_checks m n (take j text) k)) (verdict (body_checks m n (pieces line_end (drop (j + 1) text)) (suc k)))
    unfolding body_checks
    body-next =
        let (p, ps, s) = pieces-some line_end (drop (j + 1) text) in
        rw (pieces-next line_end text j e h, s) (verdict-append (value_checks m n (take j text) k) (body_checks m n (p ∷ ps) (suc k)))

    -- the first line breaks a rule
    pub body-broken : (why : Refusal) → refused_at why k ≡ verdict (value_checks m n (take j text) k)
        → refused_at why k ≡ verdict (body_checks m n (pieces line_end text) k)
    body-broken why f =
        sym (body-next ∙ ap (λ (v : Outcome (Unit {0})). given v (verdict (body_checks m n (pieces line_end (drop (j + 1) text)) (suc k)))) (sym f))

    -- or none, and those after it decide
    pub body-passed : answer tt ≡ verdict (value_checks m n (take j text) k)
        → verdict (body_checks m n (pieces line_end text) k) ≡ verdict (body_checks m n (pieces line_end (drop (j + 1) text)) (suc k))
    body-passed f =
        body-next ∙ ap (λ (v : Outcome (Unit {0})). given v (verdict (body_checks m n (pieces line_end (drop (j + 1) text)) (suc k)))) (sym f)

-- ---- at a place of a text

-- a line of r bytes there, as a slice, has as many
pub line_long : (text : List ℕ) (at r : ℕ) → at + r < length text → length (take (at + r - at) (drop at text)) ≡ r
line_long text at r h = ap length (line_slice text at r) ∙ length-take-le r (drop at text) (omega (arith, length-drop at text))

module _ (m n : ℕ) (text : List ℕ) (at r k : ℕ) (e : r ≡ length (before line_end (drop at text))) (h : at + r < length text) where
  inside : r < length (drop at text)
  inside = omega (arith, length-drop at text)

  slice-checks : verdict (value_checks m n (take (at + r - at) (drop at text)) k) ≡ verdict (value_checks m n (take r (drop at text)) k)
  slice-checks = ap (λ (l : List ℕ). verdict (value_checks m n l k)) (line_slice text at r)

  pub place-broken : (why : Refusal) → refused_at why k ≡ verdict (value_checks m n (take (at + r - at) (drop at text)) k)
      → refused_at why k ≡ verdict (body_checks m n (pieces line_end (drop at text)) k)
  place-broken why f = body-broken m n (drop at text) k r e inside why (f ∙ slice-checks)

  pub place-passed : answer tt ≡ verdict (value_checks m n (take (at + r - at) (drop at text)) k)
      → verdict (body_checks m n (pieces line_end (drop at text)) k) ≡ verdict (body_checks m n (pieces line_end (drop (at + r + 1) text)) (k + 1))
  place-passed f =
      body-passed m n (drop at text) k r e inside (f ∙ slice-checks)
      ∙ ap₂ (λ (t : List ℕ) (j : ℕ). verdict (body_checks m n (pieces line_end t) j)) (after_line text at r) (sym (add-one k))

pub place_unended : (m n : ℕ) (text : List ℕ) (at r k : ℕ) → r ≡ length (before line_end (drop at text)) → at + r ≡ length text → at < length text
    → verdict (body_checks m n (pieces line_end (drop at text)) k) ≡ refused_at Refusal.LineForm k
place_unended m n text at r k e all some =
    body-unended m n (drop at text) k (omega (arith, e, length-drop at text)) (omega (arith, length-drop at text))

pub place_end : (m n : ℕ) (text : List ℕ) (at k : ℕ) → length text ≤ at → verdict (body_checks m n (pieces line_end (drop at text)) k) ≡ answer tt
place_end m n text at k h = body_end m n (drop at text) k (omega (arith, length-drop at text))

-- ---- the rows

pub given-passes : (v o : Outcome (Unit {0})) → given v o ≡ answer tt → (v ≡ answer tt) × (o ≡ answer tt)
given-passes (refused k vs) o e = absurd (refused_apart k vs tt e)
given-passes (answer tt) o e = (refl, e)

pub rows_end : (m : ℕ) (gs : List Generator) (text : List ℕ) → length text ≡ 0 → rows m gs (pieces line_end text) ≡ []
unfolding rows pieces
rows_end m gs [] e = refl
rows_end m gs (b ∷ t) e = absurd (omega arith)

pub rows_next :
    (m : ℕ) (gs : List Generator) (text : List ℕ) (j : ℕ) → j ≡ length (before line_end text) → j < length text
    → rows m gs (pieces line_end text) ≡ line_row m gs (take j text) ++ rows m gs (pieces line_end (drop (j + 1) text))
unfolding rows
rows_next m gs text j e h =
    let (p, ps, s) = pieces-some line_end (drop (j + 1) text) in
    rw (pieces-next line_end text j e h, s)

-- a line passes its checks at whatever number it stands
pub pass_any : (m n k : ℕ) (line : List ℕ) → verdict (value_checks m n line k) ≡ answer tt → verdict (value_checks m n line 0) ≡ answer tt
pass_any m n k line =
    go (not (four_fields line && first_pass is_mode m (drop 1 (fields line)))) (ltb max_sites (length (field 0 line))) (not (letters_alone (field 0 line)))
    (not (eqb (length (field 0 line)) n))
  where
    at : Bool → Bool → Bool → Bool → ℕ → Outcome (Unit {0})
    at a b c d k =
        cond a (refused_at Refusal.LineForm k)
        (cond b (refused_at Refusal.TooManyLetters k)
        (cond c (refused_at (Refusal.NotALetter (first_other (field 0 line))) k)
        (cond d (refused_at Refusal.OtherSites k) (answer tt))))

    go : (a b c d : Bool) → at a b c d k ≡ answer tt → at a b c d 0 ≡ answer tt
    go true b c d h = absurd (refused_apart _ _ tt h)
    go false true c d h = absurd (refused_apart _ _ tt h)
    go false false true d h = absurd (refused_apart _ _ tt h)
    go false false false true h = absurd (refused_apart _ _ tt h)
    go false false false false h = refl

-- the rows of the lines before a place are written, and the lines from there on break no rule
pub record Filling (used sites : ℕ) (gs : List Generator) (text list₀ : List ℕ) (start : ℕ) (list : List ℕ) (at place : ℕ) : Type 0 where
  pub inside : at ≤ length text
  pub line : ℕ
  pub fine : verdict (body_checks used sites (pieces line_end (drop at text)) line) ≡ answer tt
  pub written : List ℕ
  pub placed : place ≡ start + length written
  pub made : list ≡ put start written list₀
  pub more : written ++ rows used gs (pieces line_end (drop at text)) ≡ rows used gs (pieces line_end text)
  pub room : place + spread * (length text - at) ≤ length list₀

pub filling_start :
    (used sites : ℕ) (gs : List Generator) (text list : List ℕ) (start : ℕ) → verdict (body_checks used sites (pieces line_end text) 4) ≡ answer tt
    → start + spread * length text ≤ length list → Filling used sites gs text list start list 0 start
filling_start used sites gs text list start fine room =
    record {
      inside = omega arith;
      line = 4;
      fine = fine;
      written = [];
      placed = sym (add-zero start);
      made = sym (put_nothing start list);
      more = refl;
      room = omega arith;
    }

module _ {used sites : ℕ} {gs : List Generator} {text list₀ : List ℕ} {start : ℕ} {list : List ℕ} {at place : ℕ}
    (f : Filling used sites gs text list₀ start list at place) where
  pub filling-length : length list ≡ length list₀
  filling-length = ap length f.made ∙ put-length start f.written list₀ (omega (arith, f.placed, f.room))

  pub filling-end : length text ≤ at
      → (place ≡ start + length (rows used gs (pieces line_end text)))
      × ((list ≡ put start (rows used gs (pieces line_end text)) list₀) × (place ≤ length list₀))
  filling-end h =
      let all : f.written ≡ rows used gs (pieces line_end text) =
      sym (append-nil f.written)
      ∙ ap (λ (l : List ℕ). f.written ++ l) (sym (rows_end used gs (drop at text) (omega (arith, length-drop at text))))
      ∙ f.more
      in
      (f.placed ∙ ap (λ (l : List ℕ). start + length l) all, (f.made ∙ ap (λ (l : List ℕ). put start l list₀) all, omega (arith, f.room)))

  module _ (r : ℕ) (e : r ≡ length (before line_end (drop at text))) (h : at < length text) where
    -- the line there has its end
    pub filling-ends : at + r < length text
    filling-ends = go (eqb (at + r) (length text)) refl
      where
        within : at + r ≤ length text
        within = omega (arith, e, before_short line_end (drop at text), length-drop at text, f.inside)

        go : (b : Bool) → eqb (at + r) (length text) ≡ b → at + r < length text
        go true t =
            absurd (refused_apart _ _ tt (sym (place_unended used sites text at r f.line e (eqb-true (at + r) (length text) t) h) ∙ f.fine))
        go false t = omega (arith, within, eqb-false (at + r) (length text) t)

    -- and breaks no rule
    passes : (verdict (value_checks used sites (take r (drop at text)) f.line) ≡ answer tt)
        × (verdict (body_checks used sites (pieces line_end (drop (r + 1) (drop at text))) (suc f.line)) ≡ answer tt)
    passes =
        given-passes _ _
        (sym (body-next used sites (drop at text) f.line r e (omega (arith, filling-ends, length-drop at text))) ∙ f.fine)

    pub filling-fine : verdict (value_checks used sites (take (at + r - at) (drop at text)) 0) ≡ answer tt
    filling-fine = rw (line_slice text at r) (pass_any used sites f.line (take r (drop at text)) passes.0)

    module _ (short : length (line_row used gs (take (at + r - at) (drop at text))) ≤ spread * (length (take (at + r - at) (drop at text)) + 1)) where
      pub filling-next :
          {next : List ℕ} {after : ℕ} → after ≡ place + length (line_row used gs (take (at + r - at) (drop at text)))
          → next ≡ put place (line_row used gs (take (at + r - at) (drop at text))) list → Filling used sites gs text list₀ start next (at + r + 1) after
      filling-next {next} {after} ea en =
          let row : List ℕ = line_row used gs (take (at + r - at) (drop at text)) in
          let long = line_long text at r filling-ends in
          record {
            inside = omega (arith, filling-ends);
            line = suc f.line;
            fine = ap (λ (t : List ℕ). verdict (body_checks used sites (pieces line_end t) (suc f.line))) (sym (after_line text at r)) ∙ passes.1;
            written = f.written ++ row;
            placed = omega (arith, ea, f.placed, length-append f.written row);
            made =
                en
                ∙ ap₂ (λ (p : ℕ) (l : List ℕ). put p row l) f.placed f.made
                ∙ put-put start f.written row list₀ (omega (arith, f.placed, f.room, short, long, filling-ends));
            more =
                append_assoc f.written row (rows used gs (pieces line_end (drop (at + r + 1) text)))
                ∙ ap (λ (l : List ℕ). f.written ++ l)
                (ap₂ (λ (l t : List ℕ). line_row used gs l ++ rows used gs (pieces line_end t)) (line_slice text at r) (sym (after_line text at r))
                ∙ sym (rows_next used gs (drop at text) r e (omega (arith, filling-ends, length-drop at text))))
                ∙ f.more;
            room = omega (arith, ea, short, long, f.room, filling-ends);
          }
