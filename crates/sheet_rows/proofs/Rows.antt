-- Rows: texts written one after the other into a list, the parts of a word's row, and a value line that breaks no rule.
-- What carries it: two writes, each from where the one before ends, write the two texts as one (`writes_then`), so that a chain of them writes a row.
use Rattle.std.specs.Prelude.{Result, Ok, Err, Some, None}
use Prim.Native.Nat.{ℕ, zero, suc, ◌+◌, ◌-◌, ◌*◌, ◌≤◌, ◌<◌}
use mathlib.Core.Path.{◌≡◌, refl, sym, ap, ap₂, subst, ◌∙◌}
use mathlib.Core.Logic.{inl}
use mathlib.Core.Bool.{Bool, true, false, ◌&&◌, not, cond, and-eq-true_iff}
use mathlib.Core.List.{List, [], ◌∷◌, ◌++◌, map, append_assoc}
use native.Mathlib.Nat.{div-le_self, sub-zero}
use native.Mathlib.Omega.{arith}
use lib.Dec.{eqb, ltb}
use lib.IntN.{ℤ}
use lib.ListN.{length, get_or, take, drop, replicate, length-append, length-map}
use lib.Seq.{take_at, length-take-le}
use borrow.Author.Tests.{eqb-true, not-false}
use Rattle.outcome.specs.declared.Refusal.{Refusal}
use Rattle.outcome.specs.declared.Refusal.TheVariants as Refusal
use Rattle.outcome.proofs.Outcomes.{refused_apart, verdict-fine, call-answers}
use Rattle.pauli_word.specs.Limits.{max_sites, plane_length}
use Rattle.outcome.specs.Outcome.{answer, verdict, on_answer, outcome_of}
use Rattle.pauli_word.specs.Word.{Word, weight}
use Rattle.pauli_word.specs.Bytes.{AcceptedWord, letters_in, bytes_of, word_in}
use Rattle.pauli_word.specs.Text.{letter, glyph, letters_alone, read_text, spell, first_other}
use Rattle.pauli_word.specs.declared.TextWord.{TextWord}
use Rattle.pauli_word.specs.declared.WordText.{WordText}
use Rattle.pauli_word.specs.Calls.{word_checks, text_word, from_text_outcome, word_text, to_text_outcome, weight_outcome}
use Rattle.pauli_word.proofs.Words.{decode-length, decode-encode, encode-accepted}
use Rattle.pauli_word.proofs.Sites.{weight_small}
use Rattle.pauli_word.proofs.Forms.{full-letters}
use Rattle.pauli_word.proofs.Checks.{accepted-passes}
use Rattle.pauli_word.proofs.Texts.{spell-read_text, no_other}
use Rattle.action.specs.Lists.{every, same_numbers}
use Rattle.action.specs.Permutation.{Generator, Valid}
use Rattle.action.specs.Index.{order_of}
use Rattle.action.specs.Orbit.{least, index_back, orbit_size, fixing}
use Rattle.action.specs.Sector.{keeps, dropped_by}
use Rattle.action.proofs.Canonical.{least-length, back_below}
use Rattle.permutation.specs.Limits.{max_order}
use Rattle.decisions.specs.declared.placement.Placement.{Placement}
use Rattle.decisions.specs.declared.placement.Placement.TheVariants as Placement
use Rattle.text.specs.Text.{line_end, space, is_mode, signed_of, decimal, put, max_written}
use Rattle.text.specs.Parts.{four_fields, field_length, fields_read}
use Rattle.text.proofs.Decimals.{written_short}
use Rattle.text.proofs.Writing.{Writes, text_writes}
use Rattle.text.proofs.Pieces.{part, FourParts, four_parts, parts-read}
use Rattle.text.proofs.Meanings.{fields_parts}
use Rattle.sheet_rows.specs.Rows.{refused_name, one_text, missing, joined, row, line_row, number_room, numbers_room, spread, refusal_line, rest}
use Rattle.sheet_lines.specs.Lines.{zero_text, fields, field, first_pass, letter_checks, value_checks, rule_at}
use Rattle.sheet_lines.specs.Parts.{mode_or_zero}
use Rattle.decisions.specs.Decisions.{Row, decision, kept, dropped, row_word}
use Rattle.decisions.specs.Placements.{placement_of}
use Rattle.decisions.proofs.Placing.{decision-drops}
use Rattle.decisions.proofs.Traversals.{placed-dropped}

-- ---- texts one after the other

pub two_short : (i j : ℕ) → i < max_written → j < max_written → length ((space ∷ decimal i) ++ (space ∷ decimal j)) ≤ 2 * number_room
two_short i j hi hj = omega (arith, written_short i hi, written_short j hj, length-append (space ∷ decimal i) (space ∷ decimal j))

pub number_writes :
    {at place number : ℕ} {list next : List ℕ} → (place ≡ at + length (space ∷ decimal number)) × (next ≡ put at (space ∷ decimal number) list)
    → number < max_written → at + number_room ≤ length list → Writes at (space ∷ decimal number) list place next
number_writes {at} {number} e small room = text_writes e (omega (arith, written_short number small))

-- ---- fields that follow each other

rest-length : (f : List ℕ) (fs : List (List ℕ)) → length (rest (f ∷ fs)) ≡ suc (length f + length (rest fs))
unfolding rest
rest-length f fs = ap suc (length-append f (rest fs))

end_length : (f : List ℕ) → length (rest (f ∷ [])) ≡ length f + 2
unfolding rest
end_length f = omega (arith, length-append f (line_end ∷ []))

-- what follows a word has at most so many bytes
pub dropped_short :
    (i k : ℕ) → i < max_written → k < max_written
    → length (rest (missing ∷ decimal i ∷ missing ∷ decimal k ∷ zero_text ∷ [])) ≤ 2 * number_room + 7
dropped_short i k hi hk =
    let more : List (List ℕ) = decimal k ∷ zero_text ∷ [] in
    omega (
      arith,
      written_short i hi,
      written_short k hk,
      rest-length missing (decimal i ∷ missing ∷ more),
      rest-length (decimal i) (missing ∷ more),
      rest-length missing more,
      rest-length (decimal k) (zero_text ∷ []),
      end_length zero_text,
    )

pub numbers_short :
    (i j k : ℕ) → i < max_written → j < max_written → k < max_written → length (rest (decimal i ∷ decimal j ∷ decimal k ∷ one_text ∷ [])) ≤ numbers_room
numbers_short i j k hi hj hk =
    omega (
      arith,
      written_short i hi,
      written_short j hj,
      written_short k hk,
      rest-length (decimal i) (decimal j ∷ decimal k ∷ one_text ∷ []),
      rest-length (decimal j) (decimal k ∷ one_text ∷ []),
      rest-length (decimal k) (one_text ∷ []),
      end_length one_text,
    )

pub kept_short :
    (f : List ℕ) (i j k : ℕ) → i < max_written → j < max_written → k < max_written
    → length (rest (f ∷ decimal i ∷ decimal j ∷ decimal k ∷ one_text ∷ [])) ≤ length f + 1 + numbers_room
kept_short f i j k hi hj hk =
    omega (arith, numbers_short i j k hi hj hk, rest-length f (decimal i ∷ decimal j ∷ decimal k ∷ one_text ∷ []))

-- the pieces of what follows a word
pub dropped_pieces :
    (i k : ℕ) → (space ∷ missing) ++ ((space ∷ decimal i) ++ ((space ∷ missing) ++ ((space ∷ decimal k) ++ (space ∷ 48 ∷ line_end ∷ []))))
    ≡ rest (missing ∷ decimal i ∷ missing ∷ decimal k ∷ zero_text ∷ [])
unfolding rest
dropped_pieces i k = refl

pub numbers-pieces :
    (i j k : ℕ) → ((space ∷ decimal i) ++ (space ∷ decimal j)) ++ ((space ∷ decimal k) ++ (space ∷ 49 ∷ line_end ∷ []))
    ≡ rest (decimal i ∷ decimal j ∷ decimal k ∷ one_text ∷ [])
unfolding rest
numbers-pieces i j k = append_assoc (space ∷ decimal i) (space ∷ decimal j) _

pub kept_pieces : (f : List ℕ) (fs : List (List ℕ)) → (space ∷ []) ++ (f ++ rest fs) ≡ rest (f ∷ fs)
unfolding rest
kept_pieces f fs = refl

pub refusal_pieces :
    (number line : ℕ) → refused_name ++ (((space ∷ decimal number) ++ (space ∷ decimal line)) ++ (line_end ∷ [])) ≡ refusal_line number line
unfolding joined
refusal_pieces number line = ap (λ (t : List ℕ). refused_name ++ t) (append_assoc (space ∷ decimal number) (space ∷ decimal line) (line_end ∷ []))

pub joined-rest : (f : List ℕ) (fs : List (List ℕ)) → joined (f ∷ fs) ≡ f ++ rest fs
unfolding joined rest
joined-rest f [] = refl
joined-rest f (g ∷ fs) = ap (λ (t : List ℕ). f ++ (space ∷ t)) (joined-rest g fs)

-- ---- a word and its text

module _ (n : ℕ) (bytes : List ℕ) (ok : AcceptedWord n bytes) where
  abbrev text : List ℕ
  text = spell (letters_in n bytes)

  -- a word in full passes its checks, and its letters are those of its bytes
  passes : verdict (word_checks n bytes) ≡ answer tt
  passes = accepted-passes n bytes (inl ok)

  letters-full : word_in n bytes ≡ letters_in n bytes
  letters-full = full-letters n bytes ok

  pub spelled-length : length text ≡ n
  spelled-length = length-map (letters_in n bytes) glyph ∙ decode-length ok

  -- an accepted word has its text
  pub spelled : to_text_outcome n bytes ≡ answer text
  unfolding to_text_outcome
  spelled =
      call-answers (word_checks n bytes) (answer (spell (word_in n bytes))) passes ∙ ap (λ (w : Word). answer (spell w)) letters-full

  pub spelled-fine : {r : Result WordText Refusal} {why : Refusal} → outcome_of r ≡ on_answer word_text (to_text_outcome n bytes) → r ≡ Err why → ⊥
  spelled-fine e f = refused_apart _ _ (word_text text) (sym (ap outcome_of f) ∙ e ∙ ap (on_answer word_text) spelled)

  -- which stands at the front of what spelling gives; `&list[0..n]` denotes it
  pub spelled-front : {r : Result WordText Refusal} {t : WordText} → outcome_of r ≡ on_answer word_text (to_text_outcome n bytes) → r ≡ Ok t
      → (take (n - 0) t.text ≡ text) × (n ≤ length t.text)
  spelled-front {r} {t} e f =
      let g : answer t ≡ answer (word_text text) = sym (ap outcome_of f) ∙ e ∙ ap (on_answer word_text) spelled in
      let same : t ≡ word_text text = cc in
      let is : t.text ≡ text ++ replicate (max_sites - length text) 0 = ap (λ (t : WordText). t.text) same in (
        ap (take (n - 0)) is ∙ take_at text _ (n - 0) (omega (arith, spelled-length)),
        omega (arith, ap length is, length-append text (replicate (max_sites - length text) 0), spelled-length),
      )

  -- an accepted word has its weight
  pub weighs : weight_outcome n bytes ≡ answer (weight (letters_in n bytes))
  unfolding weight_outcome
  weighs =
      call-answers (word_checks n bytes) (answer (weight (word_in n bytes))) passes ∙ ap (λ (w : Word). answer (weight w)) letters-full

  pub not-refused : {r : Result ℕ Refusal} {why : Refusal} → outcome_of r ≡ weight_outcome n bytes → r ≡ Err why → ⊥
  not-refused {r} {why} e f = refused_apart _ _ (weight (letters_in n bytes)) (sym (ap outcome_of f) ∙ e ∙ weighs)

  pub weighed : {r : Result ℕ Refusal} {k : ℕ} → outcome_of r ≡ weight_outcome n bytes → r ≡ Ok k → k ≡ weight (letters_in n bytes)
  weighed {r} {k} e f = let g : answer k ≡ answer (weight (letters_in n bytes)) = sym (ap outcome_of f) ∙ e ∙ weighs in cc

-- the word that a text of n letters writes
module _ (n : ℕ) (text : List ℕ) (alone : letters_alone text ≡ true) (long : length text ≡ n) (few : n ≤ max_sites) (r : Result TextWord Refusal)
    (told : outcome_of r ≡ on_answer text_word (from_text_outcome text)) where
  answers : outcome_of r ≡ answer (text_word (read_text text))
  answers = told ∙ ap (on_answer text_word) (no_other text (omega arith) alone)

  pub read-fine : {why : Refusal} → r ≡ Err why → ⊥
  read-fine e = refused_apart _ _ (text_word (read_text text)) (sym (ap outcome_of e) ∙ answers)

  letters : length (read_text text) ≡ n
  letters = length-map text letter ∙ long

  short : length (read_text text) ≤ 8 * plane_length
  short = omega (arith, letters)

  pub weight-few : weight (read_text text) < max_written
  weight-few = omega (arith, weight_small (read_text text), letters)

  module _ {read : TextWord} (is : r ≡ Ok read) where
    encoded : read.word ≡ bytes_of (read_text text)
    encoded =
        let g : answer read ≡ answer (text_word (read_text text)) = sym (ap outcome_of is) ∙ answers in
        let same : read ≡ text_word (read_text text) = cc in
        ap (λ (w : TextWord). w.word) same

    pub read-accepted : AcceptedWord n read.word
    read-accepted = rw (encoded, sym letters) (encode-accepted plane_length (read_text text) short)

    pub read_word : letters_in n read.word ≡ read_text text
    read_word = ap₂ letters_in (sym letters) encoded ∙ decode-encode plane_length (read_text text) short

-- ---- the row of a word

module _ (gs : List Generator) (ks : List ℤ) (text : List ℕ) (alone : letters_alone text ≡ true) where
  abbrev w : Word
  w = read_text text

  -- without a least word
  module _ {i : ℕ} (e : placement_of (decision gs ks w) ≡ Placement.Dropped i) where
    pub row-dropped : row gs w ks ≡ text ++ rest (missing ∷ decimal i ∷ missing ∷ decimal (weight w) ∷ zero_text ∷ [])
    unfolding row
    row-dropped =
        let none : decision gs ks w ≡ dropped i = placed-dropped (decision gs ks w) e in
        rw none (joined-rest (spell w) (missing ∷ decimal i ∷ missing ∷ decimal (weight w) ∷ zero_text ∷ [])
        ∙ ap (λ (f : List ℕ). f ++ rest (missing ∷ decimal i ∷ missing ∷ decimal (weight w) ∷ zero_text ∷ [])) (spell-read_text text alone))

    pub dropped-small : order_of gs ≤ max_order → i < max_written
    dropped-small small = omega (arith, ((decision-drops gs ks w i).0 (placed-dropped (decision gs ks w) e)).inside)

  -- what goes with a kept word, by its numbers
  abbrev found : ℕ → ℕ → Row
  found i size = record { word = least gs w; index = i; size = size }

  -- with one
  module _ {i size : ℕ} (e : placement_of (decision gs ks w) ≡ Placement.Kept i size) where
    -- where it stands
    kept-is : (decision gs ks w ≡ kept (found i size)) × (index_back gs w ≡ i) × (orbit_size gs w ≡ size)
    unfolding decision
    kept-is = go (keeps gs ks w) e
      where
        go :
            (b : Bool) → placement_of (cond b (kept (found (index_back gs w) (orbit_size gs w))) (dropped (dropped_by gs ks w))) ≡ Placement.Kept i size
            → (cond b (kept (found (index_back gs w) (orbit_size gs w))) (dropped (dropped_by gs ks w)) ≡ kept (found i size)) × (index_back gs w ≡ i) × (orbit_size gs w ≡ size)
        go true h =
            let x : index_back gs w ≡ i = cc in
            let y : orbit_size gs w ≡ size = cc in
            (ap₂ (λ (j k : ℕ). kept (found j k)) x y, x, y)
        go false h = let z : ◌≡◌ {A = ℕ} 0 1 = cc in absurd (omega arith)

    pub row_kept : row gs w ks ≡ text ++ rest (spell (least gs w) ∷ decimal i ∷ decimal size ∷ decimal (weight w) ∷ one_text ∷ [])
    unfolding row
    row_kept =
        rw kept-is.0 (joined-rest (spell w) (spell (least gs w) ∷ decimal i ∷ decimal size ∷ decimal (weight w) ∷ one_text ∷ [])
        ∙ ap (λ (f : List ℕ). f ++ rest (spell (least gs w) ∷ decimal i ∷ decimal size ∷ decimal (weight w) ∷ one_text ∷ [])) (spell-read_text text alone))

    module _ {n : ℕ} (valid : Valid n gs) (long : length text ≡ n) (few : n ≤ max_sites) where
      -- the bytes of the least word are accepted, and its letters come back from them
      pub kept_word : {bytes : List ℕ} → bytes ≡ row_word (decision gs ks w) → AcceptedWord n bytes × (letters_in n bytes ≡ least gs w)
      kept_word {bytes} m =
          let size : length (least gs w) ≡ n = least-length valid w ∙ length-map text letter ∙ long in
          let short : length (least gs w) ≤ 8 * plane_length = omega arith in
          let same : bytes ≡ bytes_of (least gs w) = m ∙ ap row_word kept-is.0 in (
            rw (same, sym size) (encode-accepted plane_length (least gs w) short),
            ap₂ letters_in (sym size) same ∙ decode-encode plane_length (least gs w) short,
          )

      pub kept_small : order_of gs ≤ max_order → (i < max_written) × (size < max_written)
      unfolding orbit_size
      kept_small small =
          let (t, index, orbit) = kept-is in
          (omega (arith, index, back_below valid w), omega (arith, orbit, div-le_self (order_of gs) (length (fixing gs w))))

-- ---- a value line that breaks no rule

-- the first of three; `&list[0..k]` denotes them
pub three_taken : (k : ℕ) (x y z : ℤ) → k ≤ 3 → length (take (k - 0) (x ∷ y ∷ z ∷ [])) ≡ k
three_taken k x y z h = length-take-le (k - 0) (x ∷ y ∷ z ∷ []) (omega arith) ∙ sub-zero k

modes_taken :
    (k : ℕ) (p q r : List ℕ) → k ≤ 3 → every is_mode (take k (p ∷ q ∷ r ∷ [])) ≡ true
    → take k (mode_or_zero p ∷ mode_or_zero q ∷ mode_or_zero r ∷ []) ≡ map signed_of (take k (p ∷ q ∷ r ∷ []))
unfolding every
modes_taken zero p q r h e = refl
modes_taken (suc zero) p q r h e = let x = (and-eq-true_iff (is_mode p) true).0 e in simp x.0
modes_taken (suc (suc zero)) p q r h e =
    let x = (and-eq-true_iff (is_mode p) _).0 e in
    let y = (and-eq-true_iff (is_mode q) true).0 x.1 in
    simp (x.0, y.0)
modes_taken (suc (suc (suc zero))) p q r h e =
    let x = (and-eq-true_iff (is_mode p) _).0 e in
    let y = (and-eq-true_iff (is_mode q) _).0 x.1 in
    let z = (and-eq-true_iff (is_mode r) true).0 y.1 in
    simp (x.0, y.0, z.0)
modes_taken (suc (suc (suc (suc k)))) p q r h e = absurd (omega arith)

module _ (used sites : ℕ) (line : List ℕ) (fine : verdict (value_checks used sites line 0) ≡ answer tt) where
  pub checked :
      (four_fields line ≡ true) × (first_pass is_mode used (drop 1 (fields line)) ≡ true) × (letters_alone (field 0 line) ≡ true)
      × (length (field 0 line) ≡ sites)
  checked =
      let f = field 0 line in
      let (a, more) =
      verdict-fine (rule_at Refusal.LineForm (not (four_fields line && first_pass is_mode used (drop 1 (fields line)))) 0) (letter_checks sites f 0) fine
      in
      let (b, last) =
      verdict-fine (rule_at Refusal.TooManyLetters (ltb max_sites (length f)) 0) (rule_at (Refusal.NotALetter (first_other f)) (not (letters_alone f)) 0 ∷ rule_at Refusal.OtherSites (not (eqb (length f) sites)) 0 ∷ []) more
      in
      let (c, end) = verdict-fine (rule_at (Refusal.NotALetter (first_other f)) (not (letters_alone f)) 0) (rule_at Refusal.OtherSites (not (eqb (length f) sites)) 0 ∷ []) last in
      let (d, none) = verdict-fine (rule_at Refusal.OtherSites (not (eqb (length f) sites)) 0) [] end in
      let both = (and-eq-true_iff (four_fields line) (first_pass is_mode used (drop 1 (fields line)))).0 (not-false _ a) in
      (both.0, both.1, not-false (letters_alone f) c, eqb-true (length f) sites (not-false (eqb (length f) sites) d))

  pub line-not-other : fields_read line ≡ None → ⊥
  line-not-other e =
      let z : ◌≡◌ {A = ℕ} 0 1 = (let f = sym (parts-read line _ _ _ (four_parts line checked.0)) ∙ e in cc) in
      omega arith

  module _ {a b c : ℕ} (told : fields_read line ≡ Some (a, b, c)) where
    pub line-parts : FourParts line a b c
    line-parts = fields_parts line a b c told

    -- the word: what `&line[0..a]` denotes
    abbrev first : List ℕ
    first = take (a - 0) line

    first_field : field 0 line ≡ first
    first_field = ap (λ (ps : List (List ℕ)). get_or ps 0 []) line-parts.parts ∙ ap (λ (k : ℕ). take k line) (sym (sub-zero a))

    pub line-letters : letters_alone first ≡ true
    line-letters = ap letters_alone (sym first_field) ∙ checked.2

    pub line_long : length first ≡ sites
    line_long = ap length (sym first_field) ∙ checked.3

    -- the row fits where `spread` times the line and its end fit
    pub line-room : (at k : ℕ) → at + spread * (length line + 1) ≤ k → at + (2 * length first + 1 + numbers_room) ≤ k
    line-room at k h =
        let p = line-parts in
        omega (arith, length-take-le (a - 0) line (omega (arith, p.second, p.third, p.fourth)), p.second, p.third, p.fourth)

    -- the modes that are used, and the row
    module _ (few : used ≤ 3) {x y z : ℤ} (ex : x ≡ mode_or_zero (part (a + 1) b line)) (ey : y ≡ mode_or_zero (part (b + 1) c line))
        (ez : z ≡ mode_or_zero (part (c + 1) (length line) line)) where
      abbrev given : List ℤ
      given = take (used - 0) (x ∷ y ∷ z ∷ [])

      line-modes : given ≡ map signed_of (take used (drop 1 (fields line)))
      unfolding first_pass
      line-modes =
          let e : drop 1 (fields line) ≡ part (a + 1) b line ∷ part (b + 1) c line ∷ part (c + 1) (length line) line ∷ [] =
          ap (drop 1) line-parts.parts
          in
          let texts : List (List ℕ) = drop 1 (fields line) in
          let passes : every is_mode (take used texts) ≡ true =
          ((and-eq-true_iff (every is_mode (take used texts)) (every (same_numbers zero_text) (drop used texts))).0 checked.1).0
          in
          ap (λ (k : ℕ). take k (x ∷ y ∷ z ∷ [])) (sub-zero used)
          ∙ rw (ex, ey, ez) (modes_taken used _ _ _ few (ap (λ (ps : List (List ℕ)). every is_mode (take used ps)) (sym e) ∙ passes))
          ∙ ap (λ (ps : List (List ℕ)). map signed_of (take used ps)) (sym e)

      pub line_row_lem : (gs : List Generator) → row gs (read_text first) given ≡ line_row used gs line
      unfolding line_row
      line_row_lem gs = ap₂ (λ (f : List ℕ) (ks : List ℤ). row gs (read_text f) ks) (sym first_field) line-modes
