-- A table printed as a file and read again, and a file read and printed again.
-- What carries it: a signed number has one text (`signed-text`, `text-signed`), and texts that a byte parts are the pieces of what they make
-- (`parted-pieces`, `pieces-parted`).
use Prim.Native.Nat.{ℕ, suc, ◌+◌, ◌-◌, ◌*◌, ◌≤◌, ◌<◌}
use mathlib.Core.Path.{◌≡◌, sym, ap, ap₂, ◌∙◌}
use mathlib.Core.Bool.{Bool, true, ◌&&◌, not, and-eq-true_iff}
use mathlib.Core.List.{List, [], ◌∷◌, ◌++◌, map}
use native.Mathlib.Omega.{arith}
use lib.Dec.{eqb}
use lib.IntN.{ℤ, pos, negsuc, nat_abs}
use lib.ListN.{length, get_or, take, drop, length-append, get_or-append}
use lib.Seq.{get_or-take}
use Rattle.action.specs.Lists.{same_numbers, below, every, total}
use Rattle.action.proofs.Lists.{same_numbers_eq, same_numbers_refl, of_member_below, length-below, every-intro, every_append, every-elim, of-member-map, member_at, total-map, total-append, total-within}
use Rattle.action.proofs.Below.{map-below-at, map-below-length, map-below-of}
use Rattle.text.specs.Text.{line_end, space, minus, pieces, parted, is_signed, signed_of, signed_text}
use Rattle.text.proofs.Pieces.{parted-pieces, pieces-some}
use Rattle.text.proofs.Decimals.{decimal-length}
use Rattle.text.proofs.Roundtrip.{signed-without}
use Rattle.text.proofs.Meanings.{pieces-parted, signed_text_lem, text_signed}
use Rattle.phases.specs.declared.PhaseTable.{PhaseTable}
use Rattle.phases.specs.Rules.{turn, unit, table_of, cosine, sine, InRange, PhaseRange}
use Rattle.phase_file.specs.File.{column_names, two_numbers, is_entry, entries_alone, is_file, number_at, column, table_in, max_number, max_print, entry_text, printed}
use Rattle.phase_file.proofs.Entries.{entry_fields, entries_made, entries_parts}
use Rattle.phase_file.proofs.Tables.{column-at}

-- ---- the line of an entry

-- a text without a byte
abbrev Without : ℕ → List ℕ → Bool
Without c text = every (λ b. not (eqb b c)) text

-- a number in its range, written
module _ (z : ℤ) (h : InRange unit z) where
  number-signed : is_signed (signed_text z) ≡ true
  number-signed = (signed_text_lem z (omega arith)).0

  number_read : signed_of (signed_text z) ≡ z
  number_read = (signed_text_lem z (omega arith)).1

  number-without : (c : ℕ) → c < minus → Without c (signed_text z) ≡ true
  number-without c l = signed-without c l (signed_text z) number-signed

-- it is short
number_short : (z : ℤ) → InRange unit z → length (signed_text z) ≤ max_number
number_short (pos n) h = omega (arith, decimal-length (max_number - 2) n (omega arith) (omega arith))
number_short (negsuc n) h = omega (arith, decimal-length (max_number - 2) (suc n) (omega arith) (omega arith))

-- two numbers in their range on a line
module _ (x y : ℤ) (h : InRange unit x) (k : InRange unit y) where
  abbrev line : List ℕ
  line = signed_text x ++ (space ∷ signed_text y)

  line-fields : pieces space line ≡ signed_text x ∷ signed_text y ∷ []
  unfolding every
  line-fields =
      parted-pieces space (signed_text x) (signed_text y ∷ []) (rw (number-without x h space (omega arith), number-without y k space (omega arith)))

  line-entry : is_entry line ≡ true
  unfolding is_entry
  line-entry = ap two_numbers line-fields ∙ ap₂ ◌&&◌ (number-signed x h) (number-signed y k)

  line-cosine : number_at 0 line ≡ x
  unfolding number_at
  line-cosine = ap (λ (ps : List (List ℕ)). signed_of (get_or ps 0 [])) line-fields ∙ number_read x h

  line-sine : number_at 1 line ≡ y
  unfolding number_at
  line-sine = ap (λ (ps : List (List ℕ)). signed_of (get_or ps 1 [])) line-fields ∙ number_read y k

  line-whole : Without line_end line ≡ true
  unfolding every
  line-whole =
      every_append (λ b. not (eqb b line_end)) (signed_text x) (space ∷ signed_text y)
      ∙ rw (number-without x h line_end (omega arith), number-without y k line_end (omega arith))

  line-short : length line ≤ 2 * max_number + 1
  line-short = omega (arith, length-append (signed_text x) (space ∷ signed_text y), number_short x h, number_short y k)

-- and a line of two numbers, printed again
line_again : (l : List ℕ) → is_entry l ≡ true → InRange unit (number_at 0 l) → InRange unit (number_at 1 l)
    → l ≡ signed_text (number_at 0 l) ++ (space ∷ signed_text (number_at 1 l))
unfolding number_at
line_again l e h k =
    let (c, s, two, f, g) = entry_fields l e in
    let first : number_at 0 l ≡ signed_of c = ap (λ (ps : List (List ℕ)). signed_of (get_or ps 0 [])) two in
    let second : number_at 1 l ≡ signed_of s = ap (λ (ps : List (List ℕ)). signed_of (get_or ps 1 [])) two in
    let x : signed_text (number_at 0 l) ≡ c = ap signed_text first ∙ text_signed c f (omega (arith, ap nat_abs first)) in
    let y : signed_text (number_at 1 l) ≡ s = ap signed_text second ∙ text_signed s g (omega (arith, ap nat_abs second)) in
    sym (pieces-parted space l) ∙ ap (parted space) two ∙ ap₂ (λ (p q : List ℕ). p ++ (space ∷ q)) (sym x) (sym y)

-- ---- the file of a table

-- what a byte parts has the pieces' bytes and the byte between them
parted-length : (c : ℕ) (p : List ℕ) (ps : List (List ℕ)) → length (parted c (p ∷ ps)) ≡ length p + total (λ q. suc (length q)) ps
unfolding total
parted-length c p [] = omega arith
parted-length c p (q ∷ ps) = omega (arith, length-append p (c ∷ parted c (q ∷ ps)), parted-length c q ps)

module _ (t : PhaseTable) (range : PhaseRange t) where
  abbrev entries : List (List ℕ)
  entries = map (entry_text t) (below turn)

  abbrev file_lines : List (List ℕ)
  file_lines = column_names ∷ (entries ++ ([] ∷ []))

  -- each entry's line, for what holds of all of them
  each : (p : List ℕ → Bool) → ((j : ℕ) → j < turn → p (entry_text t j) ≡ true) → every p entries ≡ true
  each p f =
      every-intro p entries
      (λ l m. let (j, inside, e) = of-member-map (entry_text t) (below turn) l m in ap p e ∙ f j (of_member_below turn j inside))

  print-lines : pieces line_end (printed t) ≡ file_lines
  unfolding printed every entry_text
  print-lines =
      parted-pieces line_end column_names (entries ++ ([] ∷ []))
      (every_append (Without line_end) entries ([] ∷ [])
      ∙ rw (each (Without line_end) (λ j h. line-whole (cosine t j) (sine t j) (range.cosines j h) (range.sines j h))))

  pub print-form : is_file (pieces line_end (printed t)) ≡ true
  unfolding is_file entry_text
  print-form =
      ap is_file print-lines
      ∙ ap₂ ◌&&◌ (same_numbers_refl column_names)
      (ap (λ (n : ℕ). entries_alone n (entries ++ ([] ∷ []))) (sym (map-below-length (entry_text t) turn))
      ∙ entries_made entries (each is_entry (λ j h. line-entry (cosine t j) (sine t j) (range.cosines j h) (range.sines j h))))

  -- a column of the print is the list that it was printed from
  column-printed : (i : ℕ) (list : List ℤ) → length list ≡ turn → ((j : ℕ) → j < turn → number_at i (entry_text t j) ≡ get_or list j (pos 0))
      → column i (drop 1 (pieces line_end (printed t))) ≡ list
  unfolding column
  column-printed i list long at =
      ap (λ (ls : List (List ℕ)). column i (drop 1 ls)) print-lines
      ∙ sym
      (map-below-of (λ j. number_at i (get_or (entries ++ ([] ∷ [])) j [])) turn (pos 0) list long
      (λ j h.
      sym (at j h)
      ∙ ap (number_at i)
      (sym (get_or-append entries ([] ∷ []) [] j (rw (map-below-length (entry_text t) turn) h) ∙ map-below-at (entry_text t) turn j [] h))))

  pub print-table : length t.cosines ≡ turn → length t.sines ≡ turn → table_in (pieces line_end (printed t)) ≡ t
  unfolding entry_text cosine sine
  print-table long also =
      ap₂ table_of
      (column-printed 0 t.cosines long (λ j h. line-cosine (cosine t j) (sine t j) (range.cosines j h) (range.sines j h)))
      (column-printed 1 t.sines also (λ j h. line-sine (cosine t j) (sine t j) (range.cosines j h) (range.sines j h)))

  pub print-short : length (printed t) ≤ max_print
  unfolding printed entry_text total
  print-short =
      let size : List ℕ → ℕ = λ q. suc (length q) in
      let lines : total size entries ≤ length (below turn) * (2 * max_number + 2) =
      rw (total-map size (entry_text t) (below turn))
      (total-within (λ j. size (entry_text t j)) (2 * max_number + 2) (below turn)
      (λ j m.
      let h = of_member_below turn j m in
      omega (arith, line-short (cosine t j) (sine t j) (range.cosines j h) (range.sines j h)))) in
      omega (arith, parted-length line_end column_names (entries ++ ([] ∷ [])), total-append size entries ([] ∷ []), lines, length-below turn)

-- ---- a file that is read, printed again

module _ (file : List ℕ) (t : PhaseTable) (form : is_file (pieces line_end file) ≡ true) (is : table_in (pieces line_end file) ≡ t) (range : PhaseRange t) where
  abbrev rest : List (List ℕ)
  rest = drop 1 (pieces line_end file)

  -- the names, and then the lines
  names-lines : (pieces line_end file ≡ column_names ∷ rest) × (entries_alone turn rest ≡ true)
  unfolding is_file
  names-lines = go (pieces-some line_end file)
    where
      go : (p : List ℕ) × (ps : List (List ℕ)) × (pieces line_end file ≡ p ∷ ps) → (pieces line_end file ≡ column_names ∷ rest) × (entries_alone turn rest ≡ true)
      go (p, ps, s) =
          let (names, lines) = (and-eq-true_iff (same_numbers p column_names) (entries_alone turn ps)).0 (ap is_file (sym s) ∙ form) in
          let after : ps ≡ rest = ap (drop 1) (sym s) in
          (s ∙ ap₂ ◌∷◌ (same_numbers_eq p column_names names) after, ap (entries_alone turn) (sym after) ∙ lines)

  cosine-at : (j : ℕ) → j < turn → cosine t j ≡ number_at 0 (get_or rest j [])
  unfolding cosine
  cosine-at j h = ap (λ (u : PhaseTable). get_or u.cosines j (pos 0)) (sym is) ∙ column-at 0 rest j h

  sine-at : (j : ℕ) → j < turn → sine t j ≡ number_at 1 (get_or rest j [])
  unfolding sine
  sine-at j h = ap (λ (u : PhaseTable). get_or u.sines j (pos 0)) (sym is) ∙ column-at 1 rest j h

  lines-printed : take turn rest ≡ map (entry_text t) (below turn)
  unfolding entry_text
  lines-printed =
      let (same, long, all) = entries_parts turn rest names-lines.1 in
      map-below-of (entry_text t) turn [] (take turn rest) long
      (λ j h.
      let at = get_or-take turn rest j [] h in
      let entry : is_entry (get_or rest j []) ≡ true =
      ap is_entry (sym at) ∙ every-elim is_entry (take turn rest) all (get_or (take turn rest) j []) (member_at (take turn rest) [] j (rw long h)) in
      let x = cosine-at j h in
      let y = sine-at j h in
      at
      ∙ line_again (get_or rest j []) entry (rw x at (range.cosines j h)) (rw y at (range.sines j h))
      ∙ ap₂ (λ (u v : ℤ). signed_text u ++ (space ∷ signed_text v)) (sym x) (sym y))

  pub read-printed : file ≡ printed t
  unfolding printed
  read-printed =
      let (same, long, all) = entries_parts turn rest names-lines.1 in
      sym (pieces-parted line_end file)
      ∙ ap (parted line_end)
      (names-lines.0 ∙ ap (λ (ls : List (List ℕ)). column_names ∷ ls) (same ∙ ap (λ (es : List (List ℕ)). es ++ ([] ∷ [])) lines-printed))
