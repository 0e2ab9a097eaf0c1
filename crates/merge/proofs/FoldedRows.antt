-- The bridge from words to bytes: folding the bytes of representatives, as the code does, is folding the representatives. The words are in full.
-- The fact that carries it: words of one length are ordered as their bytes are (`less-bytes`), and rows folded by renamed keys are the renamed rows.
use Prim.Native.Nat.{ℕ, zero, suc, ◌-◌, ◌≤◌, ◌<◌}
use mathlib.Core.Path.{◌≡◌, refl, sym, ap, ap₂, ◌∙◌}
use mathlib.Core.Bool.{not}
use mathlib.Core.List.{List, [], ◌∷◌, ◌++◌, map, map-map}
use native.Mathlib.Numerals.{add-one}
use native.Mathlib.Omega.{arith}
use lib.ListN.{length, get_or, take, drop, length-map}
use lib.Seq.{take_at, drop_at, take_all}
use lib.Ieee.{Float, nan}
use Rattle.outcome.specs.declared.Refusal.TheVariants as Refusal
use Rattle.outcome.specs.Outcome.{Outcome, refused, answer, rule, verdict, given, on_answer}
use Rattle.pauli_word.specs.Limits.{max_sites, plane_length, word_length}
use Rattle.pauli_word.specs.Word.{Word}
use Rattle.pauli_word.specs.Bytes.{letters_in, bytes_of}
use Rattle.pauli_word.proofs.Words.{map-append, encode-length, decode-length}
use Rattle.action.specs.Lists.{Member, from, below, every}
use Rattle.action.proofs.Lists.{of-member-map, of_member_below}
use Rattle.action.proofs.Canonical.{least-length}
use Rattle.elements.specs.HeldGroup.{encode_all}
use Rattle.elements.proofs.Orbits.{below_next}
use Rattle.group.specs.declared.Group.{Group}
use Rattle.group.specs.Value.{generators_of, AcceptedGroup}
use Rattle.group.proofs.MadeGroups.{held-valid}
use Rattle.keyed.specs.Keyed.{key_of, renamed, table_of, first_failing}
use Rattle.keyed.proofs.Tables.{get_d_map, table-renamed, running-renamed}
use Rattle.row_lists.specs.Rows.{row_at, rows_in}
use Rattle.row_lists.specs.Checks.{AcceptedRows}
use Rattle.row_lists.proofs.RowsIn.{rows-length, rows_at, rows_next}
use Rattle.row_words.proofs.WordBytes.{less-bytes, same_bytes}
use Rattle.sum_rows.specs.declared.row_sum.RowSum.{RowSum}
use Rattle.sum_rows.specs.Sums.{finite_sum, overflow, fold_outcome, handed_back}
use Rattle.sum_rows.specs.Sums as Sums
use Rattle.sum_rows.specs.Rows.{byte_sums}
use Rattle.merge.specs.Calls.{representative, representative_rows, word_sums, folded_sum, least_rows}

-- ---- rows

-- the rows of words' bytes are the words' rows
rows_encoded : (rows : List (Word × Float)) → rows_in (encode_all (map key_of rows)) (map (λ row. row.1) rows) ≡ map (renamed bytes_of) rows
unfolding rows_in encode_all
rows_encoded [] = refl
rows_encoded (row ∷ rows) =
    let rest : List ℕ = encode_all (map key_of rows) in
    ap₂ (λ (front behind : List ℕ). (front, row.1) ∷ rows_in behind (map (λ row. row.1) rows))
    (take_at (bytes_of row.0) rest word_length (encode-length plane_length row.0))
    (drop_at (bytes_of row.0) rest word_length (encode-length plane_length row.0))
    ∙ ap (λ (l : List (List ℕ × Float)). renamed bytes_of row ∷ l) (rows_encoded rows)

module _ (words : List ℕ) (cs : List Float) where
  abbrev row_of : ℕ → List ℕ × Float
  row_of i = (row_at words i, get_or cs i nan)

  rows_taken : (i : ℕ) → i ≤ length cs → take i (rows_in words cs) ≡ map row_of (below i)
  unfolding below from
  rows_taken zero h = refl
  rows_taken (suc i) h =
      rows_next words cs i nan h
      ∙ ap (λ (l : List (List ℕ × Float)). l ++ (row_of i ∷ [])) (rows_taken i (omega arith))
      ∙ sym (ap (λ (j : ℕ). map row_of (below j)) (sym (add-one i)) ∙ ap (map row_of) (below_next i) ∙ map-append row_of (below i) (i ∷ []))

  pub rows-below : rows_in words cs ≡ map row_of (below (length cs))
  rows-below = sym (take_all (length cs) (rows_in words cs) (omega (arith, rows-length words cs))) ∙ rows_taken (length cs) (omega arith)

contents : (words : List ℕ) (cs : List Float) → map (λ row. row.1) (rows_in words cs) ≡ cs
unfolding rows_in
contents words [] = refl
contents words (c ∷ cs) = ap (λ (l : List Float). c ∷ l) (contents (drop word_length words) cs)

module _ (g : Group) (words : List ℕ) (cs : List Float) where
  pub representatives-keys : least_rows (generators_of g) g.sites words (length cs) ≡ map key_of (representative_rows g (rows_in words cs))
  unfolding least_rows representative_rows
  representatives-keys =
      sym (map-map (λ row. representative g row.0) (row_of words cs) (below (length cs)))
      ∙ ap (map (λ row. representative g row.0)) (sym (rows-below words cs))
      ∙ sym (map-map key_of (renamed (representative g)) (rows_in words cs))

  representatives-contents : map (λ row. row.1) (representative_rows g (rows_in words cs)) ≡ cs
  unfolding representative_rows
  representatives-contents = map-map (λ row. row.1) (renamed (representative g)) (rows_in words cs) ∙ contents words cs

  pub rows-representatives :
      rows_in (encode_all (least_rows (generators_of g) g.sites words (length cs))) cs ≡ map (renamed bytes_of) (representative_rows g (rows_in words cs))
  rows-representatives =
      ap₂ (λ (ws : List Word) (ds : List Float). rows_in (encode_all ws) ds) representatives-keys (sym representatives-contents)
      ∙ rows_encoded (representative_rows g (rows_in words cs))

  pub representatives-length : length (representative_rows g (rows_in words cs)) ≡ length cs
  unfolding representative_rows
  representatives-length = length-map (rows_in words cs) (renamed (representative g)) ∙ rows-length words cs

  -- row i has its representative
  pub representative-at : (i : ℕ) → i < length cs → (get_or (representative_rows g (rows_in words cs)) i ([], Sums.zero)).0 ≡ representative g (row_at words i)
  unfolding representative_rows
  representative-at i h =
      ap key_of (get_d_map (renamed (representative g)) (rows_in words cs) i ([], Sums.zero) ([], nan) (omega (arith, rows-length words cs)))
      ∙ ap (λ (row : List ℕ × Float). representative g row.0) (rows_at words cs i nan ([], nan) h)

  -- a representative is that of some row
  pub representative-of : (w : Word) → Member w (map key_of (representative_rows g (rows_in words cs)))
      → (i : ℕ) × (i < length cs) × (w ≡ representative g (row_at words i))
  unfolding least_rows
  representative-of w m =
      let (i, n, e) = of-member-map (λ i. representative g (row_at words i)) (below (length cs)) w (rw (← representatives-keys) at m) in
      (i, of_member_below (length cs) i n, e)

  module _ (group : AcceptedGroup g) (rows : AcceptedRows g.sites words (length cs)) where
    -- it has as many letters as the group has sites
    pub representative-long : (w : Word) → Member w (map key_of (representative_rows g (rows_in words cs))) → length w ≡ g.sites
    representative-long w m =
        let (i, h, e) = representative-of w m in
        ap length e ∙ least-length (held-valid g group) (letters_in g.sites (row_at words i)) ∙ decode-length (rows.word i h)

-- ---- the fold

given_answer : {A B : Type 0} (φ : A → B) (v : Outcome (Unit {0})) (a : A) → given v (answer (φ a)) ≡ on_answer φ (given v (answer a))
given_answer φ (refused k vs) a = refl
given_answer φ (answer t) a = refl

module _ (n : ℕ) (few : n ≤ max_sites) (rows : List (Word × Float)) (long : (w : Word) → Member w (map key_of rows) → length w ≡ n) where
  fold-encoded : fold_outcome byte_sums (map (renamed bytes_of) rows) ≡ on_answer (map (renamed bytes_of)) (fold_outcome word_sums rows)
  unfolding fold_outcome
  fold-encoded =
      ap₂ (λ (s : List RowSum) (t : List (List ℕ × RowSum)).
      given (verdict (rule (Refusal.SumNotFinite (first_failing finite_sum s)) (not (every finite_sum s)) ∷ [])) (answer t))
      (running-renamed bytes_of word_sums byte_sums refl refl (less-bytes n few) (same_bytes n few) rows long)
      (table-renamed bytes_of word_sums byte_sums refl refl (less-bytes n few) (same_bytes n few) rows long)
      ∙ given_answer (map (renamed bytes_of)) (verdict (overflow word_sums rows ∷ [])) (table_of word_sums rows)

pub fold-representatives :
    (g : Group) (words : List ℕ) (cs : List Float) → AcceptedGroup g → AcceptedRows g.sites words (length cs)
    → fold_outcome byte_sums (rows_in (encode_all (least_rows (generators_of g) g.sites words (length cs))) cs)
    ≡ on_answer (map (renamed bytes_of)) (folded_sum g words cs)
unfolding folded_sum
fold-representatives g words cs group rows =
    ap (fold_outcome byte_sums) (rows-representatives g words cs)
    ∙ fold-encoded g.sites group.few (representative_rows g (rows_in words cs)) (representative-long g words cs group rows)

-- ---- what is handed back does not depend on how keys are named

module _ {A B : Type 0} (φ : A → B) where
  pub handed-renamed : (o : Outcome (List A)) → handed_back (on_answer (map φ) o) ≡ map φ (handed_back o)
  handed-renamed (refused k vs) = refl
  handed-renamed (answer xs) = refl

  pub length-renamed : (o : Outcome (List A)) → on_answer length (on_answer (map φ) o) ≡ on_answer length o
  length-renamed (refused k vs) = refl
  length-renamed (answer xs) = ap answer (length-map xs φ)
