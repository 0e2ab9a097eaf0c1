-- The words and places at the end: the rows at the positions, arranged, are the different words, and each row's place is that of its home.
-- The fact that carries it: the words of the positions are strictly rising, so that no row stands at two of them (`apart`).
use Prim.Native.Nat.{ℕ, suc, ◌+◌, ◌-◌, ◌*◌, ◌/◌, ◌≤◌, ◌<◌}
use mathlib.Core.Path.{◌≡◌, refl, sym, ap, ap₂, ◌∙◌}
use mathlib.Core.Logic.{inl, inr}
use mathlib.Core.Bool.{false≢true}
use mathlib.Core.List.{List, [], ◌∷◌, ◌++◌, map}
use native.Mathlib.Decide.{ℕ_discrete, dec_lt}
use native.Mathlib.Omega.{arith}
use lib.ListN.{length, get_or, set, take, replicate, length-map, length-set}
use lib.Seq.{length-take-le, get_or-take, get_or-set_same, get_or-set_other}
use Rattle.pauli_word.specs.Limits.{word_length}
use Rattle.action.specs.Lists.{Member}
use Rattle.keyed.specs.Keyed.{Rising}
use Rattle.keyed.proofs.Rising.{rising-rising, rising-places}
use Rattle.keyed.proofs.Tables.{get_d_map}
use Rattle.row_lists.specs.Rows.{max_rows, row_at, join_rows, arranged_words}
use Rattle.row_lists.specs.Arranging.{Positions, Owned}
use Rattle.row_words.specs.Words.{less_bytes, word_rows, different_words, RowPlaces}
use Rattle.row_words.specs.Held.{Held}
use Rattle.row_words.proofs.RowKeys.{byte_orders}

-- ---- homes written over by their places, row by row

-- the homes of the first i rows are written over, and the others stand
pub record HomesPlaced (owners homes₀ homes : List ℕ) (i : ℕ) : Type 0 where
  pub long : length homes ≡ length homes₀
  pub placed : (r : ℕ) → r < i → get_or homes r 0 ≡ get_or owners (get_or homes₀ r 0) 0
  pub stands : (r : ℕ) → i ≤ r → get_or homes r 0 ≡ get_or homes₀ r 0

pub homes_start : (owners homes₀ : List ℕ) → HomesPlaced owners homes₀ homes₀ 0
homes_start owners homes₀ = record { long = refl; placed = λ r l. absurd (omega arith); stands = λ r l. refl }

pub homes_next : {owners homes₀ homes : List ℕ} {i : ℕ} → i < length homes₀ → HomesPlaced owners homes₀ homes i
    → HomesPlaced owners homes₀ (set homes i (get_or owners (get_or homes i 0) 0)) (i + 1)
homes_next {owners} {homes₀} {homes} {i} h p =
    record { long = length-set homes i new ∙ p.long; placed = λ r l. placed r l (ℕ_discrete r i); stands = stands }
  where
    new : ℕ
    new = get_or owners (get_or homes i 0) 0

    placed : (r : ℕ) → r < i + 1 → Dec (r ≡ i) → get_or (set homes i new) r 0 ≡ get_or owners (get_or homes₀ r 0) 0
    placed r l (yes e) =
        ap (λ (q : ℕ). get_or (set homes i new) q 0) e
        ∙ get_or-set_same homes i new 0 (omega (arith, p.long))
        ∙ ap (λ (q : ℕ). get_or owners q 0) (p.stands i (omega arith) ∙ ap (λ (q : ℕ). get_or homes₀ q 0) (sym e))
    placed r l (no n) = get_or-set_other homes i r new 0 n ∙ p.placed r (omega arith)

    stands : (r : ℕ) → i + 1 ≤ r → get_or (set homes i new) r 0 ≡ get_or homes₀ r 0
    stands r l = get_or-set_other homes i r new 0 (λ e. omega arith) ∙ p.stands r (omega arith)

-- ---- all rows are merged

-- a member stands at some place
member_place : {A : Type 0} (xs : List A) (d a : A) → Member a xs → (k : ℕ) × (k < length xs) × (get_or xs k d ≡ a)
member_place [] d a m = absurd m
member_place (x ∷ xs) d a (inl e) = (0, omega arith, sym e)
member_place (x ∷ xs) d a (inr m) = let (k, l, e) = member_place xs d a m in (suc k, omega arith, e)

module _ {words : List ℕ} {rows used : ℕ} {positions homes : List ℕ} (h : Held words rows used positions homes) where
  abbrev ps : List ℕ
  ps = take used positions

  few_rows_lem : rows ≤ max_rows
  few_rows_lem = omega (arith, h.few, h.merged)

  first-used : length ps ≡ used
  first-used = length-take-le used positions (omega (arith, few_rows_lem, h.places, h.different))

  pub different-used : used ≡ length (different_words words rows)
  different-used = sym first-used ∙ sym (length-map ps (row_at words)) ∙ ap length h.keys

  words-rising : Rising less_bytes (map (row_at words) ps)
  unfolding different_words
  words-rising = rw h.keys (rising-rising less_bytes (word_rows words rows))

  word_at : (k : ℕ) → k < used → get_or (map (row_at words) ps) k [] ≡ row_at words (get_or positions k 0)
  word_at k l = get_d_map (row_at words) ps k [] 0 (omega (arith, first-used)) ∙ ap (row_at words) (get_or-take used positions k 0 l)

  -- a later position is another row, since its word is greater
  later-apart : (j k : ℕ) → j < k → k < used → get_or positions j 0 ≡ get_or positions k 0 → ⊥
  later-apart j k l m e =
      let less = rising-places byte_orders (map (row_at words) ps) [] words-rising j k l (omega (arith, length-map ps (row_at words), first-used)) in
      let same = word_at j (omega arith) ∙ ap (row_at words) e ∙ sym (word_at k m) in
      false≢true (sym (byte_orders.irrefl (get_or (map (row_at words) ps) k [])) ∙ ap (λ (w : List ℕ). less_bytes w (get_or (map (row_at words) ps) k [])) (sym same) ∙ less)

  apart : (j k : ℕ) → j < used → k < used → get_or positions j 0 ≡ get_or positions k 0 → j ≡ k
  apart j k l m e = go (dec_lt j k) (dec_lt k j)
    where
      go : Dec (j < k) → Dec (k < j) → j ≡ k
      go (yes a) b = absurd (later-apart j k a m e)
      go (no a) (yes b) = absurd (later-apart k j b l (sym e))
      go (no a) (no b) = omega (arith, a, b)

  pub held-positions : Positions positions used (length words / word_length)
  held-positions = record {
    places = h.places;
    few = h.few;
    enough = omega (arith, h.different, h.merged);
    inside = λ k l. omega (arith, h.earlier k l, h.merged);
    apart = apart;
  }

  -- the position of a row's home, among the first
  home-place : (r : ℕ) → r < rows → (k : ℕ) × (k < used) × (get_or positions k 0 ≡ get_or homes r 0)
  home-place r l =
      let (k, m, e) = member_place ps 0 (get_or homes r 0) (h.homed r l) in
      let inside : k < used = omega (arith, first-used) in
      (k, inside, sym (get_or-take used positions k 0 inside) ∙ e)

  pub home-small : (r : ℕ) → r < rows → get_or homes r 0 < max_rows
  home-small r l = let (k, m, e) = home-place r l in omega (arith, e, h.earlier k m, few_rows_lem)

  pub words-folded : arranged_words words ps ≡ join_rows (different_words words rows) ++ replicate (length words - word_length * length (different_words words rows)) 0
  unfolding arranged_words
  words-folded =
      ap₂ (λ (ws : List (List ℕ)) (k : ℕ). join_rows ws ++ replicate (length words - word_length * k) 0) h.keys (first-used ∙ different-used)

  pub places-folded : {owners places : List ℕ} → Owned positions owners 0 used → length places ≡ max_rows
      → ((r : ℕ) → r < rows → get_or places r 0 ≡ get_or owners (get_or homes r 0) 0) → RowPlaces words rows places
  places-folded {owners} {places} o long placed = record { long = long; inside = λ r l. (at r l).0; own = λ r l. (at r l).1 }
    where
      at : (r : ℕ) → r < rows
          → (get_or places r 0 < length (different_words words rows)) × (get_or (different_words words rows) (get_or places r 0) [] ≡ row_at words r)
      at r l =
          let (k, m, e) = home-place r l in
          let place : get_or places r 0 ≡ k = placed r l ∙ ap (λ (p : ℕ). get_or owners p 0) (sym e) ∙ o.owner k (omega arith) m in (
            omega (arith, place, m, different-used),
            ap₂ (λ (ws : List (List ℕ)) (q : ℕ). get_or ws q []) (sym h.keys) place ∙ word_at k m ∙ ap (row_at words) e ∙ h.own r l,
          )
