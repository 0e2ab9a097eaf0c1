-- What the lists hold while the words of rows are merged (`Held`), and that they hold it with one row more, whose word is found or new.
-- The fact that carries it: the words of the first positions are the different words, and what the next row does to these its slot says
-- (`insert-found`, `insert-free`).
use Prim.Native.Nat.{ℕ, zero, suc, ◌+◌, ◌*◌, ◌/◌, ◌<◌, ◌≤◌, suc-le-suc}
use native.Mathlib.Nat.{not-suc-le-zero}
use native.Mathlib.Numerals.{add-one}
use native.Mathlib.Decide.{ℕ_discrete}
use native.Mathlib.Omega.{arith}
use mathlib.Core.Path.{◌≡◌, refl, sym, ◌∙◌, ap}
use mathlib.Core.Logic.{◌⊎◌, inl, inr, ⊎_elim}
use mathlib.Core.List.{List, [], ◌∷◌, map}
use lib.ListN.{length, get_or, set, take, drop, length-set, length-map, take-append-drop, get_or-map}
use lib.Seq.{length-take-le, get_or-take, get_or-set_same, get_or-set_other}
use Rattle.pauli_word.specs.Limits.{word_length}
use Rattle.pauli_word.specs.Bytes.{Bytes}
use Rattle.action.specs.Lists.{Member}
use Rattle.action.proofs.Lists.{of-member-append, member-append-left, member-append-right, member_at}
use Rattle.keyed.specs.Keyed.{rising, insert_key, found, free, slot_of, insert_at}
use Rattle.keyed.proofs.Rising.{rising-rising, rising-next, of-rising-member}
use Rattle.keyed.proofs.Rising.{insert-found, insert-free, slot-found-below, slot-found-at, slot-free-below}
use Rattle.keyed.proofs.Tables.{map-insert_at}
use Rattle.row_lists.specs.Rows.{max_rows, row_at}
use Rattle.row_lists.proofs.Rows.{RowBytes, row-bytes}
use Rattle.row_words.specs.Words.{less_bytes, word_rows, different_words}
use Rattle.row_words.specs.Held.{Held, Places}
use Rattle.row_words.proofs.RowKeys.{byte_orders}

-- ---- members of lists

module _ {A : Type 0} where
  -- what holds at the first n places holds of the first n members
  of-member-take :
      (Q : A → Type 0) (n : ℕ) (xs : List A) (d : A) → ((k : ℕ) → k < n → Q (get_or xs k d)) → (a : A) → Member a (take n xs) → Q a
  of-member-take Q zero xs d all a m = absurd m
  of-member-take Q (suc n) [] d all a m = absurd m
  of-member-take Q (suc n) (x ∷ xs) d all a (inl e) = rw e (all 0 (omega arith))
  of-member-take Q (suc n) (x ∷ xs) d all a (inr m) = of-member-take Q n xs d (λ k l. all (suc k) (suc-le-suc l)) a m

  module _ (k : ℕ) (a : A) (xs : List A) where
    of_member_insert_at : (b : A) → Member b (insert_at k a xs) → (b ≡ a) ⊎ Member b xs
    of_member_insert_at b m = go (of-member-append (take k xs) (a ∷ drop k xs) b m)
      where
        go : Member b (take k xs) ⊎ Member b (a ∷ drop k xs) → (b ≡ a) ⊎ Member b xs
        go (inl n) = inr (rw (take-append-drop k xs) at (member-append-left (take k xs) (drop k xs) b n))
        go (inr (inl e)) = inl e
        go (inr (inr n)) = inr (rw (take-append-drop k xs) at (member-append-right (take k xs) (drop k xs) b n))

    member_insert_at-own : Member a (insert_at k a xs)
    member_insert_at-own = member-append-right (take k xs) (a ∷ drop k xs) a (inl refl)

    member_insert_at-other : (b : A) → Member b xs → Member b (insert_at k a xs)
    member_insert_at-other b m = go (of-member-append (take k xs) (drop k xs) b (rw (take-append-drop k xs) m))
      where
        go : Member b (take k xs) ⊎ Member b (drop k xs) → Member b (insert_at k a xs)
        go (inl n) = member-append-left (take k xs) (a ∷ drop k xs) b n
        go (inr n) = member-append-right (take k xs) (a ∷ drop k xs) b (inr n)

-- ---- the different words

pub different_next : (words : List ℕ) (i : ℕ) → different_words words (i + 1) ≡ insert_key less_bytes (row_at words i) (different_words words i)
unfolding different_words word_rows
different_next words i = ap (different_words words) (add-one i) ∙ rising-next less_bytes (word_rows words i) (row_at words i)

-- a word of the first rows is that of some row
pub of_row_member : (words : List ℕ) (i : ℕ) (a : List ℕ) → Member a (word_rows words i) → (r : ℕ) × (r < i) × (a ≡ row_at words r)
unfolding word_rows
of_row_member words zero a m = absurd m
of_row_member words (suc i) a m = go (of-member-append (word_rows words i) (row_at words i ∷ []) a m) (of_row_member words i a)
  where
    go : Member a (word_rows words i) ⊎ Member a (row_at words i ∷ []) → (Member a (word_rows words i) → (r : ℕ) × (r < i) × (a ≡ row_at words r))
        → (r : ℕ) × (r < suc i) × (a ≡ row_at words r)
    go (inl n) before = let (r, l, e) = before n in (r, omega arith, e)
    go (inr (inl e)) before = (i, omega arith, e)
    go (inr (inr n)) before = absurd n

-- ---- before the first row

pub held_start :
    {words positions homes : List ℕ}
    → length words / word_length ≤ max_rows → Bytes words → length positions ≡ max_rows → length homes ≡ max_rows → Held words 0 0 positions homes
unfolding different_words word_rows rising
held_start few small places home_places =
    record {
      few = few;
      small = small;
      places = places;
      home_places = home_places;
      merged = omega arith;
      different = omega arith;
      earlier = λ k l. absurd (not-suc-le-zero l);
      keys = refl;
      homed = λ r l. absurd (not-suc-le-zero l);
      own = λ r l. absurd (not-suc-le-zero l);
    }

-- ---- row i, the first i rows merged

module _ {words : List ℕ} {i used : ℕ} {positions homes : List ℕ}
    (h : Held words i used positions homes) (more : word_length * i + word_length ≤ length words) where
  abbrev ps : List ℕ
  ps = take used positions

  pub row_small : i < max_rows
  row_small = omega (arith, h.few)

  enough : used ≤ length positions
  enough = omega (arith, h.few, h.places, h.different)

  first-used : length ps ≡ used
  first-used = length-take-le used positions enough

  words-first : length (map (row_at words) ps) ≡ used
  words-first = length-map ps (row_at words) ∙ first-used

  row_inside : (p : ℕ) → p < i → word_length * p + word_length ≤ length words
  row_inside p l = omega arith

  pub held-places : Places words positions used i
  unfolding different_words
  held-places = record {
    enough = enough;
    few = h.places;
    small = h.small;
    inside = more;
    all = λ k l. row_inside (get_or positions k 0) (h.earlier k l);
    rising = rw h.keys (rising-rising less_bytes (word_rows words i));
  }

  words-bytes : (a : List ℕ) → Member a (map (row_at words) ps) → RowBytes a
  unfolding different_words
  words-bytes a m =
      let (r, l, e) = of_row_member words i a (of-rising-member less_bytes (word_rows words i) a (rw h.keys at m)) in
      rw e (row-bytes words r h.small (row_inside r l))

  earlier : (p : ℕ) → Member p ps → p < i
  earlier = of-member-take (λ (p : ℕ). p < i) used positions 0 h.earlier

  -- ---- the lists with the home of row i written down

  module _ (home used' : ℕ) (positions' : List ℕ) where
    held_next :
        length positions' ≡ length positions → used' ≤ i + 1 → ((k : ℕ) → k < used' → get_or positions' k 0 < i + 1)
        → map (row_at words) (take used' positions') ≡ insert_key less_bytes (row_at words i) (map (row_at words) ps)
        → ((p : ℕ) → Member p ps → Member p (take used' positions')) → Member home (take used' positions') → row_at words home ≡ row_at words i
        → Held words (i + 1) used' positions' (set homes i home)
    held_next places different before keys stay member same =
        record {
          few = h.few;
          small = h.small;
          places = places ∙ h.places;
          home_places = length-set homes i home ∙ h.home_places;
          merged = omega arith;
          different = different;
          earlier = before;
          keys = keys ∙ ap (insert_key less_bytes (row_at words i)) h.keys ∙ sym (different_next words i);
          homed = λ r l. homed r l (ℕ_discrete r i);
          own = λ r l. own r l (ℕ_discrete r i);
        }
      where
        here : (r : ℕ) → r ≡ i → get_or (set homes i home) r 0 ≡ home
        here r e = ap (λ (q : ℕ). get_or (set homes i home) q 0) e ∙ get_or-set_same homes i home 0 (omega (arith, row_small, h.home_places))

        there : (r : ℕ) → (r ≡ i → ⊥) → get_or (set homes i home) r 0 ≡ get_or homes r 0
        there r n = get_or-set_other homes i r home 0 n

        homed : (r : ℕ) → r < i + 1 → Dec (r ≡ i) → Member (get_or (set homes i home) r 0) (take used' positions')
        homed r l (yes e) = rw (here r e) member
        homed r l (no n) = rw (there r n) (stay (get_or homes r 0) (h.homed r (omega arith)))

        own : (r : ℕ) → r < i + 1 → Dec (r ≡ i) → row_at words (get_or (set homes i home) r 0) ≡ row_at words r
        own r l (yes e) = ap (row_at words) (here r e) ∙ same ∙ ap (row_at words) (sym e)
        own r l (no n) = ap (row_at words) (there r n) ∙ h.own r (omega arith)

  -- ---- its word has a row already

  module _ (k : ℕ) (e : slot_of less_bytes (row_at words i) (map (row_at words) (take used positions)) ≡ found k) where
    pub found-place : k < used
    found-place = rw words-first at (slot-found-below less_bytes (row_at words i) (map (row_at words) ps) k e)

    found-member : Member (get_or positions k 0) ps
    found-member = rw (get_or-take used positions k 0 found-place) at (member_at ps 0 k (rw first-used found-place))

    found_word : row_at words (get_or positions k 0) ≡ row_at words i
    found_word =
        ap (row_at words) (sym (get_or-take used positions k 0 found-place))
        ∙ sym (get_or-map (row_at words) ps k 0)
        ∙ slot-found-at byte_orders (row_at words i) (map (row_at words) ps) (row_at words 0) k (row-bytes words i h.small more) words-bytes e

    pub held_found : Held words (i + 1) used positions (set homes i (get_or positions k 0))
    held_found =
        held_next (get_or positions k 0) used positions refl (omega (arith, h.different)) (λ j l. omega (arith, h.earlier j l))
        (sym (insert-found less_bytes (row_at words i) (map (row_at words) ps) k e)) (λ p m. m) found-member found_word

  -- ---- its word is new

  module _ (k : ℕ) (e : slot_of less_bytes (row_at words i) (map (row_at words) (take used positions)) ≡ free k) where
    pub free-place : k ≤ used
    free-place = rw words-first at (slot-free-below less_bytes (row_at words i) (map (row_at words) ps) k e)

    pub free-room : used < length positions
    free-room = omega (arith, row_small, h.places, h.different)

    module _ (positions' : List ℕ) (places : length positions' ≡ length positions)
        (put : take (used + 1) positions' ≡ insert_at k i (take used positions)) where
      free-positions : (q : ℕ) → Member q (take (used + 1) positions') → (q ≡ i) ⊎ Member q ps
      free-positions q m = of_member_insert_at k i ps q (rw put at m)

      free-earlier : (j : ℕ) → j < used + 1 → get_or positions' j 0 < i + 1
      free-earlier j l =
          rw (← get_or-take (used + 1) positions' j 0 l)
          (⊎_elim (λ r. omega arith) (λ m. omega (arith, earlier (get_or (take (used + 1) positions') j 0) m))
          (free-positions (get_or (take (used + 1) positions') j 0)
          (member_at (take (used + 1) positions') 0 j
          (rw (length-take-le (used + 1) positions' (omega (arith, places, free-room))) l))))

      pub held-free : Held words (i + 1) (used + 1) positions' (set homes i i)
      held-free =
          held_next i (used + 1) positions' places (omega (arith, h.different)) free-earlier
          (ap (map (row_at words)) put
          ∙ map-insert_at (row_at words) k i ps
          ∙ sym (insert-free less_bytes (row_at words i) (map (row_at words) ps) k e))
          (λ p m. rw put (member_insert_at-other k i ps p m)) (rw put (member_insert_at-own k i ps)) refl
