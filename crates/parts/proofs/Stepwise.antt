-- One part more: what the parts with labels below p make of a word, and those with labels below p + 1, where part p is a group of its own on the sites that it
-- owns, under their numbers.
use Prim.Native.Nat.{ℕ, zero, suc, ◌+◌, ◌*◌, ◌≤◌, ◌<◌, min}
use mathlib.Core.Path.{◌≡◌, refl, sym, ◌∙◌, ap, ap₂, subst}
use mathlib.Core.Logic.{◌⊎◌, inl, inr, ⊎_elim}
use mathlib.Core.Bool.{Bool, true, false, ◌&&◌, ◌||◌, not, cond, true≢false, false≢true}
use mathlib.Core.List.{List, [], ◌∷◌}
use native.Mathlib.Nat.{suc_inj, suc-ne-zero, add-zero, zero-add, min-eq_left, min-eq_right, le_of_lt}
use native.Mathlib.Decide.{dec_lt}
use native.Mathlib.Omega.{arith}
use borrow.Author.Tests.{eqb-true, eqb-false, eq-eqb, ne_eqb, ltb-true, ltb-false, lt-ltb, le-ltb}
use lib.Dec.{eqb, ltb}
use lib.IntN.{ℤ}
use lib.ListN.{length, get_or}
use lib.Seq.{ext_get_or}
use Rattle.pauli_word.specs.Word.{I, Word}
use Rattle.action.specs.Lists.{from, below, Member, select}
use Rattle.action.specs.Permutation.{Generator, Valid}
use Rattle.action.specs.Index.{order_of, index, inverse}
use Rattle.action.specs.Orbit.{reach, least, forward, index_back, fixing, orbit_size}
use Rattle.action.specs.Sector.{keeps, dropped_by}
use Rattle.action.proofs.Index.{Positive, valid_positive}
use Rattle.action.proofs.Reach.{reach-zero}
use Rattle.action.proofs.Stabilizer.{fixes-zero}
use Rattle.rotation.proofs.XPlane.{one-keeps, one_size}
use Rattle.action.proofs.Canonical.{forward-below, forward-reaches}
use Rattle.parts.specs.Parts.{Interleaved, joined, of_first, of_second, mixed}
use Rattle.parts.specs.Labels.{chosen, spread, Divided}
use Rattle.parts.specs.Numbered.{Numbering, read_by, Carried}
use Rattle.parts.proofs.Joined.{first_valid, second_valid, inverse-joined, joined-below}
use Rattle.parts.proofs.Independent.{Leaves, mixed-of, mixed-inside, mixed-outside, least-mixed, forward-joined}
use Rattle.parts.proofs.Sectors.{size-joined, keeps-joined, dropped-first, dropped-second, dropped-both}
use Rattle.parts.proofs.Carried.{read_by_length, read_by_at, least_at, back-carried}
use Rattle.parts.proofs.Labelled.{Apart, chosen_interleaved, chosen-first, chosen-second, chosen_leaves, chosen_all, spread-joined, spread-zero, spread-le}

-- ---- labels below p, p, and below p + 1

abbrev pub before : ℕ → ℕ → Bool
before p l = ltb l p

abbrev pub own : ℕ → ℕ → Bool
own p l = eqb l p

pub one_more : (p : ℕ) → Apart (before (suc p)) (before p) (own p)
one_more p = record { both = both; once = once }
  where
    both : (l : ℕ) → before (suc p) l ≡ (before p l || own p l)
    both l = go (dec_lt l p) (dec_lt p l)
      where
        go : Dec (l < p) → Dec (p < l) → before (suc p) l ≡ (before p l || own p l)
        go (yes h) k = rw (lt-ltb l (suc p) (omega arith), lt-ltb l p h)
        go (no h) (yes k) = rw (le-ltb l (suc p) (omega arith), le-ltb l p (omega arith), ne_eqb l p (λ e. omega (arith, e)))
        go (no h) (no k) = rw (lt-ltb l (suc p) (omega arith), le-ltb l p (omega arith), eq-eqb l p (omega arith))

    once : (l : ℕ) → before p l ≡ true → own p l ≡ true → ⊥
    once l a b = omega (arith, ltb-true l p a, eqb-true l p b)

-- ---- what is chosen is valid

member_chosen : (t : ℕ → Bool) (ls : List ℕ) (gs : List Generator) (g : Generator) → Member g (chosen t ls gs) → Member g gs
unfolding chosen
member_chosen t [] gs g m = absurd m
member_chosen t (l ∷ ls) [] g m = absurd m
member_chosen t (l ∷ ls) (f ∷ gs) g m = go (t l) (member_chosen t ls gs g) m
  where
    go : (b : Bool) → (Member g (chosen t ls gs) → Member g gs) → Member g (cond b (f ∷ chosen t ls gs) (chosen t ls gs)) → Member g (f ∷ gs)
    go true rest (inl e) = inl e
    go true rest (inr k) = inr (rest k)
    go false rest k = inr (rest k)

chosen-length : {A : Type 0} (t : ℕ → Bool) (ls : List ℕ) (gs : List Generator) (ks : List A) → length gs ≡ length ks → length (chosen t ls ks) ≡ length (chosen t ls gs)
unfolding chosen
chosen-length t [] gs ks e = refl
chosen-length t (l ∷ ls) [] [] e = refl
chosen-length t (l ∷ ls) [] (k ∷ ks) e = absurd (suc-ne-zero _ (sym e))
chosen-length t (l ∷ ls) (g ∷ gs) [] e = absurd (suc-ne-zero _ e)
chosen-length t (l ∷ ls) (g ∷ gs) (k ∷ ks) e = go (t l) (chosen-length t ls gs ks (suc_inj e))
  where
    go : (b : Bool) → length (chosen t ls ks) ≡ length (chosen t ls gs)
        → length (cond b (k ∷ chosen t ls ks) (chosen t ls ks)) ≡ length (cond b (g ∷ chosen t ls gs) (chosen t ls gs))
    go true r = ap suc r
    go false r = r

pub chosen_valid : {n : ℕ} {gs : List Generator} → Valid n gs → (t : ℕ → Bool) (ls : List ℕ) → Valid n (chosen t ls gs)
chosen_valid {gs = gs} v t ls = record {
  permutes = λ g m. v.permutes g (member_chosen t ls gs g m);
  exact = λ g m. v.exact g (member_chosen t ls gs g m);
  commute = λ g h k m. v.commute g h (member_chosen t ls gs g k) (member_chosen t ls gs h m);
}

-- whether part p owns a site
abbrev pub owns : List ℕ → ℕ → ℕ → Bool
owns owners p q = eqb (get_or owners q 0) (suc p)

module _ {n : ℕ} {gs : List Generator} (v : Valid n gs) (ls owners : List ℕ) (d : Divided n gs ls owners) (p : ℕ) where
  abbrev done : List Generator
  done = chosen (before p) ls gs

  abbrev part : List Generator
  part = chosen (own p) ls gs

  abbrev more : List Generator
  more = chosen (before (suc p)) ls gs

  abbrev step : Interleaved more done part
  step = chosen_interleaved (one_more p) ls gs

  more-valid : Valid n more
  more-valid = chosen_valid v (before (suc p)) ls

  -- the parts before leave the sites of part p, and part p all others
  pub done-leaves : Leaves n (owns owners p) done
  done-leaves = chosen_leaves n (before p) (owns owners p) gs ls owners d
      (λ l q a b e. omega (arith, ltb-true l p a, eqb-true (get_or owners q 0) (suc p) b, e))

  pub part-leaves : Leaves n (λ q. not (owns owners p q)) part
  part-leaves = chosen_leaves n (own p) (λ q. not (owns owners p q)) gs ls owners d
      (λ l q a b e. apart l q (eqb-true l p a) b e)
    where
      apart : (l q : ℕ) → l ≡ p → not (owns owners p q) ≡ true → get_or owners q 0 ≡ suc l → ⊥
      apart l q same b e = false≢true (sym (ap not (eq-eqb (get_or owners q 0) (suc p) (e ∙ ap suc same))) ∙ b)

  module _ (w : Word) (long : length w ≡ n) where
    next-least : least more w ≡ mixed n (owns owners p) (least done w) (least part w)
    next-least = least-mixed step more-valid (owns owners p) done-leaves part-leaves w long

    next-back : index_back more w ≡ joined step (index_back done w) (index_back part w)
    unfolding index_back
    next-back =
        ap (inverse more) (forward-joined step more-valid (owns owners p) done-leaves part-leaves w long)
        ∙ inverse-joined step (valid_positive more-valid) (forward done w) (forward part w)

    -- the index of the whole so far, and that of the part
    pub next-index : spread (before (suc p)) ls gs (index_back more w) ≡ spread (before p) ls gs (index_back done w) + spread (own p) ls gs (index_back part w)
    next-index = ap (spread (before (suc p)) ls gs) next-back ∙ spread-joined (one_more p) ls gs (valid_positive v) (index_back done w) (index_back part w)

    pub next-size : orbit_size more w ≡ orbit_size done w * orbit_size part w
    next-size = size-joined step more-valid (owns owners p) done-leaves part-leaves w long

    -- ---- sectors

    module _ (ks : List ℤ) (modes : length gs ≡ length ks) (few : length ls ≡ length gs) where
      abbrev done_modes : List ℤ
      done_modes = chosen (before p) ls ks

      abbrev part_modes : List ℤ
      part_modes = chosen (own p) ls ks

      abbrev more_modes : List ℤ
      more_modes = chosen (before (suc p)) ls ks

      modes-long : length more_modes ≡ length more
      modes-long = chosen-length (before (suc p)) ls gs ks modes

      done-modes : of_first step more_modes ≡ done_modes
      done-modes = chosen-first (one_more p) ls gs ks modes

      part-modes : of_second step more_modes ≡ part_modes
      part-modes = chosen-second (one_more p) ls gs ks modes

      pub next-keeps : keeps more more_modes w ≡ (keeps done done_modes w && keeps part part_modes w)
      next-keeps =
          keeps-joined step more-valid (owns owners p) done-leaves part-leaves w long more_modes modes-long
          ∙ ap₂ (λ (a b : List ℤ). keeps done a w && keeps part b w) done-modes part-modes

      -- an index of one part alone is that index of the whole
      spread-done : (i : ℕ) → spread (before (suc p)) ls gs (joined step i 0) ≡ spread (before p) ls gs i
      spread-done i = spread-joined (one_more p) ls gs (valid_positive v) i 0 ∙ ap (λ (x : ℕ). spread (before p) ls gs i + x) (spread-zero (own p) ls gs) ∙ add-zero (spread (before p) ls gs i)

      spread-part : (j : ℕ) → spread (before (suc p)) ls gs (joined step 0 j) ≡ spread (own p) ls gs j
      spread-part j = spread-joined (one_more p) ls gs (valid_positive v) 0 j ∙ ap (λ (x : ℕ). x + spread (own p) ls gs j) (spread-zero (before p) ls gs) ∙ zero-add (spread (own p) ls gs j)

      -- what drops the word, as an index of the whole
      abbrev done_drop : ℕ
      done_drop = spread (before p) ls gs (dropped_by done done_modes w)

      abbrev part_drop : ℕ
      part_drop = spread (own p) ls gs (dropped_by part part_modes w)

      abbrev more_drop : ℕ
      more_drop = spread (before (suc p)) ls gs (dropped_by more more_modes w)

      pub next-done-drops : keeps done done_modes w ≡ false → keeps part part_modes w ≡ true → more_drop ≡ done_drop
      next-done-drops a b =
          ap (spread (before (suc p)) ls gs)
          (dropped-first step more-valid (owns owners p) done-leaves part-leaves w long more_modes modes-long (rw done-modes a) (rw part-modes b))
          ∙ rw done-modes (spread-done (dropped_by done done_modes w))

      pub next-part-drops : keeps done done_modes w ≡ true → keeps part part_modes w ≡ false → more_drop ≡ part_drop
      next-part-drops a b =
          ap (spread (before (suc p)) ls gs)
          (dropped-second step more-valid (owns owners p) done-leaves part-leaves w long more_modes modes-long (rw done-modes a) (rw part-modes b))
          ∙ rw part-modes (spread-part (dropped_by part part_modes w))

      pub next-both-drop : keeps done done_modes w ≡ false → keeps part part_modes w ≡ false → more_drop ≡ min done_drop part_drop
      next-both-drop a b =
          ap (spread (before (suc p)) ls gs)
          (dropped-both step more-valid (owns owners p) done-leaves part-leaves w long more_modes modes-long (rw done-modes a) (rw part-modes b))
          ∙ rw (done-modes, part-modes)
          (spread-min (joined step (dropped_by done done_modes w) 0) (joined step 0 (dropped_by part part_modes w)) (inside (dropped_by done done_modes w) 0) (inside 0 (dropped_by part part_modes w))
          ∙ ap₂ min (spread-done (dropped_by done done_modes w)) (spread-part (dropped_by part part_modes w)))
        where
          inside : (i j : ℕ) → joined step i j < order_of more
          inside = joined-below step (valid_positive more-valid)

          spread-min : (i j : ℕ) → i < order_of more → j < order_of more
              → spread (before (suc p)) ls gs (min i j) ≡ min (spread (before (suc p)) ls gs i) (spread (before (suc p)) ls gs j)
          spread-min i j h k = go (dec_lt j i)
            where
              go : Dec (j < i) → spread (before (suc p)) ls gs (min i j) ≡ min (spread (before (suc p)) ls gs i) (spread (before (suc p)) ls gs j)
              go (yes l) =
                  rw (min-eq_right (le_of_lt l), min-eq_right (spread-le (before (suc p)) ls gs few (valid_positive v) j i h (le_of_lt l)))
              go (no l) =
                  let m : i ≤ j = omega arith in
                  rw (min-eq_left m, min-eq_left (spread-le (before (suc p)) ls gs few (valid_positive v) i j k m))

    -- ---- part p on its own sites, under their numbers

    module _ {m : ℕ} {site : ℕ → ℕ} (σ : Numbering n m site) (number : (q : ℕ) → q < n → owns owners p q ≡ true → (a : ℕ) × (a < m) × (site a ≡ q))
        (rising : (a b : ℕ) → a < b → b < m → site a < site b) (owned : (a : ℕ) → a < m → owns owners p (site a) ≡ true)
        (hs : List Generator) (u : Valid m hs) (c : Carried m site part hs)
        (x : Word) (xl : length x ≡ n) (same : (q : ℕ) → q < n → owns owners p q ≡ true → get_or x q I ≡ get_or w q I) where
      part-valid : Valid n part
      part-valid = chosen_valid v (own p) ls

      -- a word that has the letters of w at the part's sites is read as w
      pub read-same-letters : read_by m site x ≡ read_by m site w
      read-same-letters =
          ext_get_or I (read_by m site x) (read_by m site w) (read_by_length m site x ∙ sym (read_by_length m site w))
          (λ a l. let h : a < m = rw (read_by_length m site x) at l in
          read_by_at m site x a h ∙ same (site a) (σ.inside a h) (owned a h) ∙ sym (read_by_at m site w a h))

      pub part-back : index_back hs (read_by m site x) ≡ index_back part w
      part-back = ap (index_back hs) read-same-letters ∙ back-carried σ (owns owners p) number part hs part-valid u c part-leaves w long rising

      -- the part's least letters put into the least word so far make the least word with the part
      pub next_word : (y : Word) → length y ≡ n → x ≡ least done w
          → ((a : ℕ) → a < m → get_or y (site a) I ≡ get_or (least hs (read_by m site x)) a I)
          → ((q : ℕ) → q < n → owns owners p q ≡ false → get_or y q I ≡ get_or x q I) → y ≡ least more w
      next_word y yl e at-sites elsewhere =
          mixed-of n (owns owners p) (least done w) (least part w) y yl
          (λ q h t. let (a, k, r) = number q h t in
          rw (← r)
          (at-sites a k
          ∙ ap (λ (z : Word). get_or (least hs z) a I) read-same-letters
          ∙ sym (least_at σ (owns owners p) number part hs part-valid u c part-leaves w long rising a k)))
          (λ q h f. elsewhere q h f ∙ ap (λ (z : Word). get_or z q I) e)
          ∙ sym next-least

-- ---- no part at all

none_valid : {n : ℕ} → Valid n []
none_valid = record { permutes = λ g m. absurd m; exact = λ g m. absurd m; commute = λ g h k m. absurd k }

module _ (w : Word) where
  first-forward : forward [] w ≡ 0
  unfolding order_of
  first-forward = omega (arith, forward-below {n = length w} none_valid w)

  pub none-least : least [] w ≡ w
  none-least = sym (forward-reaches {n = length w} none_valid w) ∙ ap (λ (i : ℕ). reach [] i w) first-forward ∙ reach-zero [] w

  pub none-back : index_back [] w ≡ 0
  unfolding index_back inverse index
  none-back = refl

  fixing-none : length (fixing [] w) ≡ 1
  unfolding fixing select below from order_of
  fixing-none = rw (fixes-zero [] w)

  pub none-size : orbit_size [] w ≡ 1
  unfolding order_of
  none-size = one_size {n = length w} none_valid w refl fixing-none

  pub none-keeps : (ks : List ℤ) → keeps [] ks w ≡ true
  none-keeps ks = one-keeps {n = length w} none_valid w refl fixing-none ks
