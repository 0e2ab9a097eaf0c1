-- One part more: where a row and its index stand before a part and after it. The word that the part's least letters make of the least word so far is the
-- least word with the part, and the digits of the part's index back are put to those of the parts before.
use Prim.Native.Nat.{ℕ, suc, ◌+◌, ◌/◌, ◌≤◌, ◌<◌}
use mathlib.Core.Path.{◌≡◌, refl, sym, ◌∙◌, ap, ap₂, subst}
use mathlib.Core.Bool.{Bool, true, false, cond}
use mathlib.Core.Logic.{inl, inr}
use mathlib.Core.List.{List, [], ◌∷◌, map}
use native.Mathlib.Decide.{dec_lt}
use native.Mathlib.Omega.{arith}
use borrow.Author.Tests.{eqb-true, eq-eqb, lt-ltb, le-ltb}
use lib.Dec.{eqb}
use lib.ListN.{length, get_or}
use Rattle.pauli_word.specs.Limits.{plane_length, max_sites}
use Rattle.pauli_word.specs.Word.{I, Word}
use Rattle.pauli_word.specs.Bytes.{AcceptedWord, letters_in, bytes_of}
use Rattle.pauli_word.proofs.Words.{decode-length, encode-decode, encoded-accepted, encoded-decode}
use Rattle.action.specs.Lists.{below, Member}
use Rattle.action.specs.Permutation.{Generator, Valid}
use Rattle.action.specs.Index.{order_of}
use Rattle.action.specs.Orbit.{least, forward, index_back}
use Rattle.action.proofs.Lists.{of_member_at}
use Rattle.action.proofs.Below.{map-below-at}
use Rattle.action.proofs.Index.{valid_positive}
use Rattle.action.proofs.Canonical.{forward-reaches, least-length, back_below}
use Rattle.parts.specs.Parts.{mixed}
use Rattle.parts.specs.Labels.{chosen, spread, Divided}
use Rattle.parts.specs.Numbered.{Numbering, read_by, Carried}
use Rattle.parts.proofs.Independent.{mixed-length, mixed-inside, mixed-outside, reach_leaves}
use Rattle.parts.proofs.Labelled.{chosen_all, chosen_none, spread_all, spread-zero, spread-below}
use Rattle.parts.proofs.Stepwise.{before, own, owns, chosen_valid, done-leaves, next-index, read-same-letters, part-back, next_word, none-least, none-back}
use Rattle.split.specs.Places.{Listed}
use Rattle.elements.specs.HeldGroup.{generators_in}
use Rattle.parted.specs.declared.prepared.Part.{Part}
use Rattle.parted.specs.Steps.{site_of, AtHand, Placed, PartLeast, Stepped, Stands}

-- ---- the places that a table lists

module _ {n m value : ℕ} {entry site number : ℕ → ℕ} (l : Listed n m entry value site number) where
  pub listed-numbering : Numbering n m site
  listed-numbering = record {
    inside = l.inside;
    apart = λ a b h k e. sym (l.numbered a h) ∙ ap number e ∙ l.numbered b k;
  }

-- a site that the part owns has its number
pub listed_found : {n m p : ℕ} (owners : List ℕ) {site number : ℕ → ℕ} → Listed n m (λ q. get_or owners q 0) (suc p) site number
    → (q : ℕ) → q < n → owns owners p q ≡ true → (a : ℕ) × (a < m) × (site a ≡ q)
listed_found {p = p} owners {number = number} l q h o = let e = eqb-true (get_or owners q 0) (suc p) o in (number q, l.small q h e, l.listed q h e)

-- ---- the letters of the part put into a word

module _ {n m p : ℕ} (owners : List ℕ) {site number : ℕ → ℕ} (l : Listed n m (λ q. get_or owners q 0) (suc p) site number) (u x : Word) where
  -- at each site the letter of its number
  abbrev letters : Word
  letters = map (λ q. get_or u (number q) I) (below n)

  abbrev with_part : Word
  with_part = mixed n (owns owners p) x letters

  owned : (a : ℕ) → a < m → owns owners p (site a) ≡ true
  owned a h = eq-eqb (get_or owners (site a) 0) (suc p) (l.own a h)

  with_part_here : (a : ℕ) → a < m → get_or with_part (site a) I ≡ get_or u a I
  with_part_here a h =
      mixed-inside n (owns owners p) x letters (site a) (l.inside a h) (owned a h)
      ∙ map-below-at (λ q. get_or u (number q) I) n (site a) I (l.inside a h)
      ∙ ap (λ (b : ℕ). get_or u b I) (l.numbered a h)

  with_part_there : (q : ℕ) → q < n → owns owners p q ≡ false → get_or with_part q I ≡ get_or x q I
  with_part_there q h f = mixed-outside n (owns owners p) x letters q h f

  unowned : (q : ℕ) → q < n → ((a : ℕ) → a < m → site a ≡ q → ⊥) → (b : Bool) → owns owners p q ≡ b → b ≡ false
  unowned q h f false t = refl
  unowned q h f true t =
      let e = eqb-true (get_or owners q 0) (suc p) t in
      absurd (f (number q) (l.small q h e) (l.listed q h e))

  with_part_placed : Placed n m site u x with_part
  with_part_placed = record {
    long = mixed-length n (owns owners p) x letters;
    here = with_part_here;
    there = λ q h f. with_part_there q h (unowned q h f (owns owners p q) refl);
  }

-- ---- one part more

module _ {n : ℕ} {gs : List Generator} (v : Valid n gs) (labels owners : List ℕ) (d : Divided n gs labels owners) (p : ℕ) {m : ℕ} {site number : ℕ → ℕ}
    (l : Listed n m (λ q. get_or owners q 0) (suc p) site number) {hs : List Generator} (u : Valid m hs) (c : Carried m site (chosen (λ k. eqb k p) labels gs) hs) where
  module _ (few : n ≤ max_sites) (w : Word) {row out : List ℕ} {i o : ℕ} (s : Stands n gs labels p w row i) (t : Stepped n m site hs gs labels p row i out o) where
    abbrev done : List Generator
    done = chosen (before p) labels gs

    done-valid : Valid n done
    done-valid = chosen_valid v (before p) labels

    so_far : letters_in n row ≡ least done w
    so_far = encoded-decode plane_length (least done w) (least-length done-valid w ∙ s.long) few s.word

    same : (q : ℕ) → q < n → owns owners p q ≡ true → get_or (letters_in n row) q I ≡ get_or w q I
    same q h o =
        ap (λ (x : Word). get_or x q I) (so_far ∙ sym (forward-reaches done-valid w))
        ∙ reach_leaves (owns owners p) done done-valid (done-leaves v labels owners d p) (forward done w) w s.long q h o

    abbrev x : Word
    x = letters_in n row

    long : length x ≡ n
    long = ap length so_far ∙ least-length done-valid w ∙ s.long

    -- the part reads the letters of the word
    pub stands_read : read_by m site (letters_in n row) ≡ read_by m site w
    stands_read = read-same-letters v labels owners d p w s.long (listed-numbering l) (listed_found owners l) l.rising (owned owners l x x) hs u c x long same

    abbrev y : Word
    y = with_part owners l (least hs (read_by m site x)) x

    whole : y ≡ least (chosen (before (suc p)) labels gs) w
    whole =
        next_word v labels owners d p w s.long (listed-numbering l) (listed_found owners l) l.rising (owned owners l (least hs (read_by m site x)) x) hs u c x long same
        y (with_part_placed owners l (least hs (read_by m site x)) x).long so_far
        (with_part_here owners l (least hs (read_by m site x)) x)
        (with_part_there owners l (least hs (read_by m site x)) x)

    back : index_back hs (read_by m site x) ≡ index_back (chosen (own p) labels gs) w
    back = part-back v labels owners d p w s.long (listed-numbering l) (listed_found owners l) l.rising (owned owners l (least hs (read_by m site x)) x) hs u c x long same

    pub stands_next : Stands n gs labels (suc p) w out o
    stands_next = record {
      long = s.long;
      word = t.word y (with_part_placed owners l (least hs (read_by m site x)) x) ∙ ap bytes_of whole;
      index =
          t.index
          ∙ ap₂ ◌+◌ s.index (ap (spread (own p) labels gs) back)
          ∙ sym (next-index v labels owners d p w s.long);
    }

-- ---- no part, and all parts

module _ {n : ℕ} {gs : List Generator} (v : Valid n gs) (labels : List ℕ) (e : length labels ≡ length gs) where
  -- what stands before a part is a word, and an index of the group
  module _ (few : n ≤ max_sites) {p : ℕ} {w : Word} {row : List ℕ} {i : ℕ} (s : Stands n gs labels p w row i) where
    pub stands-accepted : AcceptedWord n row
    stands-accepted =
        encoded-accepted plane_length (least (chosen (before p) labels gs) w) (least-length (chosen_valid v (before p) labels) w ∙ s.long) few s.word

    pub stands-below : i < order_of gs
    stands-below = rw s.index (spread-below (before p) labels gs e (valid_positive v) (index_back (chosen (before p) labels gs) w))

  -- before the first part a row holds its word, and the index is 0
  pub stands-first : {row : List ℕ} {i : ℕ} → AcceptedWord n row → i ≡ 0 → Stands n gs labels 0 (letters_in n row) row i
  stands-first {row} {i} ok z =
      let none = chosen_none (before 0) labels gs (λ l. le-ltb l 0 (omega arith)) in
      record {
        long = decode-length ok;
        word = sym (encode-decode ok) ∙ ap bytes_of (sym (ap (λ (hs : List Generator). least hs (letters_in n row)) none ∙ none-least (letters_in n row)));
        index =
            z
            ∙ sym (ap (spread (before 0) labels gs) (ap (λ (hs : List Generator). index_back hs (letters_in n row)) none ∙ none-back (letters_in n row)) ∙ spread-zero (before 0) labels gs);
      }

  -- after all parts it holds the least word, and the index leads back
  module _ {k : ℕ} (below-k : (g : ℕ) → g < length labels → get_or labels g 0 < k) {w : Word} {row : List ℕ} {i : ℕ} (s : Stands n gs labels k w row i) where
    passes : (l : ℕ) → Member l labels → before k l ≡ true
    passes l m = let (g, h, same) = of_member_at labels 0 l m in rw same (lt-ltb (get_or labels g 0) k (below-k g h))

    all : chosen (before k) labels gs ≡ gs
    all = chosen_all (before k) labels gs e passes

    pub stands_word : row ≡ bytes_of (least gs w)
    stands_word = s.word ∙ ap (λ (hs : List Generator). bytes_of (least hs w)) all

    pub stands-index : i ≡ index_back gs w
    stands-index =
        s.index
        ∙ ap (λ (hs : List Generator). spread (before k) labels gs (index_back hs w)) all
        ∙ spread_all (before k) labels gs e (valid_positive v) passes (index_back gs w) (back_below v w)

-- ---- a part without generators

-- tests that tell the labels at hand alike choose the same
pub chosen_alike : {A : Type 0} (t u : ℕ → Bool) (ls : List ℕ) (xs : List A) → ((l : ℕ) → Member l ls → t l ≡ u l) → chosen t ls xs ≡ chosen u ls xs
unfolding chosen
chosen_alike t u [] xs h = refl
chosen_alike t u (l ∷ ls) [] h = refl
chosen_alike t u (l ∷ ls) (x ∷ xs) h = ap₂ (λ (b : Bool) (r : List _). cond b (x ∷ r) r) (h l (inl refl)) (chosen_alike t u ls xs (λ k m. h k (inr m)))

pub spread_alike : (t u : ℕ → Bool) (ls : List ℕ) (gs : List Generator) (i : ℕ) → ((l : ℕ) → Member l ls → t l ≡ u l) → spread t ls gs i ≡ spread u ls gs i
unfolding spread
spread_alike t u [] gs i h = refl
spread_alike t u (l ∷ ls) [] i h = refl
spread_alike t u (l ∷ ls) (g ∷ gs) i h =
    rw (h l (inl refl), spread_alike t u ls gs (i / g.order) (λ k m. h k (inr m)), spread_alike t u ls gs i (λ k m. h k (inr m)))

module _ (labels : List ℕ) {n k p : ℕ} {member rank : ℕ → ℕ} (few : length labels ≡ n) (l : Listed n k (λ g. get_or labels g 0) p member rank) (none : k ≡ 0) where
  -- no label tells the parts before it from those before the next
  pub none_alike : (x : ℕ) → Member x labels → before p x ≡ before (suc p) x
  none_alike x m = let (g, h, same) = of_member_at labels 0 x m in
      go (λ e. absurd (omega (arith, none, l.small g (omega arith) (sym same ∙ e)))) (dec_lt x p) (dec_lt p x)
    where
      go : (x ≡ p → before p x ≡ before (suc p) x) → Dec (x < p) → Dec (p < x) → before p x ≡ before (suc p) x
      go own (yes a) b = rw (lt-ltb x p a, lt-ltb x (suc p) (omega arith))
      go own (no a) (yes b) = rw (le-ltb x p (omega arith), le-ltb x (suc p) (omega arith))
      go own (no a) (no b) = own (omega arith)

  same_chosen : (gs : List Generator) → chosen (before p) labels gs ≡ chosen (before (suc p)) labels gs
  same_chosen gs = chosen_alike (before p) (before (suc p)) labels gs none_alike

  -- leaves every row where it stands
  pub stands-still : {sites : ℕ} {gs : List Generator} {w : Word} {row : List ℕ} {i : ℕ} → Stands sites gs labels p w row i → Stands sites gs labels (suc p) w row i
  stands-still {gs = gs} {w} s = record {
    long = s.long;
    word = s.word ∙ ap (λ (hs : List Generator). bytes_of (least hs w)) (same_chosen gs);
    index =
        s.index
        ∙ ap (λ (hs : List Generator). spread (before p) labels gs (index_back hs w)) (same_chosen gs)
        ∙ spread_alike (before p) (before (suc p)) labels gs (index_back (chosen (before (suc p)) labels gs) w) none_alike;
  }

-- ---- a part that is made ready

module _ {n : ℕ} {gs : List Generator} (v : Valid n gs) (labels owners : List ℕ) (d : Divided n gs labels owners) (p : ℕ) (few : n ≤ max_sites) {k : ℕ} (e : length labels ≡ k)
    {table targets orders strides rests masks place number : List ℕ} {r : Part} (h : AtHand k n gs labels owners p table targets orders strides rests masks place number r) where
  -- with generators it makes of the least word by the parts before the one with the part, and without it leaves every row where it stands
  pub part-stands : (w : Word) {row out : List ℕ} {i o : ℕ} → Stands n gs labels p w row i → (r.generators ≡ 0 → (out ≡ row) × (o ≡ i))
      → (0 < r.generators → Stepped n r.sites (site_of table) (generators_in r.generators r.sites targets orders) gs labels p row i out o) → Stands n gs labels (suc p) w out o
  part-stands w {row} {out} {i} {o} s none some = go (dec_lt 0 r.generators)
    where
      go : Dec (0 < r.generators) → Stands n gs labels (suc p) w out o
      go (yes l) = stands_next v labels owners d p h.owned h.tables.valid h.carried few w s (some l)
      go (no l) =
          let z : r.generators ≡ 0 = omega arith in
          let (a, b) = none z in
          stands-still labels e h.members z (rw (a, b) s)

-- ---- what a part's work on a row comes to

module _ (n m : ℕ) (site : ℕ → ℕ) (hs gs : List Generator) (labels : List ℕ) (p : ℕ) where
  -- the row that is read is what it was, and so is its index
  pub stepped_by : {row₀ row out : List ℕ} {i₀ i back whole : ℕ} → row ≡ row₀ → i ≡ i₀ → back ≡ index_back hs (read_by m site (letters_in n row))
      → whole ≡ spread (own p) labels gs back → PartLeast n m site hs (letters_in n row) out → Stepped n m site hs gs labels p row₀ i₀ out (i + whole)
  stepped_by {row₀} {row} {out} r e b s w = record {
    index = ap₂ ◌+◌ e (s ∙ ap (spread (own p) labels gs) (b ∙ ap (λ (x : List ℕ). index_back hs (read_by m site (letters_in n x))) r));
    word = subst (λ (x : List ℕ). PartLeast n m site hs (letters_in n x) out) r w;
  }
