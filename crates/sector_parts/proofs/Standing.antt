-- Where rows and their numbers stand, part after part: what a part's work makes of a row that stands before the part stands before the next.
use Prim.Native.Nat.{ℕ, suc, ◌+◌, ◌*◌, ◌≤◌, ◌<◌}
use mathlib.Core.Path.{◌≡◌, refl, sym, ◌∙◌, ap, ap₂, subst}
use mathlib.Core.Bool.{true, cond}
use mathlib.Core.List.{List, [], map}
use native.Mathlib.Decide.{dec_lt}
use native.Mathlib.Omega.{arith}
use borrow.Author.Tests.{lt-ltb, le-ltb}
use lib.Dec.{eqb}
use lib.IntN.{ℤ, pos}
use lib.ListN.{length, get_or, length-map}
use Rattle.pauli_word.specs.Limits.{max_sites}
use Rattle.pauli_word.specs.Word.{Word}
use Rattle.pauli_word.specs.Bytes.{AcceptedWord, letters_in, bytes_of}
use Rattle.action.specs.Lists.{below, Member}
use Rattle.action.specs.Permutation.{Generator, Valid}
use Rattle.action.specs.Index.{order_of}
use Rattle.action.specs.Orbit.{least, index_back, orbit_size}
use Rattle.action.specs.Sector.{keeps, dropped_by}
use Rattle.action.proofs.Below.{map-below-of}
use Rattle.action.proofs.Index.{valid_positive}
use Rattle.action.proofs.Lists.{length-below, of_member_at}
use Rattle.elements.specs.HeldGroup.{generators_in}
use Rattle.parts.specs.Labels.{chosen, spread, Divided}
use Rattle.parts.specs.Numbered.{read_by, Carried}
use Rattle.parts.proofs.Carried.{size-carried, keeps-carried, dropped-carried, back-carried}
use Rattle.parts.proofs.Labelled.{chosen_all, chosen_none, spread_all, spread-zero, spread-below}
use Rattle.parts.proofs.Stepwise.{before, own, owns, chosen_valid, part-leaves, none-back, none-size, none-keeps}
use Rattle.row_lists.specs.Rows.{no_word}
use Rattle.split.specs.Places.{Listed}
use Rattle.split.proofs.Members.{chosen-map, chosen-below}
use Rattle.parted.specs.declared.prepared.Part.{Part}
use Rattle.parted.specs.Steps.{site_of, AtHand, PartLeast, Stepped, Stands}
use Rattle.parted.proofs.Standing.{listed-numbering, listed_found, stands_next, stands_read, stands-first, stands-accepted, stands_word, none_alike, chosen_alike, spread_alike, stands-still}
use Rattle.decisions.specs.Decisions.{decision, row_index, row_orbit}
use Rattle.decisions.specs.declared.placement.Placement.{Placement}
use Rattle.decisions.specs.Placements.{placement_of, index_in, size_in}
use Rattle.decisions.proofs.Placing.{placed-index, placed-orbit}
use Rattle.sector_parts.specs.Steps.{joined_index, SectorStepped, SectorStands, Decided}
use Rattle.sector_parts.proofs.Joining.{decided-index, decided-size, decided_small, decided-below, decided-row, chosen-small, next-joined, next-orbit}

-- the words of rows stand as they do without modes
module _ {n : ℕ} {gs : List Generator} {labels : List ℕ} {ks : List ℤ} {p : ℕ} {w : Word} {row : List ℕ} {i s : ℕ} (st : SectorStands n gs labels ks p w row i s) where
  abbrev back_so_far : ℕ
  back_so_far = spread (before p) labels gs (index_back (chosen (before p) labels gs) w)

  word_stands : Stands n gs labels p w row back_so_far
  word_stands = record { long = st.long; word = st.word; index = refl }

-- ---- one part more

module _ {n : ℕ} {gs : List Generator} (v : Valid n gs) (labels owners : List ℕ) (d : Divided n gs labels owners) (p : ℕ) {m : ℕ} {site number : ℕ → ℕ}
    (l : Listed n m (λ q. get_or owners q 0) (suc p) site number) {hs : List Generator} (u : Valid m hs) (c : Carried m site (chosen (own p) labels gs) hs)
    (few : n ≤ max_sites) (ks : List ℤ) (modes : length gs ≡ length ks) (labelled : length labels ≡ length gs) (w : Word) {row out : List ℕ} {i s o t : ℕ}
    (st : SectorStands n gs labels ks p w row i s) (work : SectorStepped n m site hs gs labels (chosen (own p) labels ks) p row i s out o t) where
  abbrev part : List Generator
  part = chosen (own p) labels gs

  abbrev part_modes : List ℤ
  part_modes = chosen (own p) labels ks

  -- the letters at the part's sites
  abbrev letters : Word
  letters = read_by m site (letters_in n row)

  word_work : Stepped n m site hs gs labels p row (back_so_far st) out (back_so_far st + spread (own p) labels gs (index_back hs letters))
  word_work = record { index = refl; word = work.word }

  read : letters ≡ read_by m site w
  read = stands_read v labels owners d p l u c few w (word_stands st) word_work

  part-valid : Valid n part
  part-valid = chosen_valid v (own p) labels

  -- on its own sites the part decides as among all sites
  same-keeps : keeps hs part_modes letters ≡ keeps part part_modes w
  same-keeps =
      ap (keeps hs part_modes) read
      ∙ keeps-carried (listed-numbering l) (owns owners p) (listed_found owners l) part hs part-valid u c (part-leaves v labels owners d p) w st.long part_modes

  same_drop : dropped_by hs part_modes letters ≡ dropped_by part part_modes w
  same_drop =
      ap (dropped_by hs part_modes) read
      ∙ dropped-carried (listed-numbering l) (owns owners p) (listed_found owners l) part hs part-valid u c (part-leaves v labels owners d p) w st.long part_modes

  same_size : orbit_size hs letters ≡ orbit_size part w
  same_size =
      ap (orbit_size hs) read
      ∙ size-carried (listed-numbering l) (owns owners p) (listed_found owners l) part hs part-valid u c (part-leaves v labels owners d p) w st.long

  same_back : index_back hs letters ≡ index_back part w
  same_back =
      ap (index_back hs) read
      ∙ back-carried (listed-numbering l) (owns owners p) (listed_found owners l) part hs part-valid u c (part-leaves v labels owners d p) w st.long l.rising

  own-index : row_index (decision hs part_modes letters) ≡ row_index (decision part part_modes w)
  own-index = decided-index hs part_modes letters ∙ rw (same-keeps, same_drop, same_back) (sym (decided-index part part_modes w))

  own-size : row_orbit (decision hs part_modes letters) ≡ row_orbit (decision part part_modes w)
  own-size = decided-size hs part_modes letters ∙ rw (same-keeps, same_size) (sym (decided-size part part_modes w))

  pub sector-stands-next : SectorStands n gs labels ks (suc p) w out o t
  sector-stands-next = record {
    long = st.long;
    word = (stands_next v labels owners d p l u c few w (word_stands st) word_work).word;
    index = work.index ∙ rw (st.index, st.size, own-index, own-size) (sym (next-joined v labels owners d p w st.long ks modes labelled));
    size = work.size ∙ ap₂ ◌*◌ st.size own-size ∙ sym (next-orbit v labels owners d p w st.long ks modes labelled);
  }

-- ---- no part, and all parts

module _ {n : ℕ} {gs : List Generator} (v : Valid n gs) (labels : List ℕ) (e : length labels ≡ length gs) (ks : List ℤ) where
  -- what stands before a part is a word, an index of the group and an orbit size
  module _ (few : n ≤ max_sites) {p : ℕ} {w : Word} {row : List ℕ} {i s : ℕ} (st : SectorStands n gs labels ks p w row i s) where
    pub sector-accepted : AcceptedWord n row
    sector-accepted = stands-accepted v labels e few (word_stands st)

    pub sector-below : i < order_of gs
    sector-below = rw st.index (spread-below (before p) labels gs e (valid_positive v) (row_index (decision (chosen (before p) labels gs) (chosen (before p) labels ks) w)))

    pub sector-small : s ≤ order_of gs
    sector-small =
        let a = decided_small (chosen (before p) labels gs) (chosen (before p) labels ks) w in
        let b = chosen-small v (before p) labels e in
        omega (arith, st.size)

  -- before the first part a row holds its word, the index is 0, and the size 1
  pub sector-first : {row : List ℕ} {i s : ℕ} → AcceptedWord n row → i ≡ 0 → s ≡ 1 → SectorStands n gs labels ks 0 (letters_in n row) row i s
  sector-first {row} {i} {s} ok z one =
      let w : Word = letters_in n row in
      let none : chosen (before 0) labels gs ≡ [] = chosen_none (before 0) labels gs (λ l. le-ltb l 0 (omega arith)) in
      let modes : chosen (before 0) labels ks ≡ [] = chosen_none (before 0) labels ks (λ l. le-ltb l 0 (omega arith)) in
      let words = stands-first v labels e ok z in
      record {
        long = words.long;
        word = words.word;
        index =
            z
            ∙ sym (rw (none, modes) (ap (spread (before 0) labels gs) (decided-index [] [] w ∙ rw (none-keeps w []) (none-back w)) ∙ spread-zero (before 0) labels gs));
        size = one ∙ sym (rw (none, modes) (decided-size [] [] w ∙ rw (none-keeps w []) (none-size w)));
      }

  -- after all parts the numbers are those of the decision, and the row holds the least word; with zeros where the size is 0 all is the decision's
  module _ (modes : length gs ≡ length ks) {k : ℕ} (below-k : (g : ℕ) → g < length labels → get_or labels g 0 < k) {w : Word} {row : List ℕ} {i s : ℕ}
      (st : SectorStands n gs labels ks k w row i s) where
    passes : (x : ℕ) → Member x labels → before k x ≡ true
    passes x m = let (g, h, same) = of_member_at labels 0 x m in rw same (lt-ltb (get_or labels g 0) k (below-k g h))

    all : chosen (before k) labels gs ≡ gs
    all = chosen_all (before k) labels gs e passes

    all-modes : chosen (before k) labels ks ≡ ks
    all-modes = chosen_all (before k) labels ks (e ∙ modes) passes

    last-index : i ≡ row_index (decision gs ks w)
    last-index =
        st.index
        ∙ ap₂ (λ (hs : List Generator) (js : List ℤ). spread (before k) labels gs (row_index (decision hs js w))) all all-modes
        ∙ spread_all (before k) labels gs e (valid_positive v) passes (row_index (decision gs ks w)) (decided-below v ks w)

    last-size : s ≡ row_orbit (decision gs ks w)
    last-size = st.size ∙ ap₂ (λ (hs : List Generator) (js : List ℤ). row_orbit (decision hs js w)) all all-modes

    last_word : row ≡ bytes_of (least gs w)
    last_word = stands_word v labels e below-k (word_stands st)

    pub sector-last : {out : List ℕ} → out ≡ cond (eqb s 0) no_word row → Decided (decision gs ks w) out i s
    sector-last o = record {
      word = o ∙ rw (last-size, last_word) (decided-row v ks w st.long);
      index = last-index;
      size = last-size;
    }

-- ---- a part without generators

module _ (labels : List ℕ) {k j p : ℕ} {member rank : ℕ → ℕ} (few : length labels ≡ k) (l : Listed k j (λ g. get_or labels g 0) p member rank) (none : j ≡ 0) where
  -- leaves every row where it stands
  pub sector-still : {n : ℕ} {gs : List Generator} {ks : List ℤ} {w : Word} {row : List ℕ} {i s : ℕ} → SectorStands n gs labels ks p w row i s → SectorStands n gs labels ks (suc p) w row i s
  sector-still {gs = gs} {ks} {w} st =
      let same = chosen_alike (before p) (before (suc p)) labels gs (none_alike labels few l none) in
      let modes = chosen_alike (before p) (before (suc p)) labels ks (none_alike labels few l none) in
      record {
        long = st.long;
        word = (stands-still labels few l none (word_stands st)).word;
        index =
            st.index
            ∙ ap₂ (λ (hs : List Generator) (js : List ℤ). spread (before p) labels gs (row_index (decision hs js w))) same modes
            ∙ spread_alike (before p) (before (suc p)) labels gs _ (none_alike labels few l none);
        size = st.size ∙ ap₂ (λ (hs : List Generator) (js : List ℤ). row_orbit (decision hs js w)) same modes;
      }

-- as many modes are chosen as generators are listed
module _ (labels : List ℕ) {k j p : ℕ} {member rank : ℕ → ℕ} (few : length labels ≡ k) (l : Listed k j (λ g. get_or labels g 0) p member rank) where
  pub modes-listed : (ks : List ℤ) → length ks ≡ k → length (chosen (own p) labels ks) ≡ j
  modes-listed ks e =
      ap length
      (ap (chosen (own p) labels) (map-below-of (λ g. get_or ks g (pos 0)) k (pos 0) ks e (λ q h. refl))
      ∙ chosen-map (λ g. get_or ks g (pos 0)) (own p) labels (below k)
      ∙ ap (map (λ g. get_or ks g (pos 0))) (chosen-below labels l few))
      ∙ length-map (map member (below j)) (λ g. get_or ks g (pos 0))
      ∙ length-map (below j) member
      ∙ length-below j

-- ---- a part that is made ready

module _ {n : ℕ} {gs : List Generator} (v : Valid n gs) (labels owners : List ℕ) (d : Divided n gs labels owners) (p : ℕ) (few : n ≤ max_sites) (ks : List ℤ)
    (modes : length gs ≡ length ks) (labelled : length labels ≡ length gs) {k : ℕ} (e : length labels ≡ k)
    {table targets orders strides rests masks place number : List ℕ} {r : Part} (h : AtHand k n gs labels owners p table targets orders strides rests masks place number r) where
  -- with generators it takes the decision so far to the one with the part, and without it leaves every row where it stands
  pub sector-part : (w : Word) {row out : List ℕ} {i s o t : ℕ} → SectorStands n gs labels ks p w row i s → (r.generators ≡ 0 → (out ≡ row) × (o ≡ i) × (t ≡ s))
      → (0 < r.generators → SectorStepped n r.sites (site_of table) (generators_in r.generators r.sites targets orders) gs labels (chosen (own p) labels ks) p row i s out o t)
      → SectorStands n gs labels ks (suc p) w out o t
  sector-part w {row} {out} {i} {s} {o} {t} st none some = go (dec_lt 0 r.generators)
    where
      go : Dec (0 < r.generators) → SectorStands n gs labels ks (suc p) w out o t
      go (yes l) = sector-stands-next v labels owners d p h.owned h.tables.valid h.carried few ks modes labelled w st (some l)
      go (no l) =
          let z : r.generators ≡ 0 = omega arith in
          let (a, b, c) = none z in
          sector-still labels e h.members z (rw (a, b, c) st)

-- ---- what a part's work on a row comes to

module _ (n m : ℕ) (site : ℕ → ℕ) (hs gs : List Generator) (labels : List ℕ) (modes : List ℤ) (p : ℕ) where
  -- the row that is read is what it was, and so are its numbers
  pub sector-stepped : {row₀ row out : List ℕ} {i₀ i s₀ s back orbit whole o t : ℕ} {a : Placement} → row ≡ row₀ → i ≡ i₀ → s ≡ s₀
      → a ≡ placement_of (decision hs modes (read_by m site (letters_in n row))) → back ≡ index_in a → orbit ≡ size_in a → whole ≡ spread (own p) labels gs back
      → o ≡ joined_index i s whole orbit → t ≡ s * orbit → PartLeast n m site hs (letters_in n row) out → SectorStepped n m site hs gs labels modes p row₀ i₀ s₀ out o t
  sector-stepped {row₀} {row} {out} {i₀} {i} {s₀} {s} {back} {orbit} {whole} {a = a} re ie se ae be oe we je te le =
      let d : Word = read_by m site (letters_in n row) in
      let same : read_by m site (letters_in n row) ≡ read_by m site (letters_in n row₀) = ap (λ (x : List ℕ). read_by m site (letters_in n x)) re in
      let index : back ≡ row_index (decision hs modes (read_by m site (letters_in n row₀))) = be ∙ ap index_in ae ∙ placed-index (decision hs modes d) ∙ ap (λ (x : Word). row_index (decision hs modes x)) same in
      let size : orbit ≡ row_orbit (decision hs modes (read_by m site (letters_in n row₀))) = oe ∙ ap size_in ae ∙ placed-orbit (decision hs modes d) ∙ ap (λ (x : Word). row_orbit (decision hs modes x)) same in
      record {
        index = je ∙ rw (ie, se, we, index, size);
        size = te ∙ ap₂ ◌*◌ se size;
        word = subst (λ (x : List ℕ). PartLeast n m site hs (letters_in n x) out) re le;
      }
