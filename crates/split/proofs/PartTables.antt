-- The tables of a part, row after row (`Filled`): once all rows are written, they hold generators of numbers that do what the part's generators do, and so
-- they are tables of a group. What carries it: a generator of the part sends a site of the part to a site of the part.
use Prim.Native.Nat.{ℕ, suc, ◌+◌, ◌-◌, ◌*◌, ◌≤◌, ◌<◌}
use mathlib.Core.Path.{◌≡◌, refl, sym, ap, ◌∙◌, subst}
use mathlib.Core.Logic.{inl, inr, ⊎_elim}
use mathlib.Core.Bool.{true, not, false≢true}
use mathlib.Core.List.{List, [], ◌∷◌, ◌++◌, map}
use native.Mathlib.Nat.{not-suc-le-zero, le-mul_of_pos_right}
use native.Mathlib.Omega.{arith}
use borrow.Author.Count.{below_more}
use borrow.Author.Tests.{eqb-true, eq-eqb}
use lib.Dec.{eqb}
use lib.ListN.{length, get_or, set, take, drop, length-append, length-set, length-take, length-drop, get_or-append}
use lib.Seq.{length-take-le, get_or-append-add, get_or-take, get_or-set_same, get_or-set_other}
use Rattle.pauli_word.specs.Limits.{max_sites}
use Rattle.action.specs.Lists.{below, Member}
use Rattle.action.specs.Permutation.{Generator, target, Permutes, Valid}
use Rattle.action.specs.Index.{order_of}
use Rattle.action.proofs.Lists.{of-member-map, of_member_below}
use Rattle.action.proofs.Index.{valid_positive, order_of_positive}
use Rattle.permutation.specs.Limits.{max_generators, max_order, target_places}
use Rattle.permutation.specs.Generators.{row_at}
use Rattle.permutation.proofs.Commuting.{row_target}
use Rattle.elements.specs.HeldGroup.{generators_in, Tables}
use Rattle.elements.proofs.TableRows.{generator_at, generators-length, permutes-at}
use Rattle.parts.specs.Labels.{chosen, Divided}
use Rattle.parts.specs.Numbered.{Numbering, Carried}
use Rattle.parts.specs.Parts.{Interleaved}
use Rattle.parts.proofs.Joined.{first_valid, second_valid, order_joined}
use Rattle.parts.proofs.Labelled.{chosen_all, chosen_interleaved, chosen_leaves, all_apart}
use Rattle.parts.proofs.Independent.{Leaves}
use Rattle.parts.proofs.Carried.{Inside, order-carried, valid-carried}
use Rattle.split.specs.Places.{Listed}
use Rattle.split.proofs.Division.{of_tables_divided}
use Rattle.split.proofs.Members.{generators-below, chosen-map, chosen-below}

-- the first j rows and orders of a part's tables: `member` has the generator of each, `site` the site of a number, and `number` the number of a site
pub record Filled (targets orders : List ℕ) (m : ℕ) (member site number : ℕ → ℕ) (j : ℕ) (rows os : List ℕ) : Type 0 where
  pub places : length rows ≡ target_places
  pub declared : length os ≡ max_generators
  pub order : (i : ℕ) → i < j → get_or os i 0 ≡ get_or orders (member i) 0
  pub row : (i : ℕ) → i < j → (a : ℕ) → a < m → get_or rows (max_sites * i + a) 0 ≡ number (get_or targets (max_sites * member i + site a) 0)

pub filled_none : {targets orders : List ℕ} {m : ℕ} {member site number : ℕ → ℕ} {rows os : List ℕ} → length rows ≡ target_places → length os ≡ max_generators
    → Filled targets orders m member site number 0 rows os
filled_none places declared = record {
  places = places;
  declared = declared;
  order = λ i h. absurd (not-suc-le-zero h);
  row = λ i h. absurd (not-suc-le-zero h);
}

-- the part has no more generators than a group may have, and no more sites
module _ {K n k m : ℕ} {targets orders : List ℕ} (t : Tables K n targets orders) {label owner member rank site number : ℕ → ℕ} {part value : ℕ}
    (ls : Listed K k label part member rank) (ss : Listed n m owner value site number) where
  pub members-few : k ≤ max_generators
  members-few = omega (arith, ls.few, t.few)

  pub sites-few : m ≤ max_sites
  sites-few = omega (arith, ss.few, t.sites)

-- a target in tables is a site
pub target-inside : {K n : ℕ} {targets orders : List ℕ} → Tables K n targets orders → (g q : ℕ) → g < K → q < n → get_or targets (max_sites * g + q) 0 < n
target-inside {n = n} {targets = targets} t g q h b = subst (λ (x : ℕ). x < n) (row_target n targets g q b) ((permutes-at t g h).inside q b)

-- ---- a row more

module _ (rows row : List ℕ) (j : ℕ) (places : length rows ≡ target_places) (more : j < max_generators) (wide : length row ≡ max_sites) where
  -- the places with a row in the place of row j
  abbrev stored : List ℕ
  stored = take (max_sites * j) rows ++ (row ++ drop (max_sites * j + max_sites - max_sites * j) (drop (max_sites * j) rows))

  front : length (take (max_sites * j) rows) ≡ max_sites * j
  front = length-take-le (max_sites * j) rows (omega arith)

  stored-length : length stored ≡ target_places
  stored-length = simp (length-append, front, length-drop) (omega arith)

  stored-before : (i a : ℕ) → i < j → a < max_sites → get_or stored (max_sites * i + a) 0 ≡ get_or rows (max_sites * i + a) 0
  stored-before i a h b =
      get_or-append (take (max_sites * j) rows) (row ++ drop (max_sites * j + max_sites - max_sites * j) (drop (max_sites * j) rows)) 0 (max_sites * i + a) (omega (arith, front))
      ∙ get_or-take (max_sites * j) rows (max_sites * i + a) 0 (omega arith)

  stored_at : (a : ℕ) → a < max_sites → get_or stored (max_sites * j + a) 0 ≡ get_or row a 0
  stored_at a b =
      ap (λ (p : ℕ). get_or stored (p + a) 0) (sym front)
      ∙ get_or-append-add (take (max_sites * j) rows) (row ++ drop (max_sites * j + max_sites - max_sites * j) (drop (max_sites * j) rows)) a 0
      ∙ get_or-append row (drop (max_sites * j + max_sites - max_sites * j) (drop (max_sites * j) rows)) 0 a (omega arith)

module _ {targets orders : List ℕ} {m : ℕ} {member site number : ℕ → ℕ} {j : ℕ} {rows os : List ℕ} (f : Filled targets orders m member site number j rows os)
    (more : j < max_generators) where
  pub row-wide : length (take (max_sites * j + max_sites - max_sites * j) (drop (max_sites * j) rows)) ≡ max_sites
  row-wide = simp (length-take, length-drop) (omega (arith, f.places))

  pub filled_next : m ≤ max_sites → (row : List ℕ) → length row ≡ length (take (max_sites * j + max_sites - max_sites * j) (drop (max_sites * j) rows))
      → ((a : ℕ) → a < m → get_or row a 0 ≡ number (get_or targets (max_sites * member j + site a) 0))
      → Filled targets orders m member site number (j + 1) (take (max_sites * j) rows ++ (row ++ drop (max_sites * j + max_sites - max_sites * j) (drop (max_sites * j) rows)))
      (set os j (get_or orders (member j) 0))
  filled_next few row long new = record {
    places = stored-length rows row j f.places more wide;
    declared = length-set os j (get_or orders (member j) 0) ∙ f.declared;
    order = below_more (λ i. get_or (set os j (get_or orders (member j) 0)) i 0 ≡ get_or orders (member i) 0) j
        (λ i h. get_or-set_other os j i (get_or orders (member j) 0) 0 (λ e. omega arith) ∙ f.order i h)
        (get_or-set_same os j (get_or orders (member j) 0) 0 (omega (arith, f.declared)));
    row = below_more (λ i. (a : ℕ) → a < m → get_or (stored rows row j f.places more wide) (max_sites * i + a) 0 ≡ number (get_or targets (max_sites * member i + site a) 0)) j
        (λ i h a b. stored-before rows row j f.places more wide i a h (omega arith) ∙ f.row i h a b)
        (λ a b. stored_at rows row j f.places more wide a (omega arith) ∙ new a b);
  }
    where
      wide : length row ≡ max_sites
      wide = long ∙ row-wide

-- ---- what the tables hold

-- each does what the generator of its number does
carried_map : (m : ℕ) (site member : ℕ → ℕ) (f g : ℕ → Generator) (is : List ℕ)
    → ((i : ℕ) → Member i is → ((g i).order ≡ (f (member i)).order) × ((a : ℕ) → a < m → site (target (g i).perm a) ≡ target (f (member i)).perm (site a)))
    → Carried m site (map f (map member is)) (map g is)
carried_map m site member f g [] h = tt
carried_map m site member f g (i ∷ is) h = ((h i (inl refl)).0, (h i (inl refl)).1, carried_map m site member f g is (λ j k. h j (inr k)))

module _ {K n k m : ℕ} {targets orders : List ℕ} (t : Tables K n targets orders) (labels owners : List ℕ) (d : Divided n (generators_in K n targets orders) labels owners)
    (long : length labels ≡ K) {part : ℕ} {member rank site number : ℕ → ℕ} (ls : Listed K k (λ g. get_or labels g 0) part member rank)
    (ss : Listed n m (λ q. get_or owners q 0) (suc part) site number) (rows os : List ℕ) (f : Filled targets orders m member site number k rows os) where
  abbrev whole : List Generator
  whole = generators_in K n targets orders

  abbrev own : List Generator
  own = chosen (λ l. eqb l part) labels whole

  abbrev others : List Generator
  others = chosen (λ l. not (eqb l part)) labels whole

  abbrev numbered : List Generator
  numbered = generators_in k m rows os

  few : k ≤ max_generators
  few = members-few t ls ss

  -- the generators by their numbers
  own-members : own ≡ map (generator_at n targets orders) (map member (below k))
  own-members =
      ap (chosen (λ l. eqb l part) labels) (generators-below K n targets orders (omega (arith, t.few, t.declared_orders)))
      ∙ chosen-map (generator_at n targets orders) (λ l. eqb l part) labels (below K)
      ∙ ap (map (generator_at n targets orders)) (chosen-below labels ls long)

  numbered_below : numbered ≡ map (generator_at m rows os) (below k)
  numbered_below = generators-below k m rows os (omega (arith, few, f.declared))

  -- where generator i of the part sends the site of number a
  abbrev sent : ℕ → ℕ → ℕ
  sent i a = get_or targets (max_sites * member i + site a) 0

  module _ (i : ℕ) (h : i < k) (a : ℕ) (b : a < m) where
    permutes : Permutes n (row_at n targets (member i))
    permutes = permutes-at t (member i) (ls.inside i h)

    sent-target : target (row_at n targets (member i)) (site a) ≡ sent i a
    sent-target = row_target n targets (member i) (site a) (ss.inside a b)

    sent-inside : sent i a < n
    sent-inside = target-inside t (member i) (site a) (ls.inside i h) (ss.inside a b)

    -- it is a site of the part
    sent-own : get_or owners (sent i a) 0 ≡ suc part
    sent-own =
        ⊎_elim
        (λ e. e ∙ ap suc (ls.own i h))
        (λ e. let s : sent i a ≡ site a = permutes.apart (sent i a) (site a) sent-inside (ss.inside a b) (e ∙ sym sent-target) in
        ap (λ (q : ℕ). get_or owners q 0) s ∙ ss.own a b)
        (of_tables_divided t labels owners d (member i) (ls.inside i h) (sent i a) sent-inside)

    row-sent : target (row_at m rows i) a ≡ number (sent i a)
    row-sent = row_target m rows i a b ∙ f.row i h a b

    row_inside : target (row_at m rows i) a < m
    row_inside = rw row-sent (ss.small (sent i a) sent-inside sent-own)

    row_carried : site (target (row_at m rows i) a) ≡ target (row_at n targets (member i)) (site a)
    row_carried = ap site row-sent ∙ ss.listed (sent i a) sent-inside sent-own ∙ sym sent-target

  pub part-carried : Carried m site own numbered
  part-carried =
      rw (own-members, numbered_below)
      (carried_map m site member (generator_at n targets orders) (generator_at m rows os) (below k)
      (λ i l. let h = of_member_below k i l in (f.order i h, row_carried i h)))

  -- ---- tables of a group

  numbering : Numbering n m site
  numbering = record { inside = ss.inside; apart = λ a b h k e. sym (ss.numbered a h) ∙ ap number e ∙ ss.numbered b k }

  row_long : (i : ℕ) → i < k → length (row_at m rows i) ≡ m
  row_long i h =
      length-take-le m (drop (max_sites * i) rows) (omega (arith, length-drop (max_sites * i) rows, f.places, few, ss.few, t.sites))

  inside : Inside m numbered
  inside h l =
      let (i, b, e) = of-member-map (generator_at m rows os) (below k) h (rw numbered_below at l) in
      let c = of_member_below k i b in
      rw e (row_long i c, row_inside i c)

  parts : Interleaved (chosen (λ l. true) labels whole) own others
  parts = chosen_interleaved (all_apart (λ l. eqb l part)) labels whole

  all : chosen (λ l. true) labels whole ≡ whole
  all = chosen_all (λ l. true) labels whole (long ∙ sym (generators-length t)) (λ l m. refl)

  all_valid : Valid n (chosen (λ l. true) labels whole)
  all_valid = rw all t.valid

  leaves : Leaves n (λ q. not (eqb (get_or owners q 0) (suc part))) own
  leaves =
      chosen_leaves n (λ l. eqb l part) (λ q. not (eqb (get_or owners q 0) (suc part))) whole labels owners d
      (λ l q a b e. let s : get_or owners q 0 ≡ suc part = e ∙ ap suc (eqb-true l part a) in
      false≢true (ap not (sym (eq-eqb (get_or owners q 0) (suc part) s)) ∙ b))

  valid : Valid m numbered
  valid =
      valid-carried numbering (λ q. eqb (get_or owners q 0) (suc part))
      (λ q h e. let o = eqb-true (get_or owners q 0) (suc part) e in (number q, ss.small q h o, ss.listed q h o))
      own numbered (first_valid parts all_valid) part-carried inside leaves

  -- the order is a factor of that of the whole
  small : order_of numbered ≤ max_order
  small =
      let e : order_of whole ≡ order_of own * order_of others = ap order_of (sym all) ∙ order_joined parts in
      let some = order_of_positive others (valid_positive (second_valid parts all_valid)) in
      omega (arith, t.small, e, le-mul_of_pos_right (order_of own) some, order-carried m site own numbered part-carried)

  pub part-tables : Tables k m rows os
  part-tables = record {
    places = f.places;
    declared_orders = f.declared;
    few = few;
    sites = sites-few t ls ss;
    valid = valid;
    small = small;
  }
