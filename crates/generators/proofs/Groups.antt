-- Tables and the groups that they hold: tables that hold a group hold valid generators and nothing else, and generators that break no rule are
-- held by their tables. And a list that writes given permutations.
-- What carries it: a row of max_sites places is a permutation and zeros after it.
use Prim.Native.Nat.{ℕ, zero, suc, ◌+◌, ◌-◌, ◌*◌, ◌≤◌, ◌<◌}
use mathlib.Core.Path.{◌≡◌, refl, sym, ap, ap₂, ◌∙◌}
use mathlib.Core.Logic.{inl, inr}
use mathlib.Core.Bool.{Bool, true, false, not, ◌&&◌, cond, and-eq-true_iff, false≢true}
use mathlib.Core.List.{List, [], ◌∷◌, ◌++◌, map, append_assoc}
use native.Mathlib.Nat.{not-suc-le-zero, le_of_suc-le-suc, le_refl}
use native.Mathlib.Omega.{arith}
use lib.Dec.{ltb, eqb}
use lib.ListN.{length, get_or, take, drop, length-append, length-take, length-drop, take-append-drop}
use lib.Seq.{take_at, drop_at, take-take, take-add, drop-drop, drop-append-add, drop-append_seam, take-append_seam, length-take-le, ext_get_or}
use borrow.Author.Tests.{ltb-false, le-ltb, eqb-true, not-false}
use Rattle.pauli_word.specs.Limits.{max_sites}
use Rattle.outcome.specs.Outcome.{Outcome, refused, answer, Check, verdict, answers}
use Rattle.action.specs.Lists.{from, below, Member}
use Rattle.action.specs.Permutation.{Valid}
use Rattle.action.specs.Index.{order_of}
use Rattle.action.proofs.Lists.{member_below, of_member_below, every-intro, every-elim, member_at}
use Rattle.permutation.specs.Limits.{max_generators, max_order, target_places}
use Rattle.permutation.specs.Generators.{ends_inside, perms_of, generator_count, counts, perms_check, group_checks, generator_checks, declared, row_at, rows_of, written}
use Rattle.permutation.proofs.Commuting.{rows-length, row-at}
use Rattle.outcome.proofs.Outcomes.{verdict-fine}
use Rattle.permutation.proofs.Rules.{valid_of_checks, perms_fine_lem}
use Rattle.generators.specs.Tables.{filled, placed, placed_all, zeros, rests_clear, unused_clear, hold_group}
use Rattle.generators.proofs.Zeros.{blank, zeros-blank, blank-zeros}
use Rattle.generators.proofs.Written.{ends_cons, perms_cons, ends-none, perms-none}
use Rattle.generators.proofs.Placed.{filled-length}
use Rattle.generators.proofs.Rows.{row_long}
use Rattle.generators.proofs.Holding.{hold-unused}

-- ---- what tables that hold a group hold

-- the checks of tables, 3 and 5 to 13
abbrev table_checks : ℕ → ℕ → List ℕ → List ℕ → List Check
table_checks k n targets orders = generator_count k ∷ perms_check n 0 (rows_of k n targets) ∷ group_checks n (rows_of k n targets) (take k orders)

answered : (o : Outcome (Unit {0})) → answers o ≡ true → o ≡ answer tt
answered (refused k vs) e = absurd (false≢true e)
answered (answer tt) e = refl

-- a list whose places from n on are 0 is its first n places and zeros
filled_cut : (m n : ℕ) (xs : List ℕ) → length xs ≡ m → zeros (drop n xs) ≡ true → xs ≡ filled m (take n xs)
filled_cut m n xs long e =
    let rest : length (drop n xs) ≡ m - length (take n xs) = omega (arith, length-drop n xs, length-take n xs) in
    sym (take-append-drop n xs) ∙ ap (λ (l : List ℕ). take n xs ++ l) (blank-zeros (drop n xs) e ∙ ap blank rest)

-- the first k rows, each a permutation and zeros after it
module _ (n : ℕ) (targets : List ℕ) (small : n ≤ max_sites) where
  row_cut : (i : ℕ) → max_sites * i + max_sites ≤ length targets → zeros (drop n (row_at max_sites targets i)) ≡ true
      → row_at max_sites targets i ≡ filled max_sites (row_at n targets i)
  row_cut i h e =
      filled_cut max_sites n (row_at max_sites targets i) (row_long max_sites targets i h) e
      ∙ ap (filled max_sites) (take-take n max_sites (drop (max_sites * i) targets) small)

  rows_cut : (k a : ℕ) → max_sites * (a + k) ≤ length targets → ((i : ℕ) → i < a + k → zeros (drop n (row_at max_sites targets i)) ≡ true)
      → take (max_sites * k) (drop (max_sites * a) targets) ≡ placed (map (row_at n targets) (from a k))
  unfolding placed from
  rows_cut zero a h e = refl
  rows_cut (suc k) a h e =
      let whole : max_sites * suc k ≡ max_sites + max_sites * k = omega arith in
      let next : max_sites * a + max_sites ≡ max_sites * suc a = omega arith in
      ap (λ (j : ℕ). take j (drop (max_sites * a) targets)) whole
      ∙ take-add max_sites (max_sites * k) (drop (max_sites * a) targets)
      ∙ ap₂ ◌++◌ (row_cut a (omega arith) (e a (omega arith)))
      (ap (take (max_sites * k)) (drop-drop max_sites (max_sites * a) targets ∙ ap (λ (j : ℕ). drop j targets) next)
      ∙ rows_cut k (suc a) (omega arith) (λ i l. e i (omega arith)))

module _ (k n : ℕ) (targets orders : List ℕ) (hold : hold_group k n targets orders ≡ true) where
  passed : verdict (table_checks k n targets orders) ≡ answer tt
  unfolding hold_group
  passed =
      answered (verdict (table_checks k n targets orders))
      ((and-eq-true_iff (answers (verdict (table_checks k n targets orders))) (unused_clear k n targets orders)).0 hold).0

  -- the unused places are 0
  clear : (rests_clear k n targets ≡ true) × (zeros (drop (max_sites * k) targets) ≡ true) × (zeros (drop k orders) ≡ true)
  unfolding hold_group unused_clear
  clear =
      let all = ((and-eq-true_iff (answers (verdict (table_checks k n targets orders))) (unused_clear k n targets orders)).0 hold).1 in
      let (front, last) = (and-eq-true_iff (rests_clear k n targets && zeros (drop (max_sites * k) targets)) (zeros (drop k orders))).0 all in
      let (rests, unused) = (and-eq-true_iff (rests_clear k n targets) (zeros (drop (max_sites * k) targets))).0 front in
      (rests, unused, last)

  checks : (ltb max_generators k ≡ false) × (verdict (perms_check n 0 (rows_of k n targets) ∷ group_checks n (rows_of k n targets) (take k orders)) ≡ answer tt)
  checks = verdict-fine (generator_count k) (perms_check n 0 (rows_of k n targets) ∷ group_checks n (rows_of k n targets) (take k orders)) passed

  few : k ≤ max_generators
  few = ltb-false max_generators k checks.0

  pub hold-valid :
      length orders ≡ max_generators
      → Valid n (declared (rows_of k n targets) (take k orders)) × (order_of (declared (rows_of k n targets) (take k orders)) ≤ max_order) × (k ≤ max_generators)
  hold-valid long =
      let (valid, order) =
      valid_of_checks n (rows_of k n targets) (take k orders) checks.1
      (rows-length k n targets ∙ sym (length-take-le k orders (omega (arith, few))))
      in
      (valid, order, few)

  -- the tables are those of the generators that they hold
  pub hold-placed :
      n ≤ max_sites → length targets ≡ target_places → length orders ≡ max_generators
      → (targets ≡ placed_all (rows_of k n targets)) × (orders ≡ filled max_generators (take k orders))
  unfolding placed_all rows_of below rests_clear
  hold-placed small long orderly = (
    filled_cut target_places (max_sites * k) targets long clear.1
        ∙ ap (filled target_places) (rows_cut n targets small k 0 (omega (arith, few)) rest),
    filled_cut max_generators k orders orderly clear.2,
  )
    where
      rest : (i : ℕ) → i < 0 + k → zeros (drop n (row_at max_sites targets i)) ≡ true
      rest i l = every-elim (λ i. zeros (drop n (row_at max_sites targets i))) (below k) clear.0 i (member_below k i (omega arith))

-- ---- the tables of generators

-- the max_sites places of generator i
placed_row :
    (ps : List (List ℕ)) (rest : List ℕ) → ((p : List ℕ) → Member p ps → length p ≤ max_sites)
    → (i : ℕ) → i < length ps → row_at max_sites (placed ps ++ rest) i ≡ filled max_sites (get_or ps i [])
unfolding placed
placed_row [] rest short i h = absurd (not-suc-le-zero h)
placed_row (p ∷ ps) rest short zero h =
    ap (take max_sites) (append_assoc (filled max_sites p) (placed ps) rest)
    ∙ take_at (filled max_sites p) (placed ps ++ rest) max_sites (filled-length max_sites p (short p (inl refl)))
placed_row (p ∷ ps) rest short (suc i) h =
    let start : max_sites * suc i ≡ max_sites + max_sites * i = omega arith in
    ap₂ (λ (j : ℕ) (l : List ℕ). take max_sites (drop j l)) start (append_assoc (filled max_sites p) (placed ps) rest)
    ∙ ap (take max_sites)
    (ap (λ (j : ℕ). drop (j + max_sites * i) (filled max_sites p ++ (placed ps ++ rest))) (sym (filled-length max_sites p (short p (inl refl))))
    ∙ drop-append-add (filled max_sites p) (placed ps ++ rest) (max_sites * i))
    ∙ placed_row ps rest (λ q m. short q (inr m)) i (le_of_suc-le-suc h)

placed-length : (ps : List (List ℕ)) → ((p : List ℕ) → Member p ps → length p ≤ max_sites) → length (placed ps) ≡ max_sites * length ps
unfolding placed
placed-length [] short = refl
placed-length (p ∷ ps) short =
    length-append (filled max_sites p) (placed ps)
    ∙ ap₂ ◌+◌ (filled-length max_sites p (short p (inl refl))) (placed-length ps (λ q m. short q (inr m)))
    ∙ omega arith

zeros-filled : (k n : ℕ) (xs : List ℕ) → length xs ≡ n → zeros (drop n (filled k xs)) ≡ true
zeros-filled k n xs e = ap zeros (drop_at xs (blank (k - length xs)) n e) ∙ zeros-blank (k - length xs)

module _ (n : ℕ) (perms : List (List ℕ)) (small : n ≤ max_sites) (long : (p : List ℕ) → Member p perms → length p ≡ n) where
  short : (p : List ℕ) → Member p perms → length p ≤ max_sites
  short p m = omega (arith, long p m)

  row-whole : (i : ℕ) → i < length perms → row_at max_sites (placed_all perms) i ≡ filled max_sites (get_or perms i [])
  unfolding placed_all
  row-whole = placed_row perms (blank (target_places - length (placed perms))) short

  long-at : (i : ℕ) → i < length perms → length (get_or perms i []) ≡ n
  long-at i h = long (get_or perms i []) (member_at perms [] i h)

  row_is : (i : ℕ) → i < length perms → row_at n (placed_all perms) i ≡ get_or perms i []
  row_is i h =
      sym (take-take n max_sites (drop (max_sites * i) (placed_all perms)) small)
      ∙ ap (take n) (row-whole i h)
      ∙ take_at (get_or perms i []) (blank (max_sites - length (get_or perms i []))) n (long-at i h)

  pub rows-placed : rows_of (length perms) n (placed_all perms) ≡ perms
  rows-placed =
      ext_get_or [] (rows_of (length perms) n (placed_all perms)) perms (rows-length (length perms) n (placed_all perms))
      (λ i h.
      let l : i < length perms = omega (arith, rows-length (length perms) n (placed_all perms)) in
      row-at (length perms) n (placed_all perms) i l ∙ row_is i l)

  rests-placed : rests_clear (length perms) n (placed_all perms) ≡ true
  unfolding rests_clear
  rests-placed =
      every-intro (λ i. zeros (drop n (row_at max_sites (placed_all perms) i))) (below (length perms))
      (λ i m.
      let h = of_member_below (length perms) i m in
      ap (λ (l : List ℕ). zeros (drop n l)) (row-whole i h) ∙ zeros-filled max_sites n (get_or perms i []) (long-at i h))

  unused-placed : zeros (drop (max_sites * length perms) (placed_all perms)) ≡ true
  unfolding placed_all
  unused-placed = zeros-filled target_places (max_sites * length perms) (placed perms) (placed-length perms short)

-- generators that break none of the rules 3 to 13
module _ (n : ℕ) (perms : List (List ℕ)) (orders : List ℕ) (small : n ≤ max_sites) (passed : verdict (generator_checks n perms orders) ≡ answer tt) where
  three : (ltb max_generators (length perms) ≡ false)
      × (verdict (counts (length perms) (length orders) ∷ perms_check n 0 perms ∷ group_checks n perms orders) ≡ answer tt)
  three = verdict-fine (generator_count (length perms)) (counts (length perms) (length orders) ∷ perms_check n 0 perms ∷ group_checks n perms orders) passed

  four : (not (eqb (length perms) (length orders)) ≡ false) × (verdict (perms_check n 0 perms ∷ group_checks n perms orders) ≡ answer tt)
  four = verdict-fine (counts (length perms) (length orders)) (perms_check n 0 perms ∷ group_checks n perms orders) three.1

  five : ((perms_check n 0 perms).broken ≡ false) × (verdict (group_checks n perms orders) ≡ answer tt)
  five = verdict-fine (perms_check n 0 perms) (group_checks n perms orders) four.1

  pub same_count : length perms ≡ length orders
  same_count = eqb-true (length perms) (length orders) (not-false (eqb (length perms) (length orders)) four.0)

  whole : (p : List ℕ) → Member p perms → length p ≡ n
  whole p m = (perms_fine_lem n 0 perms five.0 p m).long

  room : length perms ≤ max_generators
  room = ltb-false max_generators (length perms) three.0

  pub placed-rows : rows_of (length perms) n (placed_all perms) ≡ perms
  placed-rows = rows-placed n perms small whole

  pub placed-orders : take (length perms) (filled max_generators orders) ≡ orders
  placed-orders = take_at orders (blank (max_generators - length orders)) (length perms) (sym same_count)

  pub placed-hold : hold_group (length perms) n (placed_all perms) (filled max_generators orders) ≡ true
  placed-hold =
      hold-unused (length perms) n (placed_all perms) (filled max_generators orders) room
      (rw placed-rows five.0) (rw (placed-rows, placed-orders) five.1)
      ∙ rw (
        rests-placed n perms small whole,
        unused-placed n perms small whole,
        zeros-filled max_generators (length perms) orders (sym same_count),
      )

  -- their tables fill their places
  pub placed-long : length (placed_all perms) ≡ target_places
  unfolding placed_all
  placed-long = filled-length target_places (placed perms) (omega (arith, placed-length perms (short n perms small whole), room))

  pub orders-long : length (filled max_generators orders) ≡ max_generators
  orders-long = filled-length max_generators orders (omega (arith, room, same_count))

-- ---- a list that writes permutations

pub written_ends : (perms : List (List ℕ)) → ends_inside (written perms) ≡ false
unfolding written
written_ends [] = ends-none [] 0 (le_refl 0)
written_ends (p ∷ ps) =
    ends_cons (length p) (p ++ written ps)
    ∙ ap₂ (λ (b : Bool) (l : List ℕ). cond b true (ends_inside l))
    (le-ltb (length (p ++ written ps)) (length p) (omega (arith, length-append p (written ps)))) (drop-append_seam p (written ps))
    ∙ written_ends ps

pub written_perms : (perms : List (List ℕ)) → perms_of (written perms) ≡ perms
unfolding written
written_perms [] = perms-none [] 0 (le_refl 0)
written_perms (p ∷ ps) =
    perms_cons (length p) (p ++ written ps)
    ∙ ap₂ (λ (q : List ℕ) (qs : List (List ℕ)). q ∷ qs) (take-append_seam p (written ps)) (ap perms_of (drop-append_seam p (written ps)) ∙ written_perms ps)
