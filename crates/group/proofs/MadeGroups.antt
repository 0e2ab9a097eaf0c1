-- Group values and the generators that give them: what checked generators make is a group that holds them, and a value that is a group is made of
-- the generators that it holds.
-- What carries it: tables that hold a group are those of the generators that they hold (`hold-placed`), and the tables of generators that break no
-- rule hold them (`placed-hold`).
use Prim.Native.Nat.{ℕ, ◌*◌, ◌≤◌, ◌<◌}
use mathlib.Core.Path.{◌≡◌, refl, sym, ap, ◌∙◌}
use mathlib.Core.Bool.{false}
use mathlib.Core.Logic.{◌⊎◌, inl, inr}
use mathlib.Core.List.{List, [], ◌∷◌, map}
use native.Mathlib.Omega.{arith}
use lib.Dec.{ltb}
use lib.ListN.{length, get_or, take, drop, length-map, length-take}
use lib.Seq.{length-take-le}
use borrow.Author.Tests.{ltb-true, ltb-false, le-ltb, eq-eqb, not-false}
use Rattle.pauli_word.specs.Limits.{max_sites}
use Rattle.outcome.specs.Outcome.{answer, verdict, given}
use Rattle.pauli_word.specs.Calls.{site_count}
use Rattle.action.specs.Lists.{Member}
use Rattle.action.specs.Permutation.{Generator, Permutes, Valid}
use Rattle.action.specs.Index.{order_of}
use Rattle.action.proofs.Lists.{of-member-append, of_member_at}
use Rattle.permutation.specs.Limits.{max_generators, max_order, max_declared}
use Rattle.permutation.specs.Generators.{perms_of, list_end, perms_check, orders_check, pairs_check, order_overflow, order_limit, group_checks, generator_checks, declared, rows_of, written}
use Rattle.permutation.proofs.Commuting.{rows-length}
use Rattle.outcome.proofs.Outcomes.{verdict-fine, unless_answer}
use Rattle.permutation.proofs.Rules.{perms_fine_lem, orders_fine, checks_of_valid}
use Rattle.generators.specs.Tables.{filled, placed_all}
use Rattle.generators.specs.Parts.{any_zero, zero_side, sides_limit}
use Rattle.generators.proofs.Groups.{hold-valid, hold-placed, same_count, placed-rows, placed-orders, placed-hold, placed-long, orders-long, written_ends, written_perms}
use Rattle.elements.proofs.TableRows.{generators_of_lem}
use Rattle.group.specs.declared.Group.{Group}
use Rattle.group.specs.Value.{group_of, try_from_outcome, Fit, GivenBy, generators_of, is_group, AcceptedGroup, GivenAs}
use Rattle.group.specs.Calls.{lattice_outcome, axes_outcome}
use Rattle.group.proofs.LatticeCalls.{same_group}
use Rattle.group.proofs.Making.{tables_of, group_tables}
use Rattle.action.specs.Lattice.{shifts}
use Rattle.action.specs.Arithmetic.{product}
use Rattle.action.proofs.Lattice.{shifts_valid, shifts_order, shifts-length}
use Rattle.generators.proofs.Axes.{sides_within, product_parts}

-- generators, taken apart and put together again

pub declared_parts : (gs : List Generator) → declared (map (λ x. x.perm) gs) (map (λ x. x.order) gs) ≡ gs
unfolding declared
declared_parts [] = refl
declared_parts (g ∷ gs) = ap (λ (l : List Generator). g ∷ l) (declared_parts gs)

-- ---- generators that break no rule

module _ (n : ℕ) (perms : List (List ℕ)) (orders : List ℕ) (small : n ≤ max_sites) (fine : verdict (generator_checks n perms orders) ≡ answer tt) where
  value : group_of n (declared perms orders) ≡ tables_of n perms orders
  value = group_tables n perms orders (same_count n perms orders small fine)

  checked-accepted : AcceptedGroup (group_of n (declared perms orders))
  unfolding is_group
  checked-accepted =
      rw value
      (record {
        few = small;
        is_one = placed-hold n perms orders small fine;
        targets = placed-long n perms orders small fine;
        orders = orders-long n perms orders small fine;
      })

  checked-generators : generators_of (group_of n (declared perms orders)) ≡ declared perms orders
  unfolding generators_of
  checked-generators =
      ap generators_of value
      ∙ generators_of_lem (length perms) n (placed_all perms) (filled max_generators orders) (placed-rows n perms orders small fine)
      (placed-orders n perms orders small fine)

-- ---- a value that is made

module _ (n : ℕ) (list orders : List ℕ) (g : Group) (made : try_from_outcome n list orders ≡ answer g) where
  passed : (verdict (site_count n ∷ list_end list ∷ generator_checks n (perms_of list) orders) ≡ answer tt)
      × (group_of n (declared (perms_of list) orders) ≡ g)
  unfolding try_from_outcome
  passed =
      unless_answer (site_count n ∷ list_end list ∷ generator_checks n (perms_of list) orders) (group_of n (declared (perms_of list) orders)) g made

  one : (ltb max_sites n ≡ false) × (verdict (list_end list ∷ generator_checks n (perms_of list) orders) ≡ answer tt)
  one = verdict-fine (site_count n) (list_end list ∷ generator_checks n (perms_of list) orders) passed.0

  few : n ≤ max_sites
  few = ltb-false max_sites n one.0

  rules : verdict (generator_checks n (perms_of list) orders) ≡ answer tt
  rules = (verdict-fine (list_end list) (generator_checks n (perms_of list) orders) one.1).1

  pub made-accepted : AcceptedGroup g
  made-accepted = rw (← passed.1) (checked-accepted n (perms_of list) orders few rules)

  pub made-means : (g.sites ≡ n) × (generators_of g ≡ declared (perms_of list) orders)
  unfolding group_of
  made-means = rw (← passed.1) (refl, checked-generators n (perms_of list) orders few rules)

-- ---- valid generators within the limits, as a list writes them

valid_made :
    (n : ℕ) (perms : List (List ℕ)) (orders : List ℕ) → n ≤ max_sites → length perms ≤ max_generators → length perms ≡ length orders
    → Valid n (declared perms orders) → order_of (declared perms orders) ≤ max_order
    → try_from_outcome n (written perms) orders ≡ answer (group_of n (declared perms orders))
unfolding try_from_outcome
valid_made n perms orders few room same valid small =
    rw (
      le-ltb max_sites n few,
      written_ends perms,
      written_perms perms,
      le-ltb max_generators (length perms) room,
      eq-eqb (length perms) (length orders) same,
      checks_of_valid n perms orders valid small same,
    )

-- the same by the generators themselves
generators_made :
    (n : ℕ) (gs : List Generator) → n ≤ max_sites → length gs ≤ max_generators → Valid n gs → order_of gs ≤ max_order
    → try_from_outcome n (written (map (λ x. x.perm) gs)) (map (λ x. x.order) gs) ≡ answer (group_of n gs)
generators_made n gs few room valid small =
    let ps = length-map gs (λ x. x.perm) in
    let os = length-map gs (λ x. x.order) in
    valid_made n (map (λ x. x.perm) gs) (map (λ x. x.order) gs) few (omega arith) (ps ∙ sym os) (rw (declared_parts gs) valid)
    (rw (declared_parts gs) small)
    ∙ ap (λ (l : List Generator). answer (group_of n l)) (declared_parts gs)

-- ---- what generators that break no rule are written by has 32 bits

target_fits : (n : ℕ) (perm : List ℕ) → n ≤ max_sites → Permutes n perm → Fit perm
target_fits n perm few ok k m =
    let (q, l, e) = of_member_at perm 0 k m in
    let inside : get_or perm q 0 < n = ok.inside q (rw (← ok.long) l) in
    omega (arith, e, few, inside)

written_fits : (n : ℕ) (perms : List (List ℕ)) → n ≤ max_sites → ((perm : List ℕ) → Member perm perms → Permutes n perm) → Fit (written perms)
unfolding written
written_fits n [] few ok k m = absurd m
written_fits n (p ∷ ps) few ok k (inl e) = omega (arith, e, few, (ok p (inl refl)).long)
written_fits n (p ∷ ps) few ok k (inr m) =
    go (of-member-append p (written ps) k m) (target_fits n p few (ok p (inl refl)) k) (written_fits n ps few (λ q h. ok q (inr h)) k)
  where
    go : Member k p ⊎ Member k (written ps) → (Member k p → k ≤ max_declared) → (Member k (written ps) → k ≤ max_declared) → k ≤ max_declared
    go (inl a) f g = f a
    go (inr b) f g = g b

module _ (n : ℕ) (perms : List (List ℕ)) (orders : List ℕ) (few : n ≤ max_sites) (same : length perms ≡ length orders)
    (pass : verdict (perms_check n 0 perms ∷ group_checks n perms orders) ≡ answer tt) where
  five : ((perms_check n 0 perms).broken ≡ false) × (verdict (group_checks n perms orders) ≡ answer tt)
  five = verdict-fine (perms_check n 0 perms) (group_checks n perms orders) pass

  list-fits : Fit (written perms)
  list-fits = written_fits n perms few (perms_fine_lem n 0 perms five.0)

  orders-fit : Fit orders
  orders-fit k m =
      let (g, l, e) = of_member_at orders 0 k m in
      let eight = verdict-fine (orders_check 0 perms orders) (pairs_check n 0 perms ∷ order_overflow orders ∷ order_limit orders ∷ []) five.1 in
      omega (arith, e, (orders_fine 0 perms orders eight.0 same g (rw same l)).1)

-- ---- lattices

pub axes-generators : (a b c k : ℕ) (g : Group) → k ≤ 3 → axes_outcome a b c k ≡ answer g
    → GivenAs (a * b * c) (shifts (a * b * c) 1 (take k (a ∷ b ∷ c ∷ []))) g
unfolding axes_outcome lattice_outcome
axes-generators a b c k g room made =
    let n : ℕ = a * b * c in
    let sides : List ℕ = take k (a ∷ b ∷ c ∷ []) in
    let gs : List Generator = shifts n 1 sides in
    let (passes, same) = unless_answer (zero_side (any_zero a b c) ∷ sides_limit n ∷ []) (group_of n gs) g made in
    let (some, rest) = verdict-fine (zero_side (any_zero a b c)) (sides_limit n ∷ []) passes in
    let few : n ≤ max_sites = ltb-false max_sites n (verdict-fine (sides_limit n) [] rest).0 in
    let positive : 0 < n = ltb-true 0 n (not-false (ltb 0 n) some) in
    let within = sides_within a b c k positive in
    let whole : 1 * product sides * product (drop k (a ∷ b ∷ c ∷ [])) ≡ n =
    unfold product in omega (arith, product_parts k (a ∷ b ∷ c ∷ []))
    in
    generators_made n gs few (omega (arith, shifts-length n 1 sides, length-take k (a ∷ b ∷ c ∷ [])))
    (shifts_valid positive 1 sides (product (drop k (a ∷ b ∷ c ∷ []))) whole) (omega (arith, shifts_order n 1 sides, within.1))
    ∙ ap answer same

-- ---- a value that is a group

module _ (g : Group) (ok : AcceptedGroup g) where
  -- what it holds
  held : Valid g.sites (generators_of g) × (order_of (generators_of g) ≤ max_order) × (g.generators ≤ max_generators)
  unfolding is_group generators_of
  held = hold-valid g.generators g.sites g.targets g.orders ok.is_one ok.orders

  counted : length (rows_of g.generators g.sites g.targets) ≡ length (take g.generators g.orders)
  counted =
      rows-length g.generators g.sites g.targets
      ∙ sym (length-take-le g.generators g.orders (omega (arith, held.2, ok.orders)))

  -- it is the value of the generators that it holds
  held-value : group_of g.sites (declared (rows_of g.generators g.sites g.targets) (take g.generators g.orders)) ≡ g
  unfolding is_group
  held-value =
      let rows : List (List ℕ) = rows_of g.generators g.sites g.targets in
      let (targets, orders) =
      hold-placed g.generators g.sites g.targets g.orders ok.is_one ok.few ok.targets ok.orders
      in
      let many = rows-length g.generators g.sites g.targets in
      group_tables g.sites rows (take g.generators g.orders) counted
      ∙ same_group refl many (sym orders) (sym targets)

  pub held-valid : Valid g.sites (generators_of g)
  held-valid = held.0

  pub held-given : GivenBy g
  unfolding generators_of
  held-given =
      let perms : List (List ℕ) = rows_of g.generators g.sites g.targets in
      let orders : List ℕ = take g.generators g.orders in
      let room : length perms ≤ max_generators = omega (arith, held.2, rows-length g.generators g.sites g.targets) in
      let pass = checks_of_valid g.sites perms orders held.0 held.1 counted in
      record {
        list = written perms;
        orders = orders;
        list_fits = list-fits g.sites perms orders ok.few counted pass;
        orders_fit = orders-fit g.sites perms orders ok.few counted pass;
        given = valid_made g.sites perms orders ok.few room counted held.0 held.1 ∙ ap answer held-value;
      }
