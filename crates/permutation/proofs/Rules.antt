-- The rules say what they mean: generators that break none are valid, and valid generators break none.
-- What carries it: each check goes through its list once, and is not broken exactly if it is broken at no place.
use Prim.Native.Nat.{ℕ, zero, suc, ◌*◌, ◌≤◌, ◌<◌, suc-le-suc}
use mathlib.Core.Path.{◌≡◌, refl, sym, ap, ◌∙◌}
use mathlib.Core.Logic.{inl, inr}
use mathlib.Core.Bool.{Bool, true, false, ◌||◌, cond, true≢false}
use mathlib.Core.List.{List, [], ◌∷◌}
use native.Mathlib.Nat.{not-suc-le-zero, le_of_suc-le-suc, suc_inj, zero-lt-suc, le_trans}
use native.Mathlib.Omega.{arith}
use lib.Dec.{eqb, leb, ltb}
use lib.ListN.{length, get_or}
use borrow.Author.Tests.{leb-false, lt-leb, eqb-false, ne_eqb, eqb-true, eq-eqb, ltb-false, le-ltb}
use Rattle.action.proofs.Lists.{member_at, of_member_at}
use Rattle.action.specs.Lists.{Member}
use Rattle.action.specs.Permutation.{Generator, exact_order, Permutes, Commute, Valid}
use Rattle.action.specs.Index.{order_of}
use Rattle.action.proofs.ExactOrders.{order_positive}
use Rattle.outcome.specs.declared.Refusal.{Refusal}
use Rattle.outcome.specs.declared.Refusal.TheVariants as Refusal
use Rattle.outcome.proofs.Outcomes.{verdict-fine}
use Rattle.outcome.specs.Outcome.{answer, Check, verdict}
use Rattle.permutation.specs.Limits.{max_order, max_declared, max_wide}
use Rattle.action.specs.Arithmetic.{product}
use Rattle.permutation.specs.Generators.{fine, broke, among, targets_check, perm_check, perms_check, or_next, order_check, orders_check, commute_at, with_right, pairs_check, order_overflow, order_limit, group_checks, declared}
use Rattle.permutation.proofs.Commuting.{commute_at_true, of_commute_at}
use Rattle.permutation.proofs.Products.{product-holds}

-- of two rules neither is broken
pub or_next-fine : (a b : Check) → (or_next a b).broken ≡ false → (a.broken ≡ false) × (b.broken ≡ false)
or_next-fine a b h = go a.broken refl h
  where
    go : (t : Bool) → a.broken ≡ t → (cond t a b).broken ≡ false → (a.broken ≡ false) × (b.broken ≡ false)
    go true e k = absurd (true≢false (sym e ∙ k))
    go false e k = (e, k)

-- ---- 6 and 7: the targets of one generator

target-fine :
    (outside again : Bool) (a b : Refusal) (rest : Check) → (cond outside (broke a) (cond again (broke b) rest)).broken ≡ false
    → (outside ≡ false) × (again ≡ false) × (rest.broken ≡ false)
target-fine true again a b rest h = absurd (true≢false h)
target-fine false true a b rest h = absurd (true≢false h)
target-fine false false a b rest h = (refl, refl, h)

-- what is not among t and the numbers before it is neither t nor among those
not-among : (x t : ℕ) (seen : List ℕ) → among x (t ∷ seen) ≡ false → (x ≡ t → ⊥) × (among x seen ≡ false)
unfolding among
not-among x t seen h = go (eqb x t) refl h
  where
    go : (b : Bool) → eqb x t ≡ b → b || among x seen ≡ false → (x ≡ t → ⊥) × (among x seen ≡ false)
    go true e k = absurd (true≢false k)
    go false e k = (eqb-false x t e, k)

module _ (n i : ℕ) where
  first_fine :
      (seen : List ℕ) (t : ℕ) (ts : List ℕ) → (targets_check n i seen (t ∷ ts)).broken ≡ false
      → (t < n) × (among t seen ≡ false) × ((targets_check n i (t ∷ seen) ts).broken ≡ false)
  unfolding targets_check
  first_fine seen t ts h =
      let (a, b, r) = target-fine (leb n t) (among t seen) (Refusal.TargetOutOfRange i t) (Refusal.DuplicateTarget i t) (targets_check n i (t ∷ seen) ts) h in
      (leb-false n t a, b, r)

  targets-below :
      (seen ts : List ℕ) → (targets_check n i seen ts).broken ≡ false
      → (q : ℕ) → q < length ts → (get_or ts q 0 < n) × (among (get_or ts q 0) seen ≡ false)
  targets-below seen [] h q l = absurd (not-suc-le-zero l)
  targets-below seen (t ∷ ts) h zero l = let (small, fresh, rest) = first_fine seen t ts h in (small, fresh)
  targets-below seen (t ∷ ts) h (suc q) l =
      let (small, fresh) = targets-below (t ∷ seen) ts (first_fine seen t ts h).2 q (le_of_suc-le-suc l) in
      (small, (not-among (get_or ts q 0) t seen fresh).1)

  -- the first target does not come again
  first-once : (seen : List ℕ) (t : ℕ) (ts : List ℕ) → (targets_check n i seen (t ∷ ts)).broken ≡ false
      → (q : ℕ) → q < length ts → get_or ts q 0 ≡ t → ⊥
  first-once seen t ts h q l = (not-among (get_or ts q 0) t seen (targets-below (t ∷ seen) ts (first_fine seen t ts h).2 q l).1).0

  targets-apart :
      (seen ts : List ℕ) → (targets_check n i seen ts).broken ≡ false
      → (p q : ℕ) → p < length ts → q < length ts → get_or ts p 0 ≡ get_or ts q 0 → p ≡ q
  targets-apart seen [] h p q k l e = absurd (not-suc-le-zero k)
  targets-apart seen (t ∷ ts) h zero zero k l e = refl
  targets-apart seen (t ∷ ts) h zero (suc q) k l e = absurd (first-once seen t ts h q (le_of_suc-le-suc l) (sym e))
  targets-apart seen (t ∷ ts) h (suc p) zero k l e = absurd (first-once seen t ts h p (le_of_suc-le-suc k) e)
  targets-apart seen (t ∷ ts) h (suc p) (suc q) k l e =
      ap suc (targets-apart (t ∷ seen) ts (first_fine seen t ts h).2 p q (le_of_suc-le-suc k) (le_of_suc-le-suc l) e)

  pub targets-fine : (perm : List ℕ) → (targets_check n i [] perm).broken ≡ false → length perm ≡ n → Permutes n perm
  targets-fine perm h long =
      record {
        long = long;
        inside = λ q l. (targets-below [] perm h q (rw long l)).0;
        apart = λ p q k l. targets-apart [] perm h p q (rw long k) (rw long l);
      }

  apart-targets :
      (seen ts : List ℕ) → ((q : ℕ) → q < length ts → (get_or ts q 0 < n) × (among (get_or ts q 0) seen ≡ false))
      → ((p q : ℕ) → p < length ts → q < length ts → get_or ts p 0 ≡ get_or ts q 0 → p ≡ q) → targets_check n i seen ts ≡ fine
  unfolding targets_check among
  apart-targets seen [] h d = refl
  apart-targets seen (t ∷ ts) h d =
      let first = h 0 (zero-lt-suc (length ts)) in
      simp (lt-leb n t first.0, first.1) (apart-targets (t ∷ seen) ts rest (λ p q k l e. suc_inj (d (suc p) (suc q) (suc-le-suc k) (suc-le-suc l) e)))
    where
      unlike : (q : ℕ) → q < length ts → get_or ts q 0 ≡ t → ⊥
      unlike q l e = omega (arith, d (suc q) 0 (suc-le-suc l) (zero-lt-suc (length ts)) e)

      rest : (q : ℕ) → q < length ts → (get_or ts q 0 < n) × (among (get_or ts q 0) (t ∷ seen) ≡ false)
      rest q l =
          let (small, fresh) = h (suc q) (suc-le-suc l) in
          (small, rw (ne_eqb (get_or ts q 0) t (unlike q l)) fresh)

  pub permutes-targets : (perm : List ℕ) → Permutes n perm → targets_check n i [] perm ≡ fine
  unfolding among
  permutes-targets perm ok =
      apart-targets [] perm (λ q l. (ok.inside q (rw (← ok.long) l), refl))
      (λ p q k l. ok.apart p q (rw (← ok.long) k) (rw (← ok.long) l))

-- ---- 5: the length, and then the targets

pub perm_fine : (n i : ℕ) (perm : List ℕ) → (perm_check n i perm).broken ≡ false → Permutes n perm
unfolding perm_check
perm_fine n i perm h = go (eqb (length perm) n) refl h
  where
    go : (b : Bool) → eqb (length perm) n ≡ b → (cond b (targets_check n i [] perm) (broke (Refusal.PermutationLength i (length perm)))).broken ≡ false → Permutes n perm
    go true e k = targets-fine n i perm k (eqb-true (length perm) n e)
    go false e k = absurd (true≢false k)

pub permutes_perm : (n i : ℕ) (perm : List ℕ) → Permutes n perm → perm_check n i perm ≡ fine
unfolding perm_check
permutes_perm n i perm ok = rw (eq-eqb (length perm) n ok.long) (permutes-targets n i perm ok)

pub perms_fine_lem : (n i : ℕ) (perms : List (List ℕ)) → (perms_check n i perms).broken ≡ false → (perm : List ℕ) → Member perm perms → Permutes n perm
unfolding perms_check
perms_fine_lem n i [] h perm m = absurd m
perms_fine_lem n i (p ∷ perms) h perm (inl e) = rw e (perm_fine n i p (or_next-fine (perm_check n i p) (perms_check n (suc i) perms) h).0)
perms_fine_lem n i (p ∷ perms) h perm (inr m) = perms_fine_lem n (suc i) perms (or_next-fine (perm_check n i p) (perms_check n (suc i) perms) h).1 perm m

pub permutes_perms : (n i : ℕ) (perms : List (List ℕ)) → ((perm : List ℕ) → Member perm perms → Permutes n perm) → perms_check n i perms ≡ fine
unfolding perms_check
permutes_perms n i [] h = refl
permutes_perms n i (p ∷ perms) h = rw (permutes_perm n i p (h p (inl refl))) (permutes_perms n (suc i) perms (λ q m. h q (inr m)))

-- ---- 8 to 10: orders

-- a declared order is the exact one, and fits 32 bits
abbrev pub Exact : List ℕ → ℕ → Type 0
Exact perm order = (order ≡ exact_order perm) × (order ≤ max_declared)

pub order_fine : (i : ℕ) (perm : List ℕ) (order : ℕ) → (order_check i perm order).broken ≡ false → Exact perm order
unfolding order_check
order_fine i perm order h = go (eqb order 0) (ltb max_declared (exact_order perm)) (eqb order (exact_order perm)) refl refl h
  where
    go : (none large same : Bool) → ltb max_declared (exact_order perm) ≡ large → eqb order (exact_order perm) ≡ same
        → (cond none (broke (Refusal.ZeroOrder i)) (cond large (broke (Refusal.PermutationOrderOverflow i)) (cond same fine (broke (Refusal.OrderMismatch i order (exact_order perm)))))).broken ≡ false
        → Exact perm order
    go true large same a b k = absurd (true≢false k)
    go false true same a b k = absurd (true≢false k)
    go false false true a b k =
        let e = eqb-true order (exact_order perm) b in
        (e, rw e (ltb-false max_declared (exact_order perm) a))
    go false false false a b k = absurd (true≢false k)

pub exact_order_lem : (i : ℕ) (perm : List ℕ) (order : ℕ) → Exact perm order → order_check i perm order ≡ fine
unfolding order_check
exact_order_lem i perm order (e, small) =
    let positive = order_positive perm in
    rw (ne_eqb order 0 (omega arith), le-ltb max_declared (exact_order perm) (omega arith), eq-eqb order (exact_order perm) e)

pub orders_fine :
    (i : ℕ) (perms : List (List ℕ)) (orders : List ℕ) → (orders_check i perms orders).broken ≡ false → length perms ≡ length orders
    → (g : ℕ) → g < length perms → Exact (get_or perms g []) (get_or orders g 0)
unfolding orders_check
orders_fine i [] orders h s g l = absurd (not-suc-le-zero l)
orders_fine i (p ∷ perms) [] h s g l = absurd (omega arith)
orders_fine i (p ∷ perms) (o ∷ orders) h s zero l = order_fine i p o (or_next-fine (order_check i p o) (orders_check (suc i) perms orders) h).0
orders_fine i (p ∷ perms) (o ∷ orders) h s (suc g) l =
    orders_fine (suc i) perms orders (or_next-fine (order_check i p o) (orders_check (suc i) perms orders) h).1 (suc_inj s) g (le_of_suc-le-suc l)

pub exact_orders :
    (i : ℕ) (perms : List (List ℕ)) (orders : List ℕ) → ((g : ℕ) → g < length perms → Exact (get_or perms g []) (get_or orders g 0))
    → orders_check i perms orders ≡ fine
unfolding orders_check
exact_orders i [] orders h = refl
exact_orders i (p ∷ perms) [] h = refl
exact_orders i (p ∷ perms) (o ∷ orders) h =
    rw (exact_order_lem i p o (h 0 (zero-lt-suc (length perms)))) (exact_orders (suc i) perms orders (λ g l. h (suc g) (suc-le-suc l)))

-- ---- 11: pairs

pair_fine : (together : Bool) (why : Refusal) → (cond together fine (broke why)).broken ≡ false → together ≡ true
pair_fine true why h = refl
pair_fine false why h = absurd (true≢false h)

right-fine :
    (n l r : ℕ) (perm : List ℕ) (perms : List (List ℕ)) → (with_right n l r perm perms).broken ≡ false
    → (g : List ℕ) → Member g perms → Commute n perm g
unfolding with_right
right-fine n l r perm [] h g m = absurd m
right-fine n l r perm (p ∷ perms) h g (inl e) =
    let first = (or_next-fine (cond (commute_at n perm p) fine (broke (Refusal.NonCommuting l r))) (with_right n l (suc r) perm perms) h).0 in
    rw e (of_commute_at n perm p (pair_fine (commute_at n perm p) (Refusal.NonCommuting l r) first))
right-fine n l r perm (p ∷ perms) h g (inr m) =
    let rest = (or_next-fine (cond (commute_at n perm p) fine (broke (Refusal.NonCommuting l r))) (with_right n l (suc r) perm perms) h).1 in
    right-fine n l (suc r) perm perms rest g m

commute_right :
    (n l r : ℕ) (perm : List ℕ) (perms : List (List ℕ)) → ((g : List ℕ) → Member g perms → Commute n perm g) → with_right n l r perm perms ≡ fine
unfolding with_right
commute_right n l r perm [] h = refl
commute_right n l r perm (p ∷ perms) h =
    rw (commute_at_true n perm p (h p (inl refl))) (commute_right n l (suc r) perm perms (λ g m. h g (inr m)))

-- every two members commute, in either order and each with itself
pub pairs-fine :
    (n l : ℕ) (perms : List (List ℕ)) → (pairs_check n l perms).broken ≡ false → (f g : List ℕ) → Member f perms → Member g perms → Commute n f g
unfolding pairs_check
pairs-fine n l [] h f g a b = absurd a
pairs-fine n l (p ∷ perms) h f g (inl a) (inl b) = λ q k. rw (a, b)
pairs-fine n l (p ∷ perms) h f g (inl a) (inr b) =
    rw a (right-fine n l (suc l) p perms (or_next-fine (with_right n l (suc l) p perms) (pairs_check n (suc l) perms) h).0 g b)
pairs-fine n l (p ∷ perms) h f g (inr a) (inl b) =
    rw b (λ q k. sym (right-fine n l (suc l) p perms (or_next-fine (with_right n l (suc l) p perms) (pairs_check n (suc l) perms) h).0 f a q k))
pairs-fine n l (p ∷ perms) h f g (inr a) (inr b) =
    pairs-fine n (suc l) perms (or_next-fine (with_right n l (suc l) p perms) (pairs_check n (suc l) perms) h).1 f g a b

pub commute_pairs :
    (n l : ℕ) (perms : List (List ℕ)) → ((f g : List ℕ) → Member f perms → Member g perms → Commute n f g) → pairs_check n l perms ≡ fine
unfolding pairs_check
commute_pairs n l [] h = refl
commute_pairs n l (p ∷ perms) h =
    rw (commute_right n l (suc l) p perms (λ g m. h p g (inl refl) (inr m))) (commute_pairs n (suc l) perms (λ f g a b. h f g (inr a) (inr b)))

-- ---- permutations with their orders

-- the generator at place g
abbrev pub declared_at : List (List ℕ) → List ℕ → ℕ → Generator
declared_at perms orders g = record { perm = get_or perms g []; order = get_or orders g 0 }

pub declared_member :
    (perms : List (List ℕ)) (orders : List ℕ) → length perms ≡ length orders
    → (g : ℕ) → g < length perms → Member (declared_at perms orders g) (declared perms orders)
unfolding declared
declared_member [] orders s g l = absurd (not-suc-le-zero l)
declared_member (p ∷ perms) [] s g l = absurd (omega arith)
declared_member (p ∷ perms) (o ∷ orders) s zero l = inl refl
declared_member (p ∷ perms) (o ∷ orders) s (suc g) l = inr (declared_member perms orders (suc_inj s) g (le_of_suc-le-suc l))

pub of_declared_member :
    (perms : List (List ℕ)) (orders : List ℕ) (x : Generator) → Member x (declared perms orders)
    → (g : ℕ) × (g < length perms) × (x ≡ declared_at perms orders g)
unfolding declared
of_declared_member [] orders x m = absurd m
of_declared_member (p ∷ perms) [] x m = absurd m
of_declared_member (p ∷ perms) (o ∷ orders) x (inl e) = (0, zero-lt-suc (length perms), e)
of_declared_member (p ∷ perms) (o ∷ orders) x (inr m) =
    let (g, l, e) = of_declared_member perms orders x m in
    (suc g, suc-le-suc l, e)

pub product_order : (perms : List (List ℕ)) (orders : List ℕ) → length perms ≡ length orders → product orders ≡ order_of (declared perms orders)
unfolding product order_of declared
product_order [] [] s = refl
product_order [] (o ∷ orders) s = absurd (omega arith)
product_order (p ∷ perms) [] s = absurd (omega arith)
product_order (p ∷ perms) (o ∷ orders) s = ap (λ (k : ℕ). o * k) (product_order perms orders (suc_inj s))

-- ---- all of them

pub valid_of_checks :
    (n : ℕ) (perms : List (List ℕ)) (orders : List ℕ) → verdict (perms_check n 0 perms ∷ group_checks n perms orders) ≡ answer tt
    → length perms ≡ length orders → Valid n (declared perms orders) × (order_of (declared perms orders) ≤ max_order)
valid_of_checks n perms orders h same =
    let five = verdict-fine (perms_check n 0 perms) (group_checks n perms orders) h in
    let eight = verdict-fine (orders_check 0 perms orders) (pairs_check n 0 perms ∷ order_overflow orders ∷ order_limit orders ∷ []) five.1 in
    let eleven = verdict-fine (pairs_check n 0 perms) (order_overflow orders ∷ order_limit orders ∷ []) eight.1 in
    let thirteen = verdict-fine (order_limit orders) [] (verdict-fine (order_overflow orders) (order_limit orders ∷ []) eleven.1).1 in (
      record {
        permutes = λ x m. let (g, l, e) = of_declared_member perms orders x m in
            rw e (perms_fine_lem n 0 perms five.0 (get_or perms g []) (member_at perms [] g l));
        exact = λ x m. let (g, l, e) = of_declared_member perms orders x m in rw e (orders_fine 0 perms orders eight.0 same g l).0;
        commute = λ x y m k. let (g, l, e) = of_declared_member perms orders x m in
            let (j, r, d) = of_declared_member perms orders y k in
            rw (e, d) (pairs-fine n 0 perms eleven.0 (get_or perms g []) (get_or perms j []) (member_at perms [] g l) (member_at perms [] j r));
      },
      rw (← product_order perms orders same) (ltb-false max_order (product orders) thirteen.0),
    )

pub checks_of_valid :
    (n : ℕ) (perms : List (List ℕ)) (orders : List ℕ) → Valid n (declared perms orders) → order_of (declared perms orders) ≤ max_order
    → length perms ≡ length orders → verdict (perms_check n 0 perms ∷ group_checks n perms orders) ≡ answer tt
checks_of_valid n perms orders ok small same =
    rw (
      permutes_perms n 0 perms permutes,
      exact_orders 0 perms orders exact,
      commute_pairs n 0 perms commute,
      le-ltb max_wide (product orders) (le_trans fits (omega arith)),
      le-ltb max_order (product orders) fits,
    )
  where
    fits : product orders ≤ max_order
    fits = rw (product_order perms orders same) small

    at : (g : ℕ) → g < length perms → Member (declared_at perms orders g) (declared perms orders)
    at = declared_member perms orders same

    permutes : (perm : List ℕ) → Member perm perms → Permutes n perm
    permutes perm m = let (g, l, e) = of_member_at perms [] perm m in rw e (ok.permutes (declared_at perms orders g) (at g l))

    positive : (g : ℕ) → g < length orders → 0 < get_or orders g 0
    positive g l = rw (ok.exact (declared_at perms orders g) (at g (rw same l))) (order_positive (get_or perms g []))

    exact : (g : ℕ) → g < length perms → Exact (get_or perms g []) (get_or orders g 0)
    exact g l = (ok.exact (declared_at perms orders g) (at g l), omega (arith, fits, product-holds orders positive g (omega arith)))

    commute : (f h : List ℕ) → Member f perms → Member h perms → Commute n f h
    commute f h a b =
        let (g, l, e) = of_member_at perms [] f a in
        let (j, r, d) = of_member_at perms [] h b in
        rw (e, d) (ok.commute (declared_at perms orders g) (declared_at perms orders j) (at g l) (at j r))
