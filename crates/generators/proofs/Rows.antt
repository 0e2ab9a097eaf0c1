-- Tables looked through generator by generator: the rules 5 to 7 and 8 to 10, and the places above the sites.
-- What carries it: the rows from g on are row g and those from g + 1 on.
use Prim.Native.Nat.{ℕ, zero, suc, ◌+◌, ◌-◌, ◌*◌, ◌≤◌, ◌<◌}
use mathlib.Core.Path.{◌≡◌, sym, ap, ap₂, ◌∙◌}
use mathlib.Core.Bool.{Bool, true, false, ◌&&◌}
use mathlib.Core.List.{List, [], ◌∷◌}
use native.Mathlib.Nat.{sub-zero, suc-sub-suc, zero-sub, add-sub_cancel_left}
use native.Mathlib.Numerals.{add-one}
use native.Mathlib.Omega.{arith}
use lib.ListN.{length, get_or, take, drop, length-drop}
use lib.Seq.{length-take-le, drop-cons, get_or-take, drop-drop, take-nil}
use Rattle.pauli_word.specs.Limits.{max_sites}
use Rattle.outcome.specs.Outcome.{Check}
use Rattle.action.proofs.Lists.{member_at}
use Rattle.action.specs.Lists.{from, below, every}
use Rattle.action.specs.Permutation.{Permutes}
use Rattle.action.proofs.ExactOrders.{order_positive}
use Rattle.outcome.specs.declared.Refusal.{Refusal}
use Rattle.permutation.specs.Generators.{fine, broke, targets_check, perm_check, perms_check, order_check, orders_check, row_at, rows_of}
use Rattle.permutation.proofs.Commuting.{rows-length, row-at, rows-cons, rows-nil, row_target}
use Rattle.permutation.proofs.Rules.{perms_fine_lem, orders_fine}
use Rattle.generators.specs.Tables.{zeros, rests_clear}
use Rattle.generators.proofs.Faults.{perm-targets}

pub row_long : (n : ℕ) (targets : List ℕ) (g : ℕ) → max_sites * g + n ≤ length targets → length (row_at n targets g) ≡ n
row_long n targets g h = length-take-le n (drop (max_sites * g) targets) (omega (arith, length-drop (max_sites * g) targets))

drop-take : (n m : ℕ) (l : List ℕ) → drop n (take m l) ≡ take (m - n) (drop n l)
drop-take zero m l = ap (λ (k : ℕ). take k l) (sym (sub-zero m))
drop-take (suc n) zero l = ap (λ (k : ℕ). take k (drop (suc n) l)) (sym (zero-sub (suc n)))
drop-take (suc n) (suc m) [] = sym (take-nil (suc m - suc n))
drop-take (suc n) (suc m) (x ∷ l) = drop-take n m l ∙ ap (λ (k : ℕ). take k (drop n l)) (sym (suc-sub-suc m n))

-- what a function is handed for row g
abbrev pub part_at : ℕ → List ℕ → ℕ → List ℕ
part_at n targets g = take (max_sites * g + n - max_sites * g) (drop (max_sites * g) targets)

pub part-row : (n : ℕ) (targets : List ℕ) (g : ℕ) → part_at n targets g ≡ row_at n targets g
part-row n targets g = ap (λ (k : ℕ). take k (drop (max_sites * g) targets)) (add-sub_cancel_left (max_sites * g) n)

-- ---- 5 to 7

pub row_check :
    (n : ℕ) (targets : List ℕ) (g : ℕ) → max_sites * g + n ≤ length targets
    → perm_check n g (row_at n targets g) ≡ targets_check n g [] (part_at n targets g)
row_check n targets g h = perm-targets n g (row_at n targets g) (row_long n targets g h) ∙ ap (targets_check n g []) (sym (part-row n targets g))

module _ (k n : ℕ) (targets : List ℕ) where
  -- the check of the generators from g on
  abbrev pub perms_from : ℕ → Check
  perms_from g = perms_check n g (drop g (rows_of k n targets))

  pub perms-none : (g : ℕ) → k ≤ g → perms_from g ≡ fine
  unfolding perms_check
  perms-none g h = rw (rows-nil k n targets g h)

  module _ (g : ℕ) (more : g < k) where
    pub perms-broken : (perm_check n g (row_at n targets g)).broken ≡ true → perms_from g ≡ perm_check n g (row_at n targets g)
    unfolding perms_check
    perms-broken e = rw (rows-cons k n targets g more, e)

    pub perms-next : (perm_check n g (row_at n targets g)).broken ≡ false → perms_from g ≡ perms_from (g + 1)
    unfolding perms_check
    perms-next e = rw (rows-cons k n targets g more, e, add-one)

  pub rows-permute : (perms_from 0).broken ≡ false → (g : ℕ) → g < k → Permutes n (row_at n targets g)
  rows-permute e g h =
      rw (row-at k n targets g h)
      at (perms_fine_lem n 0 (rows_of k n targets) e (get_or (rows_of k n targets) g []) (member_at (rows_of k n targets) [] g (omega (arith, rows-length k n targets))))

-- the targets of a permutation of the sites are sites
pub row_inside : (n : ℕ) (targets : List ℕ) (g : ℕ) → Permutes n (row_at n targets g) → (q : ℕ) → q < n → get_or targets (max_sites * g + q) 0 < n
row_inside n targets g ok q h = rw (row_target n targets g q h) at (ok.inside q h)

-- ---- 8 to 10

-- the check of the generators from g on
abbrev pub orders_from : ℕ → ℕ → List ℕ → List ℕ → ℕ → Check
orders_from k n targets orders g = orders_check g (drop g (rows_of k n targets)) (drop g (take k orders))

pub orders_none : (k n : ℕ) (targets orders : List ℕ) (g : ℕ) → k ≤ g → orders_from k n targets orders g ≡ fine
unfolding orders_check
orders_none k n targets orders g h = rw (rows-nil k n targets g h)

module _ (k n : ℕ) (targets orders : List ℕ) (long : k ≤ length orders) where
  module _ (g : ℕ) (more : g < k) where
    first : drop g (take k orders) ≡ get_or orders g 0 ∷ drop (suc g) (take k orders)
    first =
        drop-cons (take k orders) g 0 (omega (arith, length-take-le k orders long))
        ∙ ap (λ (o : ℕ). o ∷ drop (suc g) (take k orders)) (get_or-take k orders g 0 more)

    pub orders-broken :
        (why : Refusal) → order_check g (row_at n targets g) (get_or orders g 0) ≡ broke why → orders_from k n targets orders g ≡ broke why
    unfolding orders_check
    orders-broken why e = rw (rows-cons k n targets g more, first, e)

    pub orders-next : order_check g (row_at n targets g) (get_or orders g 0) ≡ fine → orders_from k n targets orders g ≡ orders_from k n targets orders (g + 1)
    unfolding orders_check
    orders-next e = rw (rows-cons k n targets g more, first, e, add-one)

  -- an order that is exact is not 0
  pub orders-positive : (orders_from k n targets orders 0).broken ≡ false → (g : ℕ) → g < k → 0 < get_or orders g 0
  orders-positive e g h =
      let exact = orders_fine 0 (rows_of k n targets) (take k orders) e (rows-length k n targets ∙ sym (length-take-le k orders long)) g (omega (arith, rows-length k n targets)) in
      omega (arith, exact.0, order_positive (get_or (rows_of k n targets) g []), get_or-take k orders g 0 h)

-- ---- the places above the sites

module _ (k n : ℕ) (targets : List ℕ) where
  -- whether they are 0, of the generators from g on
  abbrev pub rests_from : ℕ → Bool
  rests_from g = every (λ i. zeros (drop n (row_at max_sites targets i))) (from g (k - g))

  pub rests-all : rests_clear k n targets ≡ rests_from 0
  unfolding rests_clear below
  rests-all = ap (λ (j : ℕ). every (λ i. zeros (drop n (row_at max_sites targets i))) (from 0 j)) (sym (sub-zero k))

  pub rests-none : (g : ℕ) → k ≤ g → rests_from g ≡ true
  unfolding every from
  rests-none g h = let e : k - g ≡ 0 = omega arith in ap (λ (j : ℕ). every (λ i. zeros (drop n (row_at max_sites targets i))) (from g j)) e

  -- what a function is handed for those of generator g
  abbrev pub rest_at : ℕ → List ℕ
  rest_at g = take (max_sites * g + max_sites - (max_sites * g + n)) (drop (max_sites * g + n) targets)

  rest-row : (g : ℕ) → rest_at g ≡ drop n (row_at max_sites targets g)
  rest-row g =
      let e : max_sites * g + max_sites - (max_sites * g + n) ≡ max_sites - n = omega arith in
      sym (drop-take n max_sites (drop (max_sites * g) targets) ∙ ap₂ (λ (j : ℕ) (l : List ℕ). take j l) (sym e) (drop-drop n (max_sites * g) targets))

  module _ (g : ℕ) (more : g < k) where
    rests-here : rests_from g ≡ (zeros (rest_at g) && rests_from (g + 1))
    unfolding every from
    rests-here =
        let e : k - g ≡ suc (k - (g + 1)) = omega arith in
        ap (λ (j : ℕ). every (λ i. zeros (drop n (row_at max_sites targets i))) (from g j)) e
        ∙ ap₂ (λ (l : List ℕ) (j : ℕ). zeros l && every (λ i. zeros (drop n (row_at max_sites targets i))) (from j (k - (g + 1)))) (sym (rest-row g)) (sym (add-one g))

    pub rests-other : zeros (rest_at g) ≡ false → rests_from g ≡ false
    rests-other e = rests-here ∙ ap (λ (b : Bool). b && rests_from (g + 1)) e

    pub rests-next : zeros (rest_at g) ≡ true → rests_from g ≡ rests_from (g + 1)
    rests-next e = rests-here ∙ ap (λ (b : Bool). b && rests_from (g + 1)) e
