-- Lattices by their sides and axes: what one comes to by its sides, and that each of the four is what the one function over axes makes.
-- What carries it: the checks of a lattice are those of its sides, and a side of 1 changes no product.
use Prim.Native.Nat.{ℕ, ◌*◌, ◌≤◌, ◌<◌}
use mathlib.Core.Path.{◌≡◌, refl, sym, ap, ◌∙◌}
use mathlib.Core.Bool.{Bool, true, false, not, ◌&&◌}
use mathlib.Core.List.{List, [], ◌∷◌, map}
use native.Mathlib.Nat.{zero-mul, mul-zero, mul-pos}
use native.Mathlib.Omega.{arith}
use lib.Dec.{eqb, ltb}
use lib.ListN.{length, take, length-take}
use borrow.Author.Tests.{lt-ltb, le-ltb, ltb-true, ltb-false, eqb-true, eqb-false, not-false}
use Rattle.outcome.specs.declared.Refusal.{Refusal}
use Rattle.outcome.specs.Outcome.{answer, refusal_of, Check, verdict}
use Rattle.outcome.proofs.Outcomes.{verdict-fine, call-refused, call-answers, unless_refused, unless_answer}
use Rattle.pauli_word.specs.Limits.{max_sites}
use Rattle.action.specs.Arithmetic.{product}
use Rattle.action.specs.Lattice.{shifts, chain, ladder, torus2, torus3}
use Rattle.action.proofs.Lattice.{shifts-length}
use Rattle.permutation.specs.Limits.{max_generators}
use Rattle.generators.specs.Tables.{filled, placed_all}
use Rattle.generators.specs.Parts.{zero_side, sides_limit, any_zero, sides_outcome}
use Rattle.generators.proofs.Axes.{sides_within}
use Rattle.group.specs.declared.Group.{Group}
use Rattle.group.specs.Value.{group_of}
use Rattle.group.specs.Calls.{lattice_outcome, chain_outcome, ladder_outcome, torus2_outcome, torus3_outcome, axes_outcome}

-- `anyZero` looks at the product; a side is 0 just if that is
pub any_zero_lem : (p q r : ℕ) → any_zero p q r ≡ not (not (eqb p 0) && (not (eqb q 0) && (not (eqb r 0) && true)))
any_zero_lem p q r = go (eqb p 0) refl (eqb q 0) refl (eqb r 0) refl
  where
    none : p * q * r ≡ 0 → any_zero p q r ≡ true
    none e = ap not (le-ltb 0 (p * q * r) (omega arith))

    go : (s : Bool) → eqb p 0 ≡ s → (t : Bool) → eqb q 0 ≡ t → (u : Bool) → eqb r 0 ≡ u → any_zero p q r ≡ not (not s && (not t && (not u && true)))
    go true x t y u z = none (ap (λ (i : ℕ). i * q * r) (eqb-true p 0 x) ∙ ap (λ (i : ℕ). i * r) (zero-mul q) ∙ zero-mul r)
    go false x true y u z = none (ap (λ (i : ℕ). p * i * r) (eqb-true q 0 y) ∙ ap (λ (i : ℕ). i * r) (mul-zero p) ∙ zero-mul r)
    go false x false y true z = none (ap (λ (i : ℕ). p * q * i) (eqb-true r 0 z) ∙ mul-zero (p * q))
    go false x false y false z =
        let i = eqb-false p 0 x in
        let j = eqb-false q 0 y in
        let k = eqb-false r 0 z in
        let a : 0 < p = omega arith in
        let b : 0 < q = omega arith in
        let c : 0 < r = omega arith in
        ap not (lt-ltb 0 (p * q * r) (mul-pos (mul-pos a b) c))

-- groups with the same parts are the same
pub same_group : {g h : Group} → g.sites ≡ h.sites → g.generators ≡ h.generators → g.orders ≡ h.orders → g.targets ≡ h.targets → g ≡ h
same_group n k o t i = record { sites = n i; generators = k i; orders = o i; targets = t i }

-- ---- a lattice with sides a, b and c, and a shift along each of the first k axes

module _ (a b c k : ℕ) where
  abbrev pub sides_used : List ℕ
  sides_used = take k (a ∷ b ∷ c ∷ [])

  pub axes-refused : (why : Refusal) → sides_outcome a b c ≡ refusal_of why → axes_outcome a b c k ≡ refusal_of why
  unfolding sides_outcome axes_outcome lattice_outcome
  axes-refused why e =
      let checks : List Check = zero_side (any_zero a b c) ∷ sides_limit (a * b * c) ∷ [] in
      call-refused checks (answer (group_of (a * b * c) (shifts (a * b * c) 1 sides_used))) why (unless_refused checks (a * b * c) why e)

  module _ (n : ℕ) (e : sides_outcome a b c ≡ answer n) where
    passed : (verdict (zero_side (any_zero a b c) ∷ sides_limit (a * b * c) ∷ []) ≡ answer tt) × (a * b * c ≡ n)
    unfolding sides_outcome
    passed = unless_answer (zero_side (any_zero a b c) ∷ sides_limit (a * b * c) ∷ []) (a * b * c) n e

    -- the sites are few, and so is the product of the sides that are used, which is not 0
    pub axes-sized : (n ≤ max_sites) × (0 < product sides_used) × (product sides_used ≤ max_sites)
    axes-sized =
        let (some, rest) = verdict-fine (zero_side (any_zero a b c)) (sides_limit (a * b * c) ∷ []) passed.0 in
        let few = ltb-false max_sites (a * b * c) (verdict-fine (sides_limit (a * b * c)) [] rest).0 in
        let (positive, small) = sides_within a b c k (ltb-true 0 (a * b * c) (not-false (ltb 0 (a * b * c)) some)) in
        (omega (arith, passed.1), positive, omega arith)

    pub axes-made :
        k ≤ 3 → (g : Group) → g.sites ≡ n → g.generators ≡ k → g.orders ≡ filled max_generators (map (λ x. x.order) (shifts n 1 sides_used))
        → g.targets ≡ placed_all (map (λ x. x.perm) (shifts n 1 sides_used)) → axes_outcome a b c k ≡ answer g
    unfolding axes_outcome lattice_outcome group_of
    axes-made room g sites count orders targets =
        let many : length (shifts n 1 sides_used) ≡ k = omega (arith, shifts-length n 1 sides_used, length-take k (a ∷ b ∷ c ∷ [])) in
        call-answers (zero_side (any_zero a b c) ∷ sides_limit (a * b * c) ∷ []) (answer (group_of (a * b * c) (shifts (a * b * c) 1 sides_used))) passed.0
        ∙ ap (λ (m : ℕ). answer (group_of m (shifts m 1 sides_used))) passed.1
        ∙ ap answer (same_group (sym sites) (many ∙ sym count) (sym orders) (sym targets))

-- ---- the four

pub chain-axes : (n : ℕ) → chain_outcome n ≡ axes_outcome n 1 1 1
unfolding chain_outcome axes_outcome chain
chain-axes n = let e : n ≡ n * 1 * 1 = omega arith in ap (λ (m : ℕ). lattice_outcome (any_zero n 1 1) m (shifts m 1 (n ∷ []))) e

pub ladder-axes : (l legs : ℕ) → ladder_outcome l legs ≡ axes_outcome l legs 1 1
unfolding ladder_outcome axes_outcome ladder
ladder-axes l legs =
    let e : l * legs ≡ l * legs * 1 = omega arith in ap (λ (m : ℕ). lattice_outcome (any_zero l legs 1) m (shifts m 1 (l ∷ []))) e

pub torus2-axes : (lx ly : ℕ) → torus2_outcome lx ly ≡ axes_outcome lx ly 1 2
unfolding torus2_outcome axes_outcome torus2
torus2-axes lx ly =
    let e : lx * ly ≡ lx * ly * 1 = omega arith in ap (λ (m : ℕ). lattice_outcome (any_zero lx ly 1) m (shifts m 1 (lx ∷ ly ∷ []))) e

pub torus3-axes : (lx ly lz : ℕ) → torus3_outcome lx ly lz ≡ axes_outcome lx ly lz 3
unfolding torus3_outcome axes_outcome torus3
torus3-axes lx ly lz = λ i. lattice_outcome (any_zero lx ly lz) (lx * ly * lz) (shifts (lx * ly * lz) 1 (lx ∷ ly ∷ lz ∷ []))
