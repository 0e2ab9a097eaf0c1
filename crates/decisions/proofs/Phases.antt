-- The loop over the generators that sums their phases: each adds less than the phase modulus, so that sums and products stay below 2^64.
-- What carries it: what is left from generator g on is what it adds and what is left from g + 1 on (`phases-next`).
use Prim.Native.Nat.{ℕ, ◌+◌, ◌-◌, ◌*◌, ◌/◌, ◌%◌, ◌^◌, ◌≤◌, ◌<◌}
use mathlib.Core.Path.{◌≡◌, sym, ap, ap₂, ◌∙◌}
use mathlib.Core.List.{List, [], ◌∷◌, ◌++◌, map}
use native.Mathlib.Nat.{mod-lt, mul-le-mul, mul-le-mul_right, mul-div-le, le_trans, le_of_lt, add-zero, sub-zero}
use native.Mathlib.Numerals.{add-one}
use native.Mathlib.Omega.{arith}
use lib.IntN.{ℤ, pos}
use lib.ListN.{length, get_or, set, take, drop}
use lib.Seq.{take_at, take_all, take-suc-set, drop-cons}
use mir.Syntax.{w32}
use mir.Val.{of_z, to_z}
use lib.Signed.{mag}
use mir.ValLaws.{to_z-of_z}
use Rattle.action.specs.Permutation.{Generator}
use Rattle.pauli_word.proofs.Words.{map-append}
use Rattle.action.specs.Lists.{below}
use Rattle.action.specs.Index.{order_of, digits}
use Rattle.action.specs.Sector.{modulus, reduced, phases, numerator}
use Rattle.action.proofs.Index.{valid_positive, digits_proper, digits-length}
use Rattle.action.proofs.Characters as Characters
use Rattle.permutation.specs.Limits.{max_order}
use Rattle.elements.specs.HeldGroup.{generators_in, Tables}
use Rattle.elements.proofs.TableRows.{generators-length, rest_at, rest_end}
use Rattle.elements.proofs.Orbits.{below_next}
use Rattle.elements.proofs.Indices.{multiple-small, multiple_all}
use Rattle.decisions.specs.Decisions.{numerators}

-- ---- one generator

-- what a generator adds
abbrev pub turn : ℕ → ℕ → ℤ → ℕ → ℕ
turn m o k c = reduced o k * (c % o) % o * (m / o)

pub turn_small : (m o : ℕ) (k : ℤ) (c : ℕ) → 0 < o → turn m o k c ≤ m
turn_small m o k c some =
    le_trans (mul-le-mul_right (m / o) (le_of_lt (mod-lt (reduced o k * (c % o)) some))) (mul-div-le m o)

pub product_fits : (a b : ℕ) → a < 2 ^ 32 → b < 2 ^ 32 → a * b < 2 ^ 64
product_fits a b f g =
    let h : a * b ≤ 4294967295 * 4294967295 = mul-le-mul {n₂ = 4294967295} {m₂ = 4294967295} (omega arith) (omega arith) in
    omega arith

-- the mode as it is read out of a list
pub turn_read : (m o : ℕ) (k : ℤ) (c x : ℕ) → mag k < 2 ^ 31 → x ≡ turn m o (to_z w32 (of_z w32 k)) c → x ≡ turn m o k c
turn_read m o k c x f e = e ∙ ap (λ (z : ℤ). turn m o z c) (to_z-of_z w32 k (record { sfits = f }))

-- ---- the loop

module _ {k n : ℕ} {targets orders : List ℕ} (t : Tables k n targets orders) (ks : List ℤ) (cs : List ℕ)
    (modes : length ks ≡ k) (counter : length cs ≡ k) (m : ℕ) where
  phases-next : (g : ℕ) → g < k
      → phases m (drop g (generators_in k n targets orders)) (drop g ks) (drop g cs)
      ≡ turn m (get_or orders g 0) (get_or ks g (pos 0)) (get_or cs g 0)
      + phases m (drop (g + 1) (generators_in k n targets orders)) (drop (g + 1) ks) (drop (g + 1) cs)
  unfolding phases
  phases-next g h =
      rw (rest_at t g h, drop-cons ks g (pos 0) (omega arith), drop-cons cs g 0 (omega arith), ← add-one g)

  pub sum-next : (sum g all x : ℕ) → g < k → x ≡ turn m (get_or orders g 0) (get_or ks g (pos 0)) (get_or cs g 0)
      → sum + phases m (drop g (generators_in k n targets orders)) (drop g ks) (drop g cs) ≡ all
      → sum + x + phases m (drop (g + 1) (generators_in k n targets orders)) (drop (g + 1) ks) (drop (g + 1) cs) ≡ all
  sum-next sum g all x h ex e = omega (arith, phases-next g h, ex, e)

  sum-end : (sum g all : ℕ) → k ≤ g → sum + phases m (drop g (generators_in k n targets orders)) (drop g ks) (drop g cs) ≡ all → sum ≡ all
  unfolding phases
  sum-end sum g all h e = sym (add-zero sum) ∙ (rw (rest_end t g h) at e)

  -- reduced by the modulus
  pub sum-numerator : (sum g : ℕ) → k ≤ g → m ≡ modulus (generators_in k n targets orders)
      → sum + phases m (drop g (generators_in k n targets orders)) (drop g ks) (drop g cs) ≡ phases m (generators_in k n targets orders) ks cs
      → sum % m ≡ numerator (generators_in k n targets orders) ks cs
  unfolding numerator
  sum-numerator sum g h em e =
      ap (λ (x : ℕ). x % m) (sum-end sum g (phases m (generators_in k n targets orders) ks cs) h e)
      ∙ ap (λ (x : ℕ). phases x (generators_in k n targets orders) ks cs % x) em

module _ {k n : ℕ} {targets orders : List ℕ} (t : Tables k n targets orders) (m : ℕ) (em : m ≡ modulus (generators_in k n targets orders)) where
  pub modulus-small : m ≤ max_order
  modulus-small = omega (arith, em, multiple-small t 0, multiple_all 0 (generators_in k n targets orders) (omega arith))

  pub modulus-positive : 0 < m
  modulus-positive = rw em (Characters.modulus-positive (generators_in k n targets orders) (valid_positive t.valid))

-- ---- the counter of an index, and the numerators of the indices one after the other

module _ {k n : ℕ} {targets orders : List ℕ} (t : Tables k n targets orders) (i : ℕ) (counter rest : List ℕ)
    (e : counter ≡ digits (generators_in k n targets orders) i ++ rest) where
  counter-long : length (digits (generators_in k n targets orders) i) ≡ k
  counter-long =
      let gs : List Generator = generators_in k n targets orders in
      digits-length gs (digits gs i) (digits_proper gs (valid_positive t.valid) i) ∙ generators-length t

  pub counter-digits : take (k - 0) counter ≡ digits (generators_in k n targets orders) i
  counter-digits =
      ap (λ (j : ℕ). take j counter) (sub-zero k)
      ∙ ap (take k) e
      ∙ take_at (digits (generators_in k n targets orders) i) rest k counter-long

  pub counter-length : length (take (k - 0) counter) ≡ k
  counter-length = ap length counter-digits ∙ counter-long

-- the first i entries of a table
abbrev pub entries : List Generator → List ℤ → ℕ → List ℕ
entries gs ks i = map (λ j. numerator gs ks (digits gs j)) (below i)

pub entries_next : (gs : List Generator) (ks : List ℤ) (list : List ℕ) (i x : ℕ) → i < length list → take i list ≡ entries gs ks i
    → x ≡ numerator gs ks (digits gs i) → take (i + 1) (set list i x) ≡ entries gs ks (i + 1)
entries_next gs ks list i x h e ex =
    ap (λ (j : ℕ). take j (set list i x)) (add-one i)
    ∙ take-suc-set list i x h
    ∙ ap₂ (λ (xs : List ℕ) (y : ℕ). xs ++ (y ∷ [])) e ex
    ∙ sym (ap (map (λ j. numerator gs ks (digits gs j))) (below_next i) ∙ map-append (λ j. numerator gs ks (digits gs j)) (below i) (i ∷ []))

pub entries_end : (gs : List Generator) (ks : List ℤ) (list : List ℕ) (i : ℕ) → length list ≤ i → i ≤ length list → length list ≡ order_of gs
    → take i list ≡ entries gs ks i → list ≡ numerators gs ks
unfolding numerators
entries_end gs ks list i h k long e =
    let l : i ≡ order_of gs = omega arith in
    sym (take_all i list h) ∙ e ∙ ap (entries gs ks) l
