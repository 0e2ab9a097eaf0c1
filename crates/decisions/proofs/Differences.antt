-- The decision by the candidates that lead on a grid. What carries it: an index below the order fixes the word exactly if its sum with the index back is a
-- candidate that leads (`sum-fixes`), so that a traversal of the indices tests the word by these sums (`sum-tests`); and where every mode reduces to 0 no
-- generator adds to a numerator (`Still`), so that the word is kept.
use Prim.Native.Nat.{ℕ, suc, ◌+◌, ◌-◌, ◌*◌, ◌/◌, ◌%◌, ◌^◌, ◌<◌, ◌≤◌}
use mathlib.Core.Path.{◌≡◌, refl, sym, ap, ap₂, ◌∙◌, subst}
use mathlib.Core.Bool.{Bool, true, not, ◌||◌, cond, or-true}
use mathlib.Core.List.{List, ◌∷◌}
use native.Mathlib.Nat.{add-mul-mod_self_left, div-add-mod, mod-lt, mod-mod, zero-add, zero-mod, zero-mul}
use native.Mathlib.Omega.{arith}
use lib.Arith.{digits_div, digits_mod}
use lib.IntN.{ℤ, pos}
use lib.ListN.{length, get_or, drop}
use lib.Signed.{mag}
use mir.Syntax.{w32}
use mir.Val.{of_z, to_z}
use mir.ValLaws.{to_z-of_z}
use borrow.Author.Tests.{eq-eqb}
use Rattle.pauli_word.specs.Word.{Word}
use Rattle.action.specs.Lists.{below, count}
use Rattle.action.specs.Permutation.{Generator, Valid}
use Rattle.action.specs.Index.{order_of, digits, index, add, add_digits, inverse}
use Rattle.action.specs.Orbit.{forward, index_back, fixes, fixing, orbit_size}
use Rattle.action.specs.Sector.{modulus, reduced, phases, numerator, trivial, keeps}
use Rattle.action.proofs.Lists.{every-intro}
use Rattle.action.proofs.Index.{valid_positive, add-below, add-redo, digits_proper, digits-length}
use Rattle.action.proofs.Stabilizer.{fixing-positive}
use Rattle.elements.specs.HeldGroup.{generators_in, Tables}
use Rattle.elements.proofs.TableRows.{generator_at, generators-length, rest_at, order-positive-at}
use Rattle.grid.specs.Candidates.{Leading}
use Rattle.grid.proofs.Leads.{leading-fixes, leading-fixing}
use Rattle.decisions.specs.declared.placement.Placement.TheVariants as Placement
use Rattle.decisions.specs.declared.stabilizer.Test.{Test}
use Rattle.decisions.specs.declared.stabilizer.Test.TheVariants as Test
use Rattle.decisions.specs.Decisions.{decision}
use Rattle.decisions.specs.Placements.{test_of, placement_of}
use Rattle.decisions.proofs.Phases.{turn, sum-next, sum-numerator}
use Rattle.decisions.proofs.Placing.{keeps_placed}
use Rattle.decisions.proofs.Traversals.{Passed, placed-kept, fixing-some}

-- ---- modes that reduce to 0

-- a mode as it is read out of a list
pub reduced_read : (o : ℕ) (k : ℤ) {x : ℕ} → mag k < 2 ^ 31 → x ≡ reduced o (to_z w32 (of_z w32 k)) → x ≡ reduced o k
reduced_read o k f e = e ∙ ap (reduced o) (to_z-of_z w32 k (record { sfits = f }))

turn-zero : (m o : ℕ) (k : ℤ) (c : ℕ) → reduced o k ≡ 0 → 0 ≡ turn m o k c
turn-zero m o k c e = sym (rw (e, zero-mul (c % o), zero-mod o) (zero-mul (m / o)))

-- of k generators none before g adds to a numerator
abbrev pub Still : ℕ → List Generator → List ℤ → ℕ → Type 0
Still k gs ks g =
    (cs : List ℕ) → length cs ≡ k → 0 + phases (modulus gs) (drop g gs) (drop g ks) (drop g cs) ≡ phases (modulus gs) gs ks cs

module _ {k n : ℕ} {targets orders : List ℕ} (t : Tables k n targets orders) (ks : List ℤ) (modes : length ks ≡ k) where
  abbrev gens : List Generator
  gens = generators_in k n targets orders

  -- before the first
  pub still-start : Still k gens ks 0
  still-start cs e = zero-add (phases (modulus gens) gens ks cs)

  -- one more whose mode reduces to 0
  pub still-next : (g : ℕ) → g < k → reduced (get_or orders g 0) (get_or ks g (pos 0)) ≡ 0 → Still k gens ks g → Still k gens ks (g + 1)
  still-next g h z s cs e =
      sum-next t ks cs modes e (modulus gens) 0 g (phases (modulus gens) gens ks cs) 0 h
      (turn-zero (modulus gens) (get_or orders g 0) (get_or ks g (pos 0)) (get_or cs g 0) z) (s cs e)

  -- after the last every numerator is 0
  pub still-end : (g : ℕ) → k ≤ g → Still k gens ks g → (i : ℕ) → trivial gens ks i ≡ true
  unfolding trivial
  still-end g h s i =
      let cs : List ℕ = digits gens i in
      let e : length cs ≡ k = digits-length gens cs (digits_proper gens (valid_positive t.valid) i) ∙ generators-length t in
      eq-eqb (numerator gens ks cs) 0 (sym (sum-numerator t ks cs modes e (modulus gens) 0 g h refl (s cs e)) ∙ zero-mod (modulus gens))

-- ---- the sum of the next index

-- a number whose first digit does not roll over
module _ (o d : ℕ) (more : d % o + 1 < o) where
  stays-digit : (d + 1) % o ≡ d % o + 1
  stays-digit =
      let e : d + 1 ≡ d / o * o + (d % o + 1) = omega (arith, div-add-mod d o) in
      ap (λ (x : ℕ). x % o) e ∙ digits_mod (d / o) more

  stays-rest : (d + 1) / o ≡ d / o
  stays-rest =
      let e : d + 1 ≡ d / o * o + (d % o + 1) = omega (arith, div-add-mod d o) in
      ap (λ (x : ℕ). x / o) e ∙ digits_div (d / o) more

-- one whose first digit does
rolls-digit : (o d : ℕ) → d % o + 1 ≡ o → (d + 1) % o ≡ 0
rolls-digit o d rolls =
    let e : d + 1 ≡ suc (d / o) * o + 0 = omega (arith, div-add-mod d o) in
    ap (λ (x : ℕ). x % o) e ∙ digits_mod (suc (d / o)) (omega arith)

-- a sum, by its first digit and the others
add_cons : (g : Generator) (gs : List Generator) (d b : ℕ)
    → add (g ∷ gs) d b ≡ (d % g.order + b % g.order) % g.order + g.order * add gs (d / g.order) (b / g.order)
unfolding add digits index add_digits
add_cons g gs d b = refl

-- where the first digit of d does not roll over, that of the sum takes a step
module _ (g : Generator) (gs : List Generator) (d b : ℕ) (more : d % g.order + 1 < g.order) where
  abbrev o : ℕ
  o = g.order

  abbrev low : ℕ
  low = d % g.order + b % g.order

  abbrev high : ℕ
  high = add gs (d / g.order) (b / g.order)

  sum-digit : add (g ∷ gs) d b % o ≡ low % o
  sum-digit = ap (λ (x : ℕ). x % o) (add_cons g gs d b) ∙ add-mul-mod_self_left (low % o) o high ∙ mod-mod low o

  next-cons : add (g ∷ gs) (d + 1) b ≡ (low + 1) % o + o * high
  next-cons =
      let e : d % o + 1 + b % o ≡ low + 1 = omega arith in
      add_cons g gs (d + 1) b
      ∙ ap₂ (λ (x y : ℕ). (x + b % o) % o + o * add gs y (b / o)) (stays-digit o d more) (stays-rest o d more)
      ∙ ap (λ (x : ℕ). x % o + o * high) e

  next-stays : add (g ∷ gs) d b % o + 1 < o → add (g ∷ gs) (d + 1) b ≡ add (g ∷ gs) d b + 1
  next-stays h =
      let e : (low + 1) % o ≡ low % o + 1 = stays-digit o low (rw (← sum-digit) h) in
      omega (arith, next-cons, e, add_cons g gs d b)

  next-rolls : add (g ∷ gs) d b % o + 1 ≡ o → add (g ∷ gs) (d + 1) b ≡ add (g ∷ gs) d b - add (g ∷ gs) d b % o
  next-rolls h =
      let e : (low + 1) % o ≡ 0 = rolls-digit o low (rw (← sum-digit) h) in
      omega (arith, next-cons, e, add_cons g gs d b, sum-digit)

-- where a traversal stands at index d: its sum with b, and the digits of both by the first order
abbrev pub Stands : List Generator → ℕ → ℕ → ℕ → ℕ → ℕ → ℕ → Type 0
Stands gs o b d sum low turn = (sum ≡ add gs d b) × (low ≡ d % o) × (turn ≡ sum % o)

module _ {k n : ℕ} {targets orders : List ℕ} (t : Tables k n targets orders) (some : 0 < k) (b d : ℕ) {sum low turn : ℕ}
    (s : Stands (generators_in k n targets orders) (get_or orders 0 0) b d sum low turn) where
  abbrev all : List Generator
  all = generators_in k n targets orders

  abbrev first : ℕ
  first = get_or orders 0 0

  positive : 0 < first
  positive = order-positive-at t 0 some

  -- the digits are below the order, and the sum below that of the group
  pub stands-low : low < first
  stands-low = omega (arith, s.1, mod-lt d positive)

  pub stands-turn : turn < first
  stands-turn = omega (arith, s.2, mod-lt sum positive)

  -- the first digit is no larger than the index
  pub stands-index : low ≤ d
  stands-index = omega (arith, s.1, div-add-mod d first)

  pub stands-sum : sum < order_of all
  stands-sum = rw s.0 (add-below all (valid_positive t.valid) d b)

  pub stands-under : turn ≤ sum
  stands-under = omega (arith, s.2, div-add-mod sum first)

  -- the next index, whose first digit rolls over
  pub stands-first : low + 1 ≡ first → {r : ℕ} → r ≡ add all (d + 1) b → Stands all first b (d + 1) r 0 (r % first)
  stands-first h e = (e, sym (rolls-digit first d (omega (arith, s.1, h))), refl)

  module _ (h : low + 1 ≡ first → ⊥) where
    more : d % first + 1 < first
    more = omega (arith, s.1, stands-low)

    next_low : low + 1 ≡ (d + 1) % first
    next_low = omega (arith, s.1, stays-digit first d more)

    step-rolls : add all d b % first + 1 ≡ first → add all (d + 1) b ≡ add all d b - add all d b % first
    step-rolls =
        subst (λ gs. add gs d b % first + 1 ≡ first → add gs (d + 1) b ≡ add gs d b - add gs d b % first) (sym (rest_at t 0 some))
        (next-rolls (generator_at n targets orders 0) (drop 1 all) d b more)

    step_stays : add all d b % first + 1 < first → add all (d + 1) b ≡ add all d b + 1
    step_stays =
        subst (λ gs. add gs d b % first + 1 < first → add gs (d + 1) b ≡ add gs d b + 1) (sym (rest_at t 0 some))
        (next-stays (generator_at n targets orders 0) (drop 1 all) d b more)

    -- does not, and that of the sum does
    pub stands-rolls : turn + 1 ≡ first → Stands all first b (d + 1) (sum - turn) (low + 1) 0
    stands-rolls e =
        let whole : sum - turn ≡ sum / first * first + 0 = omega (arith, s.2, div-add-mod sum first) in (
          ap (λ (x : ℕ). sum - x) s.2 ∙ ap (λ (x : ℕ). x - x % first) s.0 ∙ sym (step-rolls (rw (← s.0, ← s.2) e)),
          next_low,
          sym (ap (λ (x : ℕ). x % first) whole ∙ digits_mod (sum / first) positive),
        )

    -- or does not either
    pub stands-stays : (turn + 1 ≡ first → ⊥) → Stands all first b (d + 1) (sum + 1) (low + 1) (turn + 1)
    stands-stays e =
        let small : turn + 1 < first = omega (arith, stands-turn) in (
          ap (λ (x : ℕ). x + 1) s.0 ∙ sym (step_stays (rw (← s.0, ← s.2) small)),
          next_low,
          ap (λ (x : ℕ). x + 1) s.2 ∙ sym (stays-digit first sum (rw (← s.2) small)),
        )

-- ---- the indices tested by the candidates

module _ {n : ℕ} {gs : List Generator} (v : Valid n gs) (ks : List ℤ) (w : Word) (e : length w ≡ n) {S : ℕ → Bool} (l : Leading gs w S)
    {back : ℕ} (eb : back ≡ index_back gs w) where
  -- an index fixes the word exactly if its sum with the index back leads
  sum-fixes : (d : ℕ) → d < order_of gs → fixes gs w d ≡ S (add gs d back)
  unfolding index_back
  sum-fixes d h =
      let f : ℕ = forward gs w in
      let k : ℕ = add gs d (inverse gs f) in
      ap (fixes gs w) (sym (add-redo gs (valid_positive v) d f h))
      ∙ leading-fixes v w e l k (add-below gs (valid_positive v) d (inverse gs f))
      ∙ ap (λ (i : ℕ). S (add gs d i)) (sym eb)

  -- so what it does to the word is told by its sum
  pub sum-tests : (d : ℕ) → d < order_of gs → {k : ℕ} → k ≡ add gs d back → {r : Test}
      → r ≡ cond (S k) (cond (trivial gs ks d) Test.Fixes Test.Breaks) Test.Moves → test_of gs ks w d ≡ r
  sum-tests d h ek er = rw (sum-fixes d h, ← ek) (sym er)

  -- kept, after a traversal that meets no index that drops the word
  pub traversed-kept : {i c o size : ℕ} → Passed gs ks w i c → i ≡ order_of gs → o ≡ order_of gs → (0 < c → size ≡ o / c)
      → Placement.Kept back size ≡ placement_of (decision gs ks w)
  unfolding index_back
  traversed-kept {i} {c} p ei eo es =
      ap (Placement.Kept back) (es (fixing-some gs ks w i p ei v)) ∙ placed-kept gs ks w i p ei refl eb eo

  -- kept, where every numerator is 0: as many fix the word as lead
  pub zeros-kept : ((i : ℕ) → trivial gs ks i ≡ true) → {c o size : ℕ} → c ≡ count S (below o) → o ≡ order_of gs → (0 < c → size ≡ o / c)
      → Placement.Kept back size ≡ placement_of (decision gs ks w)
  unfolding orbit_size keeps
  zeros-kept z {c} {o} ec eo es =
      keeps_placed gs ks w (every-intro _ (below (order_of gs)) (λ i m. ap (λ (b : Bool). not (fixes gs w i) || b) (z i) ∙ or-true (not (fixes gs w i)))) eb
      (es (rw counted (fixing-positive v w)) ∙ ap₂ (λ (i j : ℕ). i / j) eo counted)
    where
      counted : c ≡ length (fixing gs w)
      counted = ec ∙ ap (λ (j : ℕ). count S (below j)) eo ∙ leading-fixing v w e l

-- what is known of a word of n sites after the indices below i, by the candidates that lead and the index back: c of them fix it, with numerator 0
abbrev pub Told : ℕ → List Generator → List ℤ → (ℕ → Bool) → ℕ → ℕ → ℕ → Type 0
Told n gs ks S back i c = (w : Word) → length w ≡ n → Leading gs w S → back ≡ index_back gs w → Passed gs ks w i c
