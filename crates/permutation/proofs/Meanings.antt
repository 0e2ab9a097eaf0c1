-- What the definitions of `Lengths` mean. The different lengths of a permutation are those of its cycles, each once and rising, and no other list is
-- that; k different lengths take k (k + 1) / 2 sites or more, so that a permutation of `maxSites` sites has no more than `maxLengths`. The three steps
-- of `orders`: the lengths that are read off the marks are the different ones, and their common multiple is the exact order. At the end, examples.
use Prim.Native.Nat.{ℕ, suc, ◌-◌, ◌*◌, ◌/◌, ◌≤◌, ◌<◌, ◌∣◌, suc-le-suc}
use mathlib.Core.Path.{◌≡◌, refl, sym, ap}
use mathlib.Core.List.{List, [], ◌∷◌, map}
use native.Mathlib.Nat.{dvd_antisymm, le_trans, mul-le-mul}
use native.Mathlib.Omega.{arith}
use lib.Dec.{eqb, ltb}
use lib.ListN.{length, get_or}
use Rattle.pauli_word.specs.Limits.{max_sites}
use Rattle.outcome.specs.declared.Refusal.TheVariants as Refusal
use Rattle.outcome.specs.Outcome.{Outcome, answer, unless, rule}
use Rattle.action.specs.Arithmetic.{lcm_all}
use Rattle.action.specs.Lists.{below, Member, NoRepeats}
use Rattle.action.specs.Permutation.{cycle_length, exact_order, Permutes}
use Rattle.action.proofs.Lists.{member_below, of_member_below, of-member-map, member-select, of-member-select, length-le}
use Rattle.action.proofs.Arithmetic.{lcm_all_member, lcm_all_divides}
use Rattle.action.proofs.ExactOrders.{cycle-order}
use Rattle.permutation.specs.Limits.{max_lengths, max_declared}
use Rattle.permutation.specs.Generators.{among}
use Rattle.permutation.specs.Lengths.{cycle_lengths, different_lengths, length_marks, marked_within, multiple_outcome, Rising}
use Rattle.permutation.specs.Parts.{exact_outcome}
use Rattle.permutation.proofs.Cycles.{cycle-short}
use Rattle.permutation.proofs.Lengths.{length-among, among-length, rising-select, rising-same, rising-once, rising-total, length-within, sites-take}
use Rattle.permutation.proofs.Striking.{marked-some, marked_all}

-- ---- the different lengths

pub lengths_rising : (perm : List ℕ) → Rising (different_lengths perm)
unfolding different_lengths below
lengths_rising perm = rising-select (λ l. among l (cycle_lengths perm)) 0 (suc (length perm))

pub lengths_once : (perm : List ℕ) → NoRepeats (different_lengths perm)
lengths_once perm = rising-once (different_lengths perm) (lengths_rising perm)

module _ {n : ℕ} {perm : List ℕ} (permutes : Permutes n perm) where
  pub lengths_some : (l : ℕ) → Member l (different_lengths perm) → (q : ℕ) × (q < n) × (cycle_length perm q ≡ l)
  unfolding different_lengths
  lengths_some l m =
      let found = (of-member-select (λ l. among l (cycle_lengths perm)) (below (suc (length perm))) l m).1 in
      let (q, h, e) = among-length perm l found in
      (q, omega (arith, permutes.long), e)

  pub lengths-all : (q : ℕ) → q < n → Member (cycle_length perm q) (different_lengths perm)
  unfolding different_lengths
  lengths-all q h =
      let short = member_below (suc (length perm)) (cycle_length perm q) (omega (arith, permutes.long, cycle-short permutes q h)) in
      member-select (λ l. among l (cycle_lengths perm)) (below (suc (length perm))) (cycle_length perm q) short
      (length-among perm q (omega (arith, permutes.long)))

  -- no other list is like that
  pub lengths-only :
      (ls : List ℕ) → Rising ls → ((l : ℕ) → Member l ls → (q : ℕ) × (q < n) × (cycle_length perm q ≡ l))
      → ((q : ℕ) → q < n → Member (cycle_length perm q) ls) → ls ≡ different_lengths perm
  lengths-only ls rising some all =
      rising-same ls (different_lengths perm) rising (lengths_rising perm)
      (λ l m. let (q, h, e) = some l m in rw (← e) (lengths-all q h))
      (λ l m. let (q, h, e) = lengths_some l m in rw (← e) (all q h))

  -- ---- the sites that they take

  pub lengths-sites : length (different_lengths perm) * suc (length (different_lengths perm)) / 2 ≤ n
  lengths-sites =
      le_trans
      (rising-total (different_lengths perm) (lengths_rising perm) (λ l m. (length-within permutes l (lengths_some l m)).0))
      (sites-take permutes (different_lengths perm) (lengths_once perm) lengths_some)

  -- however they are listed
  pub different-sites :
      (ls : List ℕ) → NoRepeats ls → ((l : ℕ) → Member l ls → (q : ℕ) × (q < n) × (cycle_length perm q ≡ l)) → length ls * suc (length ls) / 2 ≤ n
  different-sites ls once some =
      let few : length ls ≤ length (different_lengths perm) =
      length-le ls (different_lengths perm) once (λ l m. let (q, h, e) = some l m in rw (← e) (lengths-all q h))
      in
      omega (arith, lengths-sites, mul-le-mul few (suc-le-suc few))

-- max_lengths of them may have room within max_sites, one more has not
pub room_reached : max_lengths * suc max_lengths / 2 ≤ max_sites
room_reached = omega arith

pub room-passed : max_sites < suc max_lengths * suc (suc max_lengths) / 2
room-passed = omega arith

module _ {n : ℕ} {perm : List ℕ} (permutes : Permutes n perm) where
  pub lengths-most : n ≤ max_sites → length (different_lengths perm) ≤ max_lengths
  lengths-most small =
      let k : ℕ = length (different_lengths perm) in
      let more : max_lengths < k → ⊥ = λ l. omega (arith, room-passed, lengths-sites permutes, mul-le-mul l (suc-le-suc l)) in
      omega arith

  -- ---- the three steps

  -- the lengths that are read off the marks, from the shortest to the longest at least, are the different ones
  pub struck-out :
      (k a b : ℕ) → 0 < a → b ≤ k → ((q : ℕ) → q < n → (a ≤ cycle_length perm q) × (cycle_length perm q ≤ b))
      → marked_within a b (length_marks k perm) ≡ different_lengths perm
  unfolding marked_within
  struck-out k a b positive fits span =
      lengths-only permutes (marked_within a b (length_marks k perm)) (rising-select (λ l. eqb (get_or (length_marks k perm) (l - 1) 0) 1) a (suc b - a))
      (λ l m. let (q, h, e) = marked-some perm k a b positive fits l m in (q, omega (arith, permutes.long), e))
      (λ q h. marked_all perm k a b positive fits q (omega (arith, permutes.long)) (span q h))

  pub order-different : exact_order perm ≡ lcm_all (different_lengths perm)
  unfolding exact_order
  order-different =
      dvd_antisymm
      (lcm_all_divides (map (cycle_length perm) (below (length perm))) (lcm_all (different_lengths perm)) there)
      (lcm_all_divides (different_lengths perm) (exact_order perm) back)
    where
      there : (l : ℕ) → Member l (map (cycle_length perm) (below (length perm))) → l ∣ lcm_all (different_lengths perm)
      there l m =
          let (q, k, e) = of-member-map (cycle_length perm) (below (length perm)) l m in
          let h : q < n = omega (arith, permutes.long, of_member_below (length perm) q k) in
          rw e (lcm_all_member (cycle_length perm q) (different_lengths perm) (lengths-all permutes q h))

      back : (l : ℕ) → Member l (different_lengths perm) → l ∣ exact_order perm
      back l m = let (q, h, e) = lengths_some permutes l m in rw (← e) (cycle-order permutes q h)

  -- where it fits 32 bits, else 9
  pub multiple-exact : (g : ℕ) → multiple_outcome g (different_lengths perm) ≡ exact_outcome g perm
  unfolding multiple_outcome exact_outcome
  multiple-exact g = sym (ap outcome order-different)
    where
      outcome : ℕ → Outcome ℕ
      outcome order = unless (rule (Refusal.PermutationOrderOverflow g) (ltb max_declared order) ∷ []) (answer order)

-- ---- examples

-- three sites that stay
pub stay_lengths : different_lengths (0 ∷ 1 ∷ 2 ∷ []) ≡ 1 ∷ []
unfolding different_lengths
stay_lengths = refl

pub none_lengths : different_lengths [] ≡ []
unfolding different_lengths
none_lengths = refl

-- two swaps, and a site that stays
pub swap_lengths : different_lengths (1 ∷ 0 ∷ 3 ∷ 2 ∷ 4 ∷ []) ≡ 1 ∷ 2 ∷ []
unfolding different_lengths
swap_lengths = refl
