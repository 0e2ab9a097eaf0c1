-- Members and rising lists of numbers, and the sites that cycles of different lengths take.
-- What carries the sites: a cycle has as many sites as it is long, and no site lies on cycles of two lengths.
use Prim.Native.Nat.{ℕ, zero, suc, ◌+◌, ◌-◌, ◌*◌, ◌/◌, ◌≤◌, ◌<◌, suc-le-suc}
use mathlib.Core.Path.{◌≡◌, refl, sym, ap₂}
use mathlib.Core.Logic.{inl, inr, ⊎_elim}
use mathlib.Core.Bool.{Bool, true, false, ◌||◌, cond, false≢true}
use mathlib.Core.List.{List, [], ◌∷◌, map}
use native.Mathlib.Nat.{le_trans}
use native.Mathlib.Omega.{arith}
use lib.Dec.{eqb}
use lib.ListN.{length, length-map}
use borrow.Author.Tests.{eqb-true, eq-eqb}
use Rattle.action.specs.Lists.{from, below, select, count, total, Member, NoRepeats}
use Rattle.action.specs.Permutation.{after, cycle_length, Permutes}
use Rattle.action.proofs.Lists.{of_member_from, member_below, of_member_below, no_repeats_below, length-below, member-map, of-member-map, no_repeats_map, length-le}
use Rattle.action.proofs.Lists.{member-select, of-member-select, no_repeats_select, count-select, total-le, total-within, total-count-swap}
use Rattle.action.proofs.ExactOrders.{after-add, after-inside, after-apart, cycle_least, cycle_positive}
use Rattle.permutation.specs.Generators.{among}
use Rattle.permutation.specs.Lengths.{cycle_lengths, Rising}
use Rattle.permutation.proofs.Cycles.{cycle-short, cycle-shared}

-- ---- members

among_member : (t : ℕ) (xs : List ℕ) → among t xs ≡ true → Member t xs
unfolding among
among_member t [] h = absurd (false≢true h)
among_member t (x ∷ xs) h = go (eqb t x) refl h (among_member t xs)
  where
    go : (b : Bool) → eqb t x ≡ b → b || among t xs ≡ true → (among t xs ≡ true → Member t xs) → Member t (x ∷ xs)
    go true e k later = inl (eqb-true t x e)
    go false e k later = inr (later k)

member_among : (t : ℕ) (xs : List ℕ) → Member t xs → among t xs ≡ true
unfolding among
member_among t [] m = absurd m
member_among t (x ∷ xs) (inl e) = rw (eq-eqb t x e)
member_among t (x ∷ xs) (inr m) = go (eqb t x) (member_among t xs m)
  where
    go : (b : Bool) → among t xs ≡ true → b || among t xs ≡ true
    go true e = refl
    go false e = e

-- ---- all cycle lengths

pub length-among : (perm : List ℕ) (q : ℕ) → q < length perm → among (cycle_length perm q) (cycle_lengths perm) ≡ true
unfolding cycle_lengths
length-among perm q h =
    member_among (cycle_length perm q) (cycle_lengths perm) (member-map (cycle_length perm) (below (length perm)) q (member_below (length perm) q h))

pub among-length : (perm : List ℕ) (l : ℕ) → among l (cycle_lengths perm) ≡ true → (q : ℕ) × (q < length perm) × (cycle_length perm q ≡ l)
unfolding cycle_lengths
among-length perm l e =
    let (q, m, k) = of-member-map (cycle_length perm) (below (length perm)) l (among_member l (cycle_lengths perm) e) in
    (q, of_member_below (length perm) q m, sym k)

-- ---- rising lists

pub rising-select : (p : ℕ → Bool) (a k : ℕ) → Rising (select p (from a k))
unfolding select from
rising-select p a zero = tt
rising-select p a (suc k) = go (p a) (λ b m. (of_member_from k (suc a) b (of-member-select p (from (suc a) k) b m).0).0) (rising-select p (suc a) k)
  where
    rest : List ℕ
    rest = select p (from (suc a) k)

    go : (t : Bool) → ((b : ℕ) → Member b rest → a < b) → Rising rest → Rising (cond t (a ∷ rest) rest)
    go true above r = (above, r)
    go false above r = r

-- the first of a rising list is its least member
first_same :
    (x y : ℕ) (xs ys : List ℕ) → Rising (x ∷ xs) → Rising (y ∷ ys) → Member x (y ∷ ys) → Member y (x ∷ xs) → x ≡ y
first_same x y xs ys r s (inl e) k = e
first_same x y xs ys r s (inr m) (inl e) = sym e
first_same x y xs ys r s (inr m) (inr k) = absurd (omega (arith, r.0 y k, s.0 x m))

rest_within :
    (x y : ℕ) (xs ys : List ℕ) → Rising (x ∷ xs) → x ≡ y → ((a : ℕ) → Member a (x ∷ xs) → Member a (y ∷ ys)) → (a : ℕ) → Member a xs → Member a ys
rest_within x y xs ys r e there a m = ⊎_elim (λ k. absurd (omega (arith, r.0 a m))) (λ k. k) (there a (inr m))

-- rising lists with the same members are the same
pub rising-same :
    (xs ys : List ℕ) → Rising xs → Rising ys → ((a : ℕ) → Member a xs → Member a ys) → ((a : ℕ) → Member a ys → Member a xs) → xs ≡ ys
rising-same [] [] r s there back = refl
rising-same [] (y ∷ ys) r s there back = absurd (back y (inl refl))
rising-same (x ∷ xs) [] r s there back = absurd (there x (inl refl))
rising-same (x ∷ xs) (y ∷ ys) r s there back =
    let e = first_same x y xs ys r s (there x (inl refl)) (back y (inl refl)) in
    ap₂ ◌∷◌ e (rising-same xs ys r.1 s.1 (rest_within x y xs ys r e there) (rest_within y x ys xs s (sym e) back))

pub rising-once : (ls : List ℕ) → Rising ls → NoRepeats ls
rising-once [] r = tt
rising-once (l ∷ ls) r = (λ m. omega (arith, r.0 l m), rising-once ls r.1)

-- the least sum of k different numbers above a: that of the k numbers from a + 1 on
rising_above :
    (a : ℕ) (ls : List ℕ) → Rising ls → ((l : ℕ) → Member l ls → a < l)
    → length ls * suc (length ls) + 2 * (a * length ls) ≤ 2 * total (λ l. l) ls
unfolding total
rising_above a [] r above = omega arith
rising_above a (l ∷ ls) r above =
    let first = above l (inl refl) in
    let rest = rising_above (suc a) ls r.1 (λ b m. le_trans (suc-le-suc first) (r.0 b m)) in
    omega arith

pub rising-total : (ls : List ℕ) → Rising ls → ((l : ℕ) → Member l ls → 0 < l) → length ls * suc (length ls) / 2 ≤ total (λ l. l) ls
rising-total ls r positive = omega (arith, rising_above 0 ls r positive)

-- ---- the sites of different cycle lengths

count-once : (a : ℕ) (xs : List ℕ) → NoRepeats xs → count (λ b. eqb a b) xs ≤ 1
count-once a xs u =
    omega (arith, count-select (λ b. eqb a b) xs, length-le (select (λ b. eqb a b) xs) (a ∷ []) (no_repeats_select (λ b. eqb a b) xs u) only)
  where
    only : (b : ℕ) → Member b (select (λ b. eqb a b) xs) → Member b (a ∷ [])
    only b m = inl (sym (eqb-true a b (of-member-select (λ b. eqb a b) xs b m).1))

module _ {n : ℕ} {perm : List ℕ} (permutes : Permutes n perm) where
  -- before the first comes back no site is met twice
  cycle-apart : (q : ℕ) → q < n → (c d : ℕ) → c < d → d < cycle_length perm q → after perm c q ≡ after perm d q → ⊥
  cycle-apart q h c d l k e = omega (arith, cycle_least perm q (d - c) (omega arith) back)
    where
      back : after perm (d - c) q ≡ q
      back =
          let sum : d ≡ d - c + c = omega arith in
          after-apart permutes c (after perm (d - c) q) q (after-inside permutes (d - c) q h) h (cc (after-add perm (d - c) c q))

  -- the sites of a cycle, from q on
  pub cycle-once : (q : ℕ) → q < n → NoRepeats (map (λ c. after perm c q) (below (cycle_length perm q)))
  cycle-once q h = no_repeats_map (λ c. after perm c q) (below size) different (no_repeats_below size)
    where
      size : ℕ
      size = cycle_length perm q

      different : (c d : ℕ) → Member c (below size) → Member d (below size) → after perm c q ≡ after perm d q → c ≡ d
      different c d a b e =
          let up : c < d → ⊥ = λ l. cycle-apart q h c d l (of_member_below size d b) e in
          let down : d < c → ⊥ = λ l. cycle-apart q h d c l (of_member_below size c a) (sym e) in
          omega arith

  cycle-sites : (q : ℕ) → q < n → cycle_length perm q ≤ count (λ p. eqb (cycle_length perm p) (cycle_length perm q)) (below n)
  cycle-sites q h =
      omega (
        arith,
        length-below size,
        length-map (below size) site,
        length-le (map site (below size)) (select same (below n)) (cycle-once q h) into,
        count-select same (below n),
      )
    where
      size : ℕ
      size = cycle_length perm q

      site : ℕ → ℕ
      site c = after perm c q

      same : ℕ → Bool
      same p = eqb (cycle_length perm p) size

      into : (p : ℕ) → Member p (map site (below size)) → Member p (select same (below n))
      into p m =
          let (c, k, e) = of-member-map site (below size) p m in
          let inside = member_below n (site c) (after-inside permutes c q h) in
          rw e (member-select same (below n) (site c) inside (eq-eqb (cycle_length perm (site c)) size (cycle-shared permutes q h c)))

  -- a cycle has a site, and no more sites than there are
  pub length-within : (l : ℕ) → (q : ℕ) × (q < n) × (cycle_length perm q ≡ l) → (0 < l) × (l ≤ n)
  length-within l (q, h, e) = (omega (arith, cycle_positive perm q), omega (arith, cycle-short permutes q h))

  -- the sites, each counted at the one length of its cycle
  pub sites-take :
      (ls : List ℕ) → NoRepeats ls → ((l : ℕ) → Member l ls → (q : ℕ) × (q < n) × (cycle_length perm q ≡ l)) → total (λ l. l) ls ≤ n
  sites-take ls u some =
      omega (
        arith,
        total-le (λ l. l) (λ l. count (has l) (below n)) ls enough,
        total-count-swap has ls (below n),
        total-within (λ p. count (λ l. has l p) ls) 1 (below n) (λ p m. count-once (cycle_length perm p) ls u),
        length-below n,
      )
    where
      has : ℕ → ℕ → Bool
      has l p = eqb (cycle_length perm p) l

      enough : (l : ℕ) → Member l ls → l ≤ count (has l) (below n)
      enough l m =
          let (q, h, e) = some l m in
          rw (← e) (cycle-sites q h)
