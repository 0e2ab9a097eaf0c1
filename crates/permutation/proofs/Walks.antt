-- All cycle lengths, marked as the cycles are walked: which sites are walked, and which lengths are marked.
-- What carries it: a cycle is walked whole, so that a site that is not marked lies on a cycle of which none is; and the sites of a cycle have one
-- cycle length.
use Prim.Native.Nat.{ℕ, zero, suc, ◌+◌, ◌-◌, ◌≤◌, ◌<◌}
use mathlib.Core.Path.{◌≡◌, refl, sym, ap, ◌∙◌}
use mathlib.Core.Logic.{◌⊎◌, inl, inr, ⊎_elim}
use mathlib.Core.Bool.{Bool, true, false, cond, false≢true}
use mathlib.Core.List.{List, [], ◌∷◌, ◌++◌, map}
use native.Mathlib.Nat.{not-suc-le-zero}
use native.Mathlib.Decide.{ℕ_discrete}
use native.Mathlib.Omega.{arith}
use lib.ListN.{length, get_or, set, replicate, length-append, length-map}
use lib.Seq.{get_or-set_same, get_or-set_other}
use borrow.Author.Count.{below_more}
use Rattle.action.specs.Lists.{below, Member, NoRepeats}
use Rattle.action.specs.Permutation.{target, after, cycle_length, Permutes}
use Rattle.action.proofs.Lists.{member_below, of_member_below, no_repeats_below, length-below, member-map, of-member-map, length-le}
use Rattle.action.proofs.Lists.{member-append-left, member-append-right, of-member-append, no_repeats_append}
use Rattle.action.proofs.ExactOrders.{after-inside, cycle_positive}
use Rattle.action.proofs.Below.{map-below-of}
use Rattle.permutation.specs.Generators.{among}
use Rattle.permutation.specs.Lengths.{Marked, cycle_lengths, length_marks}
use Rattle.permutation.proofs.Cycles.{cycle-short, cycle-shared, cycle-before}
use Rattle.permutation.proofs.Lengths.{length-among, among-length, cycle-once}

-- marks that were just made are all 0
pub get_d_zeros : (k p : ℕ) → ◌≡◌ {A = ℕ} (get_or (replicate k 0) p 0) 0
get_d_zeros zero p = refl
get_d_zeros (suc k) zero = refl
get_d_zeros (suc k) (suc p) = get_d_zeros k p

unmarked : (k p : ℕ) → ◌≡◌ {A = ℕ} (get_or (replicate k 0) p 0) 1 → ⊥
unmarked k p e = omega (arith, get_d_zeros k p)

-- ---- the sites

-- the sites before q are marked; with a site that which moves to it is marked; and as many are marked as were walked
pub record Walked (perm seen : List ℕ) (walked q : ℕ) : Type 0 where
  pub passed : (p : ℕ) → p < q → get_or seen p 0 ≡ 1
  pub back : (p : ℕ) → p < length perm → get_or seen (target perm p) 0 ≡ 1 → get_or seen p 0 ≡ 1
  pub sites : List ℕ
  pub once : NoRepeats sites
  pub many : length sites ≡ walked
  pub listed : (p : ℕ) → get_or seen p 0 ≡ 1 → Member p sites
  pub inside : (p : ℕ) → Member p sites → (p < length perm) × (get_or seen p 0 ≡ 1)

pub walked_none : (perm : List ℕ) (k : ℕ) → Walked perm (replicate k 0) 0 0
walked_none perm k =
    record {
      passed = λ p h. absurd (not-suc-le-zero h);
      back = λ p h e. absurd (unmarked k (target perm p) e);
      sites = [];
      once = tt;
      many = refl;
      listed = unmarked k;
      inside = λ p m. absurd m;
    }

module _ {perm seen : List ℕ} {walked q : ℕ} (w : Walked perm seen walked q) where
  -- a marked site: its cycle is walked already
  pub walked-past : get_or seen q 0 ≡ 1 → Walked perm seen walked (q + 1)
  walked-past e =
      record {
        passed = below_more (λ p. get_or seen p 0 ≡ 1) q w.passed e;
        back = w.back;
        sites = w.sites;
        once = w.once;
        many = w.many;
        listed = w.listed;
        inside = w.inside;
      }

  -- if no site were left, all would be marked, and so walked
  pub walked_more : walked < length perm → q < length perm
  walked_more h = let all : length perm ≤ q → ⊥ = none in omega arith
    where
      none : length perm ≤ q → ⊥
      none l =
          let each : (p : ℕ) → Member p (below (length perm)) → Member p w.sites =
          λ p m. w.listed p (w.passed p (omega (arith, of_member_below (length perm) p m)))
          in
          omega (arith, w.many, length-below (length perm), length-le (below (length perm)) w.sites (no_repeats_below (length perm)) each)

  -- as many are walked as there are: all are marked
  pub walked_all : length perm ≤ walked → (p : ℕ) → p < length perm → get_or seen p 0 ≡ 1
  walked_all h p l = go (ℕ_discrete (get_or seen p 0) 1)
    where
      go : Dec (get_or seen p 0 ≡ 1) → get_or seen p 0 ≡ 1
      go (yes e) = e
      go (no d) =
          let each : (a : ℕ) → Member a (p ∷ w.sites) → Member a (below (length perm)) =
          λ a m. ⊎_elim (λ e. rw e (member_below (length perm) p l)) (λ k. member_below (length perm) a (w.inside a k).0) m
          in
          let more = length-le (p ∷ w.sites) (below (length perm)) (λ m. d (w.inside p m).1, w.once) each in
          absurd (omega (arith, w.many, length-below (length perm)))

  module _ (permutes : Permutes (length perm) perm) where
    -- a site is marked if one after it is
    back-all : (c p : ℕ) → p < length perm → get_or seen (after perm c p) 0 ≡ 1 → get_or seen p 0 ≡ 1
    unfolding after
    back-all zero p h e = e
    back-all (suc c) p h e = w.back p h (back-all c (target perm p) (permutes.inside p h) e)

    -- the cycle of a site that is not marked
    pub walked_next :
        q < length perm → (get_or seen q 0 ≡ 1 → ⊥) → (next : List ℕ) → Marked perm q (cycle_length perm q) seen next
        → Walked perm next (walked + cycle_length perm q) (q + 1)
    unfolding after
    walked_next h fresh next m =
        record {
          passed = below_more (λ p. get_or next p 0 ≡ 1) q (λ p l. m.kept p (w.passed p l)) (m.walked 0 (cycle_positive perm q));
          back = λ p l e. ⊎_elim (λ k. m.kept p (w.back p l k)) (before p l) (m.only (target perm p) e);
          sites = cycle ++ w.sites;
          once = no_repeats_append cycle w.sites (cycle-once permutes q h) w.once apart;
          many = omega (arith, length-append cycle w.sites, length-map (below size) (λ c. after perm c q), length-below size, w.many);
          listed = λ p e.
              ⊎_elim (λ k. member-append-right cycle w.sites p (w.listed p k)) (λ k. member-append-left cycle w.sites p (on p k)) (m.only p e);
          inside = λ p k. ⊎_elim (within p) (λ l. ((w.inside p l).0, m.kept p (w.inside p l).1)) (of-member-append cycle w.sites p k);
        }
      where
        size : ℕ
        size = cycle_length perm q

        cycle : List ℕ
        cycle = map (λ c. after perm c q) (below size)

        before : (p : ℕ) → p < length perm → (d : ℕ) × (d < size) × (target perm p ≡ after perm d q) → get_or next p 0 ≡ 1
        before p l (d, i, e) =
            let (c, j, k) = cycle-before permutes q h d i in
            let same = permutes.apart p (after perm c q) l (after-inside permutes c q h) (e ∙ k) in
            rw same (m.walked c j)

        on : (p : ℕ) → (d : ℕ) × (d < size) × (p ≡ after perm d q) → Member p cycle
        on p (d, l, e) = rw e (member-map (λ c. after perm c q) (below size) d (member_below size d l))

        within : (p : ℕ) → Member p cycle → (p < length perm) × (get_or next p 0 ≡ 1)
        within p k =
            let (d, l, e) = of-member-map (λ c. after perm c q) (below size) p k in
            (rw e (after-inside permutes d q h), rw e (m.walked d (of_member_below size d l)))

        apart : (p : ℕ) → Member p cycle → Member p w.sites → ⊥
        apart p k l =
            let (d, i, e) = of-member-map (λ c. after perm c q) (below size) p k in
            fresh (back-all d q h (rw (← e) (w.inside p l).1))

-- ---- the lengths

-- a length has its mark and lies within the span
abbrev Held : List ℕ → ℕ → ℕ → ℕ → Type 0
Held marks shortest longest l = (get_or marks (l - 1) 0 ≡ 1) × (shortest ≤ l) × (l ≤ longest)

-- a mark is 0, or it is 1 and some cycle has that length
abbrev Told : List ℕ → List ℕ → ℕ → Type 0
Told perm marks i = (get_or marks i 0 ≡ 0) ⊎ ((get_or marks i 0 ≡ 1) × (p : ℕ) × (p < length perm) × (cycle_length perm p ≡ suc i))

-- the lengths of the marked sites are marked and lie within the span, and no other length is marked
pub record Found (perm marks seen : List ℕ) (shortest longest : ℕ) : Type 0 where
  pub held : (p : ℕ) → get_or seen p 0 ≡ 1 → Held marks shortest longest (cycle_length perm p)
  pub told : (i : ℕ) → Told perm marks i
  pub span : (0 < shortest) × (longest ≤ length perm)

pub found_none :
    (perm marks : List ℕ) (k shortest : ℕ) → 0 < shortest → ((l : ℕ) → get_or marks l 0 ≡ 0) → Found perm marks (replicate k 0) shortest 0
found_none perm marks k shortest positive clear =
    record { held = λ p e. absurd (unmarked k p e); told = λ i. inl (clear i); span = (positive, omega arith) }

module _ {perm marks seen : List ℕ} {shortest longest : ℕ} (f : Found perm marks seen shortest longest) where
  -- a cycle is walked, its length is marked, and the span reaches it
  pub found-next :
      Permutes (length perm) perm → (q : ℕ) → q < length perm → length perm ≤ length marks
      → (next : List ℕ) → Marked perm q (cycle_length perm q) seen next
      → (low high : ℕ) → (low ≤ shortest) × (low ≤ cycle_length perm q) × ((low ≡ shortest) ⊎ (low ≡ cycle_length perm q))
      → (longest ≤ high) × (cycle_length perm q ≤ high) × ((high ≡ longest) ⊎ (high ≡ cycle_length perm q))
      → Found perm (set marks (cycle_length perm q - 1) 1) next low high
  found-next permutes q h long next m low high (a, b, g) (c, d, e) =
      record {
        held = λ p k. ⊎_elim (λ i. up (cycle_length perm p) (f.held p i)) (λ i. rw (shared p i) own) (m.only p k);
        told = λ i. told_by i (ℕ_discrete i (size - 1)) (f.told i);
        span = (
          ⊎_elim (λ k. omega (arith, f.span.0)) (λ k. omega (arith, cycle_positive perm q)) g,
          ⊎_elim (λ k. omega (arith, f.span.1)) (λ k. omega (arith, cycle-short permutes q h)) e,
        );
      }
    where
      size : ℕ
      size = cycle_length perm q

      now : List ℕ
      now = set marks (size - 1) 1

      set_own : get_or now (size - 1) 0 ≡ 1
      set_own = get_or-set_same marks (size - 1) 1 0 (omega (arith, cycle_positive perm q, cycle-short permutes q h))

      own : Held now low high size
      own = (set_own, b, d)

      shared : (p : ℕ) → (i : ℕ) × (i < size) × (p ≡ after perm i q) → cycle_length perm p ≡ size
      shared p (i, l, k) = ap (cycle_length perm) k ∙ cycle-shared permutes q h i

      stays : (i : ℕ) → Dec (i ≡ size - 1) → get_or marks i 0 ≡ 1 → get_or now i 0 ≡ 1
      stays i (yes k) l = ap (λ (x : ℕ). get_or now x 0) k ∙ set_own
      stays i (no k) l = get_or-set_other marks (size - 1) i 1 0 k ∙ l

      up : (l : ℕ) → Held marks shortest longest l → Held now low high l
      up l (k, i, j) = (stays (l - 1) (ℕ_discrete (l - 1) (size - 1)) k, omega arith, omega arith)

      told_by : (i : ℕ) → Dec (i ≡ size - 1) → Told perm marks i → Told perm now i
      told_by i (yes k) t = inr (ap (λ (x : ℕ). get_or now x 0) k ∙ set_own, q, h, omega (arith, cycle_positive perm q))
      told_by i (no k) (inl z) = inl (get_or-set_other marks (size - 1) i 1 0 k ∙ z)
      told_by i (no k) (inr (l, p, j, r)) = inr (get_or-set_other marks (size - 1) i 1 0 k ∙ l, p, j, r)

  -- every site is marked: the marks are those of all lengths
  module _ (all : (p : ℕ) → p < length perm → get_or seen p 0 ≡ 1) where
    pub found-marks : (k : ℕ) → length marks ≡ k → marks ≡ length_marks k perm
    unfolding length_marks
    found-marks k e =
        map-below-of (λ i. cond (among (suc i) (cycle_lengths perm)) 1 0) k 0 marks e
        (λ i l. mark i (among (suc i) (cycle_lengths perm)) refl (f.told i))
      where
        mark : (i : ℕ) (b : Bool) → among (suc i) (cycle_lengths perm) ≡ b → Told perm marks i → get_or marks i 0 ≡ cond b 1 0
        mark i true g t =
            let (p, l, j) = among-length perm (suc i) g in
            let place : i ≡ cycle_length perm p - 1 = omega arith in
            ap (λ (x : ℕ). get_or marks x 0) place ∙ (f.held p (all p l)).0
        mark i false g (inl z) = z
        mark i false g (inr (one, p, l, j)) =
            absurd (false≢true (sym g ∙ ap (λ (x : ℕ). among x (cycle_lengths perm)) (sym j) ∙ length-among perm p l))

    pub found-span : (p : ℕ) → p < length perm → (shortest ≤ cycle_length perm p) × (cycle_length perm p ≤ longest)
    found-span p l = let k = f.held p (all p l) in (k.1, k.2)
