-- Cycles of a permutation, walked site by site, and the sites that a walk marks.
-- What carries the walk: the sites of a cycle have the same cycle length, and no site is met twice before the first comes back.
use Prim.Native.Nat.{ℕ, zero, suc, ◌+◌, ◌-◌, ◌≤◌, ◌<◌, ◌∣◌}
use mathlib.Core.Path.{◌≡◌, sym, ap, ◌∙◌}
use mathlib.Core.Logic.{◌⊎◌, inl, inr, ⊎_elim}
use mathlib.Core.List.{List}
use native.Mathlib.Nat.{add_comm, eq-or-lt_of_le, dvd_antisymm, le_trans, not-suc-le-zero}
use native.Mathlib.Numerals.{add-one}
use native.Mathlib.Decide.{ℕ_discrete}
use native.Mathlib.Omega.{arith}
use lib.ListN.{length, get_or, set}
use lib.Seq.{get_or-set_same, get_or-set_other}
use borrow.Author.Count.{below_more}
use Rattle.action.specs.Permutation.{target, after, cycle_length, Permutes}
use Rattle.action.proofs.ExactOrders.{after-add, after-inside, after-apart, comes_back, cycle_least, cycle-returns, cycle-divides}
use Rattle.permutation.specs.Lengths.{Marked}

-- ---- the walk

pub after_next : (perm : List ℕ) (c q : ℕ) → after perm (c + 1) q ≡ target perm (after perm c q)
unfolding after
after_next perm c q = after-add perm c 1 q

after-swap : (perm : List ℕ) (c d q : ℕ) → after perm c (after perm d q) ≡ after perm d (after perm c q)
after-swap perm c d q = sym (after-add perm d c q) ∙ ap (λ (k : ℕ). after perm k q) (add_comm d c) ∙ after-add perm c d q

module _ {n : ℕ} {perm : List ℕ} (permutes : Permutes n perm) (q : ℕ) (h : q < n) where
  pub cycle-short : cycle_length perm q ≤ n
  cycle-short = let (c, l, e) = comes_back permutes q h in le_trans (cycle_least perm q (suc c) (omega arith) e) l

  -- the sites of a cycle have the same cycle length
  pub cycle-shared : (c : ℕ) → cycle_length perm (after perm c q) ≡ cycle_length perm q
  cycle-shared c = dvd_antisymm there back
    where
      p : ℕ
      p = after perm c q

      inside : p < n
      inside = after-inside permutes c q h

      there : cycle_length perm p ∣ cycle_length perm q
      there = cycle-divides permutes p inside (cycle_length perm q) (after-swap perm (cycle_length perm q) c q ∙ ap (after perm c) (cycle-returns permutes q h))

      back : cycle_length perm q ∣ cycle_length perm p
      back =
          cycle-divides permutes q h (cycle_length perm p)
          (after-apart permutes c (after perm (cycle_length perm p) q) q (after-inside permutes (cycle_length perm p) q h) h
          (after-swap perm c (cycle_length perm p) q ∙ cycle-returns permutes p inside))

  -- a site of the cycle is where one of them moves to
  pub cycle-before : (d : ℕ) → d < cycle_length perm q → (c : ℕ) × (c < cycle_length perm q) × (after perm d q ≡ target perm (after perm c q))
  unfolding after
  cycle-before zero l =
      let size : cycle_length perm q ≡ cycle_length perm q - 1 + 1 = omega arith in (
        cycle_length perm q - 1,
        omega arith,
        sym (cycle-returns permutes q h) ∙ ap (λ (k : ℕ). after perm k q) size ∙ after_next perm (cycle_length perm q - 1) q,
      )
  cycle-before (suc d) l = (d, omega arith, ap (λ (k : ℕ). after perm k q) (sym (add-one d)) ∙ after_next perm d q)

  -- before the first site comes back, the cycle is longer than the steps that were made
  pub walk_next : (c : ℕ) → c ≤ cycle_length perm q → (after perm c q ≡ q → ⊥) → c < cycle_length perm q
  walk_next c l d =
      ⊎_elim (λ e. absurd (d (ap (λ (k : ℕ). after perm k q) e ∙ cycle-returns permutes q h))) (λ k. k) (eq-or-lt_of_le l)

  pub walk_end : (c : ℕ) → 0 < c → c ≤ cycle_length perm q → after perm c q ≡ q → c ≡ cycle_length perm q
  walk_end c k l e = omega (arith, cycle_least perm q c k e)

-- ---- the marks

pub marked_none : (perm : List ℕ) (start : ℕ) (before : List ℕ) → Marked perm start 0 before before
marked_none perm start before = record { kept = λ p k. k; walked = λ d l. absurd (not-suc-le-zero l); only = λ p k. inl k }

-- one more site of the walk is marked
pub marked_next :
    {perm : List ℕ} {start c : ℕ} {before seen : List ℕ} → Marked perm start c before seen
    → (q : ℕ) → q ≡ after perm c start → q < length seen → Marked perm start (c + 1) before (set seen q 1)
marked_next {perm} {start} {c} {before} {seen} m q e h =
    record {
      kept = λ p k. stays p (ℕ_discrete p q) (m.kept p k);
      walked = below_more (λ d. get_or (set seen q 1) (after perm d start) 0 ≡ 1) c (λ d l. stays (after perm d start) (ℕ_discrete (after perm d start) q) (m.walked d l)) (rw (← e) own);
      only = λ p k. told p (ℕ_discrete p q) k;
    }
  where
    own : get_or (set seen q 1) q 0 ≡ 1
    own = get_or-set_same seen q 1 0 h

    stays : (p : ℕ) → Dec (p ≡ q) → get_or seen p 0 ≡ 1 → get_or (set seen q 1) p 0 ≡ 1
    stays p (yes s) k = rw s own
    stays p (no d) k = get_or-set_other seen q p 1 0 d ∙ k

    told : (p : ℕ) → Dec (p ≡ q) → get_or (set seen q 1) p 0 ≡ 1 → (get_or before p 0 ≡ 1) ⊎ ((d : ℕ) × (d < c + 1) × (p ≡ after perm d start))
    told p (yes s) k = inr (c, omega arith, s ∙ e)
    told p (no d) k = ⊎_elim inl (λ w. inr (w.0, omega (arith, w.1), w.2)) (m.only p (sym (get_or-set_other seen q p 1 0 d) ∙ k))

pub marked_again : {perm : List ℕ} {start c : ℕ} {before seen : List ℕ} → Marked perm start c before seen → Marked perm start c seen seen
marked_again m = record { kept = λ p k. k; walked = m.walked; only = λ p k. inl k }

-- the first site was marked before the others
pub marked_on :
    {perm : List ℕ} {start c : ℕ} {before first seen : List ℕ} → Marked perm start 1 before first → Marked perm start c first seen → 0 < c
    → Marked perm start c before seen
marked_on {c = c} f m h =
    record {
      kept = λ p k. m.kept p (f.kept p k);
      walked = m.walked;
      only = λ p k. ⊎_elim (λ g. ⊎_elim inl (λ w. inr (w.0, omega (arith, w.1), w.2)) (f.only p g)) inr (m.only p k);
    }
