-- How many rows the keys have: all of them together, each row once.
-- The fact that carries it: a key stands once among the different keys (`count-once`), so counting by key and by row agree.
use native.Mathlib.Omega.{arith}
use mathlib.Core.Path.{◌≡◌, refl, sym, ◌∙◌, ap, subst}
use mathlib.Core.Logic.{inl, inr}
use mathlib.Core.Bool.{Bool}
use mathlib.Core.List.{List, [], ◌∷◌, map}
use lib.ListN.{length}
use Rattle.action.specs.Lists.{Member, NoRepeats, count, total}
use Rattle.action.proofs.Lists.{member-map, total-cong, total-const, total-count-swap}
use Rattle.keyed.specs.Keyed.{Fold, Orders, Equality, rising, key_of, contents_of}
use Rattle.keyed.proofs.Rising.{rising-rising, rising-member, rising_no_repeats}
use Rattle.keyed.proofs.Folds.{not_same, contents-length}

module _ {K : Type 0} {same : K → K → Bool} (q : Equality same) where
  pub count-never : (a : K) (ks : List K) → (Member a ks → ⊥) → count (same a) ks ≡ 0
  unfolding count
  count-never a [] n = refl
  count-never a (b ∷ ks) n = rw (not_same q a b (λ e. n (inl e))) (omega (arith, count-never a ks (λ m. n (inr m))))

  pub count-once : (a : K) (ks : List K) → NoRepeats ks → Member a ks → count (same a) ks ≡ 1
  unfolding count
  count-once a [] u m = absurd m
  count-once a (b ∷ ks) u (inl e) =
      rw (ap (same a) (sym e) ∙ q.reflexive a)
      (omega (arith, count-never a ks (λ m. u.0 (subst (λ (c : K). Member c ks) e m))))
  count-once a (b ∷ ks) u (inr m) =
      rw (not_same q a b (λ e. u.0 (subst (λ (c : K). Member c ks) e m))) (omega (arith, count-once a ks u.1 m))

module _ {K C S : Type 0} {P : K → Type 0} (f : Fold K C S) (o : Orders P f.less) (q : Equality f.same) where
  pub contents-total :
      (rows : List (K × C)) → ((a : K) → Member a (map key_of rows) → P a)
      → total (λ k. length (contents_of f k rows)) (rising f.less (map key_of rows)) ≡ length rows
  contents-total rows ps =
      total-cong _ _ keys (λ k m. contents-length f k rows)
      ∙ total-count-swap (λ k row. f.same row.0 k) keys rows
      ∙ total-cong _ (λ row. 1) rows once
      ∙ total-const 1 rows
      ∙ omega arith
    where
      keys : List K
      keys = rising f.less (map key_of rows)

      once : (row : K × C) → Member row rows → count (λ k. f.same row.0 k) keys ≡ 1
      once row m =
          count-once q row.0 keys (rising_no_repeats o keys (rising-rising f.less (map key_of rows)))
          (rising-member o (map key_of rows) ps row.0 (member-map key_of rows row m))
