-- The list of what each number below n is put to: what stands at a place, how many there are, and that a list is told by its places.
use Prim.Native.Nat.{ℕ, zero, suc, ◌+◌, ◌<◌}
use native.Mathlib.Nat.{add-zero, zero-add, le_of_suc-le-suc, not-suc-le-zero}
use native.Mathlib.Omega.{arith}
use mathlib.Core.Path.{◌≡◌, sym, ap, ◌∙◌}
use mathlib.Core.List.{List, map}
use lib.ListN.{length, get_or, length-map}
use lib.Seq.{ext_get_or}
use Rattle.action.specs.Lists.{from, below}
use Rattle.action.proofs.Lists.{length-below}

module _ {A : Type 0} where
  map-from-at : (f : ℕ → A) (n a i : ℕ) (d : A) → i < n → get_or (map f (from a n)) i d ≡ f (a + i)
  unfolding from
  map-from-at f zero a i d h = absurd (not-suc-le-zero h)
  map-from-at f (suc n) a zero d h = ap f (sym (add-zero a))
  map-from-at f (suc n) a (suc i) d h = map-from-at f n (suc a) i d (le_of_suc-le-suc h) ∙ ap f (omega arith)

  -- what stands at a place
  pub map-below-at : (f : ℕ → A) (n i : ℕ) (d : A) → i < n → get_or (map f (below n)) i d ≡ f i
  unfolding below
  map-below-at f n i d h = map-from-at f n 0 i d h ∙ ap f (zero-add i)

  -- how many there are
  pub map-below-length : (f : ℕ → A) (n : ℕ) → length (map f (below n)) ≡ n
  map-below-length f n = length-map (below n) f ∙ length-below n

  -- functions that agree below n give the same list
  pub map-below-cong : (f g : ℕ → A) (n : ℕ) (d : A) → ((q : ℕ) → q < n → f q ≡ g q) → map f (below n) ≡ map g (below n)
  map-below-cong f g n d h =
      ext_get_or d (map f (below n)) (map g (below n)) (map-below-length f n ∙ sym (map-below-length g n))
      (λ q l. let k : q < n = rw map-below-length at l in map-below-at f n q d k ∙ h q k ∙ sym (map-below-at g n q d k))

  -- a list of n members is told by its places
  pub map-below-of : (f : ℕ → A) (n : ℕ) (d : A) (xs : List A) → length xs ≡ n → ((q : ℕ) → q < n → get_or xs q d ≡ f q) → xs ≡ map f (below n)
  map-below-of f n d xs e h =
      ext_get_or d xs (map f (below n)) (e ∙ sym (map-below-length f n))
      (λ q l. let k : q < n = rw e at l in h q k ∙ sym (map-below-at f n q d k))
