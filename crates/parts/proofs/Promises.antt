-- For a reader: a group in two parts that move no common site. Its least words, smallest indices, numbers of fixing indices and sectors are those of the parts
-- put together. `joined s i j` is the index of the whole that has the digits of i at the generators of the first part and those of j at the others.
use Prim.Native.Nat.{ℕ, ◌*◌, ◌<◌, min}
use mathlib.Core.Path.{◌≡◌, refl, sym, ◌∙◌, ap, ap₂}
use mathlib.Core.Logic.{◌⊎◌, inl, inr, ⊎_elim}
use mathlib.Core.Bool.{Bool, true, false, ◌&&◌, ◌||◌, not, true≢false, false≢true}
use mathlib.Core.List.{List, [], ◌∷◌}
use borrow.Author.Tests.{eqb-true, eq-eqb, ne_eqb}
use lib.Dec.{eqb}
use lib.IntN.{ℤ}
use lib.ListN.{length}
use Rattle.pauli_word.specs.Word.{Word}
use Rattle.action.specs.Lists.{Member}
use Rattle.action.specs.Permutation.{Generator, target, Valid}
use Rattle.action.specs.Index.{inverse}
use Rattle.action.specs.Orbit.{least, forward, index_back, fixes, fixing, orbit_size}
use Rattle.action.specs.Sector.{keeps, dropped_by}
use Rattle.action.proofs.Index.{valid_positive}
use Rattle.parts.specs.Parts.{Interleaved, joined, of_first, of_second, Independent, moved, mixed}
use Rattle.parts.proofs.Joined.{inverse-joined}
use Rattle.parts.proofs.Independent.{Leaves, least-mixed, forward-joined, fixes-joined}
use Rattle.parts.proofs.Sectors.{fixing-joined, size-joined, keeps-joined, dropped-first, dropped-second, dropped-both}

-- some generator moves a site that is moved
moved-some : (hs : List Generator) (q : ℕ) → moved hs q ≡ true → (h : Generator) × Member h hs × (target h.perm q ≡ q → ⊥)
unfolding moved
moved-some [] q t = absurd (false≢true t)
moved-some (h ∷ hs) q t = go (eqb (target h.perm q) q) refl t (moved-some hs q)
  where
    go : (b : Bool) → eqb (target h.perm q) q ≡ b → (not b || moved hs q) ≡ true → (moved hs q ≡ true → (f : Generator) × Member f hs × (target f.perm q ≡ q → ⊥))
        → (f : Generator) × Member f (h ∷ hs) × (target f.perm q ≡ q → ⊥)
    go true e t rest = let (f, m, n) = rest t in (f, inr m, n)
    go false e t rest = (h, inl refl, λ s. true≢false (sym (eq-eqb (target h.perm q) q s) ∙ e))

-- a site that is not moved is left by each
moved_none : (hs : List Generator) (q : ℕ) → moved hs q ≡ false → (h : Generator) → Member h hs → target h.perm q ≡ q
unfolding moved
moved_none [] q t h m = absurd m
moved_none (f ∷ hs) q t h m = go (eqb (target f.perm q) q) refl t m (moved_none hs q)
  where
    go : (b : Bool) → eqb (target f.perm q) q ≡ b → (not b || moved hs q) ≡ false → Member h (f ∷ hs)
        → (moved hs q ≡ false → (h : Generator) → Member h hs → target h.perm q ≡ q) → target h.perm q ≡ q
    go true e t (inl s) rest = rw s (eqb-true (target f.perm q) q e)
    go true e t (inr k) rest = rest t h k
    go false e t m rest = absurd (true≢false t)

module _ {n : ℕ} {gs fs hs : List Generator} (s : Interleaved gs fs hs) (v : Valid n gs) (i : Independent n fs hs) where
  first-leaves : Leaves n (moved hs) fs
  first-leaves f m q h t = let (x, k, n) = moved-some hs q t in ⊎_elim (λ e. e) (λ e. absurd (n e)) (i f x m k q h)

  second-leaves : Leaves n (λ q. not (moved hs q)) hs
  second-leaves f m q h t = moved_none hs q (flipped (moved hs q) t) f m
    where
      flipped : (b : Bool) → not b ≡ true → b ≡ false
      flipped true e = absurd (false≢true e)
      flipped false e = refl

  module _ (w : Word) (long : length w ≡ n) where
    -- the least word has the second part's least letters at the sites that it moves, and the first part's at all others
    pub parts-least : least gs w ≡ mixed n (moved hs) (least fs w) (least hs w)
    parts-least = least-mixed s v (moved hs) first-leaves second-leaves w long

    -- the smallest index that reaches it, and the index that leads back
    pub parts-forward : forward gs w ≡ joined s (forward fs w) (forward hs w)
    parts-forward = forward-joined s v (moved hs) first-leaves second-leaves w long

    pub parts-back : index_back gs w ≡ joined s (index_back fs w) (index_back hs w)
    unfolding index_back
    parts-back = ap (inverse gs) parts-forward ∙ inverse-joined s (valid_positive v) (forward fs w) (forward hs w)

    -- an index fixes the word exactly if each of its parts does; their numbers multiply, and so do the sizes of the orbits
    pub parts-fixes : (i j : ℕ) → fixes gs w (joined s i j) ≡ (fixes fs w i && fixes hs w j)
    parts-fixes = fixes-joined s v (moved hs) first-leaves second-leaves w long

    pub parts-fixing : length (fixing gs w) ≡ length (fixing fs w) * length (fixing hs w)
    parts-fixing = fixing-joined s v (moved hs) first-leaves second-leaves w long

    pub parts-size : orbit_size gs w ≡ orbit_size fs w * orbit_size hs w
    parts-size = size-joined s v (moved hs) first-leaves second-leaves w long

    -- modes keep the word exactly if the modes of each part do; else it is dropped by what drops it in the one part, in the other, or by the smaller of both
    module _ (ks : List ℤ) (e : length ks ≡ length gs) where
      pub parts-keep : keeps gs ks w ≡ (keeps fs (of_first s ks) w && keeps hs (of_second s ks) w)
      parts-keep = keeps-joined s v (moved hs) first-leaves second-leaves w long ks e

      pub first-drops : keeps fs (of_first s ks) w ≡ false → keeps hs (of_second s ks) w ≡ true → dropped_by gs ks w ≡ joined s (dropped_by fs (of_first s ks) w) 0
      first-drops = dropped-first s v (moved hs) first-leaves second-leaves w long ks e

      pub second-drops : keeps fs (of_first s ks) w ≡ true → keeps hs (of_second s ks) w ≡ false → dropped_by gs ks w ≡ joined s 0 (dropped_by hs (of_second s ks) w)
      second-drops = dropped-second s v (moved hs) first-leaves second-leaves w long ks e

      pub both-drop : keeps fs (of_first s ks) w ≡ false → keeps hs (of_second s ks) w ≡ false
          → dropped_by gs ks w ≡ min (joined s (dropped_by fs (of_first s ks) w) 0) (joined s 0 (dropped_by hs (of_second s ks) w))
      both-drop = dropped-both s v (moved hs) first-leaves second-leaves w long ks e
