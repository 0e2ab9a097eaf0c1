-- A list written place by place: what stands in its first i places is told by the place.
use Prim.Native.Nat.{ℕ, ◌+◌, ◌≤◌, ◌<◌}
use mathlib.Core.Path.{◌≡◌, refl, sym, ap, ap₂, ◌∙◌}
use mathlib.Core.List.{List, [], ◌∷◌, ◌++◌, map}
use native.Mathlib.Numerals.{add-one}
use native.Mathlib.Omega.{arith}
use lib.ListN.{length, take, set, length-set}
use lib.Seq.{take-suc-set, take_all}
use Rattle.pauli_word.proofs.Words.{map-append}
use Rattle.action.specs.Lists.{from, below}
use Rattle.elements.proofs.Orbits.{below_next}

-- the list is as long as it was, and its first i places hold what f gives
pub record Filled {A : Type 0} (f : ℕ → A) (was list : List A) (i : ℕ) : Type 0 where
  pub long : length list ≡ length was
  pub front : take i list ≡ map f (below i)

module _ {A : Type 0} (f : ℕ → A) (was : List A) where
  -- no place is written
  pub filled-start : Filled f was was 0
  unfolding below from
  filled-start = record { long = refl; front = refl }

  -- one place more
  pub filled_next : {list : List A} {i : ℕ} {x : A} → Filled f was list i → i < length list → x ≡ f i → Filled f was (set list i x) (i + 1)
  filled_next {list} {i} {x} filled h e =
      record {
        long = length-set list i x ∙ filled.long;
        front =
            ap (λ (j : ℕ). take j (set list i x)) (add-one i)
            ∙ take-suc-set list i x h
            ∙ ap₂ (λ (xs : List A) (y : A). xs ++ (y ∷ [])) filled.front e
            ∙ sym (ap (map f) (below_next i) ∙ map-append f (below i) (i ∷ []));
      }

  -- all places are written
  pub filled-end : {list : List A} {i : ℕ} → Filled f was list i → length list ≤ i → i ≤ length list → list ≡ map f (below (length was))
  filled-end {list} {i} filled h k =
      let last : i ≡ length was = omega (arith, filled.long) in
      sym (take_all i list h) ∙ filled.front ∙ ap (λ (j : ℕ). map f (below j)) last
