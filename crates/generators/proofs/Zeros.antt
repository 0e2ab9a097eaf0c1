-- Lists whose members are all 0, and lists whose members are put together from the front, bit by bit.
-- What carries it: numbers put together by `or` are 0 exactly if each is.
use Prim.Native.Nat.{ℕ, zero, suc, ◌+◌, ◌-◌, ◌≤◌, ◌<◌}
use mathlib.Core.Path.{◌≡◌, refl, sym, ap, ap₂, ◌∙◌}
use mathlib.Core.Bool.{true, ◌&&◌, and-eq-true_iff, and_assoc, and-true}
use mathlib.Core.List.{List, [], ◌∷◌}
use native.Mathlib.Nat.{sub-zero, zero-sub, suc-sub-suc}
use native.Mathlib.Numerals.{add-one}
use lib.Bits.{bit_or}
use lib.Dec.{eqb}
use lib.ListN.{length, get_or, drop, replicate, drop_of_length-le}
use lib.Seq.{drop-cons}
use borrow.Author.Tests.{eqb-true}
use Rattle.pauli_word.proofs.Bits.{or_none}
use Rattle.action.specs.Lists.{every}
use Rattle.generators.specs.Tables.{zeros}

-- k zeros
abbrev pub blank : ℕ → List ℕ
blank k = replicate k 0

pub drop-blank : (n m : ℕ) → drop n (blank m) ≡ blank (m - n)
drop-blank zero m = ap blank (sym (sub-zero m))
drop-blank (suc n) zero = ap blank (sym (zero-sub (suc n)))
drop-blank (suc n) (suc m) = drop-blank n m ∙ ap blank (sym (suc-sub-suc m n))

pub zeros-blank : (k : ℕ) → zeros (blank k) ≡ true
unfolding every
zeros-blank zero = refl
zeros-blank (suc k) = zeros-blank k

pub blank-zeros : (xs : List ℕ) → zeros xs ≡ true → xs ≡ blank (length xs)
unfolding every
blank-zeros [] e = refl
blank-zeros (x ∷ xs) e =
    let (first, rest) = (and-eq-true_iff (eqb x 0) (zeros xs)).0 e in
    ap₂ (λ (y : ℕ) (ys : List ℕ). y ∷ ys) (eqb-true x 0 first) (blank-zeros xs rest)

-- ---- numbers put together by `or`, from the front on

module _ (xs : List ℕ) (i : ℕ) (any : ℕ) where
  -- those up to place i, put together, and those from there on
  pub zeros-more : i < length xs → (eqb any 0 && zeros (drop i xs)) ≡ (eqb (bit_or any (get_or xs i 0)) 0 && zeros (drop (i + 1) xs))
  unfolding every
  zeros-more more =
      rw (drop-cons xs i 0 more, or_none any (get_or xs i 0), add-one)
      (sym (and_assoc (eqb any 0) (eqb (get_or xs i 0) 0) (zeros (drop (suc i) xs))))

  pub zeros-none : length xs ≤ i → (eqb any 0 && zeros (drop i xs)) ≡ eqb any 0
  unfolding every
  zeros-none h = rw (drop_of_length-le xs h) (and-true (eqb any 0))
