-- Words of one length as keys: their order is strict and total, `same` is equality, and the word of I alone is the least.
-- The fact that carries it: of words of one length, one is less or the two are equal (`less-total` of pauli_word).
use Prim.Native.Nat.{ℕ, zero, suc, ◌+◌}
use mathlib.Core.Path.{◌≡◌, refl, sym, ◌∙◌, ap, ap₂}
use mathlib.Core.Logic.{◌⊎◌, inl, inr}
use mathlib.Core.Bool.{Bool, true, false, false≢true}
use mathlib.Core.List.{List, [], ◌∷◌, ◌++◌}
use lib.ListN.{length, replicate, length-replicate, replicate-append-replicate}
use Rattle.pauli_word.specs.Word.{I, Word, x_bit, z_bit, bits, same, less_bits, less}
use Rattle.pauli_word.proofs.WordOrder.{less_irrefl, less_trans, less-total, same_refl, same_eq}
use Rattle.keyed.specs.Keyed.{Orders, Equality}
use Rattle.keyed.proofs.Rising.{neither_less}
use Rattle.keyed.proofs.Tables.{map-replicate}

-- words of one length are keys
pub word_orders : (n : ℕ) → Orders (λ w. length w ≡ n) less
word_orders n = record {
  irrefl = less_irrefl;
  trans = less_trans;
  total = λ v w lv lw. neither_less less v w (less-total v w (lv ∙ sym lw));
}

-- the test of equality is one
pub word_equality : Equality same
word_equality = record { reflexive = same_refl; equal = same_eq }

-- ---- no word is less than the word of I alone

zeros-least : (xs : List Bool) (n : ℕ) → less_bits xs (replicate n false) ≡ false
unfolding less_bits
zeros-least [] n = refl
zeros-least (x ∷ xs) zero = refl
zeros-least (false ∷ xs) (suc n) = zeros-least xs n
zeros-least (true ∷ xs) (suc n) = refl

bits-blank : (n : ℕ) → bits (replicate n I) ≡ replicate (n + n) false
unfolding bits
bits-blank n = ap₂ ◌++◌ (map-replicate x_bit n I) (map-replicate z_bit n I) ∙ replicate-append-replicate n n false

-- the word of I alone is the least
pub blank-least : (n : ℕ) (w : Word) → less w (replicate n I) ≡ false
unfolding less
blank-least n w = ap (less_bits (bits w)) (bits-blank n) ∙ zeros-least (bits w) (n + n)

-- and it is less than every word that is not the least
pub blank-less : (n : ℕ) (v w : Word) → length w ≡ n → less v w ≡ true → less (replicate n I) w ≡ true
blank-less n v w long h = go (less-total (replicate n I) w (length-replicate n I ∙ sym long))
  where
    go : (less (replicate n I) w ≡ true) ⊎ ((replicate n I ≡ w) ⊎ (less w (replicate n I) ≡ true)) → less (replicate n I) w ≡ true
    go (inl e) = e
    go (inr (inl e)) = absurd (false≢true (sym (blank-least n v) ∙ ap (less v) e ∙ h))
    go (inr (inr e)) = absurd (false≢true (sym (blank-least n w) ∙ e))
