-- Products of whole numbers over sums, which the library's integers lack, and summands exchanged.
-- The fact that carries it: one more in the first factor adds the second factor once (`sucℤ-*ℤ` of the library).
use Prim.Native.Nat.{zero, suc}
use mathlib.Core.Path.{◌≡◌, sym, ◌∙◌, ap}
use lib.IntN.{ℤ, pos, negsuc, suc_ℤ, pred_ℤ, neg_ℤ, ◌+ℤ◌, ◌*ℤ◌, +ℤ_idl, +ℤ_assoc, +ℤ_comm, suc_ℤ-+ℤ, pred_ℤ-+ℤ, zero-*ℤ, suc_ℤ-*ℤ, pred_ℤ-*ℤ}

-- the last two of three summands may change places
pub sum_exchange : (a b c : ℤ) → a +ℤ b +ℤ c ≡ a +ℤ c +ℤ b
sum_exchange a b c = +ℤ_assoc a b c ∙ ap (λ (x : ℤ). a +ℤ x) (+ℤ_comm b c) ∙ sym (+ℤ_assoc a c b)

module _ (b c : ℤ) where
  -- the products of a with c and of a + b with c differ by the product of b with c
  abbrev Spread : ℤ → Type 0
  Spread a = (a +ℤ b) *ℤ c ≡ a *ℤ c +ℤ b *ℤ c

  spread-up : (a : ℤ) → Spread a → Spread (suc_ℤ a)
  spread-up a e =
      ap (λ (x : ℤ). x *ℤ c) (suc_ℤ-+ℤ a b)
      ∙ suc_ℤ-*ℤ (a +ℤ b) c
      ∙ ap (λ (x : ℤ). x +ℤ c) e
      ∙ sum_exchange (a *ℤ c) (b *ℤ c) c
      ∙ ap (λ (x : ℤ). x +ℤ b *ℤ c) (sym (suc_ℤ-*ℤ a c))

  spread-down : (a : ℤ) → Spread a → Spread (pred_ℤ a)
  spread-down a e =
      ap (λ (x : ℤ). x *ℤ c) (pred_ℤ-+ℤ a b)
      ∙ pred_ℤ-*ℤ (a +ℤ b) c
      ∙ ap (λ (x : ℤ). x +ℤ neg_ℤ c) e
      ∙ sum_exchange (a *ℤ c) (b *ℤ c) (neg_ℤ c)
      ∙ ap (λ (x : ℤ). x +ℤ b *ℤ c) (sym (pred_ℤ-*ℤ a c))

  spread-zero : Spread (pos 0)
  spread-zero = ap (λ (x : ℤ). x *ℤ c) (+ℤ_idl b) ∙ sym (+ℤ_idl (b *ℤ c)) ∙ ap (λ (x : ℤ). x +ℤ b *ℤ c) (sym (zero-*ℤ c))

  -- the product of a sum is the sum of the products
  pub product-of-sum : (a : ℤ) → (a +ℤ b) *ℤ c ≡ a *ℤ c +ℤ b *ℤ c
  product-of-sum (pos zero) = spread-zero
  product-of-sum (pos (suc n)) = spread-up (pos n) (product-of-sum (pos n))
  product-of-sum (negsuc zero) = spread-down (pos 0) spread-zero
  product-of-sum (negsuc (suc n)) = spread-down (negsuc n) (product-of-sum (negsuc n))
