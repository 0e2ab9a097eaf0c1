-- Rows of one word: two of them give what one row with their sum gives, wherever they stand.
-- The fact that carries it: a product over a sum is the sum of the products (`product-of-sum`), so the two contents are one (`table-joined`).
use Prim.Native.Nat.{ℕ}
use mathlib.Core.Path.{◌≡◌, refl, sym, ◌∙◌, ap, ap₂}
use mathlib.Core.Bool.{Bool, true, false}
use mathlib.Core.List.{List, ◌∷◌, ◌++◌, map}
use lib.IntN.{ℤ, pos, ◌+ℤ◌, ◌*ℤ◌, +ℤ_assoc}
use lib.ListN.{length, get_or}
use Rattle.pauli_word.specs.Word.{Word}
use Rattle.pauli_word.proofs.Words.{map-append}
use Rattle.action.specs.Lists.{Member}
use Rattle.action.specs.Permutation.{Generator, Valid}
use Rattle.action.specs.Orbit.{least}
use Rattle.action.specs.Sector.{keeps}
use Rattle.keyed.specs.Keyed.{table_of}
use Rattle.keyed.proofs.Folds.{select-append}
use Rattle.keyed.proofs.Commuting.{table-joined}
use Rattle.keyed.proofs.WordKeys.{word_orders}
use Rattle.projection.specs.Projection.{Parts, add_parts, entry_of, turned, kept_rows, turned_row, part_sums, projected}
use Rattle.projection.proofs.Integers.{sum_exchange, product-of-sum}
use Rattle.projection.proofs.Projected.{input-long}

-- ---- parts

parts_commute : (s c d : Parts) → add_parts (add_parts s c) d ≡ add_parts (add_parts s d) c
parts_commute s c d = ap₂ (λ (x y : ℤ). (x, y)) (sum_exchange s.0 c.0 d.0) (sum_exchange s.1 c.1 d.1)

sum-joined : (s a b c : ℤ) → s +ℤ a *ℤ c +ℤ b *ℤ c ≡ s +ℤ (a +ℤ b) *ℤ c
sum-joined s a b c = +ℤ_assoc s (a *ℤ c) (b *ℤ c) ∙ ap (λ (x : ℤ). s +ℤ x) (sym (product-of-sum b c a))

module _ (cosines sines : List ℤ) where
  turned-joined : (e : ℕ) (a b : ℤ) (s : Parts)
      → add_parts (add_parts s (turned cosines sines e a)) (turned cosines sines e b) ≡ add_parts s (turned cosines sines e (a +ℤ b))
  unfolding turned
  turned-joined e a b s =
      ap₂ (λ (x y : ℤ). (x, y)) (sum-joined s.0 a b (get_or cosines e (pos 0))) (sum-joined s.1 a b (get_or sines e (pos 0)))

  module _ (gs : List Generator) (ks : List ℤ) where
    abbrev row_of : Word × ℤ → Word × Parts
    row_of = turned_row cosines sines gs ks

    -- the rows that the table folds
    made : List (Word × ℤ) → List (Word × Parts)
    made rows = map row_of (kept_rows gs ks rows)

    made-append : (xs ys : List (Word × ℤ)) → made (xs ++ ys) ≡ made xs ++ made ys
    unfolding made kept_rows
    made-append xs ys =
        ap (map row_of) (select-append (λ row. keeps gs ks row.0) xs ys) ∙ map-append row_of (kept_rows gs ks xs) (kept_rows gs ks ys)

    module _ (row : Word × ℤ) (rows : List (Word × ℤ)) where
      made_kept : keeps gs ks row.0 ≡ true → made (row ∷ rows) ≡ row_of row ∷ made rows
      unfolding made kept_rows
      made_kept e = rw e refl

      made-dropped : keeps gs ks row.0 ≡ false → made (row ∷ rows) ≡ made rows
      unfolding made kept_rows
      made-dropped e = rw e refl

    module _ {n : ℕ} (valid : Valid n gs) (w : Word) (a b : ℤ) (xs ys zs : List (Word × ℤ)) where
      abbrev parted : List (Word × ℤ)
      parted = xs ++ ((w, a) ∷ (ys ++ ((w, b) ∷ zs)))

      abbrev joined : List (Word × ℤ)
      joined = xs ++ ((w, a +ℤ b) ∷ (ys ++ zs))

      module _ (long : (row : Word × ℤ) → Member row parted → length row.0 ≡ n) where
        made-joined : (t : Bool) → keeps gs ks w ≡ t → table_of part_sums (made parted) ≡ table_of part_sums (made joined)
        unfolding made turned_row
        made-joined true kept =
            let both : made parted ≡ made xs ++ (row_of (w, a) ∷ (made ys ++ (row_of (w, b) ∷ made zs))) = simp (made-append, made_kept) in
            let one : made joined ≡ made xs ++ (row_of (w, a +ℤ b) ∷ (made ys ++ made zs)) = simp (made-append, made_kept) in
            ap (table_of part_sums) both
            ∙ table-joined part_sums (word_orders n) parts_commute (least gs w) (row_of (w, a)).1 (row_of (w, b)).1 (row_of (w, a +ℤ b)).1
            (turned-joined (entry_of gs ks w) a b) (made xs) (made ys) (made zs)
            (λ v m. input-long cosines sines gs ks parted valid long v (rw both m))
            ∙ ap (table_of part_sums) (sym one)
        made-joined false dropped = simp (made-append, made-dropped)

        -- two rows of one word may be one row with their sum
        pub one_word : projected cosines sines gs ks parted ≡ projected cosines sines gs ks joined
        unfolding projected made
        one_word = made-joined (keeps gs ks w) refl
