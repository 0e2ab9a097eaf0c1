-- Codes compared site by site: one bit of each decides where they differ, and the rest where they do not. All X bits go before the Z bits.
use Rattle.std.specs.declared.cmp.Ordering.{Ordering}
use Rattle.std.specs.declared.cmp.Ordering.TheVariants.{Less, Equal, Greater}
use Prim.Native.Nat.{ℕ, suc, ◌+◌, ◌%◌, ◌≤◌, ◌<◌}
use mathlib.Core.Path.{◌≡◌, refl, sym, ap, ap₂, ◌∙◌}
use mathlib.Core.Logic.{◌⊎◌, inl, inr}
use mathlib.Core.Bool.{Bool, true, false}
use mathlib.Core.List.{List, [], ◌∷◌, map}
use native.Mathlib.Numerals.{add-one}
use native.Mathlib.Omega.{arith}
use lib.Dec.{eqb}
use lib.ListN.{length, get_or, drop, length-map, drop_of_length-le}
use lib.Seq.{drop-cons}
use Rattle.pauli_word.specs.Word.{Word, x_bit, z_bit, bits, less_bits, less}
use Rattle.pauli_word.specs.Bytes.{odd}
use Rattle.pauli_word.specs.Calls.{order_of_bits, order_of_words}
use Rattle.pauli_word.proofs.Bits.{odd_cases}
use Rattle.pauli_word.proofs.WordOrder.{or_else_by, order_append}
use Rattle.elements.specs.Letters.{codes}
use Rattle.elements.proofs.Codes.{x_of, z_of, codes_x, codes_z, codes-length}

-- a bit's two cases
odd_one : (x : ℕ) → x % 2 ≡ 1 → odd x ≡ true
odd_one x e = go (odd_cases x)
  where
    go : ((x % 2 ≡ 0) × (odd x ≡ false)) ⊎ ((x % 2 ≡ 1) × (odd x ≡ true)) → odd x ≡ true
    go (inl h) = absurd (omega arith)
    go (inr h) = h.1

odd-zero : (x : ℕ) → x % 2 ≡ 0 → odd x ≡ false
odd-zero x e = go (odd_cases x)
  where
    go : ((x % 2 ≡ 0) × (odd x ≡ false)) ⊎ ((x % 2 ≡ 1) × (odd x ≡ true)) → odd x ≡ false
    go (inl h) = h.1
    go (inr h) = absurd (omega arith)

-- the same first bit does not decide
order_behind : (b : Bool) (xs ys : List Bool) → order_of_bits (b ∷ xs) (b ∷ ys) ≡ order_of_bits xs ys
unfolding order_of_bits less_bits
order_behind false xs ys = refl
order_behind true xs ys = refl

-- where one list ends, nothing is left to differ
nil_order : (ys : List Bool) → order_of_bits [] ys ≡ Equal
unfolding order_of_bits less_bits
nil_order [] = refl
nil_order (y ∷ ys) = refl

-- one bit of each code, from site q on
module _ (d : ℕ → ℕ) (a b : List ℕ) (q : ℕ) where
  cut : (l : List ℕ) → q < length l → map (λ c. odd (d c)) (drop q l) ≡ odd (d (get_or l q 0)) ∷ map (λ c. odd (d c)) (drop (suc q) l)
  cut l h = ap (map (λ c. odd (d c))) (drop-cons l q 0 h)

  module _ (la : q < length a) (lb : q < length b) where
    -- both cut at once
    first : order_of_bits (map (λ c. odd (d c)) (drop q a)) (map (λ c. odd (d c)) (drop q b))
        ≡ order_of_bits (odd (d (get_or a q 0)) ∷ map (λ c. odd (d c)) (drop (suc q) a)) (odd (d (get_or b q 0)) ∷ map (λ c. odd (d c)) (drop (suc q) b))
    first = ap₂ order_of_bits (cut a la) (cut b lb)

    -- a lesser bit decides
    pub site-less : d (get_or a q 0) % 2 < d (get_or b q 0) % 2
        → order_of_bits (map (λ c. odd (d c)) (drop q a)) (map (λ c. odd (d c)) (drop q b)) ≡ Less
    unfolding order_of_bits less_bits
    site-less h = first ∙ rw (odd-zero (d (get_or a q 0)) (omega arith), odd_one (d (get_or b q 0)) (omega arith))

    -- a greater one too
    pub site-greater : d (get_or b q 0) % 2 < d (get_or a q 0) % 2
        → order_of_bits (map (λ c. odd (d c)) (drop q a)) (map (λ c. odd (d c)) (drop q b)) ≡ Greater
    unfolding order_of_bits less_bits
    site-greater h = first ∙ rw (odd_one (d (get_or a q 0)) (omega arith), odd-zero (d (get_or b q 0)) (omega arith))

    -- where they tie, the next sites decide
    pub site-same : d (get_or b q 0) % 2 ≤ d (get_or a q 0) % 2 → d (get_or a q 0) % 2 ≤ d (get_or b q 0) % 2
        → order_of_bits (map (λ c. odd (d c)) (drop q a)) (map (λ c. odd (d c)) (drop q b))
        ≡ order_of_bits (map (λ c. odd (d c)) (drop (q + 1) a)) (map (λ c. odd (d c)) (drop (q + 1) b))
    site-same h k =
        let e : d (get_or a q 0) % 2 ≡ d (get_or b q 0) % 2 = omega arith in
        let xs : List Bool = map (λ c. odd (d c)) (drop (suc q) a) in
        let ys : List Bool = map (λ c. odd (d c)) (drop (suc q) b) in
        first
        ∙ ap (λ (r : ℕ). order_of_bits (eqb r 1 ∷ xs) (odd (d (get_or b q 0)) ∷ ys)) e
        ∙ order_behind (odd (d (get_or b q 0))) xs ys
        ∙ ap (λ (j : ℕ). order_of_bits (map (λ c. odd (d c)) (drop j a)) (map (λ c. odd (d c)) (drop j b))) (sym (add-one q))

  -- past the last site nothing differs
  pub sites-end : length a ≤ q → order_of_bits (map (λ c. odd (d c)) (drop q a)) (map (λ c. odd (d c)) (drop q b)) ≡ Equal
  sites-end h =
      ap (λ (l : List ℕ). order_of_bits (map (λ c. odd (d c)) l) (map (λ c. odd (d c)) (drop q b))) (drop_of_length-le a h)
      ∙ nil_order (map (λ c. odd (d c)) (drop q b))

-- the X bits and then the Z bits of two words of one length
pub order_codes : (v w : Word) → length v ≡ length w
    → or_else_by (order_of_bits (map x_of (codes v)) (map x_of (codes w))) (order_of_bits (map z_of (codes v)) (map z_of (codes w))) ≡ order_of_words v w
unfolding order_of_bits order_of_words less bits
order_codes v w l =
    ap₂ or_else_by (ap₂ order_of_bits (codes_x v) (codes_x w)) (ap₂ order_of_bits (codes_z v) (codes_z w))
    ∙ sym (order_append (map x_bit v) (map x_bit w) (map z_bit v) (map z_bit w) (length-map v x_bit ∙ l ∙ sym (length-map w x_bit)))

-- what comes of comparing the X bits and then the Z bits is how the words stand
pub compared :
    {a b : List ℕ} {o : Ordering} → length a ≡ length b → o ≡ or_else_by (order_of_bits (map x_of a) (map x_of b)) (order_of_bits (map z_of a) (map z_of b))
    → (v w : Word) → a ≡ codes v → b ≡ codes w → o ≡ order_of_words v w
compared l e v w ea eb =
    e
    ∙ ap₂ (λ (x y : List ℕ). or_else_by (order_of_bits (map x_of x) (map x_of y)) (order_of_bits (map z_of x) (map z_of y))) ea eb
    ∙ order_codes v w (sym (ap length ea ∙ codes-length v) ∙ l ∙ ap length eb ∙ codes-length w)
