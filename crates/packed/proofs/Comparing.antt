-- How planes of machine words compare: two machine words differ first at the lowest bit of their exclusive or, planes at their first machine
-- word that differs, and what is found so is the order of the words that the planes hold.
use Rattle.std.specs.declared.cmp.Ordering.{Ordering}
use Rattle.std.specs.declared.cmp.Ordering.TheVariants.{Less, Equal, Greater}
use Prim.Native.Nat.{ℕ, zero, suc, ◌+◌, ◌-◌, ◌*◌, ◌/◌, ◌%◌, ◌^◌, ◌<◌, ◌≤◌}
use mathlib.Core.Path.{◌≡◌, refl, sym, ap, ◌∙◌}
use mathlib.Core.Logic.{⊎_elim}
use mathlib.Core.Bool.{Bool, true, false, not, xor, false≢true}
use mathlib.Core.List.{List, [], ◌∷◌, map}
use native.Mathlib.Nat.{le_of_suc-le-suc, not-suc-le-zero, div-one, pow-succ', div-div-eq-div-mul}
use native.Mathlib.Decide.{dec_le}
use native.Mathlib.Omega.{arith}
use lib.Dec.{eqb}
use lib.Bits.{bit_xor}
use lib.Count.{count_trailing_zeros, under}
use lib.ListN.{length, get_or}
use lib.Seq.{ext_get_or}
use Rattle.pauli_word.specs.Word.{bits, less_bits, less}
use Rattle.pauli_word.specs.Bytes.{low_bits, number}
use Rattle.pauli_word.specs.Calls.{order_of_bits, order_of_words}
use Rattle.pauli_word.proofs.Bits.{odd_cases, low_bits_length, low_bits_at, number_low_bits}
use Rattle.pauli_word.proofs.WordOrder.{or_else_by, order_refl, order_append}
use Rattle.action.specs.Lists.{below}
use Rattle.action.proofs.Below.{map-below-at, map-below-length, map-below-cong}
use Rattle.packed.specs.Packed.{word_bits, bit_at, bit_of, letters_by, LessAt, Compared}
use Rattle.packed.proofs.Packing.{x_bits_letters_by, z_bits_letters_by, bit-zero, bit_of_word}
use Rattle.packed.proofs.Shifts.{bit_xor_lem}

-- ---- the exclusive or of two bits

-- where it is false they are the same
xor_same : (a b : Bool) → xor a b ≡ false → a ≡ b
unfolding xor
xor_same false false e = refl
xor_same false true e = absurd (false≢true (sym e))
xor_same true false e = absurd (false≢true (sym e))
xor_same true true e = refl

-- where it is true each is the other's opposite
xor_apart : (a b : Bool) → xor a b ≡ true → b ≡ not a
unfolding xor
xor_apart false false e = absurd (false≢true e)
xor_apart false true e = refl
xor_apart true false e = refl
xor_apart true true e = absurd (false≢true e)

-- ---- the lowest bit of a number

half_digit : (x q : ℕ) → x / 2 ^ suc q % 2 ≡ x / 2 / 2 ^ q % 2
half_digit x q = ap (λ (y : ℕ). y % 2) (ap (λ (p : ℕ). x / p) (pow-succ' 2 q) ∙ sym (div-div-eq-div-mul x 2 (2 ^ q)))

-- below it every digit is 0
pub trailing_low : (w x p : ℕ) → p < count_trailing_zeros w x → x / 2 ^ p % 2 ≡ 0
unfolding count_trailing_zeros
trailing_low zero x p h = absurd (not-suc-le-zero h)
trailing_low (suc w) x p h = go (trailing_low w (x / 2)) (x % 2) refl p h
  where
    go : ((p : ℕ) → p < count_trailing_zeros w (x / 2) → x / 2 / 2 ^ p % 2 ≡ 0) → (r : ℕ) → x % 2 ≡ r → (p : ℕ) → p < under r (count_trailing_zeros w (x / 2)) → x / 2 ^ p % 2 ≡ 0
    go rest zero e zero l = ap (λ (y : ℕ). y % 2) (div-one x) ∙ e
    go rest zero e (suc p) l = half_digit x p ∙ rest p (le_of_suc-le-suc l)
    go rest (suc r) e p l = absurd (not-suc-le-zero l)

-- a number of w digits other than 0 has one, and it is 1
pub trailing_one : (w x : ℕ) → (x ≡ 0 → ⊥) → x < 2 ^ w → (count_trailing_zeros w x < w) × (x / 2 ^ count_trailing_zeros w x % 2 ≡ 1)
unfolding count_trailing_zeros
trailing_one zero x n h = absurd (n (omega arith))
trailing_one (suc w) x n h = go (λ m. trailing_one w (x / 2) m (omega arith)) (x % 2) refl
  where
    go : ((x / 2 ≡ 0 → ⊥) → (count_trailing_zeros w (x / 2) < w) × (x / 2 / 2 ^ count_trailing_zeros w (x / 2) % 2 ≡ 1)) → (r : ℕ) → x % 2 ≡ r
        → (under r (count_trailing_zeros w (x / 2)) < suc w) × (x / 2 ^ under r (count_trailing_zeros w (x / 2)) % 2 ≡ 1)
    go rest zero e = let t = rest (λ z. n (omega arith)) in (omega arith, half_digit x (count_trailing_zeros w (x / 2)) ∙ t.1)
    go rest (suc r) e = (omega arith, ap (λ (y : ℕ). y % 2) (div-one x) ∙ omega arith)

-- ---- two machine words

module _ (x y : ℕ) where
  -- without a difference they have the same bits
  pub words_same : bit_xor x y ≡ 0 → Compared Equal word_bits (bit_at x) (bit_at y)
  words_same e q h = xor_same (bit_at x q) (bit_at y q) (sym (bit_xor_lem x y q) ∙ ap (λ (d : ℕ). bit_at d q) e ∙ bit-zero q)

  module _ (some : bit_xor x y ≡ 0 → ⊥) (small : bit_xor x y < 2 ^ word_bits) where
    abbrev first : ℕ
    first = count_trailing_zeros word_bits (bit_xor x y)

    -- the place of the first difference
    pub first_below : first < word_bits
    first_below = (trailing_one word_bits (bit_xor x y) some small).0

    before : (p : ℕ) → p < first → bit_at x p ≡ bit_at y p
    before p h = xor_same (bit_at x p) (bit_at y p) (sym (bit_xor_lem x y p) ∙ ap (λ (d : ℕ). eqb d 1) (trailing_low word_bits (bit_xor x y) p h))

    apart : bit_at y first ≡ not (bit_at x first)
    apart = xor_apart (bit_at x first) (bit_at y first) (sym (bit_xor_lem x y first) ∙ ap (λ (d : ℕ). eqb d 1) (trailing_one word_bits (bit_xor x y) some small).1)

    -- where it is 0 in x, x is less
    pub words-less : x / 2 ^ first % 2 ≡ 0 → Compared Less word_bits (bit_at x) (bit_at y)
    words-less e = let low : bit_at x first ≡ false = ap (λ (d : ℕ). eqb d 1) e in (first, first_below, before, low, apart ∙ ap not low)

    -- and where it is 1, greater
    pub words-greater : (x / 2 ^ first % 2 ≡ 0 → ⊥) → Compared Greater word_bits (bit_at x) (bit_at y)
    words-greater e =
        let high : bit_at x first ≡ true = ⊎_elim (λ a. absurd (e a.0)) (λ a. a.1) (odd_cases (x / 2 ^ first)) in
        (first, first_below, λ p h. sym (before p h), apart ∙ ap not high, high)

-- numbers of j digits with the same bits are the same
pub bits-same : (j x y : ℕ) → x < 2 ^ j → y < 2 ^ j → ((k : ℕ) → k < j → bit_at x k ≡ bit_at y k) → x ≡ y
bits-same j x y hx hy h =
    sym (number_low_bits j x hx)
    ∙ ap number
    (ext_get_or false (low_bits j x) (low_bits j y) (low_bits_length j x ∙ sym (low_bits_length j y))
    (λ k l. let i : k < j = rw low_bits_length at l in low_bits_at j x k i ∙ h k i ∙ sym (low_bits_at j y k i)))
    ∙ number_low_bits j y hy

-- ---- planes, a machine word at a time

module _ (a b : List ℕ) (i : ℕ) (prefix : (q : ℕ) → q < word_bits * i → bit_of a q ≡ bit_of b q) where
  -- a machine word that is the same in both
  pub compared-next : get_or a i 0 ≡ get_or b i 0 → (q : ℕ) → q < word_bits * (i + 1) → bit_of a q ≡ bit_of b q
  unfolding bit_of
  compared-next e q h = go (dec_le (word_bits * i) q)
    where
      go : Dec (word_bits * i ≤ q) → bit_of a q ≡ bit_of b q
      go (no g) = prefix q (omega arith)
      go (yes g) = let d : q / word_bits ≡ i = omega arith in ap (λ (x : ℕ). bit_at x (q % word_bits)) (rw d e)

-- a first machine word that differs is less where its first difference is
less_word : (a b : List ℕ) (i : ℕ) → ((q : ℕ) → q < word_bits * i → bit_of a q ≡ bit_of b q) → (n : ℕ) → i < n
    → LessAt word_bits (bit_at (get_or a i 0)) (bit_at (get_or b i 0)) → LessAt (word_bits * n) (bit_of a) (bit_of b)
less_word a b i prefix n l (k, h, same, x, y) = (
  word_bits * i + k,
  omega arith,
  λ p g. go p g (dec_le (word_bits * i) p),
  bit_of_word a i k h ∙ x,
  bit_of_word b i k h ∙ y,
)
  where
    go : (p : ℕ) → p < word_bits * i + k → Dec (word_bits * i ≤ p) → bit_of a p ≡ bit_of b p
    go p g (no d) = prefix p (omega arith)
    go p g (yes d) =
        let r = p - word_bits * i in
        let e : p ≡ word_bits * i + r = omega arith in
        rw e (bit_of_word a i r (omega arith) ∙ same r (omega arith) ∙ sym (bit_of_word b i r (omega arith)))

-- the first machine word that differs decides
pub compared_word : (o : Ordering) (a b : List ℕ) (i n : ℕ) → ((q : ℕ) → q < word_bits * i → bit_of a q ≡ bit_of b q) → i < n
    → (get_or a i 0 ≡ get_or b i 0 → ⊥) → get_or a i 0 < 2 ^ word_bits → get_or b i 0 < 2 ^ word_bits
    → Compared o word_bits (bit_at (get_or a i 0)) (bit_at (get_or b i 0)) → Compared o (word_bits * n) (bit_of a) (bit_of b)
compared_word Less a b i n prefix l d fa fb c = less_word a b i prefix n l c
compared_word Equal a b i n prefix l d fa fb c = absurd (d (bits-same word_bits (get_or a i 0) (get_or b i 0) fa fb c))
compared_word Greater a b i n prefix l d fa fb c = less_word b a i (λ q h. sym (prefix q h)) n l c

-- ---- what is found is the order of the bits

less_lists : (q : ℕ) (xs ys : List Bool) → q < length xs → q < length ys → ((p : ℕ) → p < q → get_or xs p false ≡ get_or ys p false)
    → get_or xs q false ≡ false → get_or ys q false ≡ true → (less_bits xs ys ≡ true) × (less_bits ys xs ≡ false)
unfolding less_bits
less_lists q [] ys lx ly same e f = absurd (not-suc-le-zero lx)
less_lists q (x ∷ xs) [] lx ly same e f = absurd (not-suc-le-zero ly)
less_lists zero (false ∷ xs) (true ∷ ys) lx ly same e f = (refl, refl)
less_lists zero (false ∷ xs) (false ∷ ys) lx ly same e f = absurd (false≢true f)
less_lists zero (true ∷ xs) (y ∷ ys) lx ly same e f = absurd (false≢true (sym e))
less_lists (suc q) (false ∷ xs) (true ∷ ys) lx ly same e f = absurd (false≢true (same 0 (omega arith)))
less_lists (suc q) (true ∷ xs) (false ∷ ys) lx ly same e f = absurd (false≢true (sym (same 0 (omega arith))))
less_lists (suc q) (false ∷ xs) (false ∷ ys) lx ly same e f =
    less_lists q xs ys (le_of_suc-le-suc lx) (le_of_suc-le-suc ly) (λ p h. same (suc p) (omega arith)) e f
less_lists (suc q) (true ∷ xs) (true ∷ ys) lx ly same e f =
    less_lists q xs ys (le_of_suc-le-suc lx) (le_of_suc-le-suc ly) (λ p h. same (suc p) (omega arith)) e f

-- bits that are less at their first difference are less as lists, and not greater
pub less_listed : (n : ℕ) (f g : ℕ → Bool) → LessAt n f g → (less_bits (map f (below n)) (map g (below n)) ≡ true) × (less_bits (map g (below n)) (map f (below n)) ≡ false)
less_listed n f g (q, h, same, x, y) =
    less_lists q (map f (below n)) (map g (below n)) (rw map-below-length h) (rw map-below-length h)
    (λ p l. let k : p < n = omega arith in map-below-at f n p false k ∙ same p l ∙ sym (map-below-at g n p false k))
    (map-below-at f n q false h ∙ x)
    (map-below-at g n q false h ∙ y)

-- the order of two lists of bits, by how their bits compare
pub order_listed : (o : Ordering) (n : ℕ) (f g : ℕ → Bool) → Compared o n f g → order_of_bits (map f (below n)) (map g (below n)) ≡ o
unfolding order_of_bits
order_listed Less n f g c = rw (less_listed n f g c).0
order_listed Equal n f g c = ap (order_of_bits (map f (below n))) (sym (map-below-cong f g n false c)) ∙ order_refl (map f (below n))
order_listed Greater n f g c = rw ((less_listed n g f c).1, (less_listed n g f c).0)

-- ---- and the order of words

-- words compare by their X bits and then by their Z bits
pub order_letters : (n : ℕ) (x z x' z' : ℕ → Bool)
    → order_of_words (letters_by n x z) (letters_by n x' z')
    ≡ or_else_by (order_of_bits (map x (below n)) (map x' (below n))) (order_of_bits (map z (below n)) (map z' (below n)))
unfolding order_of_words order_of_bits less bits
order_letters n x z x' z' =
    simp (x_bits_letters_by, z_bits_letters_by)
    (order_append (map x (below n)) (map x' (below n)) (map z (below n)) (map z' (below n)) (map-below-length x n ∙ sym (map-below-length x' n)))
