-- The order of rows' bytes.
-- The fact that carries it: bytes of one length are the same if their bits are (`planeBits-injective`), so neither less means equal.
use Rattle.std.specs.declared.cmp.Ordering.{Ordering}
use Rattle.std.specs.declared.cmp.Ordering.TheVariants.{Less, Equal, Greater}
use Prim.Native.Nat.{ℕ, ◌*◌}
use mathlib.Core.Path.{◌≡◌, refl, sym, ◌∙◌, ap}
use mathlib.Core.Bool.{Bool, true, false, cond}
use mathlib.Core.List.{List}
use lib.ListN.{length}
use Rattle.pauli_word.specs.Word.{less_bits}
use Rattle.pauli_word.specs.Bytes.{plane_bits}
use Rattle.pauli_word.specs.Calls.{order_of_bits}
use Rattle.pauli_word.proofs.Planes.{plane_bits-length, plane_bits_injective}
use Rattle.pauli_word.proofs.WordOrder.{order_refl, less_bits_trans, less_bits-total}
use Rattle.action.specs.Lists.{same_numbers}
use Rattle.action.proofs.Lists.{same_numbers_eq, same_numbers_refl}
use Rattle.keyed.specs.Keyed.{Orders, Equality}
use Rattle.keyed.proofs.Rising.{neither_less}
use Rattle.row_lists.proofs.Rows.{RowBytes}
use Rattle.row_words.specs.Words.{less_bytes}

-- ---- the order of rows

-- the two tests that an order of bits tells of
abbrev Tests : Ordering → Bool → Bool → Type 0
Tests Less s t = s ≡ true
Tests Equal s t = (s ≡ false) × (t ≡ false)
Tests Greater s t = t ≡ true

order_tests : (xs ys : List Bool) (o : Ordering) → order_of_bits xs ys ≡ o → Tests o (less_bits xs ys) (less_bits ys xs)
unfolding order_of_bits
order_tests xs ys o e = rw e at (told (less_bits xs ys) (less_bits ys xs))
  where
    told : (s t : Bool) → Tests (cond s Less (cond t Greater Equal)) s t
    told true t = refl
    told false true = refl
    told false false = (refl, refl)

module _ (a b : List ℕ) where
  pub order_less : order_of_bits (plane_bits a) (plane_bits b) ≡ Less → less_bytes a b ≡ true
  unfolding less_bytes
  order_less = order_tests (plane_bits a) (plane_bits b) Less

  pub order-greater : order_of_bits (plane_bits a) (plane_bits b) ≡ Greater → less_bytes b a ≡ true
  unfolding less_bytes
  order-greater = order_tests (plane_bits a) (plane_bits b) Greater

  pub order_same : order_of_bits (plane_bits a) (plane_bits b) ≡ Equal → (less_bytes a b ≡ false) × (less_bytes b a ≡ false)
  unfolding less_bytes
  order_same = order_tests (plane_bits a) (plane_bits b) Equal

bytes-total : (a b : List ℕ) → RowBytes a → RowBytes b → less_bytes a b ≡ false → less_bytes b a ≡ false → a ≡ b
unfolding less_bytes
bytes-total a b pa pb e f =
    let long : length a ≡ length b = pa.0 ∙ sym pb.0 in
    plane_bits_injective a b pa.1 pb.1 long
    (neither_less less_bits (plane_bits a) (plane_bits b)
    (less_bits-total (plane_bits a) (plane_bits b) (plane_bits-length a ∙ ap (λ (k : ℕ). 8 * k) long ∙ sym (plane_bits-length b))) e f)

pub byte_orders : Orders RowBytes less_bytes
unfolding less_bytes
byte_orders = record {
  irrefl = λ a. (order_same a a (order_refl (plane_bits a))).0;
  trans = λ a b c. less_bits_trans (plane_bits a) (plane_bits b) (plane_bits c);
  total = bytes-total;
}

pub byte_equality : Equality same_numbers
byte_equality = record { reflexive = same_numbers_refl; equal = same_numbers_eq }
