-- Words of n letters are compared as their bytes are.
use Rattle.std.specs.declared.cmp.Ordering.{Ordering}
use Rattle.std.specs.declared.cmp.Ordering.TheVariants.{Less, Equal, Greater}
use Prim.Native.Nat.{ℕ, ◌≤◌}
use mathlib.Core.Path.{◌≡◌, refl, sym, ap, ap₂, ◌∙◌}
use mathlib.Core.Bool.{Bool, true, false, cond}
use lib.ListN.{length}
use Rattle.pauli_word.specs.Limits.{max_sites, plane_length}
use Rattle.pauli_word.specs.Word.{Word, less, same}
use Rattle.pauli_word.specs.Bytes.{plane_bits, letters_in, bytes_of}
use Rattle.pauli_word.specs.Calls.{order_of_bits, order_of_words}
use Rattle.pauli_word.proofs.Words.{encoded-accepted, encoded-decode}
use Rattle.pauli_word.proofs.WordOrder.{order_words, same_refl, same_eq}
use Rattle.action.specs.Lists.{same_numbers}
use Rattle.action.proofs.Lists.{bool_ext, same_numbers_eq, same_numbers_refl}
use Rattle.row_words.specs.Words.{less_bytes}

is_less : Ordering → Bool
is_less Less = true
is_less Equal = false
is_less Greater = false

order_tells : (s t : Bool) → is_less (cond s Less (cond t Greater Equal)) ≡ s
unfolding is_less
order_tells true t = refl
order_tells false true = refl
order_tells false false = refl

module _ (n : ℕ) (few : n ≤ max_sites) (v w : Word) (lv : length v ≡ n) (lw : length w ≡ n) where
  decoded : (u : Word) → length u ≡ n → letters_in n (bytes_of u) ≡ u
  decoded u l = encoded-decode plane_length u l few refl

  order-bytes : order_of_bits (plane_bits (bytes_of v)) (plane_bits (bytes_of w)) ≡ order_of_words v w
  order-bytes =
      order_words (encoded-accepted plane_length v lv few refl) (encoded-accepted plane_length w lw few refl)
      ∙ ap₂ order_of_words (decoded v lv) (decoded w lw)

  pub less-bytes : less_bytes (bytes_of v) (bytes_of w) ≡ less v w
  unfolding less_bytes order_of_bits order_of_words
  less-bytes =
      sym (order_tells (less_bytes (bytes_of v) (bytes_of w)) (less_bytes (bytes_of w) (bytes_of v)))
      ∙ ap is_less order-bytes
      ∙ order_tells (less v w) (less w v)

  pub same_bytes : same_numbers (bytes_of v) (bytes_of w) ≡ same v w
  same_bytes =
      bool_ext (same_numbers (bytes_of v) (bytes_of w)) (same v w)
      (λ e. let k : v ≡ w = sym (decoded v lv) ∙ ap (letters_in n) (same_numbers_eq (bytes_of v) (bytes_of w) e) ∙ decoded w lw in rw k (same_refl w))
      (λ e. rw (same_eq v w e) (same_numbers_refl (bytes_of w)))
