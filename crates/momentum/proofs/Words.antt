-- Accepted words as their bytes: the bytes tell the letters, and each accepted word is listed once.
use Prim.Native.Nat.{ℕ, ◌*◌, ◌≤◌}
use mathlib.Core.Path.{◌≡◌, refl, sym, ◌∙◌, ap}
use mathlib.Core.Logic.{◌↔◌}
use mathlib.Core.List.{List}
use lib.ListN.{length}
use Rattle.pauli_word.specs.Limits.{max_sites, plane_length}
use Rattle.pauli_word.specs.Word.{Word, same}
use Rattle.pauli_word.specs.Bytes.{encode, AcceptedWord, letters_in, bytes_of}
use Rattle.pauli_word.proofs.WordOrder.{same_refl, same_eq}
use Rattle.pauli_word.proofs.Words.{decode-length, encode-decode, encoded-accepted, encoded-decode}
use Rattle.action.specs.Lists.{Member, NoRepeats, same_numbers}
use Rattle.action.specs.Count.{all_words}
use Rattle.action.proofs.Lists.{bool_ext, member-map, of-member-map, no_repeats_map, same_numbers_eq, same_numbers_refl}
use Rattle.action.proofs.Pairs.{words_all, words_long, words_no_repeats}
use Rattle.momentum.specs.Counts.{accepted_words}

-- words of n letters in planes of m bytes
module _ (m n : ℕ) (few : n ≤ 8 * m) (v w : Word) (long_v : length v ≡ n) (long_w : length w ≡ n) where
  pub encode_injective : encode m v ≡ encode m w → v ≡ w
  encode_injective e = sym (encoded-decode m v long_v few refl) ∙ encoded-decode m w long_w few e

  pub same_numbers_encode : same_numbers (encode m v) (encode m w) ≡ same v w
  same_numbers_encode =
      bool_ext (same_numbers (encode m v) (encode m w)) (same v w)
      (λ e. ap (same v) (sym (encode_injective (same_numbers_eq (encode m v) (encode m w) e))) ∙ same_refl v)
      (λ e. ap (λ (u : Word). same_numbers (encode m v) (encode m u)) (sym (same_eq v w e)) ∙ same_numbers_refl (encode m v))

-- the list of the accepted words

module _ (n : ℕ) (few : n ≤ max_sites) where
  pub accepted-all : (bytes : List ℕ) → Member bytes (accepted_words n) ↔ AcceptedWord n bytes
  unfolding accepted_words
  accepted-all bytes = (
    λ m.
        let r : (w : Word) × Member w (all_words n) × (bytes ≡ bytes_of w) = of-member-map bytes_of (all_words n) bytes m in
        encoded-accepted plane_length r.0 (words_long n r.0 r.1) few r.2,
    λ ok.
        rw (← encode-decode ok)
        (member-map bytes_of (all_words n) (letters_in n bytes) (words_all n (letters_in n bytes) (decode-length ok))),
  )

  pub accepted-once : NoRepeats (accepted_words n)
  unfolding accepted_words
  accepted-once =
      no_repeats_map bytes_of (all_words n)
      (λ v w h k e. encode_injective plane_length n few v w (words_long n v h) (words_long n w k) e)
      (words_no_repeats n)
