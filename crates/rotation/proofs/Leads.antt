-- What leads in a word's orbit, by the X plane alone: a word without its Z plane is its X part, and where one index alone fixes that, it leads.
use Prim.Native.Nat.{ℕ}
use mathlib.Core.Path.{◌≡◌, refl, sym, ap, ap₂, ◌∙◌}
use mathlib.Core.Logic.{inr}
use mathlib.Core.Bool.{Bool, false}
use mathlib.Core.List.{List, [], map-map}
use lib.ListN.{length}
use Rattle.pauli_word.specs.Word.{I, Word, x_bit, letter_of}
use Rattle.pauli_word.proofs.Words.{x_bit-letter_of}
use Rattle.action.specs.Lists.{below}
use Rattle.action.specs.Permutation.{Generator, Valid}
use Rattle.action.specs.Orbit.{reach, least, forward, fixing}
use Rattle.action.proofs.Below.{map-below-cong}
use Rattle.action.proofs.Canonical.{forward-reaches}
use Rattle.packed.specs.Packed.{bit_of, letters_by, letters_at}
use Rattle.packed.proofs.Packing.{letters_by-length, nothing_clear}
use Rattle.rotation.specs.Rotation.{x_part, Planes}
use Rattle.rotation.proofs.Moved.{nothing_bit}
use Rattle.rotation.proofs.XPlane.{unique-x-forward, unique-x-fixing}

-- the X part of a word is the word with its X bits and no Z bit
x_part_by : (n : ℕ) (x z u : ℕ → Bool) → ((q : ℕ) → u q ≡ false) → x_part (letters_by n x z) ≡ letters_by n x u
unfolding x_part letters_by
x_part_by n x z u none =
    map-map (λ a. letter_of (x_bit a) false) (λ q. letter_of (x q) (z q)) (below n)
    ∙ map-below-cong (λ q. letter_of (x_bit (letter_of (x q) (z q))) false) (λ q. letter_of (x q) (u q)) n I
    (λ q h. ap₂ letter_of (x_bit-letter_of (x q) (z q)) (sym (none q)))

-- the X part of the word that planes hold is what the X plane holds with a Z plane of no machine words
pub x_part-letters : (n : ℕ) (xs zs us : List ℕ) → length us ≡ 0 → x_part (letters_at n xs zs) ≡ letters_at n xs us
x_part-letters n xs zs us none = x_part_by n (bit_of xs) (bit_of zs) (bit_of us) (nothing_bit us none)

-- the X plane alone
pub x_planes : {n m : ℕ} {xs zs : List ℕ} → Planes n m xs zs → Planes n m xs []
x_planes {n} p = record { few = p.few; room = p.room; x_long = p.x_long; z_long = inr refl; x_clear = p.x_clear; z_clear = nothing_clear n }

-- where one index alone reaches the least of the X plane's orbit
module _ {n : ℕ} {gs : List Generator} (v : Valid n gs) (xs zs : List ℕ) (one : length (fixing gs (letters_at n xs [])) ≡ 1) where
  part : x_part (letters_at n xs zs) ≡ letters_at n xs []
  part = x_part-letters n xs zs [] refl

  long : length (letters_at n xs zs) ≡ n
  long = letters_by-length n (bit_of xs) (bit_of zs)

  alone : length (fixing gs (x_part (letters_at n xs zs))) ≡ 1
  alone = ap (λ (u : Word). length (fixing gs u)) part ∙ one

  -- it is the smallest that reaches the least word
  pub x-forward : forward gs (letters_at n xs []) ≡ forward gs (letters_at n xs zs)
  x-forward = ap (forward gs) (sym part) ∙ sym (unique-x-forward v (letters_at n xs zs) long alone)

  -- and as many indices fix the word as the X plane
  pub x-fixing : length (fixing gs (letters_at n xs [])) ≡ length (fixing gs (letters_at n xs zs))
  x-fixing = one ∙ sym (unique-x-fixing v (letters_at n xs zs) long alone)

-- the index that leads reaches the least word
pub lead_least : {n : ℕ} {gs : List Generator} → Valid n gs → (w : Word) {i : ℕ} → i ≡ forward gs w → reach gs i w ≡ least gs w
lead_least {n} {gs} v w e = ap (λ (j : ℕ). reach gs j w) e ∙ forward-reaches v w
