-- The bits by which words are ordered: a word turned inside its blocks has the bits of its planes turned, and words are ordered by the first bit that differs,
-- in the X plane and then in the Z plane.
use Rattle.std.specs.declared.cmp.Ordering.TheVariants.{Less, Equal}
use Prim.Native.Nat.{ℕ, ◌%◌, ◌<◌}
use mathlib.Core.Path.{◌≡◌, ◌∙◌, ap}
use mathlib.Core.Bool.{Bool, true}
use mathlib.Core.List.{map}
use lib.ListN.{get_or}
use Rattle.pauli_word.specs.Word.{I, letter_of, less}
use Rattle.action.specs.Lists.{below}
use Rattle.action.proofs.Below.{map-below-cong}
use Rattle.elements.proofs.LeastSoFar.{order_less}
use Rattle.packed.specs.Packed.{letters_by, rotated, LessAt}
use Rattle.packed.proofs.Packing.{letters_by-at, letters_by-length}
use Rattle.packed.proofs.Comparing.{order_listed, order_letters}
use Rattle.rotation.proofs.Rotations.{rotated-inside}
use Rattle.cyclic.specs.Cyclic.{turned}
use Rattle.cyclic.specs.Narrowing.{around}

-- a word turned inside its blocks has the turned bits
pub turned-letters : (n b r : ℕ) (x z : ℕ → Bool) → 0 < b → n % b ≡ 0 → turned b r (letters_by n x z) ≡ letters_by n (around x b r) (around z b r)
unfolding turned letters_by
turned-letters n b r x z pos whole =
    ap (λ (k : ℕ). map (λ q. get_or (letters_by n x z) (rotated r b q) I) (below k)) (letters_by-length n x z)
    ∙ map-below-cong (λ q. get_or (letters_by n x z) (rotated r b q) I) (λ q. letter_of (around x b r q) (around z b r q)) n I
    (λ q l. letters_by-at n x z (rotated r b q) (rotated-inside n b pos whole r q l))

-- a lesser X plane makes a lesser word
pub less_by_x : (n : ℕ) (x z x' z' : ℕ → Bool) → LessAt n x x' → less (letters_by n x z) (letters_by n x' z') ≡ true
less_by_x n x z x' z' h =
    order_less (letters_by n x z) (letters_by n x' z') (order_letters n x z x' z' ∙ rw (order_listed Less n x x' h))

-- of words with one X plane, a lesser Z plane makes a lesser word
pub less_by_z : (n : ℕ) (x z x' z' : ℕ → Bool) → ((q : ℕ) → q < n → x q ≡ x' q) → LessAt n z z' → less (letters_by n x z) (letters_by n x' z') ≡ true
less_by_z n x z x' z' e h =
    order_less (letters_by n x z) (letters_by n x' z') (order_letters n x z x' z' ∙ rw (order_listed Equal n x x' e) (order_listed Less n z z' h))
