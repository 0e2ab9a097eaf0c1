-- Candidates of any group by the bits of the words that they give, in the order of the sites: those whose first bits are the least of all.
use Prim.Native.Nat.{ℕ, ◌+◌, ◌≤◌, ◌<◌}
use mathlib.Core.Path.{◌≡◌, sym, ◌∙◌}
use mathlib.Core.Logic.{◌⊎◌, inl, inr}
use mathlib.Core.Bool.{Bool, true, false, true≢false}
use mathlib.Core.List.{List}
use native.Mathlib.Omega.{arith}
use lib.ListN.{length}
use Rattle.pauli_word.specs.Word.{Word, less}
use Rattle.pauli_word.proofs.WordOrder.{less-total}
use Rattle.action.specs.Permutation.{Generator}
use Rattle.action.specs.Index.{order_of, inverse}
use Rattle.action.proofs.Reach.{reach-length}
use Rattle.packed.specs.Packed.{LessAt}
use Rattle.cyclic.proofs.BitOrder.{less-longer}
use Rattle.parts.proofs.Bitwise.{word_bit, less-first, first-less}
use Rattle.grid.specs.Candidates.{candidate, Left, Among, Leading}
use Rattle.grid.specs.Stages.{Refined, Staged}
use Rattle.grid.specs.declared.refine.Stage.{Stage}
use Rattle.grid.specs.declared.refine.Stage.TheVariants.{Alone, Through, Tired}
use Rattle.grid.proofs.Leads.{among-alone}

-- bits that are the same have no first that differs
none_less_lem : (m : ℕ) (f g : ℕ → Bool) → ((p : ℕ) → p < m → f p ≡ g p) → LessAt m f g → ⊥
none_less_lem m f g same (q, l, s, a, b) = true≢false (sym b ∙ sym (same q l) ∙ a)

-- words with the same bits are the same
pub same_bits : (n : ℕ) (u v : Word) → length u ≡ n → length v ≡ n → ((p : ℕ) → p < n + n → word_bit n u p ≡ word_bit n v p) → u ≡ v
same_bits n u v ul vl same = go (less-total u v (ul ∙ sym vl))
  where
    go : (less u v ≡ true) ⊎ ((u ≡ v) ⊎ (less v u ≡ true)) → u ≡ v
    go (inl h) = absurd (none_less_lem (n + n) (word_bit n u) (word_bit n v) same (less-first n u v ul vl h))
    go (inr (inl e)) = e
    go (inr (inr h)) = absurd (none_less_lem (n + n) (word_bit n v) (word_bit n u) (λ p l. sym (same p l)) (less-first n v u vl ul h))

-- bit t of the word that candidate k gives
abbrev pub bits_of : ℕ → List Generator → Word → ℕ → ℕ → Bool
bits_of n gs w k t = word_bit n (candidate gs w k) t

module _ {n : ℕ} (gs : List Generator) (w : Word) (long : length w ≡ n) where
  given-long : (k : ℕ) → length (candidate gs w k) ≡ n
  given-long k = reach-length gs (inverse gs k) w ∙ long

  -- where the first bits of the candidates in S are the least, every other gives a greater word
  pub left-among : (t : ℕ) → t ≤ n + n → {S : ℕ → Bool} → Left (order_of gs) (bits_of n gs w) t S → Among gs w S
  left-among t h {S} l = record {
    inside = l.inside;
    some = l.some;
    rest = λ j k a b c.
        first-less n (candidate gs w j) (candidate gs w k) (given-long j) (given-long k)
        (less-longer t (n + n) (bits_of n gs w j) (bits_of n gs w k) h (l.rest j k a b c));
  }

  -- where all their bits are the least, they give the least word
  pub left-leading : {S : ℕ → Bool} → Left (order_of gs) (bits_of n gs w) (n + n) S → Leading gs w S
  left-leading l = record {
    among = left-among (n + n) (omega arith) l;
    ties = λ j k a b. same_bits n (candidate gs w j) (candidate gs w k) (given-long j) (given-long k) (l.ties j k a b);
  }

  module _ {order : ℕ} (whole : order ≡ order_of gs) (S : ℕ → Bool) where
    -- one that is left gives the least word
    pub staged-alone : (k t : ℕ) → t ≤ n + n → Refined (Alone k) order (bits_of n gs w) t S → Staged (Alone k) gs w S
    staged-alone k t h (l, one) = (among-alone k (left-among t h (rw whole at l)) one, one)

    -- those that are left when all bits are read give the least word, and no others do
    pub staged-end : (r : Stage) → Refined r order (bits_of n gs w) (0 + n + n) S → Staged r gs w S
    staged-end (Alone k) l = staged-alone k (0 + n + n) (omega arith) l
    staged-end Through l = let e : 0 + n + n ≡ n + n = omega arith in left-leading (rw e at (rw whole at l))
    staged-end Tired (u, low, l) = left-among u (omega arith) (rw whole at l)
