-- What is promised of grids and of refinement, in a reader's words: each statement is followed by the law that shows it.
use Prim.Native.Nat.{ℕ, suc, ◌+◌, ◌*◌, ◌%◌, ◌<◌, ◌≤◌}
use mathlib.Core.Path.{◌≡◌, refl, sym, ap, ap₂, ◌∙◌}
use mathlib.Core.Logic.{◌↔◌}
use mathlib.Core.Bool.{Bool, true, false, ◌&&◌, not}
use mathlib.Core.List.{List, [], ◌∷◌, map}
use native.Mathlib.Nat.{mul-mod_right}
use lib.Dec.{ltb, eqb}
use lib.ListN.{length, get_or}
use Rattle.pauli_word.specs.Word.{I, Word}
use Rattle.action.specs.Arithmetic.{product}
use Rattle.action.specs.Lists.{below, count}
use Rattle.action.specs.Permutation.{Generator, Valid}
use Rattle.action.specs.Lattice.{shift, shifts}
use Rattle.action.specs.Index.{order_of, add, inverse}
use Rattle.action.specs.Orbit.{reach, least, forward, index_back, fixes, fixing}
use Rattle.action.proofs.Theorems as Theorems
use Rattle.packed.specs.Packed.{letters_by}
use Rattle.grid.specs.Grid.{Grid, further}
use Rattle.grid.specs.Candidates.{candidate, candidate_bit, Left, Among, Leading}
use Rattle.grid.proofs.Numbers as Numbers
use Rattle.grid.proofs.Refining as Refining
use Rattle.grid.proofs.Leads as Leads

-- ---- 1 Which groups are grids: the shifts along axes with any sides, of any number of blocks. The chain, the ladder and the tori are such, and so are the
-- translations of a lattice with any unit cell, numbered sublattice by sublattice

sides_orders : (n stride : ℕ) (sides : List ℕ) → map (λ g. g.order) (shifts n stride sides) ≡ sides
unfolding shifts shift
sides_orders n stride [] = refl
sides_orders n stride (a ∷ sides) = ap (λ (l : List ℕ). a ∷ l) (sides_orders n (stride * a) sides)

pub shifts_grid : (blocks : ℕ) (sides : List ℕ) → Grid (product sides * blocks) (shifts (product sides * blocks) 1 sides)
shifts_grid blocks sides =
    let n : ℕ = product sides * blocks in
    record {
      shifts = ap (shifts n 1) (sym (sides_orders n 1 sides));
      whole = ap (λ (o : ℕ). n % o) (Theorems.shifts_order n 1 sides) ∙ mul-mod_right (product sides) blocks;
    }

module _ {n : ℕ} {gs : List Generator} (v : Valid n gs) (grid : Grid n gs) where
  -- ---- 2 A grid's action on a site's digits: index i takes the letter of a site to the site in the same block whose number has the digits of i added

  pub reach-further : (i q : ℕ) (w : Word) → length w ≡ n → q < n → get_or (reach gs i w) (further gs i q) I ≡ get_or w q I
  reach-further = Numbers.reach-further v grid

  pub further-block : (k base h : ℕ) → base % order_of gs ≡ 0 → h < order_of gs → further gs k (base + h) ≡ base + add gs h k
  further-block = Numbers.further-block v grid

  -- so the word that candidate k gives has at each site what the word has k further on
  pub candidate-at : (k q : ℕ) (w : Word) → length w ≡ n → q < n → get_or (candidate gs w k) q I ≡ get_or w (further gs k q) I
  candidate-at = Numbers.candidate-at v grid

  -- ---- 3 Refinement. After any number of bits, those left are not greater than others; after the last one they are exactly those that give the least word

  pub left-among : (x z : ℕ → Bool) (t : ℕ) → t ≤ n + n → {S : ℕ → Bool} → Left (order_of gs) (candidate_bit gs n x z) t S → Among gs (letters_by n x z) S
  left-among x z = Leads.left-among v grid x z

  pub left-leading : (x z : ℕ → Bool) {S : ℕ → Bool} → Left (order_of gs) (candidate_bit gs n x z) (n + n) S → Leading gs (letters_by n x z) S
  left-leading x z = Leads.left-leading v grid x z

-- one bit more, for a set in one machine word or in several: those without the bit are left, if there are some; else all stay
pub left_struck : {o t : ℕ} {F : ℕ → ℕ → Bool} {S M T : ℕ → Bool} → Left o F t S → ((k : ℕ) → k < o → M k ≡ F k t) → ((k : ℕ) → T k ≡ (S k && not (M k)))
    → (k : ℕ) → T k ≡ true → Left o F (suc t) T
left_struck l m e k h = Refining.left_struck l m e k h

pub left_none : {o t : ℕ} {F : ℕ → ℕ → Bool} {S M : ℕ → Bool} → Left o F t S → ((k : ℕ) → k < o → M k ≡ F k t) → ((k : ℕ) → (S k && not (M k)) ≡ false)
    → Left o F (suc t) S
left_none = Refining.left_none

module _ {n : ℕ} {gs : List Generator} (v : Valid n gs) (w : Word) (e : length w ≡ n) {S : ℕ → Bool} (l : Leading gs w S) where
  -- ---- 4 What the candidates that lead say: they are exactly those that give the least word, and the index back is the one whose inverse is least

  pub leading-exactly : (k : ℕ) → (S k ≡ true) ↔ ((k < order_of gs) × (candidate gs w k ≡ least gs w))
  leading-exactly = Leads.leading-exactly v w e l

  pub leading-back : S (index_back gs w) ≡ true
  leading-back = Leads.leading-back v w e l

  pub leading-first : (k : ℕ) → S k ≡ true → forward gs w ≤ inverse gs k
  leading-first = Leads.leading-first v w e l

  pub leading-forward : inverse gs (index_back gs w) ≡ forward gs w
  leading-forward = Leads.leading-forward v w e l

  -- they are as many as the indices that fix the word, and their differences are these
  pub leading-fixing : count S (below (order_of gs)) ≡ length (fixing gs w)
  leading-fixing = Leads.leading-fixing v w e l

  pub leading-fixes : (k : ℕ) → k < order_of gs → fixes gs w (add gs k (forward gs w)) ≡ S k
  leading-fixes = Leads.leading-fixes v w e l
