-- Which path a group takes: where one generator shifts by 1 inside blocks, and the group has as many elements as a block has sites, the tables meet what
-- the least rotation asks.
use Prim.Native.Nat.{ℕ, ◌+◌, ◌%◌, ◌<◌, ◌≤◌}
use mathlib.Core.Path.{◌≡◌, sym, ap, ◌∙◌}
use mathlib.Core.Bool.{Bool}
use mathlib.Core.List.{List, [], ◌∷◌}
use native.Mathlib.Nat.{add_comm, mul-one}
use native.Mathlib.Omega.{arith}
use lib.Dec.{eqb}
use lib.ListN.{length, get_or}
use Rattle.pauli_word.specs.Limits.{plane_length, word_length, max_sites}
use Rattle.pauli_word.specs.Word.{Word}
use Rattle.pauli_word.specs.Bytes.{bytes_of}
use Rattle.pauli_word.proofs.Words.{encode-length}
use Rattle.action.specs.Permutation.{Generator, Valid}
use Rattle.action.specs.Index.{order_of, inverse}
use Rattle.action.specs.Orbit.{reach, least, forward, index_back}
use Rattle.action.proofs.Canonical.{forward-reaches}
use Rattle.permutation.specs.Generators.{row_at}
use Rattle.elements.specs.HeldGroup.{generators_in, Tables}
use Rattle.elements.proofs.TableRows.{generator_at, rest_at, rest_end}
use Rattle.rotation.specs.Rotation.{Rotates, Shapes}
use Rattle.grid.specs.Grid.{Axes}
use Rattle.grid.specs.Candidates.{Leading}
use Rattle.grid.proofs.Grids.{axes-order}
use Rattle.grid.proofs.Leads.{alone-forward}

-- one generator alone has the order of its group
single_order : (g : Generator) → order_of (g ∷ []) ≡ g.order
unfolding order_of
single_order g = mul-one g.order

module _ {n : ℕ} {targets orders : List ℕ} (t : Tables 1 n targets orders) where
  -- the group that tables of one generator hold has the first order
  pub one-order : order_of (generators_in 1 n targets orders) ≡ get_or orders 0 0
  one-order =
      ap order_of (rest_at t 0 (omega arith) ∙ ap (λ (gs : List Generator). generator_at n targets orders 0 ∷ gs) (rest_end t 1 (omega arith)))
      ∙ single_order (generator_at n targets orders 0)

module _ {n : ℕ} {targets orders strides rests : List ℕ} (t : Tables 1 n targets orders) (s : Shapes 1 n targets strides rests) where
  -- one generator of stride 1 rotates by 1 inside blocks of its rest and 1
  pub one-rotates : get_or strides 0 0 ≡ 1 → Rotates n 1 (1 + get_or rests 0 0) (row_at n targets 0)
  one-rotates e = rw e at (s.each 0 (omega arith))

  -- and a group of as many elements has them by its generator's order
  pub one_block : (order : ℕ) → order ≡ 1 + get_or rests 0 0 → order ≡ order_of (generators_in 1 n targets orders) → get_or orders 0 0 ≡ 1 + get_or rests 0 0
  one_block order b o = sym (o ∙ one-order t) ∙ b

-- ---- what the paths share

-- the bytes of a word are those of a word in full
pub bytes_long : (w : Word) → length (bytes_of w) ≡ word_length
bytes_long w = encode-length plane_length w

-- the inverse of the smallest index that reaches the least word is the index back
pub back_of : (gs : List Generator) (w : Word) {i r : ℕ} → r ≡ inverse gs i → i ≡ forward gs w → r ≡ index_back gs w
unfolding index_back
back_of gs w e f = e ∙ ap (inverse gs) f

-- where one candidate alone leads, its inverse reaches the least word
pub one_least : {n : ℕ} {gs : List Generator} → Valid n gs → (w : Word) → length w ≡ n → {S : ℕ → Bool} → Leading gs w S → (k : ℕ)
    → ((j : ℕ) → S j ≡ eqb j k) → {i : ℕ} → i ≡ inverse gs k → reach gs i w ≡ least gs w
one_least {gs = gs} v w e l k one f = ap (λ (i : ℕ). reach gs i w) (f ∙ sym (alone-forward v w e l k one)) ∙ forward-reaches v w

-- the axes of a grid have masks by which candidates step
pub axes_masks : {k n : ℕ} {targets orders strides rests : List ℕ} → Tables k n targets orders → {order : ℕ} → order ≡ order_of (generators_in k n targets orders)
    → Axes k orders strides rests → (g : ℕ) → g < k
    → (0 < get_or rests g 0 + get_or strides g 0) × (order % (get_or rests g 0 + get_or strides g 0) ≡ 0) × (get_or rests g 0 + get_or strides g 0 ≤ max_sites + max_sites)
axes_masks {strides = strides} {rests} t {order} whole a g h =
    let e : get_or rests g 0 + get_or strides g 0 ≡ get_or strides g 0 + get_or rests g 0 = add_comm (get_or rests g 0) (get_or strides g 0) in
    (omega (arith, a.some g h), rw (e, whole, ← axes-order t) (a.whole g h), omega (arith, a.small g h))
