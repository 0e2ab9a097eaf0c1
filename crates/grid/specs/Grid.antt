-- Grids: what each generator does to the number of a site inside its block.
use Rattle.std.specs.Prelude.{ℕ, ◌+◌, ◌*◌, ◌/◌, ◌%◌, ◌<◌, ◌≤◌, ◌≡◌, List, map, length, get_or, take}
use Rattle.action.specs.Arithmetic.{product}
use Rattle.action.specs.Permutation.{Generator}
use Rattle.action.specs.Lattice.{shifted, shifts}
use Rattle.action.specs.Index.{order_of, add}
use Rattle.pauli_word.specs.Limits.{max_sites}
use Rattle.permutation.specs.Limits.{max_generators}
use Rattle.packed.specs.Packed.{word_bits, plane_words, rotated}
use Rattle.rotation.specs.Rotation.{Masks}
use Rattle.permutation.specs.declared.Lent.{Lent}
use Rattle.rotation.specs.declared.shape.Shapes.{Shapes as ShapesFound}

-- the sites are blocks of as many as the group has indices, and each generator shifts along an axis of its own: it adds 1 to its digit of a site's
-- number inside its block, taken round
pub record Grid (n : ℕ) (gs : List Generator) : Type 0 where
  pub shifts : gs ≡ shifts n 1 (map (λ g. g.order) gs)
  pub whole : n % order_of gs ≡ 0

-- the site whose number inside its block is k more than that of q, digit by digit
unfoldable pub further : List Generator → ℕ → ℕ → ℕ
further gs k q = order_of gs * (q / order_of gs) + add gs (q % order_of gs) k

-- a rotation by a stride inside blocks of the stride and the rest, which shifts along an axis: `order` places that are `place` sites apart, and a round
-- of it is whole blocks
pub record Axis (place order stride rest : ℕ) : Type 0 where
  pub whole : place * order % (stride + rest) ≡ 0
  pub shifts : (q : ℕ) → rotated stride (stride + rest) q ≡ shifted place order q

-- rotations by strides inside blocks of the stride and the rest, which shift along axes with these orders as sides
pub record Axes (k : ℕ) (orders strides rests : List ℕ) : Type 0 where
  pub stride_count : length strides ≡ max_generators
  pub rest_count : length rests ≡ max_generators
  pub some : (g : ℕ) → g < k → 0 < get_or rests g 0
  pub small : (g : ℕ) → g < k → get_or strides g 0 + get_or rests g 0 ≤ max_sites + max_sites
  pub whole : (g : ℕ) → g < k → product (take k orders) % (get_or strides g 0 + get_or rests g 0) ≡ 0
  pub shifts : (g : ℕ) → g < k → (q : ℕ)
      → rotated (get_or strides g 0) (get_or strides g 0 + get_or rests g 0) q ≡ shifted (product (take g orders)) (get_or orders g 0) q

-- what steps take: the axes, and a mask for each generator by which it takes candidates back by one, m machine words each
pub record Steps (k order m : ℕ) (orders strides rests masks : List ℕ) : Type 0 where
  pub axes : Axes k orders strides rests
  pub kept : Masks k order m rests strides masks
  pub room : order ≤ word_bits * m
  pub few : m ≤ plane_words

-- ---- of a lent group and the shapes found of it

abbrev pub OnAxes : Lent → ShapesFound → Type 0
OnAxes g s = Axes g.generators g.orders.now s.strides s.rests

abbrev pub StepsBy : Lent → ℕ → ℕ → ShapesFound → List ℕ → Type 0
StepsBy g order m s masks = Steps g.generators order m g.orders.now s.strides s.rests masks
