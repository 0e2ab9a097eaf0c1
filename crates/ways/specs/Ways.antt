-- Which way a group takes, its path as it stands or a table of other numbers, and what is at hand for it.
use Rattle.std.specs.Prelude.{ℕ, ◌*◌, ◌≤◌, List}
use Rattle.elements.specs.HeldGroup.{generators_in}
use Rattle.packed.specs.Packed.{word_bits, plane_words}
use Rattle.grid.specs.Grid.{Axes}
use Rattle.renumbered.specs.Renumbered.{Renumbered}
use Rattle.paths.specs.Paths.{Taken, words_of}
use Rattle.ways.specs.declared.way.Way.{Way}
use Rattle.ways.specs.declared.way.Way.TheVariants as Way
use Rattle.permutation.specs.declared.Lent.{Lent}
use Rattle.rotation.specs.declared.shape.Shapes.{Shapes as ShapesFound}

-- what is at hand where a group takes a way
abbrev pub Found : Way → ℕ → ℕ → ℕ → List ℕ → List ℕ → List ℕ → List ℕ → List ℕ → List ℕ → List ℕ → Type 0
Found (Way.Stands path) k n order targets orders strides rests masks site place = Taken path k n order targets orders strides rests masks
Found (Way.Numbered m) k n order targets orders strides rests masks site place =
    Axes k orders strides rests × Renumbered n (generators_in k n targets orders) site place × (order ≤ word_bits * m) × (m ≤ plane_words)

-- the machine words of a set of candidates
abbrev pub room_of : Way → ℕ
room_of (Way.Stands path) = words_of path
room_of (Way.Numbered m) = m

-- ---- of a lent group and the shapes found of it

abbrev pub Finds : Way → Lent → ℕ → ShapesFound → List ℕ → List ℕ → List ℕ → Type 0
Finds way g order s masks site place = Found way g.generators g.sites order g.targets.now g.orders.now s.strides s.rests masks site place
