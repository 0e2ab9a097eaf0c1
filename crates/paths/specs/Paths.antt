-- What is found once a call: the path that a group takes, whether it moves words by masks, and which indices fix a word.
use Rattle.std.specs.Prelude.{ℕ, ◌%◌, ◌<◌, ◌≡◌, List, eqb, ℤ, length}
use Rattle.pauli_word.specs.Word.{Word}
use Rattle.action.specs.Permutation.{Generator}
use Rattle.action.specs.Index.{order_of}
use Rattle.action.specs.Orbit.{fixes, fixing, orbit_size}
use Rattle.action.specs.Sector.{trivial, keeps}
use Rattle.packed.specs.Packed.{bit_of}
use Rattle.rotation.specs.Rotation.{Shapes, Masks}
use Rattle.grid.specs.Grid.{Steps}
use Rattle.grid.specs.Candidates.{Leading}
use Rattle.paths.specs.declared.least.Fixing.{Fixing}
use Rattle.paths.specs.declared.least.Fixing.TheVariants as Fixing
use Rattle.paths.specs.declared.plan.Path.{Path}
use Rattle.paths.specs.declared.plan.Path.TheVariants as Path
use Rattle.permutation.specs.declared.Lent.{Lent}
use Rattle.rotation.specs.declared.shape.Shapes.{Shapes as ShapesFound}

-- the shapes and the masks of a group's generators are at hand where it moves words by masks
pub record Ready (m k n : ℕ) (targets strides rests masks : List ℕ) : Type 0 where
  pub shapes : Shapes k n targets strides rests
  pub kept : Masks k n m strides rests masks

-- what is at hand where a group takes a path: its shapes, and on a grid what steps take
abbrev pub Taken : Path → ℕ → ℕ → ℕ → List ℕ → List ℕ → List ℕ → List ℕ → List ℕ → Type 0
Taken (Path.Grid m) k n order targets orders strides rests masks = Shapes k n targets strides rests × Steps k order m orders strides rests masks
Taken Path.Masks k n order targets orders strides rests masks = Shapes k n targets strides rests
Taken Path.Letters k n order targets orders strides rests masks = Unit {0}

-- the machine words of a set of candidates
abbrev pub words_of : Path → ℕ
words_of (Path.Grid m) = m
words_of Path.Masks = 0
words_of Path.Letters = 0

-- the indices that fix a word are the multiples of a step: modes keep the word just if the step has numerator 0, and the orbit has as many words
pub record ByStep (step : ℕ) (gs : List Generator) (w : Word) : Type 0 where
  pub multiples : (i : ℕ) → i < order_of gs → fixes gs w i ≡ eqb (i % step) 0
  pub kept : (ks : List ℤ) → keeps gs ks w ≡ trivial gs ks step
  pub size : orbit_size gs w ≡ step

-- what is said of the indices that fix a word: 0 alone, the multiples of a step, the differences of the candidates that lead, or nothing
abbrev pub Says : Fixing → List Generator → Word → List ℕ → Type 0
Says Fixing.Free gs w left = length (fixing gs w) ≡ 1
Says (Fixing.Multiples step) gs w left = ByStep step gs w
Says Fixing.Leading gs w left = Leading gs w (bit_of left)
Says Fixing.Many gs w left = Unit {0}

-- ---- of a lent group and the shapes found of it

abbrev pub ReadyFor : ℕ → Lent → ShapesFound → List ℕ → Type 0
ReadyFor m g s masks = Ready m g.generators g.sites g.targets.now s.strides s.rests masks

abbrev pub Takes : Path → Lent → ℕ → ShapesFound → List ℕ → Type 0
Takes path g order s masks = Taken path g.generators g.sites order g.targets.now g.orders.now s.strides s.rests masks
