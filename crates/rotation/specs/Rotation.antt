-- Generators that rotate sites inside blocks of one length, the masks that move words by them, and words in planes of machine words.
use Rattle.std.specs.declared.cmp.Ordering.{Ordering}
use Rattle.std.specs.declared.cmp.Ordering.TheVariants.{Less, Equal, Greater}
use Rattle.std.specs.Prelude.{ℕ, ◌+◌, ◌*◌, ◌%◌, ◌<◌, ◌≤◌, ◌≡◌, ◌⊎◌, false, List, ◌∷◌, map, length, get_or, take, drop}
use Rattle.pauli_word.specs.Word.{Word, x_bit, letter_of}
use Rattle.action.specs.Lists.{below}
use Rattle.action.specs.Permutation.{Generator}
use Rattle.pauli_word.specs.Limits.{max_sites}
use Rattle.permutation.specs.Limits.{max_generators}
use Rattle.permutation.specs.Generators.{row_at}
use Rattle.packed.specs.Packed.{word_bits, plane_words, Clear, rotated, keep_at, Mask}
use Rattle.permutation.specs.declared.Lent.{Lent}
use Rattle.rotation.specs.declared.shape.Shapes.{Shapes as ShapesFound}

-- the permutation that rotates n sites by s inside blocks of b
unfoldable pub rotation : ℕ → ℕ → ℕ → List ℕ
rotation n s b = map (rotated s b) (below n)

-- a word's X bits alone
unfoldable pub x_part : Word → Word
x_part w = map (λ a. letter_of (x_bit a) false) w

-- blocks of b sites that make up n, and a rotation inside them by less than a block
pub record Blocks (n s b : ℕ) : Type 0 where
  pub inside : s < b
  pub whole : n % b ≡ 0
  pub small : b ≤ max_sites + max_sites

-- a permutation of n sites that rotates by s inside blocks of b
pub record Rotates (n s b : ℕ) (perm : List ℕ) : Type 0 where
  pub blocks : Blocks n s b
  pub turns : perm ≡ rotation n s b

-- the k generators of tables rotate, each by its stride inside blocks of its stride and its rest
pub record Shapes (k n : ℕ) (targets strides rests : List ℕ) : Type 0 where
  pub stride_count : length strides ≡ max_generators
  pub rest_count : length rests ≡ max_generators
  pub each : (g : ℕ) → g < k → Rotates n (get_or strides g 0) (get_or strides g 0 + get_or rests g 0) (row_at n targets g)

-- k rotations of n sites, each by its stride inside blocks of its stride and its rest, with orders that are not 0
pub record Rotations (k n : ℕ) (orders strides rests : List ℕ) : Type 0 where
  pub few : k ≤ max_generators
  pub order_count : length orders ≡ max_generators
  pub stride_count : length strides ≡ max_generators
  pub rest_count : length rests ≡ max_generators
  pub some : (g : ℕ) → g < k → 0 < get_or orders g 0
  pub blocks : (g : ℕ) → g < k → Blocks n (get_or strides g 0) (get_or strides g 0 + get_or rests g 0)

-- generator g of these
abbrev pub turn_at : ℕ → List ℕ → List ℕ → List ℕ → ℕ → Generator
turn_at n orders strides rests g = record { perm = rotation n (get_or strides g 0) (get_or strides g 0 + get_or rests g 0); order = get_or orders g 0 }

-- generators of which these are all
pub record Turns (k n : ℕ) (gs : List Generator) (orders strides rests : List ℕ) : Type 0 where
  pub count : length gs ≡ k
  pub each : (g : ℕ) → g < k → drop g gs ≡ turn_at n orders strides rests g ∷ drop (g + 1) gs

-- part g of a list, m long
abbrev pub part : ℕ → ℕ → List ℕ → List ℕ
part m g ws = take m (drop (m * g) ws)

-- a mask for each of the k generators, m machine words each: of the sites that take their bit from a stride below
pub record Masks (k n m : ℕ) (strides rests masks : List ℕ) : Type 0 where
  pub room : max_generators * m ≤ length masks
  pub each : (g : ℕ) → g < k → Mask (keep_at (get_or strides g 0) (get_or strides g 0 + get_or rests g 0) n) (part m g masks)

-- a word of n sites in planes of m machine words; without a Z plane each Z bit is 0
pub record Planes (n m : ℕ) (xs zs : List ℕ) : Type 0 where
  pub few : m ≤ plane_words
  pub room : n ≤ word_bits * m
  pub x_long : length xs ≡ m
  pub z_long : (length zs ≡ m) ⊎ (length zs ≡ 0)
  pub x_clear : Clear n xs
  pub z_clear : Clear n zs

-- the first of two where a word at hand is less than the best so far, else the second
abbrev pub led : {A : Type 0} → Ordering → A → A → A
led Less a b = a
led Equal a b = b
led Greater a b = b

-- how many words so far are the best, after one more
abbrev pub tied : Ordering → ℕ → ℕ
tied Less t = 1
tied Equal t = t + 1
tied Greater t = t

-- ---- of a lent group and the shapes found of it

abbrev pub Shaped : Lent → ShapesFound → Type 0
Shaped g s = Shapes g.generators g.sites g.targets.now s.strides s.rests

abbrev pub Masked : Lent → ℕ → ShapesFound → List ℕ → Type 0
Masked g m s masks = Masks g.generators g.sites m s.strides s.rests masks
