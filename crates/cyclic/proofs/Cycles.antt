-- Tables of one generator that rotates by one inside blocks, and what the turns of a word say of the group that they hold: the index that the turns
-- that give the least word are short of whole steps reaches the least word first, and a step is the orbit's size.
use Prim.Native.Nat.{ℕ, ◌-◌, ◌%◌, ◌<◌, ◌≤◌}
use mathlib.Core.Path.{◌≡◌, sym, ap, ◌∙◌}
use mathlib.Core.List.{List, [], ◌∷◌}
use native.Mathlib.Nat.{dvd_of_mod-eq-zero, le_of_dvd, mod-eq_of_lt, mod-lt, mod_self}
use native.Mathlib.Omega.{arith}
use lib.Dec.{eqb}
use lib.IntN.{ℤ}
use lib.ListN.{length, get_or}
use Rattle.pauli_word.specs.Word.{Word}
use Rattle.pauli_word.specs.Bytes.{bytes_of}
use Rattle.action.specs.Permutation.{Generator}
use Rattle.action.specs.Orbit.{move, least, forward, fixes, orbit_size}
use Rattle.action.specs.Sector.{trivial, keeps}
use Rattle.action.proofs.Canonical.{forward-reaches}
use Rattle.permutation.specs.Generators.{row_at}
use Rattle.elements.specs.HeldGroup.{generators_in, Tables}
use Rattle.elements.proofs.TableRows.{generator_at, rest_at, rest_end}
use Rattle.rotation.specs.Rotation.{rotation, Blocks, Rotates}
use Rattle.cyclic.specs.Cyclic.{Turns, Found}
use Rattle.cyclic.proofs.Turned.{TurnsBlocks, reach-rotation, turns-forward, turns-fixes, turns-size, turns_keeps}

-- ---- what a start is short of a step

-- nothing is short of nothing
pub short_zero : (start step : ℕ) → start ≡ 0 → 0 ≡ (step - start) % step
short_zero start step e = sym (ap (λ (x : ℕ). x % step) whole ∙ mod_self step)
  where
    whole : step - start ≡ step
    whole = omega arith

-- a start past 0 is short of its step by what is left of it
pub short_some : (start step : ℕ) → (start ≡ 0 → ⊥) → start < step → step - start ≡ (step - start) % step
short_some start step other inside = sym (mod-eq_of_lt (omega arith))

-- ---- the generator of tables that hold one

module _ {n b : ℕ} {targets orders : List ℕ} (t : Tables 1 n targets orders) (r : Rotates n 1 b (row_at n targets 0)) (o : get_or orders 0 0 ≡ b) where
  -- the tables hold their first row with its order
  pub one-generator : generators_in 1 n targets orders ≡ generator_at n targets orders 0 ∷ []
  one-generator =
      rest_at t 0 (omega arith) ∙ ap (λ (gs : List Generator). generator_at n targets orders 0 ∷ gs) (rest_end t 1 (omega arith))

  -- and it rotates by one inside blocks
  pub tables-turn : TurnsBlocks n b (generator_at n targets orders 0)
  tables-turn = record {
    valid = rw one-generator at t.valid;
    turns = r.turns;
    long = o;
    some = omega (arith, r.blocks.inside);
    blocks = r.blocks.whole;
  }

  module _ (w : Word) (e : length w ≡ n) {start step : ℕ} (m : Turns b w start step) where
    -- the smallest index that reaches the least word is what start is short of a step
    pub cycle-index : (step - start) % step ≡ forward (generators_in 1 n targets orders) w
    cycle-index = rw one-generator (sym (turns-forward tables-turn w e m))

    -- the word moved by that index is the least
    pub cycle-word : move (rotation n ((step - start) % step) b) w ≡ least (generators_in 1 n targets orders) w
    cycle-word =
        rw one-generator
        (ap (λ (i : ℕ). move (rotation n i b) w) (sym (turns-forward tables-turn w e m))
        ∙ sym (reach-rotation tables-turn w e (forward (generator_at n targets orders 0 ∷ []) w))
        ∙ forward-reaches tables-turn.valid w)

    -- the indices that fix the word are the multiples of a step
    pub cycle-fixes : (i : ℕ) → i < b → fixes (generators_in 1 n targets orders) w i ≡ eqb (i % step) 0
    cycle-fixes = rw one-generator (turns-fixes tables-turn w e m)

    -- the orbit has as many words as a step is long
    pub cycle-size : orbit_size (generators_in 1 n targets orders) w ≡ step
    cycle-size = rw one-generator (turns-size tables-turn w e m)

    -- the modes keep the word exactly if the character of one step is 1
    pub cycle-keeps : (ks : List ℤ) → keeps (generators_in 1 n targets orders) ks w ≡ trivial (generators_in 1 n targets orders) ks step
    cycle-keeps = rw one-generator (turns_keeps tables-turn w e m)

-- ---- the rotation by that index

-- what start is short of a step is a rotation inside the blocks
pub short_blocks : {n b : ℕ} {w : Word} {start step : ℕ} → Blocks n 1 b → Turns b w start step → Blocks n ((step - start) % step) b
short_blocks {n} {b} {w} {start} {step} bl m = record { inside = omega (arith, below, long); whole = bl.whole; small = bl.small }
  where
    below : (step - start) % step < step
    below = mod-lt (step - start) (omega (arith, m.inside))

    long : step ≤ b
    long = le_of_dvd (omega (arith, bl.inside)) (dvd_of_mod-eq-zero step m.divides)

-- ---- planes that are packed, turned and unpacked

-- what is found of a word v that is w: u is v rotated, and the bytes are those of u
pub found : {n b : ℕ} {v w u : Word} {bytes : List ℕ} {index start step : ℕ} → v ≡ w → Turns b v start step → index ≡ (step - start) % step
    → u ≡ move (rotation n index b) v → bytes ≡ bytes_of u → Found n b w bytes index step
found {n} {b} {v} {w} {u} {bytes} {index} {start} {step} e m h k l = record {
  start = start;
  turns = rw e at m;
  short = h;
  moved = l ∙ ap bytes_of (k ∙ ap (move (rotation n index b)) e);
}

-- the rotation by what is found is inside the blocks
pub index_blocks : {n b : ℕ} {w : Word} {index start step : ℕ} → Blocks n 1 b → Turns b w start step → index ≡ (step - start) % step → Blocks n index b
index_blocks bl m h = rw h (short_blocks bl m)

-- what is found of a word says of the group that the tables hold which word is the least, which index reaches it first, which indices fix the word, how
-- large the orbit is, and which modes keep the word
pub found-answers :
    {n b : ℕ} {targets orders : List ℕ} → Tables 1 n targets orders → Rotates n 1 b (row_at n targets 0) → get_or orders 0 0 ≡ b
    → (w : Word) → length w ≡ n → {bytes : List ℕ} {index step : ℕ} → Found n b w bytes index step
    → (bytes ≡ bytes_of (least (generators_in 1 n targets orders) w))
    × ((index ≡ forward (generators_in 1 n targets orders) w)
    × ((0 < step)
    × (((i : ℕ) → i < b → fixes (generators_in 1 n targets orders) w i ≡ eqb (i % step) 0)
    × ((orbit_size (generators_in 1 n targets orders) w ≡ step)
    × ((ks : List ℤ) → keeps (generators_in 1 n targets orders) ks w ≡ trivial (generators_in 1 n targets orders) ks step)))))
found-answers {n} {b} t r o w e f = (
  f.moved ∙ ap (λ (i : ℕ). bytes_of (move (rotation n i b) w)) f.short ∙ ap bytes_of (cycle-word t r o w e f.turns),
  (
    f.short ∙ cycle-index t r o w e f.turns,
    (
      omega (arith, f.turns.inside),
      (cycle-fixes t r o w e f.turns, (cycle-size t r o w e f.turns, cycle-keeps t r o w e f.turns)),
    ),
  ),
)
