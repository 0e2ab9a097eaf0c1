-- What is promised of a projected sum: how many rows are kept, which words the result has, what each comes to, and what the output lists hold.
-- The words of the input rows are in full; of rows that are handed in either form they are `rowsInFull`.
use Rattle.std.specs.Prelude.{ℕ, ◌+◌, ◌*◌, ◌/◌, ◌≤◌, ◌<◌, ◌≡◌, ◌↔◌, Bool, true, List, [], ◌∷◌, map, ℤ, pos, length, get_or, replicate}
use Rattle.pauli_word.specs.Limits.{word_length}
use Rattle.pauli_word.specs.Word.{I, Word, less}
use Rattle.pauli_word.specs.Bytes.{letters_in, bytes_of}
use Rattle.action.specs.Lists.{Member, below, count}
use Rattle.action.specs.Permutation.{Generator}
use Rattle.action.specs.Index.{order_of, digits}
use Rattle.action.specs.Orbit.{move, reach, least}
use Rattle.action.specs.Sector.{modulus, numerator, keeps}
use Rattle.group.specs.declared.Group.{Group}
use Rattle.group.specs.Value.{generators_of}
use Rattle.keyed.specs.Keyed.{Rising, key_of}
use Rattle.row_lists.specs.Rows.{row_at}
use Rattle.phases.specs.declared.PhaseTable.{PhaseTable}
use Rattle.phases.specs.Rules.{turn, InRange}
use Rattle.projection.specs.Projection.{Parts, no_parts, entry_of, generator_index, rows_of, sum_along}
use Rattle.project.specs.Calls.{ProjectedSum, input_rows}

-- the letters of input row i
abbrev pub word_at : Group → List ℕ → ℕ → Word
word_at g words i = letters_in g.sites (row_at words i)

-- whether the modes keep the orbit of input row i
abbrev pub keeps_row : Group → List ℤ → List ℕ → ℕ → Bool
keeps_row g ks words i = keeps (generators_of g) ks (word_at g words i)

-- v is the representative of one of the input rows, and its orbit is kept
abbrev pub Represents : Group → List ℤ → List ℕ → List ℤ → Word → Type 0
Represents g ks words cs v =
    (i : ℕ) × (i < length cs) × (keeps_row g ks words i ≡ true) × (v ≡ least (generators_of g) (word_at g words i))

-- the kept input rows whose representative is v, in input order
abbrev pub rows_with : Group → List ℤ → List ℕ → List ℤ → Word → List (Word × ℤ)
rows_with g ks words cs v = rows_of (generators_of g) ks v (input_rows g.sites words cs)

-- what stands in the place of no generator
abbrev pub no_generator : Generator
no_generator = record { perm = []; order = 1 }

-- generator k of the group
abbrev pub generator_at : Group → ℕ → Generator
generator_at g k = get_or (generators_of g) k no_generator

-- w moved once by generator k: what stands at a site goes to the site that the generator sends it to
abbrev pub moved_by : Group → ℕ → Word → Word
moved_by g k w = move (generator_at g k).perm w

-- how far generator k turns a word: the phase of its index, in entries
abbrev pub turns_by : Group → List ℤ → ℕ → ℕ
turns_by g ks k =
    numerator (generators_of g) ks (digits (generators_of g) (generator_index (generators_of g) k)) * turn / modulus (generators_of g)

-- both parts of a sum lie in -bound .. bound
abbrev pub PartsWithin : ℕ → Parts → Type 0
PartsWithin bound p = InRange bound p.0 × InRange bound p.1

-- a row of the result: the least word of its own orbit, which is kept; and the sums, over the input rows with this representative, of the
-- coefficient times the cosine and times the sine at the entry of the row's word
pub record ProjectedRow (t : PhaseTable) (g : Group) (ks : List ℤ) (words : List ℕ) (cs : List ℤ) (v : Word) (p : Parts) : Type 0 where
  pub long : length v ≡ g.sites
  pub canonical : least (generators_of g) v ≡ v
  pub kept : keeps (generators_of g) ks v ≡ true
  pub sums :
      p ≡ (sum_along t.cosines (generators_of g) ks (rows_with g ks words cs v), sum_along t.sines (generators_of g) ks (rows_with g ks words cs v))

-- the result: each input row is kept or dropped; strictly rising words, the representatives of the kept rows and no other, each with its sums
pub record ProjectedTable (t : PhaseTable) (g : Group) (ks : List ℤ) (words : List ℕ) (cs : List ℤ) (s : ProjectedSum) : Type 0 where
  pub kept_count : s.kept ≡ count (keeps_row g ks words) (below (length cs))
  pub all_counted : s.kept + s.dropped ≡ length cs
  pub in_order : Rising less (map key_of s.table)
  pub from_input : (v : Word) → Member v (map key_of s.table) → Represents g ks words cs v
  pub all_input : (v : Word) → Represents g ks words cs v → Member v (map key_of s.table)
  pub row : (v : Word) (p : Parts) → Member (v, p) s.table → ProjectedRow t g ks words cs v p
  -- the entry of a kept row's word is the phase, in entries, of any index that carries the representative to the word: which one does not matter
  pub which_index :
      (i : ℕ) → i < length cs → keeps_row g ks words i ≡ true
      → (j : ℕ) → j < order_of (generators_of g) → reach (generators_of g) j (least (generators_of g) (word_at g words i)) ≡ word_at g words i
      → entry_of (generators_of g) ks (word_at g words i)
      ≡ numerator (generators_of g) ks (digits (generators_of g) j) * turn / modulus (generators_of g)
  -- there is a row exactly if one is kept, and only the first word may be of I alone
  pub few : length s.table ≤ s.kept
  pub none : (length s.table ≡ 0) ↔ (s.kept ≡ 0)
  pub later :
      (first : Word × Parts) (rest : List (Word × Parts)) → s.table ≡ first ∷ rest
      → (v : Word) → Member v (map key_of rest) → less (replicate g.sites I) v ≡ true

-- the output lists, of k rows: the rows of the table, and zeros after them. Of the table's words only the first may be all zeros, so that the table
-- ends where zeros begin, but for that one
pub record OutputLists (table : List (Word × Parts)) (k : ℕ) (words : List ℕ) (cosines sines : List ℤ) : Type 0 where
  pub word : (j : ℕ) → j < length table → row_at words j ≡ bytes_of (get_or table j ([], no_parts)).0
  pub cosine : (j : ℕ) → j < length table → get_or cosines j (pos 0) ≡ (get_or table j ([], no_parts)).1.0
  pub sine : (j : ℕ) → j < length table → get_or sines j (pos 0) ≡ (get_or table j ([], no_parts)).1.1
  pub no_word : (j : ℕ) → length table ≤ j → j < k → row_at words j ≡ replicate word_length 0
  pub no_cosine : (j : ℕ) → length table ≤ j → j < k → get_or cosines j (pos 0) ≡ pos 0
  pub no_sine : (j : ℕ) → length table ≤ j → j < k → get_or sines j (pos 0) ≡ pos 0
  pub apart : (j : ℕ) → 0 < j → j < length table → row_at words j ≡ replicate word_length 0 → ⊥
