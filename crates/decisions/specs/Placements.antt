-- A decision by its numbers, and what an index does to a word under modes.
use Rattle.std.specs.Prelude.{ℕ, cond, List, ℤ}
use Rattle.pauli_word.specs.Word.{Word}
use Rattle.action.specs.Permutation.{Generator}
use Rattle.action.specs.Orbit.{fixes}
use Rattle.action.specs.Sector.{trivial}
use Rattle.decisions.specs.declared.placement.Placement.{Placement}
use Rattle.decisions.specs.declared.placement.Placement.TheVariants as Placement
use Rattle.decisions.specs.declared.stabilizer.Test.{Test}
use Rattle.decisions.specs.declared.stabilizer.Test.TheVariants as Test
use Rattle.decisions.specs.Decisions.{Decision, kept, dropped, Row}

-- what an index does to a word under modes
abbrev pub test_of : List Generator → List ℤ → Word → ℕ → Test
test_of gs ks w i = cond (fixes gs w i) (cond (trivial gs ks i) Test.Fixes Test.Breaks) Test.Moves

-- a decision by its numbers: of a kept word the index that leads from the least word to it, and the orbit size; of a dropped one the index that drops it
abbrev pub placement_of : Decision Row → Placement
placement_of (kept r) = Placement.Kept r.index r.size
placement_of (dropped i) = Placement.Dropped i

-- the index of either
abbrev pub index_in : Placement → ℕ
index_in (Placement.Kept index size) = index
index_in (Placement.Dropped index) = index

-- the orbit size: 0 where the word is dropped
abbrev pub size_in : Placement → ℕ
size_in (Placement.Kept index size) = size
size_in (Placement.Dropped index) = 0
