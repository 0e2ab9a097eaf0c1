-- What each call of this crate comes to: its checks in their order, then its answer; and what the cases of a walk's step mean.
use Rattle.std.specs.Prelude.{ℕ, suc, ◌*◌, Bool, ◌&&◌, not, cond, List, [], ◌∷◌, ◌++◌, ltb, leb, eqb, Option, Some, None}
use Rattle.outcome.specs.declared.Refusal.TheVariants as Refusal
use Rattle.outcome.specs.Outcome.{Outcome, answer, refusal_of, Check, rule, unless}
use Rattle.pauli_word.specs.Limits.{word_length}
use Rattle.pauli_word.specs.Word.{Word}
use Rattle.pauli_word.specs.Bytes.{letters_in, bytes_of, in_full, word_in}
use Rattle.pauli_word.specs.Calls.{site_count, word_size, old_size, bit_above, clear_above}
use Rattle.action.specs.Index.{order_of, digits}
use Rattle.action.specs.Orbit.{reach, stepped, orbit_list, least, index_back}
use Rattle.permutation.specs.Limits.{max_order}
use Rattle.row_lists.specs.Rows.{no_word}
use Rattle.group.specs.declared.Group.{Group}
use Rattle.group.specs.Value.{no_group, generators_of, is_group, notAGroup}
use Rattle.group.specs.Calls.{index_range, list_length}
use Rattle.orbit.specs.declared.Walk.{Walk}
use Rattle.orbit.specs.declared.CanonicalIndex.{CanonicalIndex}
use Rattle.orbit.specs.declared.Entry.{Entry as EntryGiven}
use Rattle.orbit.specs.declared.lent.Beginning.{Beginning}

-- ---- calls that take a group and a word: 1, 14, 15, 36, 16, 17, and then their own

-- 16: a word's site count is not the group's
abbrev pub other_sites : Group → ℕ → Check
other_sites g n = rule Refusal.OtherSites (not (eqb n g.sites))

abbrev pub word_call_checks : Group → ℕ → List ℕ → List Check
word_call_checks g n bytes =
    site_count g.sites ∷ site_count n ∷ notAGroup g ∷ word_size bytes ∷ old_size n bytes ∷ other_sites g n ∷ bit_above n bytes ∷ []

unfoldable pub canonicalize_outcome : Group → ℕ → List ℕ → Outcome Word
canonicalize_outcome g n bytes = unless (word_call_checks g n bytes) (answer (least (generators_of g) (word_in n bytes)))

-- the least word, and the index that leads from it back to the word
unfoldable pub with_index_outcome : Group → ℕ → List ℕ → Outcome (Word × ℕ)
with_index_outcome g n bytes =
    unless (word_call_checks g n bytes)
    (answer (least (generators_of g) (word_in n bytes), index_back (generators_of g) (word_in n bytes)))

-- its parts as a call hands them back
abbrev pub word_of : {A : Type 0} → Word × A → List ℕ
word_of p = bytes_of p.0

abbrev pub index_of : Word × ℕ → ℕ
index_of p = p.1

abbrev pub shift_of : Word × List ℕ → List ℕ
shift_of p = p.1

-- both as a call hands them back
abbrev pub canonical_index : Word × ℕ → CanonicalIndex
canonical_index p = record { word = bytes_of p.0; index = p.1 }

-- the least word, and the counter of that index; k is the length of the counter list
unfoldable pub with_shift_outcome : Group → ℕ → List ℕ → ℕ → Outcome (Word × List ℕ)
with_shift_outcome g n bytes k =
    unless (word_call_checks g n bytes ++ (list_length k g.generators ∷ []))
    (answer (least (generators_of g) (word_in n bytes), digits (generators_of g) (index_back (generators_of g) (word_in n bytes))))

-- the orbit list; k is the length of the lent list
unfoldable pub orbit_list_outcome : Group → ℕ → List ℕ → ℕ → Outcome (List Word)
orbit_list_outcome g n bytes k =
    unless (word_call_checks g n bytes ++ (list_length k (word_length * order_of (generators_of g)) ∷ []))
    (answer (orbit_list (generators_of g) (word_in n bytes)))

-- the word that index i makes of a word
unfoldable pub word_at_outcome : Group → ℕ → List ℕ → ℕ → Outcome Word
word_at_outcome g n bytes i = unless (word_call_checks g n bytes ++ (index_range g i ∷ [])) (answer (reach (generators_of g) i (word_in n bytes)))

-- ---- the walk

-- a walk by its parts
abbrev pub walk_in : Group → List ℕ → ℕ → Walk
walk_in g word index = record { group = g; word = word; index = index }

-- whether a walk value is one that accepted calls reach: a group, an accepted word of its sites, an index up to the order
unfoldable pub is_walk : Walk → Bool
is_walk w = is_group w.group && clear_above w.group.sites w.word && leb w.index (order_of (generators_of w.group))

-- 14: a walk value that accepted calls do not reach
abbrev pub notAWalk : Walk → Check
notAWalk w = rule Refusal.InvalidValue (not (is_walk w))

-- what stands in the place of a refused beginning: no call takes it for a walk
unfoldable pub no_walk : Walk
no_walk = record { group = no_group; word = no_word; index = suc max_order }

unfoldable pub begin_outcome : Group → ℕ → List ℕ → Outcome Walk
begin_outcome g n bytes = unless (word_call_checks g n bytes) (answer (walk_in g (in_full bytes) 0))

-- an entry with its index, or the end
pub data Entry : Type 0 where
  entry : ℕ → Entry
  finished : Entry

-- the entry that a walk gives next
abbrev pub entry_of : Walk → Entry
entry_of w = cond (ltb w.index (order_of (generators_of w.group))) (entry w.index) finished

-- 1, then 14 of the walk
abbrev pub walk_checks : Walk → List Check
walk_checks w = site_count w.group.sites ∷ notAWalk w ∷ []

unfoldable pub next_outcome : Walk → Outcome Entry
next_outcome w = unless (walk_checks w) (answer (entry_of w))

-- a walk whose group is lent, at its beginning
abbrev pub beginning : Walk → Beginning
beginning w = record { at = w.word; index = w.index }

-- an entry as a step gives it, with its word, which is the walk's; none at the end
abbrev pub given_entry : Walk → Entry → Option EntryGiven
given_entry w (entry i) = Some (record { index = i; word = w.word })
given_entry w finished = None

-- the word of an entry alone: zeros at the end
abbrev pub entry_word : Walk → Entry → List ℕ
entry_word w (entry i) = w.word
entry_word w finished = no_word

-- the walk after an entry: its word moved one step, and the next index; at the end it stays
abbrev pub after_entry : Walk → Entry → Walk
after_entry w (entry i) = record {
  group = w.group;
  word = bytes_of (stepped (generators_of w.group) (digits (generators_of w.group) i) (letters_in w.group.sites w.word));
  index = suc i;
}
after_entry w finished = w
