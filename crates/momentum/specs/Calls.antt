-- What each call of this crate comes to: its checks in their order, then its answer; and what each answer's cases mean.
use Rattle.std.specs.Prelude.{ℕ, not, List, [], ◌∷◌, ◌++◌, eqb, ℤ, length}
use Rattle.outcome.specs.declared.Refusal.TheVariants as Refusal
use Rattle.outcome.specs.Outcome.{Outcome, answer, refusal_of, Check, rule, unless}
use Rattle.action.specs.Permutation.{Generator}
use Rattle.action.specs.Index.{order_of, digits}
use Rattle.action.specs.Sector.{numerator}
use Rattle.group.specs.declared.Group.{Group}
use Rattle.group.specs.Value.{generators_of}
use Rattle.orbit.specs.Calls.{word_call_checks}
use Rattle.group.specs.Calls.{value_checks, list_length}
use Rattle.momentum.specs.declared.Sector.{Sector}
use Rattle.momentum.specs.declared.Sector.TheVariants as Sector
use Rattle.pauli_word.specs.Bytes.{word_in, bytes_of}
use Rattle.decisions.specs.Decisions.{numerators, Decision, kept, dropped, Row, decision}

-- 18: mode count is not the generator count
abbrev pub mode_count : Group → List ℤ → Check
mode_count g ks = rule Refusal.ModeCount (not (eqb (length ks) g.generators))

-- 20: counter length is not the generator count
abbrev pub counter_length : Group → List ℕ → Check
counter_length g cs = rule Refusal.CounterLength (not (eqb (length cs) g.generators))

-- ---- character_numerator: 1, 14, 18, 20, then the numerator of the counter

unfoldable pub numerator_outcome : Group → List ℤ → List ℕ → Outcome ℕ
numerator_outcome g ks cs = unless (value_checks g ++ (mode_count g ks ∷ counter_length g cs ∷ [])) (answer (numerator (generators_of g) ks cs))

-- ---- character_table: 1, 14, 18, 21, then the numerator of every index; k is the length of the lent list

unfoldable pub table_outcome : Group → List ℤ → ℕ → Outcome (List ℕ)
table_outcome g ks k =
    unless (value_checks g ++ (mode_count g ks ∷ list_length k (order_of (generators_of g)) ∷ [])) (answer (numerators (generators_of g) ks))

-- ---- canonicalize_in_sector: 1, 14, 15, 36, 16, 17, 18, 21, then the decision; k is the length of the counter list

unfoldable pub sector_outcome : Group → ℕ → List ℕ → List ℤ → ℕ → Outcome (Decision Row)
sector_outcome g n bytes ks k =
    unless (word_call_checks g n bytes ++ (mode_count g ks ∷ list_length k g.generators ∷ []))
    (answer (decision (generators_of g) ks (word_in n bytes)))

-- a decision as the call hands it back: the bytes of the least word and the orbit size, or the index that drops the word
abbrev pub sector_of : Decision Row → Sector
sector_of (kept r) = Sector.Kept (record { word = bytes_of r.word; size = r.size })
sector_of (dropped i) = Sector.Dropped i

abbrev pub size_of : Decision Row → Decision ℕ
size_of (kept r) = kept r.size
size_of (dropped i) = dropped i

-- the counter list afterwards: the digits of the index, or as it was where the word is dropped
abbrev pub row_counter : List Generator → List ℕ → Decision Row → List ℕ
row_counter gs list (kept r) = digits gs r.index
row_counter gs list (dropped i) = list
