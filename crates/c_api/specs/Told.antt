-- What calls come to, as the numbers that C is handed.
use Rattle.std.specs.declared.cmp.Ordering.{Ordering}
use Rattle.std.specs.declared.cmp.Ordering.TheVariants.{Less, Equal, Greater}
use Rattle.std.specs.Prelude.{ℕ, Bool, true, false, List, [], ◌∷◌, get_or, ℤ, pos, negsuc, Option, Some, None}
use Rattle.outcome.specs.Outcome.{Outcome, refused, answer}
use Rattle.orbit.specs.declared.Entry.{Entry as EntryGiven}
use Rattle.orbit.specs.Calls.{Entry, entry, finished}
use Rattle.row_lists.specs.Rows.{no_word}
use Rattle.momentum.specs.declared.Sector.{Sector}
use Rattle.momentum.specs.declared.Sector.TheVariants as Sector
use Rattle.decisions.specs.Decisions.{Decision, kept, dropped, Row}
use Rattle.project.specs.declared.Projection.{Projection}
use Rattle.project.specs.Calls.{ProjectedSum}
use Rattle.sheet_text.specs.Sheet.{Page, table_page, refusal_page}

-- what a rule names, in four places, zeros after it
abbrev pub placed : List ℕ → List ℕ
placed vs = get_or vs 0 0 ∷ get_or vs 1 0 ∷ get_or vs 2 0 ∷ get_or vs 3 0 ∷ []

-- the number that a call returns: 0 for an answer, else the rule's
abbrev pub number_of : {A : Type 0} → Outcome A → ℕ
number_of (refused k vs) = k
number_of (answer a) = 0

-- what it writes beside it: what the rule names, and zeros beside an answer
abbrev pub values_of : {A : Type 0} → Outcome A → List ℕ
values_of (refused k vs) = placed vs
values_of (answer a) = placed []

-- how a word stands to another, as C's comparisons have it
abbrev pub sign_of : Ordering → ℤ
sign_of Less = negsuc 0
sign_of Equal = pos 0
sign_of Greater = pos 1

-- ---- walks

-- the index of an entry; 0 at the end
abbrev pub index_of_entry : Entry → ℕ
index_of_entry (entry i) = i
index_of_entry finished = 0

abbrev pub is_finished : Entry → Bool
is_finished (entry i) = false
is_finished finished = true

-- the parts of what a step hands back: of an entry its word and its index, at the end zeros
abbrev pub given_word : Option EntryGiven → List ℕ
given_word (Some e) = e.word
given_word None = no_word

abbrev pub given_index : Option EntryGiven → ℕ
given_index (Some e) = e.index
given_index None = 0

-- that it is over
abbrev pub none_given : Option EntryGiven → Bool
none_given (Some e) = false
none_given None = true

-- ---- sectors

-- the orbit size of a kept word; 0 of a dropped one
abbrev pub size_in : Decision ℕ → ℕ
size_in (kept size) = size
size_in (dropped i) = 0

abbrev pub row_size : Decision Row → ℕ
row_size (kept r) = r.size
row_size (dropped i) = 0

abbrev pub is_kept : {A : Type 0} → Decision A → Bool
is_kept (kept a) = true
is_kept (dropped i) = false

-- the index that drops a dropped word; 0 of a kept one
abbrev pub drop_index : {A : Type 0} → Decision A → ℕ
drop_index (kept a) = 0
drop_index (dropped i) = i

-- the parts of a word in a sector as it is handed back: of a kept one the least word and the orbit size, and zeros of a dropped one
abbrev pub sector_word : Sector → List ℕ
sector_word (Sector.Kept found) = found.word
sector_word (Sector.Dropped i) = no_word

abbrev pub sector_size : Sector → ℕ
sector_size (Sector.Kept found) = found.size
sector_size (Sector.Dropped i) = 0

-- that it is kept, and the index that drops it, 0 of a kept one
abbrev pub in_sector : Sector → Bool
in_sector (Sector.Kept found) = true
in_sector (Sector.Dropped i) = false

abbrev pub sector_index : Sector → ℕ
sector_index (Sector.Kept found) = 0
sector_index (Sector.Dropped i) = i

-- ---- projected sums

-- how many rows are kept, and how many dropped
abbrev pub kept_in : Projection → ℕ
kept_in rows = rows.kept

abbrev pub dropped_in : Projection → ℕ
dropped_in rows = rows.dropped

abbrev pub rows_kept : ProjectedSum → ℕ
rows_kept s = s.kept

abbrev pub rows_dropped : ProjectedSum → ℕ
rows_dropped s = s.dropped

-- ---- the sheet: a refused sheet is printed too, and is refused by its own rule

abbrev pub page_number : Outcome Page → ℕ
page_number (refused k vs) = k
page_number (answer (table_page length)) = 0
page_number (answer (refusal_page k line vs length)) = k

-- the line, and then what the rule names
abbrev pub page_values : Outcome Page → List ℕ
page_values (refused k vs) = placed vs
page_values (answer (table_page length)) = placed []
page_values (answer (refusal_page k line vs length)) = placed (line ∷ vs)

-- how many bytes are written
abbrev pub page_length : Outcome Page → ℕ
page_length (refused k vs) = 0
page_length (answer (table_page length)) = length
page_length (answer (refusal_page k line vs length)) = length
