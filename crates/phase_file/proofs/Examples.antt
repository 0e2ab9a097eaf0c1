-- Worked examples, which the checker computes: lines of two numbers and others, so many lines and others, the print of an entry, and the lines that
-- tell an answer.
use mathlib.Core.Path.{◌≡◌, refl}
use mathlib.Core.Bool.{true, false}
use mathlib.Core.List.{[], ◌∷◌, map}
use lib.IntN.{pos, negsuc}
use lib.ListN.{take}
use Rattle.outcome.specs.declared.Refusal.TheVariants as Refusal
use Rattle.outcome.specs.Outcome.{answer, refusal_of}
use Rattle.action.specs.Lists.{from, below, every}
use Rattle.text.specs.Text.{line_end, pieces, is_number, number_of, read_on, is_signed, signed_of, digits_of, decimal}
use Rattle.text.specs.Quoted.{bytes}
use Rattle.phases.specs.declared.PhaseTable.{PhaseTable}
use Rattle.phases.specs.Table.{phase_table}
use Rattle.phases.specs.Rules.{cosine, sine}
use Rattle.phase_file.specs.File.{is_entry, entries_alone, number_at, entry_text, printed, answer_line}

entries-right : map is_entry (bytes "1 2" ∷ bytes "-1 0" ∷ bytes "0 -907" ∷ bytes "123456789012345678901234567890 -1" ∷ []) ≡ true ∷ true ∷ true ∷ true ∷ []
unfolding is_entry pieces is_signed is_number number_of read_on every
entries-right = refl

-- two spaces, a space before or after, a number too few or too many, another byte between them, a minus on 0, a leading zero, a sign, byte 13
entries-other :
    map is_entry
    (bytes "1  2" ∷ bytes " 1 2" ∷ bytes "1 2 " ∷ bytes "1" ∷ bytes "1 2 3" ∷ bytes "1\t2" ∷ bytes "-0 1" ∷ bytes "1 01" ∷ bytes "+1 2" ∷ bytes "1 2\r" ∷ bytes "" ∷ [])
    ≡ false ∷ false ∷ false ∷ false ∷ false ∷ false ∷ false ∷ false ∷ false ∷ false ∷ false ∷ []
unfolding is_entry pieces is_signed is_number number_of read_on every
entries-other = refl

-- the cosine stands first
numbers : number_at 0 (bytes "-907 12") ∷ number_at 1 (bytes "-907 12") ∷ [] ≡ negsuc 906 ∷ pos 12 ∷ []
unfolding number_at pieces signed_of number_of read_on
numbers = refl

-- two lines; without the last line end, with bytes after it, one line more, one less, an empty line
lines :
    map (λ text. entries_alone 2 (pieces line_end text))
    (bytes "1 2\n3 4\n" ∷ bytes "1 2\n3 4" ∷ bytes "1 2\n3 4\n5" ∷ bytes "1 2\n3 4\n5 6\n" ∷ bytes "1 2\n" ∷ bytes "1 2\n3 4\n\n" ∷ [])
    ≡ true ∷ false ∷ false ∷ false ∷ false ∷ false ∷ []
unfolding entries_alone is_entry pieces is_signed is_number number_of read_on every
lines = refl

-- a print begins with the names
names : take 8 (printed phase_table) ≡ bytes "cos sin\n"
unfolding printed below from
names = refl

-- entries 0, 1 and 541 of the constant table, printed
prints : map (entry_text phase_table) (0 ∷ 1 ∷ 541 ∷ []) ≡ bytes "1073741824 0" ∷ bytes "1073700939 9370046" ∷ bytes "9370046 -1073700939" ∷ []
unfolding entry_text phase_table cosine sine decimal digits_of
prints = refl

-- the lines that tell an answer
told :
    answer_line (answer phase_table) ∷ answer_line (refusal_of {A = PhaseTable} Refusal.PhaseForm) ∷ answer_line (refusal_of {A = PhaseTable} Refusal.PhaseRule) ∷ []
    ≡ bytes "accepted\n" ∷ bytes "refused 34\n" ∷ bytes "refused 35\n" ∷ []
unfolding decimal digits_of
told = refl
