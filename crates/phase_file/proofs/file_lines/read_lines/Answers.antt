use Prim.Native.Nat.{ℕ, ◌+◌, ◌-◌, ◌≤◌, ◌<◌}
use mathlib.Core.Path.{◌≡◌, sym, ap, ◌∙◌}
use mathlib.Core.Bool.{false≢true}
use mathlib.Core.List.{List}
use native.Mathlib.Omega.{arith}
use lib.ListN.{length, take, drop, length-drop}
use mir.Syntax.{w64}
use mir.Val.{of_z, to_z}
use borrow.Author.Rules.{rules}
use Rattle.pauli_word.proofs.Words.{rest_part}
use Rattle.text.specs.Text.{line_end, before}
use Rattle.text.proofs.Numbers.{clamped_stays}
use Rattle.text.proofs.Pieces.{before_short}
use Rattle.text.proofs.Lines.{line_slice}
use Rattle.phases.specs.Rules.{turn}
use Rattle.phase_file.specs.Read.{entry_read}
use Rattle.phase_file.proofs.Entries.{read_other, read_numbers}
use Rattle.phase_file.proofs.Reading.{Reading, reading_start, reading-unended, reading-broken, reading-next, reading-ends, reading-cosines, reading-sines}
use Rattle.phase_file.proofs.file_lines.read_lines.Goals as goal
use Rattle.phase_file.proofs.file_lines.read_lines.Lts as lts
use Rattle.phase_file.proofs.file_lines.read_lines.Tie as tie
use Rattle.phase_file.proofs.file_lines.read_lines.Reads as reads

abbrev ctx-Start : Type 0
ctx-Start = lts.Start tie.the-claims reads.Pre reads.Post goal.the-invariant-loop-j goal.the-decreases-loop-j tie.handed_clauses

abbrev ctx-After-find : Type 0
ctx-After-find = lts.After-find tie.the-claims reads.Pre reads.Post goal.the-invariant-loop-j goal.the-decreases-loop-j tie.handed_clauses

abbrev ctx-Else1 : Type 0
ctx-Else1 = lts.Else1 tie.the-claims reads.Pre reads.Post goal.the-invariant-loop-j goal.the-decreases-loop-j tie.handed_clauses

abbrev ctx-After-read_entry : Type 0
ctx-After-read_entry = lts.After-read_entry tie.the-claims reads.Pre reads.Post goal.the-invariant-loop-j goal.the-decreases-loop-j tie.handed_clauses

pub loop-j-init : goal.loop-j-init
loop-j-init c = reading_start _ _ _ c.requires.0 c.requires.1

pub slice_bounds-find-count : goal.slice_bounds-find-count
slice_bounds-find-count c = c.loop-j.invariant.inside

pub slice_bounds-find-start : goal.slice_bounds-find-start
slice_bounds-find-start c = c.loop-j.invariant.inside

pub slice_bounds-find-end : goal.slice_bounds-find-end
slice_bounds-find-end c = omega arith

-- the line at this place ends after as many bytes, within the text
module _ (c : ctx-After-find) where
  abbrev start : ctx-Start
  start = c.before.before.before.before.before

  abbrev text : List ℕ
  text = start.args.text.now

  abbrev at : ℕ
  at = c.loop-j.at

  abbrev r : ℕ
  r = c.find.result

  found : r ≡ length (before line_end (drop at text))
  found = c.find.ensures ∙ ap (λ (t : List ℕ). length (before line_end t)) (rest_part at text)

  within : at + r ≤ length text
  within = omega (arith, found, before_short line_end (drop at text), length-drop at text, c.loop-j.invariant.inside)

  more : c.loop-j.j < turn
  more = omega (arith, c.loop-j-test.true, c.loop-j.invariant.cosines_long)

-- a line end stands at its end
ends : (c : ctx-Else1) → at c.before + r c.before < length (text c.before)
ends c = omega (arith, within c.before, c.if-end-text.false)

pub overflow_add-end : goal.overflow_add-end
overflow_add-end c = omega (arith, within c.before, (start c.before).well_formed)

pub returns-then-end-text : goal.returns-then-end-text
returns-then-end-text c = record {
  form = reading-unended c.loop-j.invariant (r c.before.before) (found c.before.before) (more c.before.before) c.if-end-text.true;
  cosines = λ e. absurd (false≢true e);
  sines = λ e. absurd (false≢true e);
}

pub slice_bounds-read_entry-count : goal.slice_bounds-read_entry-count
slice_bounds-read_entry-count c = omega arith

pub slice_bounds-read_entry-start : goal.slice_bounds-read_entry-start
slice_bounds-read_entry-start c = omega arith

pub slice_bounds-read_entry-end : goal.slice_bounds-read_entry-end
slice_bounds-read_entry-end c = within c.before.before

-- the line, as it is read
abbrev line : ctx-After-find → List ℕ
line f = take (r f) (drop (at f) (text f))

told : (c : ctx-After-read_entry) → c.read_entry.result ≡ entry_read (line c.before.before.before)
told c = c.read_entry.ensures ∙ ap entry_read (line_slice (text c.before.before.before) (at c.before.before.before) (r c.before.before.before))

pub returns-in_default : goal.returns-in_default
returns-in_default c =
    let other = sym (told c.before.before) ∙ c.in_default.is in record {
      form = reading-broken c.loop-j.invariant (r c.before.before.before.before.before) (found c.before.before.before.before.before) (more c.before.before.before.before.before) (ends c.before.before.before.before) (read_other (line c.before.before.before.before.before) other);
      cosines = λ e. absurd (false≢true e);
      sines = λ e. absurd (false≢true e);
    }

pub offset_bounds-cosines-j : goal.offset_bounds-cosines-j
offset_bounds-cosines-j c = record { fits = omega (arith, more c.before.before.before.before.before) }

pub bounds-cosines-j : goal.bounds-cosines-j
bounds-cosines-j c = omega (arith, more c.before.before.before.before.before, c.loop-j.invariant.cosines_long)

pub offset_bounds-sines-j : goal.offset_bounds-sines-j
offset_bounds-sines-j c = record { fits = omega (arith, more c.before.before.before.before.before) }

pub bounds-sines-j : goal.bounds-sines-j
bounds-sines-j c = omega (arith, more c.before.before.before.before.before, c.loop-j.invariant.sines_long)

pub overflow_add-at : goal.overflow_add-at
overflow_add-at c = omega (arith, ends c.before.before.before.before, (start c.before.before.before.before.before).well_formed)

pub loop-j-preserved : goal.loop-j-preserved
loop-j-preserved c =
    let l = c.loop-j in
    let cosine = c.in-Some.cosine in
    let sine = c.in-Some.sine in
    let (is, x, y) = read_numbers (line c.before.before.before.before.before) cosine sine (sym (told c.before.before) ∙ c.in-Some.is) in
    let cosine_stays = ap (λ z. to_z w64 (of_z w64 z)) x ∙ clamped_stays _ in
    let sine_stays = ap (λ z. to_z w64 (of_z w64 z)) y ∙ clamped_stays _ in
    rw (cosine_stays, sine_stays) (reading-next l.invariant (r c.before.before.before.before.before) (found c.before.before.before.before.before) (more c.before.before.before.before.before) (ends c.before.before.before.before) is)

pub returns : goal.returns
returns c =
    let l = c.loop-j in
    let all : turn ≤ l.j = omega (arith, c.loop-j-test.false, l.invariant.cosines_long) in record {
      form = reading-ends l.invariant all;
      cosines = λ e. reading-cosines l.invariant all;
      sines = λ e. reading-sines l.invariant all;
    }
