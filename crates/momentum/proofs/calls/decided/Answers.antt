-- `calls::decided` meets its contract: the placement tells the decision (`placed-dropped`, `placed_row`), and the digits fill the whole counter
-- (`overwritten`).
use Prim.Native.Nat.{ℕ}
use mathlib.Core.Path.{◌≡◌, sym, ap, ap₂, ◌∙◌}
use mathlib.Core.List.{List}
use native.Mathlib.Omega.{arith}
use Rattle.pauli_word.specs.Word.{Word}
use Rattle.pauli_word.specs.Bytes.{bytes_of}
use Rattle.pauli_word.proofs.Forms.{full-letters}
use Rattle.action.specs.Index.{digits}
use Rattle.elements.specs.HeldGroup.{Tables}
use Rattle.group.specs.declared.Group.{Group}
use Rattle.group.specs.Value.{group_lent, generators_of}
use Rattle.group.proofs.Accepted.{accepted_tables}
use Rattle.group.proofs.Outcomes.{overwritten}
use Rattle.orbit.proofs.WordCalls.{call-group}
use Rattle.momentum.specs.declared.Sector.{Sector}
use Rattle.momentum.specs.declared.Sector.TheVariants as Sector
use Rattle.momentum.specs.Calls.{sector_of, row_counter}
use Rattle.decisions.specs.Decisions.{Decision, kept, dropped, Row, row_word, decision}
use Rattle.decisions.specs.Placements.{index_in}
use Rattle.decisions.proofs.Traversals.{placed-dropped, placed_row}
use borrow.Author.Rules.{rules}
use Rattle.momentum.proofs.calls.decided.Goals as goal

-- a kept word by its parts
abbrev kept_as : List ℕ → ℕ → Sector
kept_as word size = Sector.Kept (record { word = word; size = size })

pub placement_of-found-requires : goal.placement_of-found-requires
placement_of-found-requires c = record {
  tables = accepted_tables (group_lent c.args.group.now) (call-group (group_lent c.args.group.now) c.args.group.now.sites c.args.word.now c.requires.word_value (search rules) (search rules));
  accepted_word = c.requires.accepted_word;
  modes_len = c.requires.modes_len.0;
}

pub returns-in_default : goal.returns-in_default
unfolding generators_of
returns-in_default c =
    let a = c.args in
    let gs = generators_of (group_lent a.group.now) in
    let told = c.in_default.is in
    let letters = full-letters a.group.now.sites a.word.now c.requires.accepted_word in
    let e = ap (decision gs a.modes.now) letters ∙ placed-dropped _ (sym c.placement_of-found.ensures.answer ∙ told) in
    let index = c.index.ensures ∙ ap index_in told in record {
      answer = ap Sector.Dropped index ∙ sym (ap sector_of e);
      counter = sym (ap (row_counter gs a.counter.now) e);
    }

pub fill_counter-requires : goal.fill_counter-requires
fill_counter-requires c = record {
  tables = accepted_tables (group_lent c.args.group.now) (call-group (group_lent c.args.group.now) c.args.group.now.sites c.args.word.now c.requires.word_value (search rules) (search rules));
  generators_in_bounds = omega (arith, c.requires.modes_len.1);
}

pub returns : goal.returns
unfolding generators_of
returns c =
    let a = c.args in
    let gs = generators_of (group_lent a.group.now) in
    let letters = full-letters a.group.now.sites a.word.now c.requires.accepted_word in
    let (r, same, index, size) = placed_row _ (sym c.placement_of-found.ensures.answer ∙ c.in-Kept.is) in
    let e = ap (decision gs a.modes.now) letters ∙ same in record {
      answer = ap₂ kept_as (c.placement_of-found.ensures.word ∙ ap row_word same) (sym size) ∙ sym (ap sector_of e);
      counter = c.fill_counter.ensures
          ∙ overwritten (digits gs c.in-Kept.index) a.counter.now a.group.now.generators c.requires.modes_len.1
          ∙ ap (digits gs) (sym index)
          ∙ sym (ap (row_counter gs a.counter.now) e);
    }
