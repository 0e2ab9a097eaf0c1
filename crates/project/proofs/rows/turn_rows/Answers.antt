use Prim.Native.Nat.{ℕ, ◌-◌, ◌<◌}
use mathlib.Core.Path.{◌≡◌, sym, ap, ap₂, subst, ◌∙◌}
use mathlib.Core.List.{List}
use native.Mathlib.Omega.{arith}
use lib.IntN.{ℤ, pos}
use lib.ListN.{length, get_or}
use mir.Syntax.{w64}
use mir.Val.{to_z, of_z}
use mir.ValLaws.{to_z-of_z}
use borrow.Author.Rules.{rules}
use Rattle.pauli_word.specs.Word.{Word}
use Rattle.pauli_word.specs.Bytes.{letters_in}
use Rattle.action.specs.Permutation.{Generator}
use Rattle.action.specs.Sector.{keeps}
use Rattle.elements.specs.HeldGroup.{generators_held}
use Rattle.row_lists.specs.Rows.{max_rows, in_full_by}
use Rattle.row_lists.proofs.InFull.{row_inside, full-row, row-accepted}
use Rattle.project.specs.Rows.{turned_as}
use Rattle.project.proofs.TurnedRows.{Turning, turning-start, turning-end, out-room, kept_small, turning-next, row_of}
use Rattle.project.proofs.rows.turn_rows.Goals as goal

pub loop-i-init : goal.loop-i-init
loop-i-init c =
    turning-start c.requires.representatives_len c.requires.xs_len.0 c.requires.xs_len.1

pub row_in_full-full-requires : goal.row_in_full-full-requires
row_in_full-full-requires c =
    let a = c.args in
    let (either, long) = c.requires.either_length in record {
      either_length = either;
      size_in_bounds = row_inside a.size (length a.coefficients.now) a.words.now long c.loop-i.i c.loop-i-test.true;
    }

pub offset_bounds-coefficients-i : goal.offset_bounds-coefficients-i
offset_bounds-coefficients-i c = record { fits = omega (arith, c.loop-i-test.true, c.requires.whole_rows.rows.few) }

pub bounds-coefficients-i : goal.bounds-coefficients-i
bounds-coefficients-i c = c.loop-i-test.true

pub turn_row-row-requires : goal.turn_row-row-requires
turn_row-row-requires c =
    let a = c.args in
    let i = c.loop-i.i in
    let (either, long) = c.requires.either_length in
    let whole = c.requires.whole_rows in
    let read = to_z-of_z w64 (get_or a.coefficients.now i (pos 0)) record { sfits = c.turn_row-arg-1.given } in record {
      sector = c.requires.sector;
      accepted_word = row-accepted a.size either a.words.now long whole.rows i c.loop-i-test.true c.row_in_full-full.ensures;
      in_range = rw read (whole.range i c.loop-i-test.true);
      phase_lists = c.requires.phase_lists;
    }

pub keep_row-kept-requires : goal.keep_row-kept-requires
keep_row-kept-requires c =
    let n = c.loop-i.invariant in
    let few = c.requires.whole_rows.rows.few in record {
      word_length_in_bounds = out-room n c.loop-i-test.true few;
      xs_len = (n.xs_long, n.ys_long);
      kept_lt_max_rows = kept_small n c.loop-i-test.true few;
    }

pub loop-i-preserved : goal.loop-i-preserved
loop-i-preserved c =
    let a = c.args in
    let i = c.loop-i.i in
    let more = c.loop-i-test.true in
    let words = a.words.now in
    let cs = a.coefficients.now in
    let (either, long) = c.requires.either_length in
    let sites = a.group.now.sites in
    let gs : List Generator = generators_held a.group.now in
    let read = to_z-of_z w64 (get_or cs i (pos 0)) record { sfits = c.turn_row-arg-1.given } in
    let same :
    (letters_in sites c.row_in_full-full.result, to_z w64 (of_z w64 (get_or cs i (pos 0))))
    ≡ row_of sites (in_full_by a.size (length cs) words) cs i =
    ap₂ (λ (b : List ℕ) (z : ℤ). (letters_in sites b, z))
    (c.row_in_full-full.ensures ∙ sym (full-row a.size either (length cs) words long i more)) read in
    let kept-as = c.turn_row-row.ensures.kept ∙ ap (λ (r : Word × ℤ). keeps gs a.modes.now r.0) same in
    let Turned-as = subst (turned_as c.turn_row-row.result a.cosines.now a.sines.now gs a.modes.now) same c.turn_row-row.ensures.row in
    turning-next c.loop-i.invariant more c.requires.whole_rows.rows.few c.turn_row-row.result.kept kept-as Turned-as
    c.keep_row-kept.ensures.kept c.keep_row-kept.ensures.representatives c.keep_row-kept.ensures.xs c.keep_row-kept.ensures.ys

pub returns : goal.returns
returns c =
    let it = turning-end c.loop-i.invariant c.loop-i-test.false in record {
      kept = it.0;
      held = it.1;
    }
