use mathlib.Core.Path.{refl, sym, ap, ◌∙◌}
use native.Mathlib.Nat.{mod-lt}
use native.Mathlib.Omega.{arith}
use lib.ListN.{length}
use Rattle.pauli_word.specs.Limits.{plane_length}
use Rattle.pauli_word.specs.Bytes.{bytes_of}
use Rattle.pauli_word.proofs.Words.{encode-length}
use Rattle.elements.proofs.TableRows.{order-positive-at}
use Rattle.elements.proofs.Steps.{part_permutes, moved-accepted, moved-last, moved_on, moved_end}
use Rattle.elements.proofs.walk.advance.Goals as goal

pub loop-g-init : goal.loop-g-init
loop-g-init c = (omega arith, c.requires.accepted_word, refl)

pub overflow_mul-start : goal.overflow_mul-start
overflow_mul-start c = omega (arith, c.requires.tables.few)

pub overflow_add-end : goal.overflow_add-end
overflow_add-end c =
    let t = c.requires.tables in
    omega (arith, t.few, t.sites)

pub offset_bounds-targets-start : goal.offset_bounds-targets-start
offset_bounds-targets-start c = omega (arith, c.requires.tables.few)

pub slice_bounds-apply_generator-count : goal.slice_bounds-apply_generator-count
slice_bounds-apply_generator-count c = omega arith

pub slice_bounds-apply_generator-start : goal.slice_bounds-apply_generator-start
slice_bounds-apply_generator-start c = omega arith

pub slice_bounds-apply_generator-end : goal.slice_bounds-apply_generator-end
slice_bounds-apply_generator-end c =
    let t = c.requires.tables in
    omega (arith, t.few, t.sites, t.places)

pub apply_generator-moved-requires : goal.apply_generator-moved-requires
apply_generator-moved-requires c =
    let l = c.loop-g in record {
      permutes = part_permutes c.requires.tables l.g c.loop-g-test.true;
      accepted_word = l.invariant.1;
    }

pub slice_bounds-copy-end : goal.slice_bounds-copy-end
slice_bounds-copy-end c = sym (ap length c.apply_generator-moved.ensures ∙ encode-length plane_length _)

pub copy-requires : goal.copy-requires
copy-requires c = ap length c.apply_generator-moved.ensures ∙ encode-length plane_length _ ∙ sym c.loop-g.invariant.1.long

pub offset_bounds-orders-g : goal.offset_bounds-orders-g
offset_bounds-orders-g c = omega (arith, c.requires.tables.few, c.loop-g-test.true)

pub bounds-orders-g : goal.bounds-orders-g
bounds-orders-g c =
    let t = c.requires.tables in
    let more = c.loop-g-test.true in
    omega (arith, t.few, t.declared_orders, more)

pub nonzero_rem-rest : goal.nonzero_rem-rest
nonzero_rem-rest c = order-positive-at c.requires.tables c.loop-g.g c.loop-g-test.true

pub overflow_add-rest : goal.overflow_add-rest
overflow_add-rest c =
    let l = c.loop-g in
    let o = order-positive-at c.requires.tables l.g c.loop-g-test.true in
    omega (arith, mod-lt l.rest o)

pub returns-then-rest-o : goal.returns-then-rest-o
returns-then-rest-o c =
    let l = c.loop-g in
    let more = c.loop-g-test.true in
    let moved = c.copy.ensures ∙ c.apply_generator-moved.ensures in
    moved-last c.requires.tables l.g l.rest more l.invariant.1 moved c.if-rest-o.true ∙ ap bytes_of (sym l.invariant.2)

pub nonzero_div-rest : goal.nonzero_div-rest
nonzero_div-rest c = order-positive-at c.requires.tables c.loop-g.g c.loop-g-test.true

pub loop-g-preserved : goal.loop-g-preserved
loop-g-preserved c =
    let l = c.loop-g in
    let more = c.loop-g-test.true in
    let moved = c.copy.ensures ∙ c.apply_generator-moved.ensures in (
      omega (arith, more),
      moved-accepted c.requires.tables l.g l.rest more l.invariant.1 moved,
      l.invariant.2 ∙ moved_on c.requires.tables l.g l.rest more l.invariant.1 moved c.if-rest-o.false,
    )

pub returns : goal.returns
returns c =
    let l = c.loop-g in
    moved_end c.requires.tables l.g l.rest c.loop-g-test.false l.invariant.1 ∙ ap bytes_of (sym l.invariant.2)
