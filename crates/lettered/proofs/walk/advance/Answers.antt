use Prim.Native.Nat.{ℕ, ◌+◌, ◌-◌, ◌*◌}
use mathlib.Core.Path.{sym, subst, ◌∙◌}
use native.Mathlib.Nat.{mod-lt}
use native.Mathlib.Omega.{arith}
use lib.ListN.{take, drop}
use Rattle.pauli_word.specs.Limits.{max_sites}
use Rattle.action.specs.Permutation.{Permutes}
use Rattle.elements.specs.HeldGroup.{generators_in}
use Rattle.elements.proofs.TableRows.{order-positive-at}
use Rattle.elements.proofs.Steps.{part_permutes}
use Rattle.lettered.proofs.CodeSteps.{going_start, going-last, going_on, going_end}
use Rattle.lettered.proofs.walk.advance.Goals as goal

pub loop-g-init : goal.loop-g-init
loop-g-init c =
    let gs = generators_in c.args.group.now.generators c.args.group.now.sites c.args.group.now.targets.now c.args.group.now.orders.now in
    (omega arith, c.requires.here_len, c.requires.spare_len, going_start gs c.args.index c.args.here.now)

pub overflow_mul-start : goal.overflow_mul-start
overflow_mul-start c = omega (arith, c.requires.tables.few)

pub overflow_add-end : goal.overflow_add-end
overflow_add-end c =
    let t = c.requires.tables in
    omega (arith, t.few, t.sites)

pub offset_bounds-targets-start : goal.offset_bounds-targets-start
offset_bounds-targets-start c = omega (arith, c.requires.tables.few)

pub slice_bounds-move_letters-count : goal.slice_bounds-move_letters-count
slice_bounds-move_letters-count c = omega arith

pub slice_bounds-move_letters-start : goal.slice_bounds-move_letters-start
slice_bounds-move_letters-start c = omega arith

pub slice_bounds-move_letters-end : goal.slice_bounds-move_letters-end
slice_bounds-move_letters-end c =
    let t = c.requires.tables in
    omega (arith, t.few, t.sites, t.places)

pub move_letters-requires : goal.move_letters-requires
move_letters-requires c =
    let l = c.loop-g in record {
      permutes = subst (λ (k : ℕ). Permutes k (take (max_sites * l.g + c.args.group.now.sites - max_sites * l.g) (drop (max_sites * l.g) c.args.group.now.targets.now))) (sym l.invariant.1)
          (part_permutes c.requires.tables l.g c.loop-g-test.true);
      to_len = l.invariant.2 ∙ sym l.invariant.1;
    }

pub copy-requires : goal.copy-requires
copy-requires c =
    let l = c.loop-g in
    c.move_letters.auto.to ∙ l.invariant.2 ∙ sym l.invariant.1

pub offset_bounds-orders-g : goal.offset_bounds-orders-g
offset_bounds-orders-g c = omega (arith, c.requires.tables.few, c.loop-g-test.true)

pub bounds-orders-g : goal.bounds-orders-g
bounds-orders-g c =
    let t = c.requires.tables in
    omega (arith, t.few, t.declared_orders, c.loop-g-test.true)

pub nonzero_rem-rest : goal.nonzero_rem-rest
nonzero_rem-rest c = order-positive-at c.requires.tables c.loop-g.g c.loop-g-test.true

pub overflow_add-rest : goal.overflow_add-rest
overflow_add-rest c =
    let l = c.loop-g in
    let o = order-positive-at c.requires.tables l.g c.loop-g-test.true in
    omega (arith, mod-lt l.rest o)

pub returns-then-rest-o : goal.returns-then-rest-o
returns-then-rest-o c =
    let l = c.loop-g in
    let more = c.loop-g-test.true in
    let copied = c.copy.ensures in
    let moves = c.move_letters.ensures in
    going-last c.requires.tables c.args.index c.args.here.now l.g l.rest l.here l.invariant.3 more (λ v e. copied ∙ moves v e) c.if-rest-o.true

pub nonzero_div-rest : goal.nonzero_div-rest
nonzero_div-rest c = order-positive-at c.requires.tables c.loop-g.g c.loop-g-test.true

pub loop-g-preserved : goal.loop-g-preserved
loop-g-preserved c =
    let l = c.loop-g in
    let more = c.loop-g-test.true in
    let copied = c.copy.ensures in
    let moves = c.move_letters.ensures in (
      omega arith,
      c.copy.auto.dst ∙ l.invariant.1,
      c.move_letters.auto.to ∙ l.invariant.2,
      going_on c.requires.tables c.args.index c.args.here.now l.g l.rest l.here l.invariant.3 more (λ v e. copied ∙ moves v e) c.if-rest-o.false,
    )

pub returns : goal.returns
returns c =
    let l = c.loop-g in
    going_end c.requires.tables c.args.index c.args.here.now l.g l.rest l.here l.invariant.3 c.loop-g-test.false
