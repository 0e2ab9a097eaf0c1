use mathlib.Core.Path.{ap, ◌≡◌, refl, ◌∙◌}
use lib.ListN.{length-set, length}
use Rattle.split.proofs.Listing.{listed_none, listed-skip, listed_next}
use native.Mathlib.Omega.{arith}
use Rattle.split.proofs.places.list_places.Goals as goal
use Rattle.split.proofs.places.list_places.Goals.{then-entries-q, else-entries-q}

pub loop-q-init : goal.loop-q-init
loop-q-init c = (omega arith, refl, refl, listed_none c.args.entries.now _ c.args.table.now c.args.number.now)

pub offset_bounds-entries-q : goal.offset_bounds-entries-q
offset_bounds-entries-q c = omega arith

pub bounds-entries-q : goal.bounds-entries-q
bounds-entries-q c = omega arith

pub overflow_cast-table : goal.overflow_cast-table
overflow_cast-table c = omega arith

pub offset_bounds-table-m : goal.offset_bounds-table-m
offset_bounds-table-m c = omega (arith, c.loop-q.invariant.3.few)

pub bounds-table-m : goal.bounds-table-m
bounds-table-m c = omega (arith, c.loop-q.invariant.3.few)

pub overflow_cast-number : goal.overflow_cast-number
overflow_cast-number c = omega (arith, c.loop-q.invariant.3.few)

pub offset_bounds-number-q : goal.offset_bounds-number-q
offset_bounds-number-q c = omega arith

pub bounds-number-q : goal.bounds-number-q
bounds-number-q c = omega (arith, c.loop-q.invariant.3.few)

pub overflow_add-m : goal.overflow_add-m
overflow_add-m c = omega (arith, c.loop-q.invariant.3.few)

pub loop-q-preserved : goal.loop-q-preserved
loop-q-preserved c =
    let l = c.loop-q in
    let i = l.invariant in (
      omega arith,
      elim c.if-entries-q.branch [ then-entries-q w ↦ ap length w.table-is ∙ simp length-set i.1 | else-entries-q w ↦ ap length w.table-is ∙ i.1 ],
      elim c.if-entries-q.branch [ then-entries-q w ↦ ap length w.number-is ∙ simp length-set i.2 | else-entries-q w ↦ ap length w.number-is ∙ i.2 ],
      elim c.if-entries-q.branch [
        | then-entries-q w ↦ rw (w.table-is, w.number-is, w.m-is) (listed_next c.args.entries.now l.table l.number i.3 w.if-entries-q.true (omega (arith, i.3.few)) (omega arith))
        | else-entries-q w ↦ rw (w.table-is, w.number-is, w.m-is) (listed-skip c.args.entries.now l.table l.number i.3 w.if-entries-q.false)
      ],
    )

pub returns : goal.returns
returns c = let e : c.loop-q.q ≡ c.args.n = omega arith in rw (← e) c.loop-q.invariant.3
