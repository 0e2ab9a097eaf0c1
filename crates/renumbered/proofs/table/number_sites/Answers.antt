use lib.ListN.{length-set}
use mathlib.Core.Path.{◌∙◌}
use native.Mathlib.Omega.{arith}
use Rattle.renumbered.proofs.table.number_sites.Goals as goal

pub loop-q-init : goal.loop-q-init
loop-q-init c = c.requires.site_len.1

pub overflow_cast-place : goal.overflow_cast-place
overflow_cast-place c = omega (arith, c.requires.tables.sites)

pub offset_bounds-place-q : goal.offset_bounds-place-q
offset_bounds-place-q c = omega arith

pub bounds-place-q : goal.bounds-place-q
bounds-place-q c = omega (arith, c.requires.tables.sites, c.loop-q.invariant)

pub loop-q-preserved : goal.loop-q-preserved
loop-q-preserved c = let l = c.loop-q in length-set l.place l.q c.args.group.now.sites ∙ l.invariant

pub number_free-requires : goal.number_free-requires
number_free-requires c = record {
  tables = c.requires.tables;
  order_value = c.requires.order_value;
  site_len = (c.requires.site_len.0, c.loop-q.invariant);
}
