use mathlib.Core.Path.{◌∙◌}
use native.Mathlib.Omega.{arith}
use Rattle.renumbered.proofs.table.number_free.Goals as goal

pub loop-q-init : goal.loop-q-init
loop-q-init c = (omega arith, c.requires.site_len.0, c.requires.site_len.1)

pub number_block-start-requires : goal.number_block-start-requires
number_block-start-requires c = let l = c.loop-q in record {
  tables = c.requires.tables;
  order_value = c.requires.order_value;
  site_len = (l.invariant.1, l.invariant.2);
  start_le_sites = (l.invariant.0, c.loop-q-test.true);
}

pub loop-q-preserved : goal.loop-q-preserved
loop-q-preserved c =
    let l = c.loop-q in
    (c.number_block-start.ensures, c.number_block-start.auto.site ∙ l.invariant.1, c.number_block-start.auto.place ∙ l.invariant.2)
