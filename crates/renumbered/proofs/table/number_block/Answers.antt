-- `table::number_block` is safe, and no number passes the sites.
use native.Mathlib.Omega.{arith}
use Rattle.renumbered.proofs.table.number_block.Goals as goal

pub fill_block-requires : goal.fill_block-requires
fill_block-requires c = record {
  tables = c.requires.tables;
  order_value = c.requires.order_value;
  site_len = c.requires.site_len;
  order_bound = (omega (arith, c.if-sites-start.false, c.requires.tables.sites), omega (arith, c.requires.tables.sites, c.requires.start_le_sites.1));
}
