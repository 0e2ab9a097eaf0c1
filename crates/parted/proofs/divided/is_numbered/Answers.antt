-- `divided::is_numbered` meets its contract: the lists stay as long as they were.
use mathlib.Core.Path.{◌∙◌}
use Rattle.parted.proofs.divided.is_numbered.Goals as goal

pub is_renumbered-requires : goal.is_renumbered-requires
is_renumbered-requires c =
    let n = c.number_sites.auto in record {
      tables = c.requires.tables;
      order_value = c.requires.order_value;
      site_len = (n.site ∙ c.requires.site_len.0, n.place ∙ c.requires.site_len.1, c.requires.site_len.2);
    }
