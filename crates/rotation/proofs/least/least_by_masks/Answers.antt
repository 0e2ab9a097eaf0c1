-- `least::least_by_masks` meets its contract: the planes have a bit for each site.
use mathlib.Core.Path.{refl}
use Rattle.rotation.proofs.Packs.{fresh-length}
use Rattle.rotation.proofs.least.least_by_masks.Goals as goal

pub least_in-requires : goal.least_in-requires
least_in-requires c =
    let long = fresh-length c.words_in_use-m.result c.words_in_use-m.ensures.1 in record {
      tables = c.requires.tables;
      shapes = c.requires.shapes;
      accepted_word = c.requires.accepted_word;
      order_value = c.requires.order_value;
      x_len_bound = (rw long c.words_in_use-m.ensures.1, rw long c.words_in_use-m.ensures.0, refl);
    }
