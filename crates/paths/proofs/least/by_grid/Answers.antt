-- `least::by_grid` meets its contract: there is room for the planes that the sites use.
use mathlib.Core.Path.{refl}
use Rattle.rotation.proofs.Packs.{fresh-length}
use Rattle.paths.proofs.least.by_grid.Goals as goal

pub in_planes-requires : goal.in_planes-requires
in_planes-requires c =
    let long = fresh-length c.words_in_use-words.result c.words_in_use-words.ensures.1 in record {
      tables = c.requires.tables;
      shapes = c.requires.shapes;
      order_value = c.requires.order_value;
      steps = c.requires.steps;
      accepted_word = c.requires.accepted_word;
      x_len_bound = (rw long c.words_in_use-words.ensures.1, rw long c.words_in_use-words.ensures.0, refl);
      out_len = c.requires.out_len;
    }
