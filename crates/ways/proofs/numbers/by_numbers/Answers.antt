-- `numbers::by_numbers` meets its contract: there is room for the planes that the sites use.
use Rattle.rotation.proofs.Packs.{fresh-length}
use mathlib.Core.Path.{refl}
use Rattle.ways.proofs.numbers.by_numbers.Goals as goal

pub in_planes-requires : goal.in_planes-requires
in_planes-requires c =
    let long = fresh-length c.words_in_use-words.result c.words_in_use-words.ensures.1 in record {
      tables = c.requires.tables;
      order_value = c.requires.order_value;
      axes = c.requires.axes;
      renumbered = c.requires.renumbered;
      accepted_word = c.requires.accepted_word;
      u_len_bound = (rw long c.words_in_use-words.ensures.1, rw long c.words_in_use-words.ensures.0, refl, refl, refl);
      order_bound = c.requires.order_bound;
    }
