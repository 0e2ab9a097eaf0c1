-- `word::by_rotations` meets its contract: the planes have a bit for each site.
use mathlib.Core.Path.{refl}
use Rattle.rotation.proofs.Packs.{fresh-length}
use Rattle.at_index.proofs.word.by_rotations.Goals as goal

pub turned-requires : goal.turned-requires
turned-requires c =
    let long = fresh-length c.words_in_use-m.result c.words_in_use-m.ensures.1 in record {
      tables = c.requires.tables;
      shapes = c.requires.shapes;
      accepted_word = c.requires.accepted_word;
      sites_bound = (rw long c.words_in_use-m.ensures.0, rw long c.words_in_use-m.ensures.1, refl);
    }
