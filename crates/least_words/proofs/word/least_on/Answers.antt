-- `word::least_on` meets its contract: the parts have answered, or the path of the group is taken.
use mathlib.Core.Path.{◌∙◌}
use native.Mathlib.Omega.{arith}
use Rattle.rotation.proofs.Packs.{fresh-length}
use Rattle.least_words.proofs.word.least_on.Goals as goal

pub returns-then-word_taken : goal.returns-then-word_taken
returns-then-word_taken c = record {
  word = c.word_taken.ensures.word c.if-word_taken.true;
  index = c.word_taken.ensures.index c.if-word_taken.true;
}

pub least_into-led-requires : goal.least_into-led-requires
least_into-led-requires c =
    let left = fresh-length c.words-room.result (omega (arith, c.words-room.ensures, c.requires.taken.1)) ∙ c.words-room.ensures in record {
      tables = c.requires.tables;
      taken = c.requires.taken.0;
      order_value = c.requires.order_value;
      accepted_word = c.requires.accepted_word;
      left_len = (left, c.word_taken.auto.out);
    }
