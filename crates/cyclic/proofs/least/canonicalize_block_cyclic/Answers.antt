-- `least::canonicalize_block_cyclic` meets its contract: what is found of the word says it of the group that the tables hold.
use Rattle.pauli_word.specs.Bytes.{letters_in}
use Rattle.pauli_word.proofs.Words.{decode-length}
use Rattle.cyclic.proofs.Cycles.{found-answers}
use Rattle.cyclic.proofs.least.canonicalize_block_cyclic.Goals as goal

pub returns : goal.returns
returns c =
    let one = c.requires.one in
    let it = found-answers (rw one at c.requires.tables) c.requires.rotates.0 c.requires.rotates.1 (letters_in c.args.group.now.sites c.args.word.now) (decode-length c.requires.accepted_word)
    c.least_within.ensures in record {
      word = rw one it.0;
      index = rw one it.1.0;
      positive = it.1.1.0;
      fixing = rw one it.1.1.1.0;
      size = rw one it.1.1.1.1.0;
      kept = rw one it.1.1.1.1.1;
    }
