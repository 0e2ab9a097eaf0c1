-- `shift::turn_words` meets its contract.
use Prim.Native.Nat.{◌*◌}
use lib.ListN.{length}
use Rattle.packed.specs.Packed.{word_bits, plane_words, padded_words}
use Rattle.packed.proofs.Shifts.{zeros-at}
use Rattle.packed.proofs.Masks.{turned_padded}
use borrow.Author.Rules.{rules}
use Rattle.packed.proofs.shift.turn_words.Goals as goal

pub pad_words-requires : goal.pad_words-requires
pad_words-requires c = (search rules, λ k. zeros-at padded_words k)

pub returns : goal.returns
returns c =
    let a = c.args in
    turned_padded a.s a.t plane_words a.plane.now c.pad_words.new.pad a.keep.now c.turn_padded.new.plane (word_bits * length a.plane.now) c.requires.s_bound.0 c.pad_words.ensures.before c.pad_words.ensures.words c.turn_padded.ensures
