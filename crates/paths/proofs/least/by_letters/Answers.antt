-- `least::by_letters` meets its contract: the least word is copied, and the index turned round.
use mathlib.Core.Path.{sym, ap, ◌∙◌}
use lib.ListN.{length}
use Rattle.pauli_word.specs.Bytes.{letters_in}
use Rattle.elements.specs.HeldGroup.{generators_in}
use Rattle.paths.proofs.Dispatch.{bytes_long, back_of}
use Rattle.paths.proofs.least.by_letters.Goals as goal

pub copy-requires : goal.copy-requires
copy-requires c =
    ap length c.least_by_letters-found.ensures.word ∙ bytes_long _ ∙ sym c.requires.out_len

pub returns : goal.returns
returns c =
    let a = c.args in
    let gs = generators_in a.group.now.generators a.group.now.sites a.group.now.targets.now a.group.now.orders.now in
    let w = letters_in a.group.now.sites a.word.now in record {
      word = c.copy.ensures ∙ c.least_by_letters-found.ensures.word;
      index = back_of gs w c.invert.ensures c.least_by_letters-found.ensures.index;
      fixing = λ left. c.by_ties.ensures gs w left c.least_by_letters-found.ensures.ties;
    }
