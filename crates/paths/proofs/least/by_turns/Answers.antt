-- `least::by_turns` meets its contract: the least word is copied, the index turned round, and the step handed on.
use mathlib.Core.Path.{◌≡◌, sym, ap, ◌∙◌}
use native.Mathlib.Omega.{arith}
use lib.ListN.{length, get_or}
use Rattle.pauli_word.specs.Bytes.{letters_in}
use Rattle.action.specs.Index.{order_of}
use Rattle.elements.specs.HeldGroup.{generators_in}
use Rattle.paths.proofs.Dispatch.{bytes_long, back_of, one-order}
use Rattle.paths.proofs.least.by_turns.Goals as goal

pub copy-requires : goal.copy-requires
copy-requires c =
    ap length c.canonicalize_block_cyclic-turn.ensures.word ∙ bytes_long _ ∙ sym c.requires.out_len

pub returns : goal.returns
returns c =
    let a = c.args in
    let gs = generators_in a.group.now.generators a.group.now.sites a.group.now.targets.now a.group.now.orders.now in
    let w = letters_in a.group.now.sites a.word.now in
    let one = c.requires.one in
    let whole : order_of gs ≡ get_or a.group.now.orders.now 0 0 = rw one (one-order (rw one at c.requires.tables)) in record {
      word = c.copy.ensures ∙ c.canonicalize_block_cyclic-turn.ensures.word;
      index = back_of gs w c.invert.ensures c.canonicalize_block_cyclic-turn.ensures.index;
      fixing = λ left. record {
        multiples = λ i h. c.canonicalize_block_cyclic-turn.ensures.fixing i (omega (arith, h, whole, c.requires.rotates.1));
        kept = c.canonicalize_block_cyclic-turn.ensures.kept;
        size = c.canonicalize_block_cyclic-turn.ensures.size;
      };
    }
