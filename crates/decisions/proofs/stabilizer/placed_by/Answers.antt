-- `stabilizer::placed_by` meets its contract: by what is said of the indices that fix the word (`one-keeps`, `one_size`; `Says`).
use mathlib.Core.Path.{◌≡◌, sym, ap, ◌∙◌}
use lib.ListN.{length}
use Rattle.pauli_word.specs.Bytes.{letters_in}
use Rattle.pauli_word.proofs.Words.{decode-length}
use Rattle.paths.proofs.Dispatch.{bytes_long}
use Rattle.action.specs.Orbit.{fixing}
use Rattle.elements.specs.HeldGroup.{generators_in}
use Rattle.rotation.proofs.XPlane.{one-keeps, one_size}
use Rattle.decisions.proofs.Placing.{keeps_placed, keeps-word}
use Rattle.decisions.proofs.stabilizer.placed_by.Goals as goal

pub placed_by_step-requires : goal.placed_by_step-requires
placed_by_step-requires c = record {
  tables = c.requires.tables;
  m_value = c.requires.m_value;
  modes_len = c.requires.modes_len;
  out_len = ap length c.requires.out_value ∙ bytes_long _;
}

pub placed_by_set-requires : goal.placed_by_set-requires
placed_by_set-requires c = record {
  tables = c.requires.tables;
  order_value = c.requires.order_value;
  m_value = c.requires.m_value;
  modes_len = c.requires.modes_len;
  out_len = ap length c.requires.out_value ∙ bytes_long _;
}

pub placed_by_traversal-requires : goal.placed_by_traversal-requires
placed_by_traversal-requires c = record {
  tables = c.requires.tables;
  order_value = c.requires.order_value;
  m_value = c.requires.m_value;
  modes_len = c.requires.modes_len;
  accepted_word = c.requires.accepted_word;
  out_len = ap length c.requires.out_value ∙ bytes_long _;
}

pub returns-in-Free : goal.returns-in-Free
returns-in-Free c =
    let ks = c.args.modes.now in
    let gs = generators_in c.args.group.now.generators c.args.group.now.sites c.args.group.now.targets.now c.args.group.now.orders.now in
    let w = letters_in c.args.group.now.sites c.args.word.now in
    let long = decode-length c.requires.accepted_word in
    let one : length (fixing gs w) ≡ 1 = rw c.in-Free.is at c.requires.says in
    let keeps = one-keeps c.requires.tables.valid w long one ks in record {
      answer = keeps_placed gs ks w keeps c.requires.back_value (c.requires.order_value ∙ sym (one_size c.requires.tables.valid w long one));
      word = c.requires.out_value ∙ keeps-word gs ks w keeps;
    }

pub returns-in-Multiples : goal.returns-in-Multiples
returns-in-Multiples c =
    let w = letters_in c.args.group.now.sites c.args.word.now in
    let says = rw c.in-Multiples.is at c.requires.says in record {
      answer = c.placed_by_step.ensures.answer w says c.requires.back_value;
      word = c.placed_by_step.ensures.word w says c.requires.out_value;
    }

pub returns-in-Leading : goal.returns-in-Leading
returns-in-Leading c =
    let w = letters_in c.args.group.now.sites c.args.word.now in
    let long = decode-length c.requires.accepted_word in
    let says = rw c.in-Leading.is at c.requires.says in record {
      answer = c.placed_by_set.ensures.answer w long says c.requires.back_value;
      word = c.placed_by_set.ensures.word w long says c.requires.back_value c.requires.out_value;
    }
