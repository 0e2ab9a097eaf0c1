-- `stabilizer::traverse` meets its contract: it finds the masks and hands them to the traversal.
use native.Mathlib.Omega.{arith}
use Rattle.decisions.proofs.stabilizer.traverse.Goals as goal

pub find_masks-shapes-requires : goal.find_masks-shapes-requires
find_masks-shapes-requires c = record {
  tables = c.requires.tables;
  sites_bound = c.words_in_use-words.ensures;
  masks_len = omega (arith, c.words_in_use-words.ensures.1);
}

pub canonicalize_with_stabilizer-requires : goal.canonicalize_with_stabilizer-requires
canonicalize_with_stabilizer-requires c = record {
  tables = c.requires.tables;
  order_value = c.requires.order_value;
  m_value = c.requires.m_value;
  modes_len = c.requires.modes_len;
  accepted_word = c.requires.accepted_word;
  sites_bound = c.words_in_use-words.ensures;
  ready = c.find_masks-shapes.ensures;
}
