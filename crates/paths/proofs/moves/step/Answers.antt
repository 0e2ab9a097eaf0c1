-- `moves::step` meets its contract.
use native.Mathlib.Omega.{arith}
use Rattle.paths.proofs.moves.step.Goals as goal

pub find_masks-shapes-requires : goal.find_masks-shapes-requires
find_masks-shapes-requires c = record {
  tables = c.requires.tables;
  sites_bound = c.words_in_use-m.ensures;
  masks_len = omega (arith, c.words_in_use-m.ensures.1);
}

pub advance-requires : goal.advance-requires
advance-requires c = record {
  tables = c.requires.tables;
  sites_bound = c.words_in_use-m.ensures;
  ready = c.find_masks-shapes.ensures;
  accepted_word = c.requires.accepted_word;
}
