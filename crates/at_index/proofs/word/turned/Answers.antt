-- `word::turned` meets its contract: the planes hold the word, and then what the index reaches from it.
use mathlib.Core.Path.{ap, ◌∙◌}
use Rattle.pauli_word.specs.Bytes.{bytes_of}
use Rattle.rotation.proofs.Packs.{own-length}
use Rattle.at_index.proofs.word.turned.Goals as goal

pub reach-requires : goal.reach-requires
reach-requires c = record {
  tables = c.requires.tables;
  shapes = c.requires.shapes;
  planes_2 = own-length c.pack_planes.ensures.planes;
}

pub unpack_planes-requires : goal.unpack_planes-requires
unpack_planes-requires c = own-length c.reach.ensures.planes

pub returns : goal.returns
returns c = c.unpack_planes.ensures ∙ ap bytes_of (rw c.pack_planes.ensures.letters at c.reach.ensures.letters)
