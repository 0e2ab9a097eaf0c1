-- `least::least_within` meets its contract: packed, turned by what the start of the least turns is short of their step, and unpacked.
use Rattle.rotation.proofs.Packs.{own-length}
use Rattle.cyclic.proofs.Cycles.{found, index_blocks}
use Rattle.cyclic.proofs.least.least_within.Goals as goal

pub turn_by-requires : goal.turn_by-requires
turn_by-requires c = record {
  planes_2 = own-length c.pack_planes.ensures.planes;
  blocks = index_blocks c.requires.accepted_word.1 c.least_turns-turn.ensures c.short_of-index.ensures;
}

pub unpack_planes-requires : goal.unpack_planes-requires
unpack_planes-requires c = own-length c.turn_by.ensures.planes

pub returns : goal.returns
returns c =
    found c.pack_planes.ensures.letters c.least_turns-turn.ensures c.short_of-index.ensures c.turn_by.ensures.letters
    c.unpack_planes.ensures
