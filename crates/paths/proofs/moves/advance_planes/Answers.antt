-- `moves::advance_planes` meets its contract: the word goes into planes, a step on, and back.
use mathlib.Core.Path.{sym, ap, ◌∙◌}
use lib.ListN.{length}
use Rattle.pauli_word.specs.Limits.{plane_length}
use Rattle.pauli_word.specs.Bytes.{bytes_of}
use Rattle.pauli_word.proofs.Words.{encode-length}
use Rattle.action.specs.Index.{digits}
use Rattle.action.specs.Orbit.{stepped}
use Rattle.elements.specs.HeldGroup.{generators_in}
use Rattle.rotation.proofs.Packs.{own-length}
use Rattle.paths.proofs.moves.advance_planes.Goals as goal

pub advance-requires : goal.advance-requires
advance-requires c = record {
  tables = c.requires.tables;
  shapes = c.requires.ready.shapes;
  masks = c.requires.ready.kept;
  planes_2 = c.pack_planes.ensures.planes;
}

pub unpack_planes-moved-requires : goal.unpack_planes-moved-requires
unpack_planes-moved-requires c = own-length c.advance.ensures.planes

pub copy-requires : goal.copy-requires
copy-requires c = ap length c.unpack_planes-moved.ensures ∙ encode-length plane_length _ ∙ sym c.requires.accepted_word.long

pub returns : goal.returns
returns c =
    let gs = generators_in c.args.group.now.generators c.args.group.now.sites c.args.group.now.targets.now c.args.group.now.orders.now in
    c.copy.ensures
    ∙ c.unpack_planes-moved.ensures
    ∙ ap bytes_of (c.advance.ensures.letters ∙ ap (stepped gs (digits gs c.args.index)) c.pack_planes.ensures.letters)
