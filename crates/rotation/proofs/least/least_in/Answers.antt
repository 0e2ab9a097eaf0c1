-- `least::least_in` meets its contract: the planes hold the word, and then what the index that leads reaches from it, which is the least.
use mathlib.Core.Path.{sym, ap, ◌∙◌}
use Rattle.pauli_word.specs.Bytes.{letters_in, bytes_of}
use Rattle.rotation.proofs.Packs.{own-length}
use Rattle.rotation.proofs.Leads.{lead_least}
use Rattle.rotation.proofs.least.least_in.Goals as goal

pub lead_of-lead-requires : goal.lead_of-lead-requires
lead_of-lead-requires c =
    let p = c.pack_planes.ensures.planes in
    let even = c.pack_planes.auto.z ∙ c.requires.x_len_bound.2 ∙ sym p.x_long in record {
      tables = c.requires.tables;
      shapes = c.requires.shapes;
      z_len = (even, own-length p);
      order_value = c.requires.order_value;
    }

pub reach-requires : goal.reach-requires
reach-requires c = record {
  tables = c.requires.tables;
  shapes = c.requires.shapes;
  planes_2 = own-length c.pack_planes.ensures.planes;
}

pub unpack_planes-out-requires : goal.unpack_planes-out-requires
unpack_planes-out-requires c = own-length c.reach.ensures.planes

pub returns : goal.returns
returns c =
    let index = rw c.pack_planes.ensures.letters at c.lead_of-lead.ensures.index in
    let ties = rw c.pack_planes.ensures.letters at c.lead_of-lead.ensures.ties in
    let moved = rw c.pack_planes.ensures.letters at c.reach.ensures.letters in
    let reached = moved ∙ lead_least c.requires.tables.valid (letters_in c.args.group.now.sites c.args.word.now) index in record {
      word = c.unpack_planes-out.ensures ∙ ap bytes_of reached;
      index = index;
      ties = ties;
    }
