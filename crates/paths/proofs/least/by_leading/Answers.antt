-- `least::by_leading` meets its contract: the least inverse of a candidate that leads reaches the least word.
use mathlib.Core.Path.{ap, ◌∙◌}
use Rattle.pauli_word.specs.Bytes.{bytes_of}
use Rattle.elements.specs.HeldGroup.{generators_in}
use Rattle.packed.specs.Packed.{bit_of, letters_at}
use Rattle.packed.proofs.Packing.{letters_by-length}
use Rattle.rotation.proofs.Leads.{lead_least}
use Rattle.paths.proofs.Dispatch.{back_of}
use Rattle.paths.proofs.least.by_leading.Goals as goal

pub put_planes-requires : goal.put_planes-requires
put_planes-requires c = record {
  planes = rw (← c.reach.auto.x) at c.reach.ensures.planes;
  word_len = c.requires.out_len;
}

pub returns : goal.returns
returns c =
    let a = c.args in
    let gs = generators_in a.group.now.generators a.group.now.sites a.group.now.targets.now a.group.now.orders.now in
    let w = letters_at a.group.now.sites a.x.now a.z.now in
    let l = c.requires.leading in
    let f = c.forward_of-forward.ensures w (letters_by-length a.group.now.sites (bit_of a.x.now) (bit_of a.z.now)) l in record {
      word = c.put_planes.ensures ∙ ap bytes_of (c.reach.ensures.letters ∙ lead_least c.requires.tables.valid w f);
      index = back_of gs w c.invert.ensures f;
      fixing = l;
    }
