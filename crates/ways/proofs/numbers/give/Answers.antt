-- `numbers::give` meets its contract: the smallest index that reaches the least word moves the word to it.
use Rattle.paths.proofs.Dispatch.{back_of}
use Rattle.rotation.proofs.Leads.{lead_least}
use Rattle.elements.specs.HeldGroup.{generators_in}
use Rattle.action.specs.Orbit.{reach}
use Rattle.pauli_word.specs.Bytes.{letters_in, bytes_of}
use Rattle.pauli_word.specs.Word.{Word}
use mathlib.Core.Path.{ap, ◌∙◌}
use Rattle.ways.proofs.numbers.give.Goals as goal

pub reach-requires : goal.reach-requires
reach-requires c =
    let q = c.requires.planes in record {
      tables = c.requires.tables;
      axes = c.requires.axes;
      renumbered = c.requires.renumbered;
      planes_2 = (q.0, q.1);
      x_len = (q.2, q.3);
    }

pub put_planes-requires : goal.put_planes-requires
put_planes-requires c = record {
  planes = rw (← c.reach.auto.x) at c.reach.ensures.planes;
  word_len = c.requires.out_len;
}

pub returns : goal.returns
returns c =
    let a = c.args in
    let gs = generators_in a.group.now.generators a.group.now.sites a.group.now.targets.now a.group.now.orders.now in
    let w = letters_in a.group.now.sites a.word.now in
    let read = c.requires.read_through in
    let (f, l) = c.requires.forward_value in record {
      word = c.put_planes.ensures
          ∙ ap bytes_of (c.reach.ensures.letters read.x read.z read.x_read read.z_read ∙ ap (λ (v : Word). reach gs a.forward v) read.word ∙ lead_least c.requires.tables.valid w f);
      index = back_of gs w c.invert.ensures f;
      fixing = l;
    }
