-- `least::by_one` meets its contract: the inverse of the one candidate that leads reaches the least word.
use mathlib.Core.Path.{sym, ap, ◌∙◌}
use Rattle.pauli_word.specs.Bytes.{bytes_of}
use Rattle.packed.specs.Packed.{bit_of, letters_at}
use Rattle.packed.proofs.Packing.{letters_by-length}
use Rattle.grid.proofs.Leads.{alone-back, alone-fixing}
use Rattle.paths.proofs.Dispatch.{one_least}
use Rattle.paths.proofs.least.by_one.Goals as goal

pub put_planes-requires : goal.put_planes-requires
put_planes-requires c = record {
  planes = rw (← c.reach.auto.x) at c.reach.ensures.planes;
  word_len = c.requires.out_len;
}

pub returns : goal.returns
returns c =
    let a = c.args in
    let w = letters_at a.group.now.sites a.x.now a.z.now in
    let long = letters_by-length a.group.now.sites (bit_of a.x.now) (bit_of a.z.now) in
    let v = c.requires.tables.valid in
    let l = c.requires.leading in record {
      word = c.put_planes.ensures ∙ ap bytes_of (c.reach.ensures.letters ∙ one_least v w long l.0 a.k l.1 c.invert-forward.ensures);
      index = sym (alone-back v w long l.0 a.k l.1);
      fixing = alone-fixing v w long l.0 a.k l.1;
    }
