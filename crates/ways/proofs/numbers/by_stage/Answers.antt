-- `numbers::by_stage` meets its contract: those left lead.
use Rattle.grid.proofs.Leads.{staged_leads}
use Rattle.pauli_word.proofs.Words.{decode-length}
use Rattle.pauli_word.specs.Bytes.{letters_in}
use Rattle.ways.proofs.numbers.by_stage.Goals as goal

pub give-requires : goal.give-requires
give-requires c =
    let a = c.args in
    let (ok, told, staged) = c.requires.accepted_word in
    let w = letters_in a.group.now.sites a.word.now in record {
      tables = c.requires.tables;
      axes = c.requires.axes;
      renumbered = c.requires.renumbered;
      accepted_word = ok;
      forward_value = (c.forward_by-forward.ensures w (decode-length ok) told staged, staged_leads a.stage told staged);
      planes = c.requires.planes;
      read_through = c.requires.read_through;
      out_len = c.requires.out_len;
    }
