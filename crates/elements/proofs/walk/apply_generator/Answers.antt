-- `walk::apply_generator` meets its contract: it lends room for the codes of as many sites.
use Rattle.elements.proofs.Codes.{room}
use Rattle.elements.proofs.walk.apply_generator.Goals as goal

pub moved-requires : goal.moved-requires
moved-requires c =
    let long = room c.args.sites c.requires.accepted_word.sites in record {
      permutes = c.requires.permutes;
      accepted_word = c.requires.accepted_word;
      from_len = long;
      to_len = long;
    }
