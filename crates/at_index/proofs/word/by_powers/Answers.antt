-- `word::by_powers` meets its contract: it lends room for the targets and the codes of as many sites.
use Rattle.elements.proofs.Codes.{room}
use Rattle.at_index.proofs.word.by_powers.Goals as goal

pub moved-requires : goal.moved-requires
moved-requires c =
    let long = room c.args.group.now.sites c.requires.tables.sites in record {
      tables = c.requires.tables;
      accepted_word = c.requires.accepted_word;
      perm_len = long;
      room_len = long;
      here_len = long;
      spare_len = long;
    }
