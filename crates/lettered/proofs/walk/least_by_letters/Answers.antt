-- `walk::least_by_letters` meets its contract: it lends room for the codes of as many sites.
use Rattle.elements.proofs.Codes.{room}
use Rattle.lettered.proofs.walk.least_by_letters.Goals as goal

pub least_in_room-requires : goal.least_in_room-requires
least_in_room-requires c =
    let long = room c.args.group.now.sites c.requires.tables.sites in record {
      tables = c.requires.tables;
      accepted_word = c.requires.accepted_word;
      order_value = c.requires.order_value;
      here_len = long;
      best_len = long;
      spare_len = long;
    }
