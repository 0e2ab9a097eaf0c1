-- `least::by_many` meets its contract: where refining stopped before its end the word is moved to those left, and else those left lead.
use mathlib.Core.Path.{sym, ◌∙◌}
use Rattle.grid.proofs.Leads.{staged_leads, staged_among}
use Rattle.paths.proofs.least.by_many.Goals as goal

pub when_tired-requires : goal.when_tired-requires
when_tired-requires c =
    let told = sym c.is_tired.ensures ∙ c.if-is_tired.true in record {
      tables = c.requires.tables;
      shapes = c.requires.shapes;
      order_value = c.requires.order_value;
      accepted_word = c.requires.accepted_word;
      planes = c.requires.planes;
      order_bound = c.requires.order_bound;
      among = staged_among c.args.stage told c.requires.staged;
      out_len = c.requires.out_len;
    }

pub by_leading-requires : goal.by_leading-requires
by_leading-requires c =
    let told = sym c.is_tired.ensures ∙ c.if-is_tired.false in record {
      tables = c.requires.tables;
      shapes = c.requires.shapes;
      order_value = c.requires.order_value;
      planes = c.requires.planes.0;
      leading = staged_leads c.args.stage told c.requires.staged;
      out_len = c.requires.out_len;
    }

pub returns : goal.returns
returns c =
    let e = c.requires.accepted_word.1 in record {
      word = rw e at c.by_leading.ensures.word;
      index = rw e at c.by_leading.ensures.index;
      fixing = rw e at c.by_leading.ensures.fixing;
    }
