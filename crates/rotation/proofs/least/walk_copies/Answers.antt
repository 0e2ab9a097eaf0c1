-- `least::walk_copies` meets its contract: the word at hand and the best so far are the word.
use mathlib.Core.Path.{sym, ◌∙◌}
use Rattle.rotation.proofs.least.walk_copies.Goals as goal

pub copy-requires-4 : goal.copy-requires-4
copy-requires-4 c = sym c.requires.xs_len.1

pub walk_least-requires : goal.walk_least-requires
walk_least-requires c =
    let u = c.copy.ensures in
    let v = c.copy-2.ensures in
    let xs = c.copy-3.ensures ∙ sym u in
    let zs = c.copy-4.ensures ∙ sym v in record {
      tables = c.requires.tables;
      shapes = c.requires.shapes;
      masks = c.requires.masks;
      planes = (rw (u, v) c.requires.planes, xs, zs);
      order_value = c.requires.order_value;
    }

pub returns : goal.returns
returns c = record {
  index = rw (c.copy.ensures, c.copy-2.ensures) at c.walk_least.ensures.index;
  ties = rw (c.copy.ensures, c.copy-2.ensures) at c.walk_least.ensures.ties;
}
