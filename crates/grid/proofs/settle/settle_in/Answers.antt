-- `settle::settle_in` meets its contract: the first candidate that is left is the best before any is weighed, and those that are found when all are lead.
use mathlib.Core.Path.{sym, ◌∙◌}
use native.Mathlib.Omega.{arith}
use Rattle.grid.proofs.Settling.{none_bit, weighed_start, weighed_leading}
use Rattle.grid.proofs.settle.settle_in.Goals as goal

pub first_of-k-requires : goal.first_of-k-requires
first_of-k-requires c =
    let a = c.requires.among in
    (omega (arith, a.inside a.some.0 a.some.1, c.requires.order_value, c.requires.order_bound.0), c.requires.order_bound.1)

pub give-requires : goal.give-requires
give-requires c = record {
  tables = c.requires.tables;
  shapes = c.requires.shapes;
  planes_2 = c.requires.planes;
  u_len = (c.requires.xs_len.0, c.requires.xs_len.1);
}

pub weigh_all-requires : goal.weigh_all-requires
weigh_all-requires c =
    let a = c.requires.among in
    let long = c.requires.u_len in
    let start = weighed_start c.first_of-k.result (c.first_of-k.ensures.first a.some.0 a.some.1) c.give.ensures.letters (λ j. c.fill_run.ensures j ∙ none_bit j) in record {
      tables = c.requires.tables;
      shapes = c.requires.shapes;
      planes = (c.requires.planes, c.give.ensures.planes);
      u_len = (long.0, long.1, c.give.auto.v ∙ c.requires.xs_len.1);
      order_bound = omega (arith, c.fill_run.auto.mask, c.requires.xs_len.2, c.requires.order_bound.0);
      weighed = start;
      first_value = sym c.give.ensures.letters;
    }

pub copy-requires : goal.copy-requires
copy-requires c =
    c.weigh_all.auto.found ∙ c.fill_run.auto.mask ∙ c.requires.xs_len.2

pub returns : goal.returns
returns c =
    rw c.copy.ensures (weighed_leading c.requires.among (rw c.requires.order_value at c.weigh_all.ensures))
