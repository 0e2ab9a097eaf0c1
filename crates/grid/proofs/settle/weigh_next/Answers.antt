-- `settle::weigh_next` meets its contract: a candidate that is left is found at once where it is known to give the best word, and weighed elsewhere; another
-- changes nothing.
use mathlib.Core.Path.{sym, ◌∙◌}
use Rattle.packed.specs.Packed.{bit_of}
use Rattle.packed.proofs.Packing.{letters_by-length}
use Rattle.rotation.proofs.Packs.{own-length}
use Rattle.grid.proofs.Settling.{weighed-out, weighed-tie, weighed-in, knows-tie, knows-next}
use borrow.Author.Tests.{not-true, not-false}
use Rattle.grid.proofs.settle.weigh_next.Goals as goal

pub returns-then-not-holds : goal.returns-then-not-holds
returns-then-not-holds c = record {
  planes = c.requires.planes_2.1;
  weighed = weighed-out c.requires.weighed_2 (sym c.holds.ensures ∙ not-true c.holds.result c.if-not-holds.true-raw);
  known = c.requires.knows;
}

pub returns-then-is_known : goal.returns-then-is_known
returns-then-is_known c =
    let h = c.requires.weighed_2 in
    let known = c.requires.knows in
    let own = sym c.holds.ensures ∙ not-false c.holds.result c.if-not-holds.false-raw in
    let long = letters_by-length c.args.group.now.sites (bit_of c.args.x.now) (bit_of c.args.z.now) in
    let same = knows-tie c.requires.tables.valid long known h (sym c.is_known.ensures ∙ c.if-is_known.true) in record {
      planes = c.requires.planes_2.1;
      weighed = weighed-tie h own same c.put.ensures;
      known = known;
    }

pub give-requires : goal.give-requires
give-requires c = record {
  tables = c.requires.tables;
  shapes = c.requires.shapes;
  planes_2 = c.requires.planes_2.0;
  u_len = (c.requires.u_len.0, c.requires.u_len.1);
}

pub weigh-told-requires : goal.weigh-told-requires
weigh-told-requires c =
    let p = c.requires.planes_2.1 in
    let even = c.give.auto.v ∙ c.requires.u_len.1 ∙ sym c.requires.u_len.2 in record {
      v_len = (even, c.requires.k_bound);
      planes_2 = rw p.x_long c.give.ensures.planes;
      planes_3 = own-length p;
    }

pub learn-requires : goal.learn-requires
learn-requires c = c.requires.tables

pub returns : goal.returns
returns c =
    let g = c.give.ensures.letters in
    let p = c.requires.planes_2.1 in
    let own = sym c.holds.ensures ∙ not-false c.holds.result c.if-not-holds.false-raw in
    let long = letters_by-length c.args.group.now.sites (bit_of c.args.x.now) (bit_of c.args.z.now) in
    let next = knows-next c.requires.tables.valid long c.args.k c.requires.knows g c.weigh-told.ensures.told c.weigh-told.ensures.letters c.learn.ensures.lead c.learn.ensures.shift in record {
      planes = rw p.x_long at c.weigh-told.ensures.planes;
      weighed = weighed-in c.requires.weighed_2 own g c.weigh-told.ensures.letters c.weigh-told.ensures.found;
      known = next;
    }
