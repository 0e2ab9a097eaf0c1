-- `least::when_tired` meets its contract: by the least rotation where one generator shifts by 1 and its order is a block, and by moving the word else.
use Prim.Native.Nat.{◌+◌}
use native.Mathlib.Omega.{arith}
use borrow.Author.Tests.{eqb-true}
use lib.ListN.{get_or}
use Rattle.paths.proofs.Dispatch.{one-rotates, one_block}
use Rattle.paths.proofs.least.when_tired.Goals as goal

pub overflow_add-block : goal.overflow_add-block
overflow_add-block c =
    omega (arith, (c.requires.shapes.each 0 (omega (arith, c.if-generators-eq1.true))).blocks.small)

pub by_turns-requires : goal.by_turns-requires
by_turns-requires c =
    let one = c.if-generators-eq1.true in
    let t = rw one at c.requires.tables in
    let shapes = rw one at c.requires.shapes in
    let o = rw one at c.requires.order_value in
    let whole = eqb-true c.args.order (1 + get_or c.args.shapes.now.rests 0 0) c.if-order-block.true-raw in record {
      tables = c.requires.tables;
      one = one;
      rotates = (one-rotates t shapes c.if-strides-eq1.true, one_block t shapes c.args.order whole o);
      accepted_word = c.requires.accepted_word.0;
      out_len = c.requires.out_len;
    }

pub returns-then-order-block : goal.returns-then-order-block
returns-then-order-block c = record {
  word = c.by_turns.ensures.word;
  index = c.by_turns.ensures.index;
  fixing = c.by_turns.ensures.fixing c.args.left.now;
}

pub settle-requires : goal.settle-requires
settle-requires c = record {
  tables = c.requires.tables;
  order_value = c.requires.order_value;
  shapes = c.requires.shapes;
  planes = c.requires.planes;
  order_bound = c.requires.order_bound;
  among = c.requires.among;
}

pub by_leading-requires : goal.by_leading-requires
by_leading-requires c = record {
  tables = c.requires.tables;
  shapes = c.requires.shapes;
  order_value = c.requires.order_value;
  planes = c.requires.planes.0;
  leading = c.settle.ensures;
  out_len = c.requires.out_len;
}

pub returns : goal.returns
returns c =
    let e = c.requires.accepted_word.1 in record {
      word = rw e at c.by_leading.ensures.word;
      index = rw e at c.by_leading.ensures.index;
      fixing = rw e at c.by_leading.ensures.fixing;
    }
