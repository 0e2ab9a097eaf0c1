-- `settle::learn` meets its contract, by cases.
use mathlib.Core.Path.{refl}
use Rattle.grid.proofs.settle.learn.Goals as goal

pub returns-in-Less : goal.returns-in-Less
returns-in-Less c =
    let is = c.in-Less.is in record {
      lead = rw is refl;
      shift = rw is refl;
    }

pub returns-in-Equal : goal.returns-in-Equal
returns-in-Equal c =
    let is = c.in-Equal.is in record {
      lead = rw is refl;
      shift = rw is (rw c.invert-back.ensures at c.add-shift.ensures);
    }

pub returns-in-Greater : goal.returns-in-Greater
returns-in-Greater c =
    let is = c.in-Greater.is in record {
      lead = rw is refl;
      shift = rw is refl;
    }
