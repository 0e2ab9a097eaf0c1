-- `settle::weigh` meets its contract: each answer of the comparison is a case of what is kept, found and told.
use mathlib.Core.Path.{refl, sym, ap₂, ◌∙◌}
use Rattle.packed.specs.Packed.{letters_at}
use Rattle.grid.proofs.settle.weigh.Goals as goal

pub returns-in-Less : goal.returns-in-Less
returns-in-Less c =
    let least = sym c.order_of.ensures ∙ c.in-Less.is in
    let x = c.copy.ensures in
    let z = c.copy-in-Less.ensures in record {
      planes = rw (x, z) c.requires.planes_2;
      letters = rw least (ap₂ (letters_at c.args.sites) x z);
      told = rw least refl;
      found = rw least c.put_alone.ensures;
    }

pub returns-in-Equal : goal.returns-in-Equal
returns-in-Equal c =
    let least = sym c.order_of.ensures ∙ c.in-Equal.is in record {
      planes = c.requires.planes_3;
      letters = rw least refl;
      told = rw least refl;
      found = rw least c.put.ensures;
    }

pub returns-in-Greater : goal.returns-in-Greater
returns-in-Greater c =
    let least = sym c.order_of.ensures ∙ c.in-Greater.is in record {
      planes = c.requires.planes_3;
      letters = rw least refl;
      told = rw least refl;
      found = rw least (λ j. refl);
    }
