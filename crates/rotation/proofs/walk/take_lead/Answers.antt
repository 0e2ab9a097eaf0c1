-- `walk::take_lead` meets its contract: each answer of the comparison is a case of what is to be kept and counted.
use mathlib.Core.Path.{refl, sym, ◌∙◌}
use Rattle.rotation.proofs.walk.take_lead.Goals as goal

pub returns-in-Less : goal.returns-in-Less
returns-in-Less c =
    let least = sym c.order_of.ensures ∙ c.in-Less.is in record {
      index = rw least refl;
      ties = rw least refl;
      x = rw least c.copy.ensures;
      z = rw least c.copy-in-Less.ensures;
    }

pub returns-in-Equal : goal.returns-in-Equal
returns-in-Equal c =
    let same = sym c.order_of.ensures ∙ c.in-Equal.is in record {
      index = rw same refl;
      ties = rw same refl;
      x = rw same refl;
      z = rw same refl;
    }

pub returns-in-Greater : goal.returns-in-Greater
returns-in-Greater c =
    let greater = sym c.order_of.ensures ∙ c.in-Greater.is in record {
      index = rw greater refl;
      ties = rw greater refl;
      x = rw greater refl;
      z = rw greater refl;
    }
