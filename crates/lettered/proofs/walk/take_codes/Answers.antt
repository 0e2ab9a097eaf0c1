-- `walk::take_codes` meets its contract: each arm is what its order says.
use Rattle.std.specs.declared.cmp.Ordering.{Ordering}
use mathlib.Core.Path.{sym, ap, ◌∙◌}
use Rattle.elements.specs.Letters.{codes}
use Rattle.rotation.specs.Rotation.{led, tied}
use Rattle.lettered.proofs.walk.take_codes.Goals as goal

pub returns-in-Less : goal.returns-in-Less
returns-in-Less c =
    let a = c.args in
    let told = c.in-Less.is in
    let stands = c.compare.ensures in record {
      index = λ v w ev ew. ap (λ (o : Ordering). led o a.i a.index) (sym told ∙ stands v w ev ew);
      ties = λ v w ev ew. ap (λ (o : Ordering). tied o a.ties) (sym told ∙ stands v w ev ew);
      best = λ v w ev ew. c.copy.ensures ∙ ev ∙ ap (λ (o : Ordering). codes (led o v w)) (sym told ∙ stands v w ev ew);
    }

pub returns-in-Equal : goal.returns-in-Equal
returns-in-Equal c =
    let a = c.args in
    let told = c.in-Equal.is in
    let stands = c.compare.ensures in record {
      index = λ v w ev ew. ap (λ (o : Ordering). led o a.i a.index) (sym told ∙ stands v w ev ew);
      ties = λ v w ev ew. ap (λ (o : Ordering). tied o a.ties) (sym told ∙ stands v w ev ew);
      best = λ v w ev ew. ew ∙ ap (λ (o : Ordering). codes (led o v w)) (sym told ∙ stands v w ev ew);
    }

pub returns-in-Greater : goal.returns-in-Greater
returns-in-Greater c =
    let a = c.args in
    let told = c.in-Greater.is in
    let stands = c.compare.ensures in record {
      index = λ v w ev ew. ap (λ (o : Ordering). led o a.i a.index) (sym told ∙ stands v w ev ew);
      ties = λ v w ev ew. ap (λ (o : Ordering). tied o a.ties) (sym told ∙ stands v w ev ew);
      best = λ v w ev ew. ew ∙ ap (λ (o : Ordering). codes (led o v w)) (sym told ∙ stands v w ev ew);
    }
