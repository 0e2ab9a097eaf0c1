-- `walk::take_less` meets its contract: comparing the bytes says which word is less (`less-taken`, `less-left`).
use mathlib.Core.Path.{sym, ap, ◌∙◌}
use mathlib.Core.Bool.{Bool, cond}
use Rattle.elements.proofs.LeastSoFar.{less-taken, less-left}
use Rattle.elements.proofs.walk.take_less.Goals as goal

pub returns-in_default : goal.returns-in_default
returns-in_default c =
    let a = c.args in
    let stays =
    less-left c.requires.accepted_word c.requires.accepted_word_2 c.compare_bytes.ensures.order (λ e. absurd (c.in_default.not-Less e))
    in record {
      index = sym (ap (λ (b : Bool). cond b a.i a.index) stays);
      best = sym (ap (λ (b : Bool). cond b a.here.now a.best.now) stays);
    }

pub returns : goal.returns
returns c =
    let a = c.args in
    let takes =
    less-taken c.requires.accepted_word c.requires.accepted_word_2 c.compare_bytes.ensures.order
    c.in-Less.is
    in record {
      index = sym (ap (λ (b : Bool). cond b a.i a.index) takes);
      best = c.copy.ensures ∙ sym (ap (λ (b : Bool). cond b a.here.now a.best.now) takes);
    }
