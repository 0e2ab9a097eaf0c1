-- `divided::find_parts` meets its contract: it says yes only where the test of labels and owners passes.
use borrow.Author.Tests.{not-false}
use mathlib.Core.Bool.{false≢true}
use Rattle.parted.proofs.divided.find_parts.Goals as goal

pub returns-then-not-is_divided : goal.returns-then-not-is_divided
returns-then-not-is_divided c = record {
  labels = (λ e. absurd (false≢true e));
  divided = (λ e. absurd (false≢true e));
}

pub returns-then-has_two : goal.returns-then-has_two
returns-then-has_two c =
    let told = not-false _ c.if-not-is_divided.false-raw in record {
      labels = (λ e. c.is_divided.ensures.labels told);
      divided = (λ e. c.is_divided.ensures.divided told);
    }

pub returns : goal.returns
returns c =
    let told = not-false _ c.if-not-is_divided.false-raw in record {
      labels = (λ e. c.is_divided.ensures.labels told);
      divided = (λ e. c.is_divided.ensures.divided told);
    }
