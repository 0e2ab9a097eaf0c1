-- `write::append_decimal` meets its contract: what is appended is the digits (`rest-slice`).
use Prim.Native.Nat.{ℕ, ◌+◌, ◌-◌}
use mathlib.Core.Path.{◌≡◌, ap, ◌∙◌}
use mathlib.Core.List.{List}
use lib.ListN.{length, take, drop}
use borrow.Author.Rules.{rules}
use Rattle.text.specs.Text.{decimal, max_digits, put}
use Rattle.text.proofs.Decimals.{rest_slice}
use Rattle.text.proofs.write.append_decimal.Goals as goal

pub returns : goal.returns
returns c =
    let list = c.fill_digits-first.new.digits in
    let e : take (max_digits - c.fill_digits-first.result) (drop c.fill_digits-first.result list) ≡ decimal c.args.number =
    rest_slice list c.fill_digits-first.result max_digits (search rules) ∙ c.fill_digits-first.ensures.digits
    in record {
      place = c.append.ensures.place ∙ ap (λ (t : List ℕ). c.args.at + length t) e;
      list = c.append.ensures.list ∙ ap (λ (t : List ℕ). put c.args.at t c.args.list.now) e;
    }
