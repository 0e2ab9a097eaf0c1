-- `row::append_word` meets its contract: the text stands at the front of what spelling gives (`spelled-front`).
use Prim.Native.Nat.{ℕ, ◌+◌}
use mathlib.Core.Path.{◌≡◌, ap, ◌∙◌}
use mathlib.Core.List.{List}
use native.Mathlib.Omega.{arith}
use borrow.Author.Rules.{rules}
use lib.ListN.{length}
use Rattle.text.specs.Text.{put}
use Rattle.sheet_rows.proofs.Rows.{spelled-length, spelled-fine, spelled-front}
use Rattle.sheet_rows.proofs.row.append_word.Goals as goal

pub returns-in_default : goal.returns-in_default
returns-in_default c = absurd (spelled-fine c.args.sites c.args.word.now c.requires.1 c.to_text.ensures c.in_default.is)

pub slice_bounds-append-end : goal.slice_bounds-append-end
slice_bounds-append-end c = omega (arith, (spelled-front c.args.sites c.args.word.now c.requires.1 c.to_text.ensures c.in-Ok.is).1)

pub returns : goal.returns
returns c =
    let a = c.args in
    let (e, long) = spelled-front a.sites a.word.now c.requires.1 c.to_text.ensures c.in-Ok.is in record {
      place = c.append.ensures.place ∙ ap (λ (t : List ℕ). a.at + length t) e ∙ ap (λ (k : ℕ). a.at + k) (spelled-length a.sites a.word.now c.requires.1);
      list = c.append.ensures.list ∙ ap (λ (t : List ℕ). put a.at t a.list.now) e;
    }
