-- `places::arrange` meets its contract: the list with its rows in place, and zeros after those, is the list arranged (`words-arranged`).
use Prim.Native.Nat.{ℕ}
use mathlib.Core.Path.{◌≡◌, ◌∙◌}
use mathlib.Core.List.{List}
use native.Mathlib.Omega.{arith}
use lib.ListN.{length, take}
use lib.Seq.{length-take-le}
use Rattle.row_lists.proofs.Placing.{words_arranged}
use Rattle.row_lists.proofs.places.arrange.Goals as goal

pub returns : goal.returns
returns c =
    let a = c.args in
    let ok = c.requires in
    let ps : List ℕ = take a.used a.positions.now in
    let few : length ps ≡ a.used = length-take-le a.used a.positions.now (omega (arith, ok.places, ok.few, ok.enough)) in
    c.bytes_from.ensures ∙ words_arranged ps a.used few c.place_rows.ensures.placed
