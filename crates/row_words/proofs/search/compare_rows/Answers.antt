-- `search::compare_rows` meets its contract.
use mathlib.Core.Path.{ap₂, ◌∙◌}
use mathlib.Core.List.{List}
use Prim.Native.Nat.{ℕ}
use Rattle.pauli_word.specs.Bytes.{plane_bits}
use Rattle.pauli_word.specs.Calls.{order_of_bits}
use Rattle.row_lists.proofs.Rows.{part-row}
use Rattle.row_words.proofs.search.compare_rows.Goals as goal

pub returns : goal.returns
returns c =
    let a = c.args in
    c.compare_bytes.ensures.order ∙ ap₂ (λ (x y : List ℕ). order_of_bits (plane_bits x) (plane_bits y)) (part-row a.words.now a.a) (part-row a.words.now a.b)
