-- `rows::clear_row` meets its contract: by the test.
use Rattle.pauli_word.specs.Limits.{word_length}
use Prim.Native.Nat.{ℕ, ◌-◌}
use lib.ListN.{length, replicate}
use mathlib.Core.Path.{◌≡◌, ap, ◌∙◌}
use native.Mathlib.Omega.{arith}
use borrow.Author.Tests.{ne_eqb, eq-eqb}
use Rattle.sector_parts.proofs.rows.clear_row.Goals as goal

pub returns-then-size-ne0 : goal.returns-then-size-ne0
returns-then-size-ne0 c = rw (ne_eqb c.args.size 0 c.if-size-ne0.true)

pub returns : goal.returns
returns c =
    let full : length c.args.row.now - 0 ≡ word_length = omega (arith, c.requires) in
    rw (eq-eqb c.args.size 0 c.if-size-ne0.false) (c.bytes_from.ensures ∙ ap (λ (k : ℕ). replicate k 0) full)
