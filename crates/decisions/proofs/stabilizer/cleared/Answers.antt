-- `stabilizer::cleared` meets its contract.
use Prim.Native.Nat.{ℕ, ◌-◌}
use mathlib.Core.Path.{◌≡◌, refl, ap, ◌∙◌}
use native.Mathlib.Omega.{arith}
use lib.ListN.{length, replicate}
use Rattle.pauli_word.specs.Limits.{word_length}
use Rattle.decisions.proofs.stabilizer.cleared.Goals as goal

pub returns : goal.returns
returns c =
    let long : length c.args.out.now - 0 ≡ word_length = omega (arith, c.requires) in record {
      answer = refl;
      word = c.bytes_from.ensures ∙ ap (λ (k : ℕ). replicate {A = ℕ} k 0) long;
    }
