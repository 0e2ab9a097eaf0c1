-- What is counted of `keeps` is counted of the decision, which keeps a word exactly where the modes do: nothing is lost by it.
use Prim.Native.Nat.{ℕ, ◌^◌}
use mathlib.Core.Path.{◌≡◌, refl}
use mathlib.Core.Bool.{Bool, true, false, cond}
use mathlib.Core.List.{List}
use lib.IntN.{ℤ}
use lib.ListN.{length}
use Rattle.outcome.specs.Outcome.{answer}
use Rattle.pauli_word.specs.Word.{Word}
use Rattle.action.specs.Permutation.{Generator, Valid}
use Rattle.action.specs.Orbit.{orbit}
use Rattle.action.specs.Sector.{keeps}
use Rattle.action.specs.Count.{kept_lists, kept_pairs}
use Rattle.action.proofs.Theorems as Action
use Rattle.decisions.specs.Decisions.{kept, dropped, Row, decision}
use Rattle.momentum.specs.Counts.{is_kept}

-- by whether the modes keep the word
pub kept_by : (b : Bool) (r : Row) (i : ℕ) → is_kept (answer (cond b (kept r) (dropped i))) ≡ b
kept_by true r i = refl
kept_by false r i = refl

-- whether the decision keeps a word
abbrev pub decides : List Generator → List ℤ → Word → Bool
decides gs ks w = is_kept (answer (decision gs ks w))

module _ {n : ℕ} {gs : List Generator} (valid : Valid n gs) where
  -- there are 4 ^ n pairs of a representative and a mode list under which the decision keeps it
  pub decided-pairs : kept_pairs (decides gs) gs n ≡ 4 ^ n
  unfolding decision
  decided-pairs = Action.kept-pairs valid (decides gs) (λ w ks e m. kept_by (keeps gs ks w) _ _)

  -- of all mode lists, as many keep a word as its orbit has different words
  pub decided-lists : (w : Word) → length w ≡ n → kept_lists (decides gs) gs w ≡ length (orbit gs w)
  unfolding decision
  decided-lists w long = Action.kept-lists valid w long (decides gs) (λ ks m. kept_by (keeps gs ks w) _ _)
