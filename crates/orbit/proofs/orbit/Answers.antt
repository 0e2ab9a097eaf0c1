-- `orbit` meets its contract: the walk holds the group, and the word and the index that `lent::orbit` begins at.
use Prim.Native.Nat.{ℕ}
use mathlib.Core.Path.{◌≡◌, refl, sym, ap, ◌∙◌}
use mathlib.Core.List.{List}
use Rattle.std.specs.Prelude.{Result}
use Rattle.outcome.specs.declared.Refusal.{Refusal}
use Rattle.outcome.specs.Outcome.{Outcome, refused, answer, outcome_of, verdict, given, on_answer}
use Rattle.outcome.proofs.Outcomes.{handed_on}
use Rattle.pauli_word.specs.Bytes.{in_full}
use Rattle.group.specs.declared.Group.{Group}
use Rattle.orbit.specs.declared.Walk.{Walk}
use Rattle.orbit.specs.declared.lent.Beginning.{Beginning}
use Rattle.orbit.specs.Calls.{word_call_checks, begin_outcome, beginning, walk_in}
use Rattle.orbit.proofs.orbit.Goals as goal

-- a group's walk from a beginning
abbrev walk_from : Group → Outcome Beginning → Outcome Walk
walk_from g o = on_answer (λ (b : Beginning). walk_in g b.at b.index) o

module _ (g : Group) (n : ℕ) (bytes : List ℕ) where
  whole : walk_from g (on_answer beginning (begin_outcome g n bytes)) ≡ begin_outcome g n bytes
  unfolding begin_outcome
  whole = go (verdict (word_call_checks g n bytes))
    where
      go :
          (v : Outcome (Unit {0}))
          → walk_from g (on_answer beginning (given v (answer (walk_in g (in_full bytes) 0)))) ≡ given v (answer (walk_in g (in_full bytes) 0))
      go (refused k vs) = refl
      go (answer tt) = refl

  told :
      (h : Group) → h ≡ g → (r : Result Beginning Refusal) → outcome_of r ≡ on_answer beginning (begin_outcome h n bytes)
      → walk_from g (outcome_of r) ≡ begin_outcome g n bytes
  told h same r e = ap (walk_from g) (e ∙ ap (λ (k : Group). on_answer beginning (begin_outcome k n bytes)) same) ∙ whole

pub returns-in_err-at : goal.returns-in_err-at
returns-in_err-at c =
    ap outcome_of (handed_on c.from_residual.result c.from_residual.ensures.1)
    ∙ ap (λ (r : Result Beginning Refusal). walk_from c.args.group (outcome_of r)) (sym c.in_err-at.was)
    ∙ told c.args.group c.args.n c.args.word.now _ c.lent.ensures _ c.orbit.ensures

pub returns : goal.returns
returns c =
    ap (λ (r : Result Beginning Refusal). walk_from c.args.group (outcome_of r)) (sym c.in_ok-at.was)
    ∙ told c.args.group c.args.n c.args.word.now _ c.lent.ensures _ c.orbit.ensures
