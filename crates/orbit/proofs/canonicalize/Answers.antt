-- `canonicalize` meets its contract: it is `canonicalize_with_index` without the index.
use Rattle.outcome.specs.declared.Refusal.{Refusal}
use Rattle.std.specs.Prelude.{Result}
use Prim.Native.Nat.{ℕ}
use mathlib.Core.Path.{◌≡◌, refl, sym, ap, ◌∙◌}
use mathlib.Core.List.{List}
use Rattle.outcome.specs.Outcome.{Outcome, refused, answer, outcome_of, verdict, given, on_answer}
use Rattle.outcome.proofs.Outcomes.{handed_on}
use Rattle.pauli_word.specs.Word.{Word}
use Rattle.pauli_word.specs.Bytes.{word_in, bytes_of}
use Rattle.action.specs.Permutation.{Generator}
use Rattle.action.specs.Orbit.{least, index_back}
use Rattle.group.specs.declared.Group.{Group}
use Rattle.group.specs.Value.{group_lent, generators_of}
use Rattle.orbit.specs.declared.CanonicalIndex.{CanonicalIndex}
use Rattle.orbit.specs.Calls.{word_call_checks, canonicalize_outcome, with_index_outcome, canonical_index}
use Rattle.orbit.proofs.canonicalize.Goals as goal

-- the word alone
abbrev word_alone : Outcome CanonicalIndex → Outcome (List ℕ)
word_alone o = on_answer (λ (k : CanonicalIndex). k.word) o

-- of a call that answers or refuses it is what `canonicalize` comes to
module _ (g : Group) (n : ℕ) (bytes : List ℕ) where
  abbrev gs : List Generator
  gs = generators_of g

  abbrev w : Word
  w = word_in n bytes

  without-index : word_alone (on_answer canonical_index (with_index_outcome g n bytes)) ≡ on_answer bytes_of (canonicalize_outcome g n bytes)
  unfolding with_index_outcome canonicalize_outcome
  without-index = go (verdict (word_call_checks g n bytes))
    where
      go :
          (v : Outcome (Unit {0}))
          → on_answer (λ (k : CanonicalIndex). k.word) (on_answer canonical_index (given v (answer (least gs w, index_back gs w))))
          ≡ on_answer bytes_of (given v (answer (least gs w)))
      go (refused k vs) = refl
      go (answer tt) = refl

  told :
      (r : Result CanonicalIndex Refusal) → outcome_of r ≡ on_answer canonical_index (with_index_outcome g n bytes)
      → word_alone (outcome_of r) ≡ on_answer bytes_of (canonicalize_outcome g n bytes)
  told r e = ap word_alone e ∙ without-index

pub returns-in_err-found : goal.returns-in_err-found
returns-in_err-found c =
    ap outcome_of (handed_on c.from_residual.result c.from_residual.ensures.1)
    ∙ ap (λ (r : Result CanonicalIndex Refusal). word_alone (outcome_of r)) (sym c.in_err-found.was)
    ∙ told (group_lent c.args.group.now) c.args.n c.args.word.now _ c.canonicalize_with_index.ensures

pub returns : goal.returns
returns c =
    ap (λ (r : Result CanonicalIndex Refusal). word_alone (outcome_of r)) (sym c.in_ok-found.was)
    ∙ told (group_lent c.args.group.now) c.args.n c.args.word.now _ c.canonicalize_with_index.ensures
