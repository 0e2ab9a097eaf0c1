-- A refusal that is given its line with `map_err`, and a fault that is handed on with `?`.
use Rattle.std.specs.Prelude.{ℕ, Result, Ok, Err, IfOk, IfErr, IsErrAnd, MatchResult}
use mathlib.Core.Path.{◌≡◌, refl, sym, ap, subst, ◌∙◌}
use native.Mathlib.Omega.{arith}
use Rattle.outcome.specs.declared.Refusal.{Refusal}
use Rattle.sheet_lines.specs.declared.LineFault.{LineFault}

module _ {A : Type 0} where
  -- an answer is no fault
  answer_apart : (a : A) (fault : LineFault) → Ok a ≡ Err fault → ⊥
  answer_apart a fault e = let z : ◌≡◌ {A = ℕ} 0 1 = cc in omega arith

  -- a refusal, with its line
  pub placed : (line : ℕ) (r : Result A Refusal) (m : Result A LineFault) {P : Refusal → LineFault → Type 0} {fault : LineFault}
      → MatchResult r (λ x. m ≡ Ok x) (λ e. IsErrAnd m (P e)) → m ≡ Err fault
      → ((e : Refusal) (f : LineFault) → P e f → f ≡ record { why = e; line = line })
      → (why : Refusal) × (r ≡ Err why) × (fault ≡ record { why = why; line = line })
  placed line (Ok a) m cases e made = absurd (answer_apart a _ (sym cases ∙ e))
  placed line (Err why) m {P} {fault} cases e made = (why, refl, made why fault (subst (λ m. IsErrAnd m (P why)) e cases))

  -- an answer, which stays
  pub kept : (P : Refusal → LineFault → Type 0) (r : Result A Refusal) (m : Result A LineFault) {a : A}
      → MatchResult r (λ x. m ≡ Ok x) (λ e. IsErrAnd m (P e)) → m ≡ Ok a → r ≡ Ok a
  kept P (Ok x) m cases e = let same : Ok x ≡ Ok _ = sym cases ∙ e in cc
  kept P (Err why) m cases e = absurd (subst (λ m. IsErrAnd m (P why)) e cases)

  -- a fault that is handed on
  pub handed_fault : (r : Result A LineFault) {fault : LineFault} → IsErrAnd r (λ y. y ≡ fault) → r ≡ Err fault
  handed_fault (Ok a) h = absurd h
  handed_fault (Err y) h = ap Err h

  -- what is told of the fault, and of the answer
  pub of_fault : (P : LineFault → Type 0) {r : Result A LineFault} {fault : LineFault} → IfErr r P → r ≡ Err fault → P fault
  of_fault P h e = subst (λ r. IfErr r P) e h

  pub of_answer : (P : A → Type 0) {r : Result A LineFault} {a : A} → IfOk r P → r ≡ Ok a → P a
  of_answer P h e = subst (λ r. IfOk r P) e h
