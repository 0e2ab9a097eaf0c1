-- What lists of checks come to, and the calls that they stand before.
-- What carries it: a refusal is no answer, so that a pass breaks no rule, and a refusal is by a broken one.
use Rattle.std.specs.Prelude.{Result, Ok, Err, IsErrAnd}
use Prim.Native.Nat.{ℕ, ◌<◌}
use mathlib.Core.Path.{◌≡◌, refl, sym, ap, ◌∙◌}
use mathlib.Core.Bool.{Bool, true, false, cond}
use mathlib.Core.List.{List, [], ◌∷◌, ◌++◌}
use native.Mathlib.Omega.{arith}
use Rattle.outcome.specs.declared.Refusal.{Refusal}
use Rattle.outcome.specs.declared.Refusal.TheVariants as Refusal
use Rattle.outcome.specs.Outcome.{outcome_of, Outcome, refused, answer, rule_number, refusal_of, Check, verdict, alone, given, unless}

-- ---- a refusal is no answer

pub refused_apart : {A : Type 0} (k : ℕ) (vs : List ℕ) (a : A) → refused k vs ≡ answer a → ⊥
refused_apart k vs a e = let z : ◌≡◌ {A = ℕ} 0 1 = cc in omega arith

-- ---- a refusal that is handed on with `?`

pub handed_on : {A : Type 0} (r : Result A Refusal) {why : Refusal} → IsErrAnd r (λ y. y ≡ why) → r ≡ Err why
handed_on (Ok a) h = absurd h
handed_on (Err y) h = ap Err h

-- ---- one check, and those after it

-- a pass breaks no rule
pub verdict-fine : (c : Check) (cs : List Check) → verdict (c ∷ cs) ≡ answer tt → (c.broken ≡ false) × (verdict cs ≡ answer tt)
verdict-fine c cs h = go c.broken refl h
  where
    go :
        (b : Bool) → c.broken ≡ b → cond b (refused c.number c.values) (verdict cs) ≡ answer tt
        → (c.broken ≡ false) × (verdict cs ≡ answer tt)
    go true e k = absurd (refused_apart c.number c.values tt k)
    go false e k = (e, k)

module _ (check : Check) where
  pub refused-broken : (why : Refusal) → refusal_of why ≡ alone check → check.broken ≡ true
  refused-broken why e = go check.broken e
    where
      go : (b : Bool) → refusal_of why ≡ cond b (refused check.number check.values) (answer (tt {0})) → b ≡ true
      go true k = refl
      go false k = absurd (refused_apart _ _ tt k)

  pub answered-fine : answer tt ≡ alone check → check.broken ≡ false
  answered-fine e = (verdict-fine check [] (sym e)).0

  pub first-refuses : (cs : List Check) → check.broken ≡ true → verdict (check ∷ cs) ≡ alone check
  first-refuses cs e = rw e

-- one check, and then an answer
module _ {A : Type 0} (c : Check) (a : A) where
  pub one-refused : (why : Refusal) → unless (c ∷ []) (answer a) ≡ refusal_of why → c.broken ≡ true
  one-refused why e = go c.broken e
    where
      go : (b : Bool) → given (cond b (refused c.number c.values) (answer (tt {0}))) (answer a) ≡ refusal_of why → b ≡ true
      go true k = refl
      go false k = absurd (refused_apart _ _ a (sym k))

  pub one-answered : (b : A) → unless (c ∷ []) (answer a) ≡ answer b → (c.broken ≡ false) × (a ≡ b)
  one-answered b e = go c.broken e
    where
      go : (t : Bool) → given (cond t (refused c.number c.values) (answer (tt {0}))) (answer a) ≡ answer b → (t ≡ false) × (a ≡ b)
      go true k = absurd (refused_apart _ _ b k)
      go false k = (refl, cc)

-- further checks come after the first
pub verdict-append : (cs ds : List Check) → verdict (cs ++ ds) ≡ given (verdict cs) (verdict ds)
verdict-append [] ds = refl
verdict-append (c ∷ cs) ds = go c.broken (verdict-append cs ds)
  where
    go :
        (b : Bool) → verdict (cs ++ ds) ≡ given (verdict cs) (verdict ds)
        → cond b (refused c.number c.values) (verdict (cs ++ ds)) ≡ given (cond b (refused c.number c.values) (verdict cs)) (verdict ds)
    go true e = refl
    go false e = e

-- ---- a call after its checks

module _ {A : Type 0} (cs : List Check) (o : Outcome A) where
  pub call-refused : (why : Refusal) → verdict cs ≡ refusal_of why → unless cs o ≡ refusal_of why
  call-refused why e = ap (λ (v : Outcome (Unit {0})). given v o) e

  pub call-answers : verdict cs ≡ answer tt → unless cs o ≡ o
  call-answers e = ap (λ (v : Outcome (Unit {0})). given v o) e

pub front_refused : (cs ds : List Check) (why : Refusal) → verdict cs ≡ refusal_of why → verdict (cs ++ ds) ≡ refusal_of why
front_refused cs ds why e = verdict-append cs ds ∙ call-refused cs (verdict ds) why e

-- a call that would answer and is refused, is refused by its checks
pub unless_refused : {A : Type 0} (cs : List Check) (a : A) (why : Refusal) → unless cs (answer a) ≡ refusal_of why → verdict cs ≡ refusal_of why
unless_refused cs a why e = go (verdict cs) refl e
  where
    go : (v : Outcome (Unit {0})) → verdict cs ≡ v → given v (answer a) ≡ refusal_of why → verdict cs ≡ refusal_of why
    go (refused k vs) p q = cc
    go (answer tt) p q = absurd (refused_apart _ _ a (sym q))

-- a call that answers has passed its checks
pub unless_answer : {A : Type 0} (cs : List Check) (a b : A) → unless cs (answer a) ≡ answer b → (verdict cs ≡ answer tt) × (a ≡ b)
unless_answer cs a b e = go (verdict cs) refl e
  where
    go : (v : Outcome (Unit {0})) → verdict cs ≡ v → given v (answer a) ≡ answer b → (verdict cs ≡ answer tt) × (a ≡ b)
    go (refused k vs) p q = absurd (refused_apart k vs b q)
    go (answer tt) p q = (p, cc)

-- ---- a call that has been told what its checks come to

module _ (cs : List Check) (v : Result (Unit {0}) Refusal) (told : outcome_of v ≡ verdict cs) where
  pub told-passes : v ≡ Ok tt → verdict cs ≡ answer tt
  told-passes e = sym told ∙ ap outcome_of e

  told-verdict : {why : Refusal} → v ≡ Err why → verdict cs ≡ refusal_of why
  told-verdict e = sym told ∙ ap outcome_of e

  pub told-refused : {A : Type 0} (o : Outcome A) {why : Refusal} → v ≡ Err why → unless cs o ≡ refusal_of why
  told-refused o {why} e = call-refused cs o why (told-verdict e)

  -- further checks come after them
  pub told-refused-first : {A : Type 0} (ds : List Check) (o : Outcome A) {why : Refusal} → v ≡ Err why → unless (cs ++ ds) o ≡ refusal_of why
  told-refused-first ds o {why} e = call-refused (cs ++ ds) o why (front_refused cs ds why (told-verdict e))

  pub told-answers : {A : Type 0} {a b : A} → v ≡ Ok tt → b ≡ a → answer b ≡ unless cs (answer a)
  told-answers {a} e same = ap answer same ∙ sym (call-answers cs (answer a) (told-passes e))

-- ---- a rule's number has at most two digits

pub number_small : (why : Refusal) → rule_number why < 100
number_small Refusal.TooManySites = omega arith
number_small Refusal.ListEndsInside = omega arith
number_small Refusal.TooManyGenerators = omega arith
number_small (Refusal.LengthMismatch a b) = omega arith
number_small (Refusal.PermutationLength a b) = omega arith
number_small (Refusal.TargetOutOfRange a b) = omega arith
number_small (Refusal.DuplicateTarget a b) = omega arith
number_small (Refusal.ZeroOrder a) = omega arith
number_small (Refusal.PermutationOrderOverflow a) = omega arith
number_small (Refusal.OrderMismatch a b c) = omega arith
number_small (Refusal.NonCommuting a b) = omega arith
number_small Refusal.GroupOrderOverflow = omega arith
number_small Refusal.GroupOrderLimit = omega arith
number_small Refusal.InvalidValue = omega arith
number_small Refusal.WordLength = omega arith
number_small Refusal.OtherSites = omega arith
number_small Refusal.BitAboveSites = omega arith
number_small (Refusal.RowBitAboveSites a) = omega arith
number_small Refusal.ModeCount = omega arith
number_small Refusal.IndexRange = omega arith
number_small Refusal.CounterLength = omega arith
number_small Refusal.ListLength = omega arith
number_small Refusal.SumLists = omega arith
number_small Refusal.TooManyRows = omega arith
number_small (Refusal.NotFinite a) = omega arith
number_small (Refusal.SumNotFinite a) = omega arith
number_small Refusal.ZeroSide = omega arith
number_small Refusal.SidesTooLarge = omega arith
number_small Refusal.TooManyLetters = omega arith
number_small (Refusal.NotALetter a) = omega arith
number_small Refusal.SheetLength = omega arith
number_small Refusal.LineForm = omega arith
number_small Refusal.PhaseModulus = omega arith
number_small (Refusal.CoefficientRange a) = omega arith
number_small Refusal.PhaseForm = omega arith
number_small Refusal.PhaseRule = omega arith
number_small Refusal.OldWordSites = omega arith
number_small Refusal.DigitRange = omega arith
