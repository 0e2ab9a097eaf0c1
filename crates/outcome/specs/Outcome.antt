-- What a call comes to: its answer, or a refusal by the number of the first rule broken, with the values that the rule names.
use Rattle.std.specs.Prelude.{ℕ, List, [], ◌∷◌, Result, Ok, Err}
use mathlib.Core.Bool.{Bool, cond}
use Rattle.outcome.specs.declared.Refusal.{Refusal}

pub data Outcome (A : Type 0) : Type 0 where
  refused : ℕ → List ℕ → Outcome A
  answer : A → Outcome A

-- ---- refusals: the one place where a rule has its number

-- the number of the rule that a refusal is by
abbrev pub rule_number : Refusal → ℕ
rule_number Refusal.TooManySites = 1
rule_number Refusal.ListEndsInside = 2
rule_number Refusal.TooManyGenerators = 3
rule_number (Refusal.LengthMismatch perms orders) = 4
rule_number (Refusal.PermutationLength i len) = 5
rule_number (Refusal.TargetOutOfRange i target) = 6
rule_number (Refusal.DuplicateTarget i target) = 7
rule_number (Refusal.ZeroOrder i) = 8
rule_number (Refusal.PermutationOrderOverflow i) = 9
rule_number (Refusal.OrderMismatch i declared exact) = 10
rule_number (Refusal.NonCommuting left right) = 11
rule_number Refusal.GroupOrderOverflow = 12
rule_number Refusal.GroupOrderLimit = 13
rule_number Refusal.InvalidValue = 14
rule_number Refusal.WordLength = 15
rule_number Refusal.OtherSites = 16
rule_number Refusal.BitAboveSites = 17
rule_number (Refusal.RowBitAboveSites row) = 17
rule_number Refusal.ModeCount = 18
rule_number Refusal.IndexRange = 19
rule_number Refusal.CounterLength = 20
rule_number Refusal.ListLength = 21
rule_number Refusal.SumLists = 22
rule_number Refusal.TooManyRows = 23
rule_number (Refusal.NotFinite row) = 24
rule_number (Refusal.SumNotFinite row) = 25
rule_number Refusal.ZeroSide = 26
rule_number Refusal.SidesTooLarge = 27
rule_number Refusal.TooManyLetters = 28
rule_number (Refusal.NotALetter at) = 29
rule_number Refusal.SheetLength = 30
rule_number Refusal.LineForm = 31
rule_number Refusal.PhaseModulus = 32
rule_number (Refusal.CoefficientRange row) = 33
rule_number Refusal.PhaseForm = 34
rule_number Refusal.PhaseRule = 35
rule_number Refusal.OldWordSites = 36
rule_number Refusal.DigitRange = 37

-- the values that it names
abbrev pub rule_values : Refusal → List ℕ
rule_values Refusal.TooManySites = []
rule_values Refusal.ListEndsInside = []
rule_values Refusal.TooManyGenerators = []
rule_values (Refusal.LengthMismatch perms orders) = perms ∷ orders ∷ []
rule_values (Refusal.PermutationLength i len) = i ∷ len ∷ []
rule_values (Refusal.TargetOutOfRange i target) = i ∷ target ∷ []
rule_values (Refusal.DuplicateTarget i target) = i ∷ target ∷ []
rule_values (Refusal.ZeroOrder i) = i ∷ []
rule_values (Refusal.PermutationOrderOverflow i) = i ∷ []
rule_values (Refusal.OrderMismatch i declared exact) = i ∷ declared ∷ exact ∷ []
rule_values (Refusal.NonCommuting left right) = left ∷ right ∷ []
rule_values Refusal.GroupOrderOverflow = []
rule_values Refusal.GroupOrderLimit = []
rule_values Refusal.InvalidValue = []
rule_values Refusal.WordLength = []
rule_values Refusal.OtherSites = []
rule_values Refusal.BitAboveSites = []
rule_values (Refusal.RowBitAboveSites row) = row ∷ []
rule_values Refusal.ModeCount = []
rule_values Refusal.IndexRange = []
rule_values Refusal.CounterLength = []
rule_values Refusal.ListLength = []
rule_values Refusal.SumLists = []
rule_values Refusal.TooManyRows = []
rule_values (Refusal.NotFinite row) = row ∷ []
rule_values (Refusal.SumNotFinite row) = row ∷ []
rule_values Refusal.ZeroSide = []
rule_values Refusal.SidesTooLarge = []
rule_values Refusal.TooManyLetters = []
rule_values (Refusal.NotALetter at) = at ∷ []
rule_values Refusal.SheetLength = []
rule_values Refusal.LineForm = []
rule_values Refusal.PhaseModulus = []
rule_values (Refusal.CoefficientRange row) = row ∷ []
rule_values Refusal.PhaseForm = []
rule_values Refusal.PhaseRule = []
rule_values Refusal.OldWordSites = []
rule_values Refusal.DigitRange = []

abbrev pub refusal_of : {A : Type 0} → Refusal → Outcome A
refusal_of why = refused (rule_number why) (rule_values why)

-- ---- the answers that calls share

abbrev pub outcome_of : {A : Type 0} → Result A Refusal → Outcome A
outcome_of (Ok a) = answer a
outcome_of (Err why) = refusal_of why

-- ---- checks

-- a rule as a call meets it: its number, the values that a refusal by it carries, and whether this input breaks it
pub record Check : Type 0 where
  pub number : ℕ
  pub values : List ℕ
  pub broken : Bool

-- the rule that a refusal is by
abbrev pub rule : Refusal → Bool → Check
rule why b = record { number = rule_number why; values = rule_values why; broken = b }

-- what checks come to, taken in order: the refusal by the first broken rule, or a pass
abbrev pub verdict : List Check → Outcome (Unit {0})
verdict [] = answer tt
verdict (c ∷ cs) = cond c.broken (refused c.number c.values) (verdict cs)

-- what one check comes to alone
abbrev pub alone : Check → Outcome (Unit {0})
alone check = verdict (check ∷ [])

-- go on after a pass
abbrev pub given : {A : Type 0} → Outcome (Unit {0}) → Outcome A → Outcome A
given (refused k vs) o = refused k vs
given (answer t) o = o

-- a call: its checks in their order, then what it comes to if none is broken
abbrev pub unless : {A : Type 0} → List Check → Outcome A → Outcome A
unless cs o = given (verdict cs) o

-- the outcome with its answer put through a function; a refusal stays
abbrev pub on_answer : {A B : Type 0} → (A → B) → Outcome A → Outcome B
on_answer f (refused k vs) = refused k vs
on_answer f (answer a) = answer (f a)

-- that there is an answer, and the answer itself
abbrev pub done : {A : Type 0} → A → Unit {0}
done a = tt

abbrev pub itself : {A : Type 0} → A → A
itself a = a

-- a value made of the answer, or what stands in its place beside a refusal
abbrev pub or_else : {A B : Type 0} → (A → B) → B → Outcome A → B
or_else f z (refused k vs) = z
or_else f z (answer a) = f a

-- whether an outcome is an answer
abbrev pub answers : {A : Type 0} → Outcome A → Bool
answers o = or_else (λ _. mathlib.Core.Bool.true) mathlib.Core.Bool.false o
