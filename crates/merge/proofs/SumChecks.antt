-- The checks of a sum, rule by rule, and what a pass has shown. No check is by 25.
-- What carries it: the value's checks come first, and then those of the lists (`ListChecks` of row_lists).
use Prim.Native.Nat.{ℕ, suc, ◌≤◌}
use mathlib.Core.Logic.{inl, inr}
use mathlib.Core.Path.{◌≡◌, refl, sym, ap, ◌∙◌}
use mathlib.Core.Bool.{Bool, true, false, cond}
use mathlib.Core.List.{List, [], ◌∷◌, map}
use native.Mathlib.Omega.{arith}
use lib.ListN.{length}
use lib.Ieee.{Float, nan}
use Rattle.outcome.specs.declared.Refusal.{Refusal}
use Rattle.outcome.specs.declared.Refusal.TheVariants as Refusal
use Rattle.outcome.specs.Outcome.{Outcome, answer, refused, refusal_of, verdict, given, Check}
use Rattle.outcome.proofs.Outcomes.{refused_apart, verdict-append, front_refused}
use Rattle.pauli_word.specs.Limits.{max_sites}
use Rattle.pauli_word.specs.Bytes.{Bytes}
use Rattle.action.specs.Lists.{Member}
use Rattle.group.specs.declared.Group.{Group}
use Rattle.group.specs.Calls.{value_checks}
use Rattle.row_lists.specs.Rows.{row_size, rows_in, rows_in_full}
use Rattle.row_lists.specs.Checks.{row_checks, list_checks, AcceptedRows}
use Rattle.row_lists.proofs.ListChecks.{Agreeing, agreed_size, given-answered, lists-fine, accepted-rows}
use Rattle.sum_rows.specs.Sums.{finite}
use Rattle.merge.specs.Calls.{not_finite, sum_checks}

-- ---- 24

module _ (i : ℕ) (c : Float) where
  pub finite-kept : finite c ≡ true → verdict (not_finite i c ∷ []) ≡ answer tt
  finite-kept e = rw e

  pub finite-broken : finite c ≡ false → verdict (not_finite i c ∷ []) ≡ refusal_of (Refusal.NotFinite i)
  finite-broken e = rw e

-- ---- all checks: the value's, and those of the lists, whose output lists are a, b and c long

module _ (g : Group) (words : List ℕ) (cs : List Float) (a b c : ℕ) where
  abbrev lists : List Check
  lists = list_checks not_finite g.sites words cs a b c

  pub sum-refused : (why : Refusal) → verdict (value_checks g) ≡ refusal_of why → verdict (sum_checks g words cs a b c) ≡ refusal_of why
  sum-refused = front_refused (value_checks g) lists

  pub sum-lists : verdict (value_checks g) ≡ answer tt → verdict (sum_checks g words cs a b c) ≡ verdict lists
  sum-lists e = verdict-append (value_checks g) lists ∙ ap (λ (v : Outcome (Unit {0})). given v (verdict lists)) e

  -- what a sum that passes has shown
  module _ (pass : verdict (sum_checks g words cs a b c) ≡ answer tt) where
    parted : (verdict (value_checks g) ≡ answer tt) × (verdict lists ≡ answer tt)
    parted = given-answered (verdict (value_checks g)) (verdict lists) tt (sym (verdict-append (value_checks g) lists) ∙ pass)

    pub passed-value : verdict (value_checks g) ≡ answer tt
    passed-value = parted.0

    pub passed-lengths : Agreeing g.sites (length words) (length cs) a b c
    passed-lengths = (lists-fine not_finite g.sites words cs a b c parted.1).0

    pub passed-rows : g.sites ≤ max_sites → Bytes words → AcceptedRows g.sites (rows_in_full (length cs) words) (length cs)
    passed-rows short small =
        let rows = (lists-fine not_finite g.sites words cs a b c parted.1).1 in
        let (either, long) = agreed_size passed-lengths refl in
        accepted-rows not_finite nan g.sites (row_size (length words) (length cs)) words cs either long rows short small passed-lengths.few

-- ---- no check is by 25

-- the number of a refusal
abbrev pub number_in : {A : Type 0} → Outcome A → ℕ
number_in (refused k vs) = k
number_in (answer t) = 0

-- a refusal is by the number of a check
verdict-number : (checks : List Check) (k : ℕ) (vs : List ℕ) → verdict checks ≡ refused k vs → Member k (map (λ (c : Check). c.number) checks)
verdict-number [] k vs e = absurd (refused_apart k vs tt (sym e))
verdict-number (c ∷ checks) k vs e = go c.broken (verdict-number checks k vs) e
  where
    go : (b : Bool) → (verdict checks ≡ refused k vs → Member k (map (λ (d : Check). d.number) checks))
        → cond b (refused c.number c.values) (verdict checks) ≡ refused k vs → Member k (map (λ (d : Check). d.number) (c ∷ checks))
    go true later f = inl (sym (ap number_in f))
    go false later f = inr (later f)

rows-not_25 : (n i : ℕ) (rows : List (List ℕ × Float)) → Member 25 (map (λ (c : Check). c.number) (row_checks not_finite n i rows)) → ⊥
rows-not_25 n i [] m = m
rows-not_25 n i (row ∷ rows) (inl e) = omega arith
rows-not_25 n i (row ∷ rows) (inr (inl e)) = omega arith
rows-not_25 n i (row ∷ rows) (inr (inr m)) = rows-not_25 n (suc i) rows m

pub checks_not_25 : (g : Group) (words : List ℕ) (cs : List Float) (a b c : ℕ) (vs : List ℕ) → verdict (sum_checks g words cs a b c) ≡ refused 25 vs → ⊥
checks_not_25 g words cs a b c vs e = go (verdict-number (sum_checks g words cs a b c) 25 vs e)
  where
    go : Member 25 (map (λ (d : Check). d.number) (sum_checks g words cs a b c)) → ⊥
    go (inl f) = omega arith
    go (inr (inl f)) = omega arith
    go (inr (inr (inl f))) = omega arith
    go (inr (inr (inr (inl f)))) = omega arith
    go (inr (inr (inr (inr (inl f))))) = omega arith
    go (inr (inr (inr (inr (inr m))))) = rows-not_25 g.sites 0 (rows_in (rows_in_full (length cs) words) cs) m
