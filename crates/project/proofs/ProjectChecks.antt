-- The checks of a projected sum, rule by rule, and what a pass has shown.
-- What carries it: the first rule that is broken decides, and a pass breaks none.
use Prim.Native.Nat.{ℕ, ◌%◌, ◌<◌}
use mathlib.Core.Path.{◌≡◌, refl, sym, ap, ◌∙◌}
use mathlib.Core.Bool.{true, false}
use mathlib.Core.List.{List, [], ◌∷◌, ◌++◌}
use lib.Dec.{eqb}
use lib.IntN.{ℤ, pos}
use lib.ListN.{length, get_or}
use borrow.Author.Tests.{eq-eqb, ne_eqb, eqb-true, leb-true, not-false}
use Rattle.outcome.specs.declared.Refusal.{Refusal}
use Rattle.outcome.specs.declared.Refusal.TheVariants as Refusal
use Rattle.outcome.specs.Outcome.{Outcome, answer, refusal_of, verdict, given, Check}
use Rattle.outcome.proofs.Outcomes.{verdict-fine, verdict-append, front_refused}
use Rattle.pauli_word.specs.Bytes.{Bytes}
use Rattle.action.specs.Sector.{modulus}
use Rattle.action.proofs.Index.{valid_positive}
use Rattle.action.proofs.Characters.{modulus-positive}
use Rattle.elements.specs.HeldGroup.{generators_in, Tables}
use Rattle.group.specs.declared.Group.{Group}
use Rattle.group.specs.Value.{generators_of, AcceptedGroup}
use Rattle.group.specs.Calls.{value_checks}
use Rattle.group.proofs.Accepted.{value_fine, accepted_tables}
use Rattle.momentum.specs.Calls.{mode_count}
use Rattle.row_lists.specs.Rows.{row_size, rows_in_full}
use Rattle.row_lists.specs.Checks.{list_checks}
use Rattle.row_lists.proofs.ListChecks.{Agreeing, agreed_size, given-answered, lists-fine, own-fine, accepted-rows}
use Rattle.phases.specs.declared.PhaseTable.{PhaseTable}
use Rattle.phases.specs.Rules.{turn, in_range, passes}
use Rattle.phases.specs.Checks.{broken_table}
use Rattle.project.specs.Calls.{max_coefficient, other_modulus, out_of_range, project_checks}
use Rattle.project.specs.Rows.{Sector, WholeRows}

-- the phase modulus of generators that tables hold is not 0
pub modulus_above : {k n : ℕ} {targets orders : List ℕ} → Tables k n targets orders → 0 < modulus (generators_in k n targets orders)
modulus_above {k} {n} {targets} {orders} held = modulus-positive (generators_in k n targets orders) (valid_positive held.valid)

-- ---- 33

module _ (i : ℕ) (c : ℤ) where
  pub range-kept : in_range max_coefficient c ≡ true → verdict (out_of_range i c ∷ []) ≡ answer tt
  range-kept e = rw e

  pub range-broken : in_range max_coefficient c ≡ false → verdict (out_of_range i c ∷ []) ≡ refusal_of (Refusal.CoefficientRange i)
  range-broken e = rw e

-- ---- 18, 32, 35

module _ (t : PhaseTable) (g : Group) (ks : List ℤ) where
  abbrev pub sector_checks : List Check
  sector_checks = mode_count g ks ∷ other_modulus g ∷ broken_table t ∷ []

  pub modes-differ : (length ks ≡ g.generators → ⊥) → verdict sector_checks ≡ refusal_of Refusal.ModeCount
  modes-differ h = simp (ne_eqb (length ks) g.generators h)

  module _ (e : length ks ≡ g.generators) where
    pub modulus-other : (turn % modulus (generators_of g) ≡ 0 → ⊥) → verdict sector_checks ≡ refusal_of Refusal.PhaseModulus
    modulus-other h = simp (eq-eqb (length ks) g.generators e, ne_eqb (turn % modulus (generators_of g)) 0 h)

    module _ (h : turn % modulus (generators_of g) ≡ 0) where
      pub table-breaks : passes t ≡ false → verdict sector_checks ≡ refusal_of Refusal.PhaseRule
      table-breaks p = simp (eq-eqb (length ks) g.generators e, eq-eqb (turn % modulus (generators_of g)) 0 h, p)

      pub table-passes : passes t ≡ true → verdict sector_checks ≡ answer tt
      table-passes p = simp (eq-eqb (length ks) g.generators e, eq-eqb (turn % modulus (generators_of g)) 0 h, p)

  -- what a pass has shown
  module _ (pass : verdict sector_checks ≡ answer tt) where
    one : ((mode_count g ks).broken ≡ false) × (verdict (other_modulus g ∷ broken_table t ∷ []) ≡ answer tt)
    one = verdict-fine (mode_count g ks) (other_modulus g ∷ broken_table t ∷ []) pass

    two : ((other_modulus g).broken ≡ false) × (verdict (broken_table t ∷ []) ≡ answer tt)
    two = verdict-fine (other_modulus g) (broken_table t ∷ []) one.1

    sector-fine : AcceptedGroup g → Sector g.generators g.sites g.targets g.orders ks
    unfolding generators_of
    sector-fine ok =
        record {
          tables = accepted_tables g ok;
          modes = eqb-true (length ks) g.generators (not-false (eqb (length ks) g.generators) one.0);
          divides = eqb-true (turn % modulus (generators_of g)) 0 (not-false (eqb (turn % modulus (generators_of g)) 0) two.0);
        }

    table-fine : passes t ≡ true
    table-fine = not-false (passes t) (verdict-fine (broken_table t) [] two.1).0

-- ---- all checks: the value's, those of the modes and the table, and those of the lists

module _ (t : PhaseTable) (g : Group) (ks : List ℤ) (words : List ℕ) (cs : List ℤ) (a b c : ℕ) where
  abbrev sector : List Check
  sector = sector_checks t g ks

  abbrev lists : List Check
  lists = list_checks out_of_range g.sites words cs a b c

  abbrev all : Outcome (Unit {0})
  all = verdict (project_checks t g ks words cs a b c)

  pub value-refused : (why : Refusal) → verdict (value_checks g) ≡ refusal_of why → all ≡ refusal_of why
  value-refused = front_refused (value_checks g) (sector ++ lists)

  after-value : verdict (value_checks g) ≡ answer tt → all ≡ verdict (sector ++ lists)
  after-value e = verdict-append (value_checks g) (sector ++ lists) ∙ ap (λ (v : Outcome (Unit {0})). given v (verdict (sector ++ lists))) e

  module _ (v : verdict (value_checks g) ≡ answer tt) where
    pub sector_refused : (why : Refusal) → verdict sector ≡ refusal_of why → all ≡ refusal_of why
    sector_refused why e = after-value v ∙ front_refused sector lists why e

    pub lists-decide : verdict sector ≡ answer tt → all ≡ verdict lists
    lists-decide e = after-value v ∙ verdict-append sector lists ∙ ap (λ (v : Outcome (Unit {0})). given v (verdict lists)) e

  -- what a sum that passes has shown
  module _ (pass : all ≡ answer tt) where
    parted : (verdict (value_checks g) ≡ answer tt) × (verdict (sector ++ lists) ≡ answer tt)
    parted = given-answered (verdict (value_checks g)) (verdict (sector ++ lists)) tt (sym (verdict-append (value_checks g) (sector ++ lists)) ∙ pass)

    later : (verdict sector ≡ answer tt) × (verdict lists ≡ answer tt)
    later = given-answered (verdict sector) (verdict lists) tt (sym (verdict-append sector lists) ∙ parted.1)

    pub passed-value : verdict (value_checks g) ≡ answer tt
    passed-value = parted.0

    pub passed-sector : AcceptedGroup g → Sector g.generators g.sites g.targets g.orders ks
    passed-sector ok = sector-fine t g ks later.0 ok

    pub passed-table : passes t ≡ true
    passed-table = table-fine t g ks later.0

    pub passed-lengths : Agreeing g.sites (length words) (length cs) a b c
    passed-lengths = (lists-fine out_of_range g.sites words cs a b c later.1).0

    pub passed-rows : Bytes words → WholeRows g.sites (rows_in_full (length cs) words) cs
    passed-rows small =
        let rows = (lists-fine out_of_range g.sites words cs a b c later.1).1 in
        let size : ℕ = row_size (length words) (length cs) in
        let (either, long) = agreed_size passed-lengths refl in
        record {
          rows =
              accepted-rows out_of_range (pos 0) g.sites size words cs either long rows (value_fine g passed-value).0 small passed-lengths.few;
          range = λ i h.
              leb-true _ _
              (not-false (in_range max_coefficient (get_or cs i (pos 0))) (own-fine out_of_range (pos 0) g.sites size words cs either long rows i h));
        }
