-- The group of a list of generators: what its checks come to, rule by rule, and the tables of what it answers with.
-- What carries it: the tables of generators that break no rule have those generators for their rows.
use Prim.Native.Nat.{ℕ, ◌-◌, ◌≤◌, ◌<◌}
use mathlib.Core.Path.{◌≡◌, refl, sym, ap, ap₂, ◌∙◌}
use mathlib.Core.Bool.{true, false}
use mathlib.Core.List.{List, [], ◌∷◌, map}
use native.Mathlib.Nat.{suc_inj, suc-ne-zero}
use native.Mathlib.Omega.{arith}
use lib.ListN.{length, take, length-map}
use lib.Seq.{take_at}
use borrow.Author.Tests.{lt-ltb, le-ltb, eq-eqb, ne_eqb}
use Rattle.pauli_word.specs.Limits.{max_sites}
use Rattle.outcome.specs.Outcome.{answer, Check, verdict, refusal_of, alone}
use Rattle.pauli_word.specs.Calls.{site_count}
use Rattle.outcome.proofs.Outcomes.{call-answers, refused-broken, first-refuses, one-refused, one-answered, call-refused}
use Rattle.permutation.specs.Limits.{max_generators}
use Rattle.permutation.specs.Generators.{ends_inside, perms_of, list_end, perms_check, group_checks, generator_checks, declared, row_at, rows_of}
use Rattle.permutation.proofs.Rules.{perms_fine_lem}
use Rattle.outcome.specs.declared.Refusal.{Refusal}
use Rattle.generators.specs.Tables.{filled, placed_all}
use Rattle.generators.specs.Parts.{scan_outcome}
use Rattle.generators.proofs.Zeros.{blank}
use Rattle.generators.proofs.Groups.{rows-placed}
use Rattle.generators.proofs.Rows.{rows-permute}
use Rattle.action.specs.Permutation.{Permutes}
use Rattle.group.specs.declared.Group.{Group}
use Rattle.group.specs.Value.{group_of, try_from_outcome}
use Rattle.group.proofs.LatticeCalls.{same_group}

-- ---- the value of generators

declared_perms : (perms : List (List ℕ)) (orders : List ℕ) → length perms ≡ length orders → map (λ g. g.perm) (declared perms orders) ≡ perms
unfolding declared
declared_perms [] orders e = refl
declared_perms (p ∷ perms) [] e = absurd (suc-ne-zero (length perms) e)
declared_perms (p ∷ perms) (o ∷ orders) e = ap (λ (l : List (List ℕ)). p ∷ l) (declared_perms perms orders (suc_inj e))

declared_orders_lem : (perms : List (List ℕ)) (orders : List ℕ) → length perms ≡ length orders → map (λ g. g.order) (declared perms orders) ≡ orders
unfolding declared
declared_orders_lem [] [] e = refl
declared_orders_lem [] (o ∷ orders) e = absurd (suc-ne-zero (length orders) (sym e))
declared_orders_lem (p ∷ perms) [] e = absurd (suc-ne-zero (length perms) e)
declared_orders_lem (p ∷ perms) (o ∷ orders) e = ap (λ (l : List ℕ). o ∷ l) (declared_orders_lem perms orders (suc_inj e))

-- the tables of permutations with their orders
abbrev pub tables_of : ℕ → List (List ℕ) → List ℕ → Group
tables_of n perms orders = record { sites = n; generators = length perms; orders = filled max_generators orders; targets = placed_all perms }

pub group_tables : (n : ℕ) (perms : List (List ℕ)) (orders : List ℕ) → length perms ≡ length orders → group_of n (declared perms orders) ≡ tables_of n perms orders
unfolding group_of
group_tables n perms orders e =
    let gs = declared perms orders in
    same_group refl (sym (length-map gs (λ g. g.perm)) ∙ ap length (declared_perms perms orders e)) (ap (filled max_generators) (declared_orders_lem perms orders e))
    (ap placed_all (declared_perms perms orders e))

-- ---- what a list of generators is found to write

module _ (list : List ℕ) where
  pub scan-inside : (why : Refusal) → scan_outcome list ≡ refusal_of why → ends_inside list ≡ true
  unfolding scan_outcome
  scan-inside = one-refused (list_end list) (length (perms_of list))

  pub scan-whole : (k : ℕ) → scan_outcome list ≡ answer k → (ends_inside list ≡ false) × (k ≡ length (perms_of list))
  unfolding scan_outcome
  scan-whole k e = let (whole, many) = one-answered (list_end list) (length (perms_of list)) k e in (whole, sym many)

-- ---- 1 to 13

module _ (n : ℕ) (list orders : List ℕ) where
  abbrev pub try_checks : List Check
  try_checks = site_count n ∷ list_end list ∷ generator_checks n (perms_of list) orders

  pub refused-made : (why : Refusal) → verdict try_checks ≡ refusal_of why → refusal_of why ≡ try_from_outcome n list orders
  unfolding try_from_outcome
  refused-made why e = sym (call-refused try_checks (answer (group_of n (declared (perms_of list) orders))) why e)

  pub answered-made :
      length (perms_of list) ≡ length orders → verdict try_checks ≡ answer tt
      → try_from_outcome n list orders ≡ answer (tables_of n (perms_of list) orders)
  unfolding try_from_outcome
  answered-made same e =
      call-answers try_checks (answer (group_of n (declared (perms_of list) orders))) e ∙ ap answer (group_tables n (perms_of list) orders same)

  pub many-sites : max_sites < n → verdict try_checks ≡ refusal_of Refusal.TooManySites
  many-sites h = rw (lt-ltb max_sites n h)

  module _ (few : n ≤ max_sites) where
    pub ends-early : ends_inside list ≡ true → verdict try_checks ≡ refusal_of Refusal.ListEndsInside
    ends-early e = rw (le-ltb max_sites n few, e)

    module _ (whole : ends_inside list ≡ false) where
      pub many-generators : max_generators < length (perms_of list) → verdict try_checks ≡ refusal_of Refusal.TooManyGenerators
      many-generators h = rw (le-ltb max_sites n few, whole, lt-ltb max_generators (length (perms_of list)) h)

      module _ (some : length (perms_of list) ≤ max_generators) where
        pub other-count : (length (perms_of list) ≡ length orders → ⊥) → verdict try_checks ≡ refusal_of (Refusal.LengthMismatch (length (perms_of list)) (length orders))
        other-count h =
            rw (
              le-ltb max_sites n few,
              whole,
              le-ltb max_generators (length (perms_of list)) some,
              ne_eqb (length (perms_of list)) (length orders) h,
            )

        module _ (same : length (perms_of list) ≡ length orders) where
          pub perms-decide : verdict try_checks ≡ verdict (perms_check n 0 (perms_of list) ∷ group_checks n (perms_of list) orders)
          perms-decide =
              rw (
                le-ltb max_sites n few,
                whole,
                le-ltb max_generators (length (perms_of list)) some,
                eq-eqb (length (perms_of list)) (length orders) same,
              )

          pub perms-refused : (why : Refusal) → refusal_of why ≡ alone (perms_check n 0 (perms_of list)) → verdict try_checks ≡ refusal_of why
          perms-refused why e =
              let check = perms_check n 0 (perms_of list) in
              perms-decide ∙ first-refuses check (group_checks n (perms_of list) orders) (refused-broken check why e) ∙ sym e

          pub group-decides : (perms_check n 0 (perms_of list)).broken ≡ false → verdict try_checks ≡ verdict (group_checks n (perms_of list) orders)
          group-decides e = perms-decide ∙ rw e

-- ---- the tables that are filled on the way

pub rows-filled :
    (n k : ℕ) (perms : List (List ℕ)) (targets : List ℕ) → n ≤ max_sites → (perms_check n 0 perms).broken ≡ false → k ≡ length perms
    → targets ≡ placed_all perms → rows_of k n targets ≡ perms
rows-filled n k perms targets few fine count placed =
    ap₂ (λ (j : ℕ) (l : List ℕ). rows_of j n l) count placed ∙ rows-placed n perms few (λ p m. (perms_fine_lem n 0 perms fine p m).long)

pub orders_filled : (k : ℕ) (orders : List ℕ) → k ≡ length orders → take k (filled max_generators orders) ≡ orders
orders_filled k orders e = take_at orders (blank (max_generators - length orders)) k (sym e)

-- the list's generators stand in the table, and the declared orders in theirs, with zeros after them
module _ (n : ℕ) (list orders : List ℕ) (count : ℕ)
    (counts : (n ≤ max_sites) × (ends_inside list ≡ false) × (count ≡ length (perms_of list)) × (count ≤ max_generators) × (count ≡ length orders))
    (fine : (perms_check n 0 (perms_of list)).broken ≡ false) (targets held : List ℕ)
    (placed : targets ≡ placed_all (perms_of list)) (declares : held ≡ filled max_generators orders) where
  rows-are : rows_of count n targets ≡ perms_of list
  rows-are = rows-filled n count (perms_of list) targets counts.0 fine counts.2 placed

  pub made-permute : (g : ℕ) → g < count → Permutes n (row_at n targets g)
  made-permute = rows-permute count n targets (ap (λ (l : List (List ℕ)). (perms_check n 0 l).broken) rows-are ∙ fine)

  -- what the look through the tables finds is what the checks come to
  pub made-told : verdict (group_checks n (rows_of count n targets) (take count held)) ≡ verdict (try_checks n list orders)
  made-told =
      ap₂ (λ (perms : List (List ℕ)) (os : List ℕ). verdict (group_checks n perms os)) rows-are
      (ap (take count) declares ∙ orders_filled count orders counts.4)
      ∙ sym (group-decides n list orders counts.0 counts.1 (omega (arith, counts.2, counts.3)) (sym counts.2 ∙ counts.4) fine)

  pub made-answers :
      verdict (try_checks n list orders) ≡ answer tt
      → answer (record { sites = n; generators = count; orders = held; targets = targets }) ≡ try_from_outcome n list orders
  made-answers e = ap answer (same_group refl counts.2 declares placed) ∙ sym (answered-made n list orders (sym counts.2 ∙ counts.4) e)
