-- Entries of the constant table that are known from school, at 0, 30, 45, 90 and 180 degrees; and what the tests say of tables with a change.
use Prim.Native.Nat.{ℕ}
use mathlib.Core.Path.{◌≡◌, refl}
use mathlib.Core.Bool.{Bool, true, false}
use mathlib.Core.List.{List, [], ◌∷◌}
use lib.IntN.{ℤ, pos, neg_ℤ, suc_ℤ, pred_ℤ, ◌+ℤ◌, ◌-ℤ◌}
use lib.ListN.{set}
use Rattle.phases.specs.declared.PhaseTable.{PhaseTable}
use Rattle.phases.specs.Table.{phase_table}
use Rattle.phases.specs.Rules.{unit, table_of, cosine, sine, turned, each_below, same_integer, first_right, turned_right, order_right}
use Rattle.phases.specs.Rules.{product_right, norm_right, range_test, rules_test, passes}

-- ---- entries

at_0 : (cosine phase_table 0 ≡ pos 1073741824) × (sine phase_table 0 ≡ pos 0)
unfolding cosine sine phase_table
at_0 = (refl, refl)

at_30 : (cosine phase_table 60 ≡ pos 929887697) × (sine phase_table 60 ≡ pos 536870912)
unfolding cosine sine phase_table
at_30 = (refl, refl)

at_45 : (cosine phase_table 90 ≡ pos 759250125) × (sine phase_table 90 ≡ pos 759250125)
unfolding cosine sine phase_table
at_45 = (refl, refl)

at_90 : (cosine phase_table 180 ≡ pos 0) × (sine phase_table 180 ≡ pos 1073741824)
unfolding cosine sine phase_table
at_90 = (refl, refl)

at_180 : (cosine phase_table 360 ≡ neg_ℤ (pos 1073741824)) × (sine phase_table 360 ≡ pos 0)
unfolding cosine sine phase_table
at_180 = (refl, refl)

-- ---- tables

-- a table with another entry j
unfoldable changed : PhaseTable → ℕ → ℤ → ℤ → PhaseTable
changed t j c s = table_of (set t.cosines j c) (set t.sines j s)

-- and with the entries turned from it
unfoldable changed_turned : PhaseTable → ℕ → ℤ → ℤ → PhaseTable
unfolding changed
changed_turned t j c s =
    let half = turned (turned j) in
    changed (changed (changed (changed t j c s) (turned j) (neg_ℤ s) c) half (neg_ℤ c) (neg_ℤ s)) (turned half) s (neg_ℤ c)

-- every other number with the other sign
unfoldable alternating : List ℤ → List ℤ
alternating [] = []
alternating (x ∷ []) = x ∷ []
alternating (x ∷ y ∷ zs) = x ∷ neg_ℤ y ∷ alternating zs

-- the cosine of entry 1 one larger, in its place alone
unfoldable one_larger : PhaseTable
unfolding changed cosine sine phase_table
one_larger = changed phase_table 1 (suc_ℤ (cosine phase_table 1)) (sine phase_table 1)

one_larger_lem : passes one_larger ≡ false
unfolding one_larger passes range_test rules_test each_below same_integer cosine sine
one_larger_lem = refl

-- and in its turned places: no rule refuses it
one_larger_turned : passes (changed_turned phase_table 1 (suc_ℤ (cosine phase_table 1)) (sine phase_table 1)) ≡ true
unfolding changed_turned passes range_test rules_test each_below same_integer cosine sine phase_table
one_larger_turned = refl

-- ---- for each rule a change that it alone notices, at the entry

-- the rules in their order, at entry j: entry 0, turned, order, product, norm
unfoldable tests_at : PhaseTable → ℕ → List Bool
unfolding same_integer cosine sine
tests_at t j = first_right t ∷ turned_right t j ∷ order_right t j ∷ product_right t j ∷ norm_right t j ∷ []

-- entry 0 is one short of 1
first_shorter : tests_at (changed_turned phase_table 0 (pred_ℤ (pos unit)) (pos 0)) 0 ≡ false ∷ true ∷ true ∷ true ∷ true ∷ []
unfolding changed_turned tests_at phase_table
first_shorter = refl

-- the cosine of entry 1 is one larger, in its place alone
not-turned : tests_at one_larger 1 ≡ true ∷ false ∷ true ∷ true ∷ true ∷ []
unfolding one_larger tests_at
not-turned = refl

-- a step is a half turn more: every other entry has the other sign
half_turn_on : tests_at (table_of (alternating phase_table.cosines) (alternating phase_table.sines)) 0 ≡ true ∷ true ∷ false ∷ true ∷ true ∷ []
unfolding alternating tests_at phase_table
half_turn_on = refl

-- the entry at 45 degrees is three aside
aside : tests_at (changed_turned phase_table 90 (cosine phase_table 90 +ℤ pos 3) (sine phase_table 90 -ℤ pos 3)) 90 ≡ true ∷ true ∷ true ∷ false ∷ true ∷ []
unfolding changed_turned tests_at cosine sine phase_table
aside = refl

-- the entry at 45 degrees is too long
longer : tests_at (changed_turned phase_table 90 (suc_ℤ (cosine phase_table 90)) (suc_ℤ (sine phase_table 90))) 90 ≡ true ∷ true ∷ true ∷ true ∷ false ∷ []
unfolding changed_turned tests_at cosine sine phase_table
longer = refl
