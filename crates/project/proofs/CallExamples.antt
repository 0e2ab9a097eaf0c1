-- Worked examples of the call on rings, which the checker computes: three rows projected by the constant table, in full and of the old form, what
-- the output lists then hold, and a refusal of each kind that three rows can show. That the constant table passes is cited and not computed again.
use Prim.Native.Nat.{ℕ, suc, ◌*◌}
use mathlib.Core.Path.{◌≡◌, refl}
use mathlib.Core.List.{List, [], ◌∷◌, ◌++◌}
use lib.IntN.{ℤ, pos, negsuc}
use lib.ListN.{replicate}
use Rattle.outcome.specs.declared.Refusal.TheVariants as Refusal
use Rattle.outcome.specs.Outcome.{Outcome, answer, refusal_of}
use Rattle.pauli_word.specs.Limits.{max_sites, word_length, old_plane_length, old_sites}
use Rattle.pauli_word.specs.Word.{I, X}
use Rattle.pauli_word.specs.Bytes.{in_full, encode, decode, plane_of, number, plane_bits, low_bits, letters_of, clear_from, clear}
use Rattle.pauli_word.specs.Calls.{past_old}
use Rattle.action.specs.Arithmetic.{product}
use Rattle.action.specs.Lattice.{chain}
use Rattle.action.specs.Sector.{modulus, keeps}
use Rattle.permutation.specs.Generators.{perms_check, orders_check, pairs_check}
use Rattle.elements.specs.HeldGroup.{encode_all}
use Rattle.group.specs.declared.Group.{Group}
use Rattle.group.specs.Value.{group_of, no_group, is_group, generators_of}
use Rattle.row_lists.specs.Rows.{row_size, in_full_by, rows_in}
use Rattle.phases.specs.Table.{phase_table}
use Rattle.phases.specs.declared.PhaseTable.{PhaseTable}
use Rattle.phases.specs.Rules.{turn, unit, table_of, cosine, sine, same_integer, each_below, range_test, rules_test, passes}
use Rattle.phases.proofs.Constant.{constant_passes}
use Rattle.projection.specs.Projection.{kept_rows, dropped_rows, projected}
use Rattle.project.specs.Calls.{max_coefficient, input_rows, ProjectedSum, projected_sum, project_outcome, cosines_after, sines_after}

abbrev ring : ℕ → Group
ring n = group_of n (chain n)

-- the words XIII, XIXI and IXII
abbrev words : List ℕ
words = encode_all ((X ∷ I ∷ I ∷ I ∷ []) ∷ (X ∷ I ∷ X ∷ I ∷ []) ∷ (I ∷ X ∷ I ∷ I ∷ []) ∷ [])

-- the same words of the old form
abbrev old_words : List ℕ
old_words =
    encode old_plane_length (X ∷ I ∷ I ∷ I ∷ []) ++ (encode old_plane_length (X ∷ I ∷ X ∷ I ∷ []) ++ encode old_plane_length (I ∷ X ∷ I ∷ I ∷ []))

-- what either list comes to by the constant table, with these coefficients and output lists of k rows
abbrev outcome : Group → List ℤ → List ℤ → ℕ → Outcome ProjectedSum
outcome g ks cs k = project_outcome phase_table g ks words cs (word_length * k) k k

abbrev old_outcome : Group → List ℤ → List ℤ → ℕ → Outcome ProjectedSum
old_outcome g ks cs k = project_outcome phase_table g ks old_words cs (word_length * k) k k

-- their sum
abbrev sum : Group → List ℤ → List ℤ → ProjectedSum
sum g ks cs = projected_sum phase_table g ks (input_rows g.sites words cs)

-- coefficients 3, 5 and -7, and 3, 5 and -3
abbrev some : List ℤ
some = pos 3 ∷ pos 5 ∷ negsuc 6 ∷ []

abbrev cancelling : List ℤ
cancelling = pos 3 ∷ pos 5 ∷ negsuc 2 ∷ []

-- no check refuses them, and words of the old form are read as those in full
passing :
    outcome (ring 4) (pos 1 ∷ []) some 3
    ∷ outcome (ring 4) (pos 0 ∷ []) cancelling 3
    ∷ old_outcome (ring 4) (pos 1 ∷ []) some 3
    ∷ []
    ≡ answer (sum (ring 4) (pos 1 ∷ []) some)
    ∷ answer (sum (ring 4) (pos 0 ∷ []) cancelling)
    ∷ answer (sum (ring 4) (pos 1 ∷ []) some)
    ∷ []
unfolding project_outcome past_old row_size in_full_by in_full rows_in encode_all encode plane_of number plane_bits low_bits clear_from clear chain group_of
    is_group perms_check orders_check pairs_check product generators_of modulus
passing = rw constant_passes refl

-- mode 1 drops XIXI; XIII is a quarter turn from IIIX and IXII half a turn, so that 3 goes along the sine and -7 backwards along the cosine.
-- Mode 0 keeps all: coefficients 3 and -3 come to 0, and their row stays
sums :
    sum (ring 4) (pos 1 ∷ []) some
    ∷ sum (ring 4) (pos 0 ∷ []) cancelling
    ∷ []
    ≡ record { kept = 2; dropped = 1; table = (I ∷ I ∷ I ∷ X ∷ [], (pos (7 * unit), pos (3 * unit))) ∷ [] }
    ∷ record { kept = 3; dropped = 0; table = (I ∷ I ∷ I ∷ X ∷ [], (pos 0, pos 0)) ∷ (I ∷ X ∷ I ∷ X ∷ [], (pos (5 * unit), pos 0)) ∷ [] }
    ∷ []
unfolding projected_sum input_rows rows_in encode_all encode plane_of number decode plane_bits low_bits letters_of chain group_of generators_of modulus
    kept_rows dropped_rows projected keeps phase_table
sums = refl

-- the lists after the first of these, and after a refusal
lists_after :
    let was : List ℤ = pos 1 ∷ pos 2 ∷ pos 3 ∷ [] in
    cosines_after was 3 (answer (sum (ring 4) (pos 1 ∷ []) some))
    ∷ sines_after was 3 (answer (sum (ring 4) (pos 1 ∷ []) some))
    ∷ cosines_after was 3 (outcome (ring 4) [] some 3)
    ∷ []
    ≡ (pos (7 * unit) ∷ pos 0 ∷ pos 0 ∷ []) ∷ (pos (3 * unit) ∷ pos 0 ∷ pos 0 ∷ []) ∷ was ∷ []
unfolding project_outcome projected_sum input_rows rows_in encode_all encode plane_of number decode plane_bits low_bits letters_of clear_from clear chain
    group_of is_group perms_check orders_check pairs_check product generators_of modulus kept_rows dropped_rows projected keeps phase_table
lists_after = refl

-- too many sites; no group; a mode too few; seven parts of a turn; output lists of two rows; on a ring of two sites XIXI has a letter too many, which
-- comes before its coefficient; and row 0 comes before it
refusals :
    let large : ℤ = pos (suc max_coefficient) in
    outcome (group_of (suc max_sites) []) [] some 3
    ∷ outcome no_group [] some 3
    ∷ outcome (ring 7) [] some 2
    ∷ outcome (ring 7) (pos 1 ∷ []) some 2
    ∷ outcome (ring 4) (pos 1 ∷ []) some 2
    ∷ outcome (ring 2) (pos 1 ∷ []) (pos 3 ∷ large ∷ pos 0 ∷ []) 3
    ∷ outcome (ring 2) (pos 1 ∷ []) (large ∷ large ∷ pos 0 ∷ []) 3
    ∷ outcome (ring 4) (pos 1 ∷ []) (pos max_coefficient ∷ negsuc max_coefficient ∷ pos 0 ∷ []) 3
    ∷ []
    ≡ refusal_of Refusal.TooManySites
    ∷ refusal_of Refusal.InvalidValue
    ∷ refusal_of Refusal.ModeCount
    ∷ refusal_of Refusal.PhaseModulus
    ∷ refusal_of Refusal.SumLists
    ∷ refusal_of (Refusal.RowBitAboveSites 1)
    ∷ refusal_of (Refusal.CoefficientRange 0)
    ∷ refusal_of (Refusal.CoefficientRange 1)
    ∷ []
unfolding project_outcome past_old row_size in_full_by in_full rows_in encode_all encode plane_of number plane_bits low_bits clear_from clear chain group_of
    no_group is_group perms_check orders_check pairs_check product generators_of modulus
refusals = rw constant_passes refl

-- words of the old form with a site more than it has: output lists of two rows come before that, and a coefficient out of its range after it, which
-- decides where the form has the sites; on a ring of two sites XIXI has a letter too many in this form too
old_refusals :
    let large : ℤ = pos (suc max_coefficient) in
    old_outcome (group_of (suc old_sites) []) [] some 2
    ∷ old_outcome (group_of (suc old_sites) []) [] (large ∷ pos 0 ∷ pos 0 ∷ []) 3
    ∷ old_outcome (group_of old_sites []) [] (large ∷ pos 0 ∷ pos 0 ∷ []) 3
    ∷ old_outcome (ring 2) (pos 1 ∷ []) some 3
    ∷ []
    ≡ refusal_of Refusal.SumLists
    ∷ refusal_of Refusal.OldWordSites
    ∷ refusal_of (Refusal.CoefficientRange 0)
    ∷ refusal_of (Refusal.RowBitAboveSites 1)
    ∷ []
unfolding project_outcome past_old row_size in_full_by in_full rows_in encode plane_of number plane_bits low_bits clear_from clear chain group_of is_group
    perms_check orders_check pairs_check product generators_of modulus
old_refusals = rw constant_passes refl

-- a table of zeros breaks the first rule: a mode too few and seven parts of a turn come before it, and it comes before output lists of two rows
broken :
    let zeros : PhaseTable = table_of (replicate turn (pos 0)) (replicate turn (pos 0)) in
    project_outcome zeros (ring 4) [] words some (word_length * 3) 3 3
    ∷ project_outcome zeros (ring 7) (pos 1 ∷ []) words some (word_length * 3) 3 3
    ∷ project_outcome zeros (ring 4) (pos 1 ∷ []) words some (word_length * 2) 2 2
    ∷ []
    ≡ refusal_of Refusal.ModeCount ∷ refusal_of Refusal.PhaseModulus ∷ refusal_of Refusal.PhaseRule ∷ []
unfolding project_outcome chain group_of is_group perms_check orders_check pairs_check product generators_of modulus passes range_test rules_test each_below
    same_integer cosine sine
broken = refl
