-- The constant table has its numbers in range, it has the rules, and its numbers are the nearest whole numbers: each test computes.
use mathlib.Core.Path.{◌≡◌, refl}
use mathlib.Core.Bool.{true}
use lib.ListN.{length}
use lib.Signed.{lt_z_yes}
use Rattle.phases.specs.Table.{phase_table}
use Rattle.phases.specs.Rules.{turn, cosine, sine, same_integer, each_below, range_test, rules_test, passes, PhaseRange, PhaseRules}
use Rattle.phases.specs.Nearest.{nearest_test, cosine_low, cosine_high, PiBetween, PhaseNearest}
use Rattle.phases.proofs.Tests.{passes_range, passes_rules, nearest_holds}

-- the table passes
pub constant_passes : passes phase_table ≡ true
unfolding passes range_test rules_test each_below same_integer cosine sine phase_table
constant_passes = refl

nearest_passes : nearest_test phase_table ≡ true
unfolding nearest_test each_below cosine_low cosine_high cosine sine phase_table
nearest_passes = refl

-- the table has an entry for every step of a turn
pub constant_lengths : (length phase_table.cosines ≡ turn) × (length phase_table.sines ≡ turn)
unfolding phase_table
constant_lengths = (refl, refl)

-- every number of the table lies in -unit .. unit
pub constant_range : PhaseRange phase_table
constant_range = passes_range phase_table constant_passes

-- the table has the rules
pub constant_rules : PhaseRules phase_table
constant_rules = passes_rules phase_table constant_passes

-- the bounds of pi are bounds of pi
pub pi_between : PiBetween
unfolding cosine_low cosine_high
pi_between = record { low = lt_z_yes tt; high = lt_z_yes tt }

-- the numbers of the first quarter are the nearest whole numbers
pub constant_nearest : PhaseNearest phase_table
constant_nearest = nearest_holds phase_table nearest_passes
