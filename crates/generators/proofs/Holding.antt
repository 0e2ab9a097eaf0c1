-- Which tables hold a group, test by test.
-- What carries it: the first check that is broken decides, and with none broken the unused places do.
use Prim.Native.Nat.{ℕ, ◌*◌, ◌≤◌, ◌<◌}
use mathlib.Core.Path.{◌≡◌}
use mathlib.Core.Bool.{true, false, ◌&&◌}
use mathlib.Core.List.{List}
use lib.ListN.{take, drop}
use borrow.Author.Tests.{lt-ltb, le-ltb}
use Rattle.pauli_word.specs.Limits.{max_sites}
use Rattle.outcome.specs.Outcome.{answer, verdict, answers}
use Rattle.permutation.specs.Limits.{max_generators}
use Rattle.permutation.specs.Generators.{perms_check, group_checks, rows_of}
use Rattle.generators.specs.Tables.{zeros, rests_clear, unused_clear, hold_group}

module _ (k n : ℕ) (targets orders : List ℕ) where
  pub hold-many : max_generators < k → hold_group k n targets orders ≡ false
  unfolding hold_group
  hold-many h = rw (lt-ltb max_generators k h)

  module _ (few : k ≤ max_generators) where
    pub hold-broken : (perms_check n 0 (rows_of k n targets)).broken ≡ true → hold_group k n targets orders ≡ false
    unfolding hold_group
    hold-broken e = rw (le-ltb max_generators k few, e)

    module _ (ok : (perms_check n 0 (rows_of k n targets)).broken ≡ false) where
      pub hold-refused : answers (verdict (group_checks n (rows_of k n targets) (take k orders))) ≡ false → hold_group k n targets orders ≡ false
      unfolding hold_group
      hold-refused e = rw (le-ltb max_generators k few, ok, e)

      module _ (passed : verdict (group_checks n (rows_of k n targets) (take k orders)) ≡ answer tt) where
        pub hold-unused :
            hold_group k n targets orders ≡ (rests_clear k n targets && zeros (drop (max_sites * k) targets) && zeros (drop k orders))
        unfolding hold_group unused_clear
        hold-unused = rw (le-ltb max_generators k few, ok, passed)
