-- `tables::hold_group` meets its contract: each return is reached by the tests that decide it.
use Prim.Native.Nat.{ℕ, ◌-◌, ◌*◌}
use mathlib.Core.Path.{◌≡◌, sym, ap, ap₂, ◌∙◌}
use mathlib.Core.Bool.{Bool, true, false, not, ◌&&◌}
use mathlib.Core.List.{List}
use lib.ListN.{length, take, drop}
use borrow.Author.Tests.{not-true, not-false}
use Rattle.pauli_word.specs.Limits.{max_sites}
use Rattle.pauli_word.proofs.Words.{rest_part}
use Rattle.permutation.specs.Limits.{max_generators, target_places}
use Rattle.permutation.specs.Generators.{perms_check, rows_of}
use Rattle.outcome.specs.Outcome.{Check, answers, outcome_of}
use Rattle.generators.specs.Tables.{zeros}
use Rattle.generators.proofs.Rows.{rows-permute}
use Rattle.generators.proofs.Holding.{hold-many, hold-broken, hold-refused, hold-unused}
use Rattle.generators.proofs.tables.hold_group.Goals as goal

-- each generator permutes the sites
permute : (b : Bool) (check : Check) → b ≡ not check.broken → b ≡ true → check.broken ≡ false
permute b check found fine = not-true check.broken (sym found ∙ fine)

-- a table from place m on, of which the length is known
rest_of : (m places : ℕ) (xs : List ℕ) → length xs ≡ places → take (places - m) (drop m xs) ≡ drop m xs
rest_of m places xs e = ap (λ (k : ℕ). take (k - m) (drop m xs)) (sym e) ∙ rest_part m xs

pub returns-then-generators-gt-MAX_GENERATORS : goal.returns-then-generators-gt-MAX_GENERATORS
returns-then-generators-gt-MAX_GENERATORS c = let a = c.args in sym (hold-many a.group.now.generators a.group.now.sites a.group.now.targets.now a.group.now.orders.now c.if-generators-gt-MAX_GENERATORS.true)

pub returns-then-not-perms_fine : goal.returns-then-not-perms_fine
returns-then-not-perms_fine c =
    let a = c.args in
    let broken = (perms_check a.group.now.sites 0 (rows_of a.group.now.generators a.group.now.sites a.group.now.targets.now)).broken in
    let refused = not-true c.perms_fine.result c.if-not-perms_fine.true-raw in
    sym
    (hold-broken a.group.now.generators a.group.now.sites a.group.now.targets.now a.group.now.orders.now c.if-generators-gt-MAX_GENERATORS.false
    (not-false broken (sym c.perms_fine.ensures ∙ refused)))

pub group_fault-requires : goal.group_fault-requires
group_fault-requires c =
    let a = c.args in record {
      targets_len = (c.requires.0, c.requires.1, c.if-generators-gt-MAX_GENERATORS.false, c.requires.2);
      by_index = rows-permute a.group.now.generators a.group.now.sites a.group.now.targets.now
          (permute c.perms_fine.result (perms_check a.group.now.sites 0 (rows_of a.group.now.generators a.group.now.sites a.group.now.targets.now)) c.perms_fine.ensures
          (not-false c.perms_fine.result c.if-not-perms_fine.false-raw));
    }

pub returns-in_default : goal.returns-in_default
returns-in_default c =
    let a = c.args in
    sym
    (hold-refused a.group.now.generators a.group.now.sites a.group.now.targets.now a.group.now.orders.now c.if-generators-gt-MAX_GENERATORS.false (permute c.perms_fine.result (perms_check a.group.now.sites 0 (rows_of a.group.now.generators a.group.now.sites a.group.now.targets.now)) c.perms_fine.ensures
    (not-false c.perms_fine.result c.if-not-perms_fine.false-raw))
    (ap answers (sym c.group_fault.ensures ∙ ap outcome_of c.in_default.is)))

pub returns-then-not-rests_clear : goal.returns-then-not-rests_clear
returns-then-not-rests_clear c =
    let a = c.args in
    let other = sym c.rests_clear.ensures ∙ not-true c.rests_clear.result c.if-not-rests_clear.true-raw in
    sym (hold-unused a.group.now.generators a.group.now.sites a.group.now.targets.now a.group.now.orders.now c.if-generators-gt-MAX_GENERATORS.false
    (permute c.perms_fine.result (perms_check a.group.now.sites 0 (rows_of a.group.now.generators a.group.now.sites a.group.now.targets.now)) c.perms_fine.ensures
    (not-false c.perms_fine.result c.if-not-perms_fine.false-raw))
    (sym c.group_fault.ensures ∙ ap outcome_of c.in-Ok.is)
    ∙ ap (λ (b : Bool). b && zeros (drop (max_sites * a.group.now.generators) a.group.now.targets.now) && zeros (drop a.group.now.generators a.group.now.orders.now)) other)

pub returns-then-not-all_zero : goal.returns-then-not-all_zero
returns-then-not-all_zero c =
    let a = c.args in
    let other = sym c.all_zero.ensures ∙ not-true c.all_zero.result c.if-not-all_zero.true-raw in
    let rest = rest_of (max_sites * a.group.now.generators) target_places a.group.now.targets.now c.requires.0 in
    sym (hold-unused a.group.now.generators a.group.now.sites a.group.now.targets.now a.group.now.orders.now c.if-generators-gt-MAX_GENERATORS.false
    (permute c.perms_fine.result (perms_check a.group.now.sites 0 (rows_of a.group.now.generators a.group.now.sites a.group.now.targets.now)) c.perms_fine.ensures
    (not-false c.perms_fine.result c.if-not-perms_fine.false-raw))
    (sym c.group_fault.ensures ∙ ap outcome_of c.in-Ok.is)
    ∙ ap₂ (λ (b d : Bool). b && d && zeros (drop a.group.now.generators a.group.now.orders.now)) (sym c.rests_clear.ensures ∙ not-false c.rests_clear.result c.if-not-rests_clear.false-raw) (sym (ap zeros rest) ∙ other))

pub returns : goal.returns
returns c =
    let a = c.args in
    let zero = sym c.all_zero.ensures ∙ not-false c.all_zero.result c.if-not-all_zero.false-raw in
    let rest = rest_of (max_sites * a.group.now.generators) target_places a.group.now.targets.now c.requires.0 in
    c.no_orders.ensures
    ∙ ap zeros (rest_of a.group.now.generators max_generators a.group.now.orders.now c.requires.1)
    ∙ sym (hold-unused a.group.now.generators a.group.now.sites a.group.now.targets.now a.group.now.orders.now c.if-generators-gt-MAX_GENERATORS.false
    (permute c.perms_fine.result (perms_check a.group.now.sites 0 (rows_of a.group.now.generators a.group.now.sites a.group.now.targets.now)) c.perms_fine.ensures
    (not-false c.perms_fine.result c.if-not-perms_fine.false-raw))
    (sym c.group_fault.ensures ∙ ap outcome_of c.in-Ok.is)
    ∙ ap₂ (λ (b d : Bool). b && d && zeros (drop a.group.now.generators a.group.now.orders.now)) (sym c.rests_clear.ensures ∙ not-false c.rests_clear.result c.if-not-rests_clear.false-raw) (sym (ap zeros rest) ∙ zero))
