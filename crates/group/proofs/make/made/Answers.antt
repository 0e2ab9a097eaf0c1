-- `make::made` meets its contract: a fault that is found is the first, and tables without one are those of the generators that the list writes.
use Prim.Native.Nat.{ℕ, ◌-◌}
use mathlib.Core.Path.{◌≡◌, refl, sym, ap, ap₂, ◌∙◌}
use mathlib.Core.List.{List, ◌++◌}
use native.Mathlib.Omega.{arith}
use lib.ListN.{length, drop}
use lib.Seq.{length-take-le}
use Rattle.outcome.specs.Outcome.{outcome_of}
use Rattle.permutation.specs.Limits.{max_generators}
use Rattle.permutation.specs.Generators.{perms_of, perms_check}
use Rattle.generators.specs.Tables.{filled, placed_all}
use Rattle.generators.proofs.Zeros.{blank, drop-blank}
use Rattle.generators.proofs.Placed.{filled-length}
use Rattle.generators.proofs.Reading.{passing_all}
use Rattle.outcome.proofs.Outcomes.{answered-fine, handed_on}
use Rattle.group.proofs.Making.{refused-made, perms-refused, made-permute, made-told, made-answers}
use Rattle.group.proofs.make.made.Goals as goal

-- the declared orders, and zeros after them
declares : (count : ℕ) (copied orders : List ℕ) → count ≡ length orders → copied ≡ orders → copied ++ drop count (blank max_generators) ≡ filled max_generators orders
declares count copied orders many same = ap₂ ◌++◌ same (drop-blank count max_generators ∙ ap (λ (k : ℕ). blank (max_generators - k)) many)

pub fill_targets-requires : goal.fill_targets-requires
fill_targets-requires c = record {
  sites_le_max_sites = c.requires.0;
  list_value = (c.requires.1, omega (arith, c.requires.2, c.requires.3));
  targets_value = refl;
}

pub returns-in_err-fill_targets : goal.returns-in_err-fill_targets
returns-in_err-fill_targets c =
    let a = c.args in
    let r = c.requires in
    ap outcome_of (handed_on c.from_residual.result c.from_residual.ensures.1)
    ∙ refused-made a.sites a.list.now a.orders.now _
    (perms-refused a.sites a.list.now a.orders.now r.0 r.1 (omega (arith, r.2, r.3)) (sym r.2 ∙ r.4) _
    (sym (ap outcome_of c.in_err-fill_targets.was) ∙ c.fill_targets.ensures.answer))

pub slice_bounds-copy-end : goal.slice_bounds-copy-end
slice_bounds-copy-end c =
    sym (length-take-le c.args.count (blank max_generators) c.requires.3)

pub copy-requires : goal.copy-requires
copy-requires c =
    sym c.requires.4 ∙ sym (length-take-le c.args.count (blank max_generators) c.requires.3)

pub group_fault-requires : goal.group_fault-requires
group_fault-requires c =
    let a = c.args in
    let r = c.requires in record {
      targets_len = (
        c.fill_targets.auto.targets,
        ap length (declares a.count c.copy.new.dst a.orders.now r.4 c.copy.ensures)
            ∙ filled-length max_generators a.orders.now (omega (arith, r.3, r.4)),
        r.3,
        r.0,
      );
      by_index =
          made-permute a.sites a.list.now a.orders.now a.count c.requires
          (answered-fine (perms_check a.sites 0 (perms_of a.list.now)) (sym (ap outcome_of c.in_ok-fill_targets.was) ∙ c.fill_targets.ensures.answer))
          c.fill_targets.new.targets (c.copy.new.dst ++ drop a.count (blank max_generators))
          (c.fill_targets.ensures.targets
          ∙ ap placed_all
          (passing_all a.sites 0 (perms_of a.list.now)
          (answered-fine (perms_check a.sites 0 (perms_of a.list.now)) (sym (ap outcome_of c.in_ok-fill_targets.was) ∙ c.fill_targets.ensures.answer))))
          (declares a.count c.copy.new.dst a.orders.now c.requires.4 c.copy.ensures);
    }

pub returns-in_err-group_fault : goal.returns-in_err-group_fault
returns-in_err-group_fault c =
    let a = c.args in
    ap outcome_of (handed_on c.from_residual-in_err-group_fault.result c.from_residual-in_err-group_fault.ensures.1)
    ∙ refused-made a.sites a.list.now a.orders.now _
    (sym
    (made-told a.sites a.list.now a.orders.now a.count c.requires
    (answered-fine (perms_check a.sites 0 (perms_of a.list.now)) (sym (ap outcome_of c.in_ok-fill_targets.was) ∙ c.fill_targets.ensures.answer))
    c.fill_targets.new.targets (c.copy.new.dst ++ drop a.count (blank max_generators))
    (c.fill_targets.ensures.targets
    ∙ ap placed_all
    (passing_all a.sites 0 (perms_of a.list.now)
    (answered-fine (perms_check a.sites 0 (perms_of a.list.now)) (sym (ap outcome_of c.in_ok-fill_targets.was) ∙ c.fill_targets.ensures.answer))))
    (declares a.count c.copy.new.dst a.orders.now c.requires.4 c.copy.ensures))
    ∙ sym c.group_fault.ensures ∙ ap outcome_of c.in_err-group_fault.was)

pub returns : goal.returns
returns c =
    let a = c.args in
    made-answers a.sites a.list.now a.orders.now a.count c.requires
    (answered-fine (perms_check a.sites 0 (perms_of a.list.now)) (sym (ap outcome_of c.in_ok-fill_targets.was) ∙ c.fill_targets.ensures.answer))
    c.fill_targets.new.targets (c.copy.new.dst ++ drop a.count (blank max_generators))
    (c.fill_targets.ensures.targets
    ∙ ap placed_all
    (passing_all a.sites 0 (perms_of a.list.now)
    (answered-fine (perms_check a.sites 0 (perms_of a.list.now)) (sym (ap outcome_of c.in_ok-fill_targets.was) ∙ c.fill_targets.ensures.answer))))
    (declares a.count c.copy.new.dst a.orders.now c.requires.4 c.copy.ensures)
    (sym
    (made-told a.sites a.list.now a.orders.now a.count c.requires
    (answered-fine (perms_check a.sites 0 (perms_of a.list.now)) (sym (ap outcome_of c.in_ok-fill_targets.was) ∙ c.fill_targets.ensures.answer))
    c.fill_targets.new.targets (c.copy.new.dst ++ drop a.count (blank max_generators))
    (c.fill_targets.ensures.targets
    ∙ ap placed_all
    (passing_all a.sites 0 (perms_of a.list.now)
    (answered-fine (perms_check a.sites 0 (perms_of a.list.now)) (sym (ap outcome_of c.in_ok-fill_targets.was) ∙ c.fill_targets.ensures.answer))))
    (declares a.count c.copy.new.dst a.orders.now c.requires.4 c.copy.ensures))
    ∙ sym c.group_fault.ensures ∙ ap outcome_of c.in_ok-group_fault.was)
