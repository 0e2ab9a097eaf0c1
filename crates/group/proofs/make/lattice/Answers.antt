-- `make::lattice` meets its contract: the sides pass or refuse, and the shifts along the axes are the group's.
use Prim.Native.Nat.{ℕ, ◌-◌}
use mathlib.Core.Path.{refl, sym, ap, ◌∙◌}
use mathlib.Core.List.{List, [], ◌∷◌, map}
use native.Mathlib.Nat.{sub-zero}
use native.Mathlib.Omega.{arith}
use lib.ListN.{take, length-take}
use Rattle.outcome.specs.Outcome.{outcome_of}
use Rattle.outcome.proofs.Outcomes.{handed_on}
use Rattle.action.specs.Lattice.{shifts}
use Rattle.permutation.specs.Limits.{max_generators}
use Rattle.generators.specs.Tables.{filled, placed_all}
use Rattle.group.proofs.LatticeCalls.{axes-refused, axes-sized, axes-made}
use Rattle.group.proofs.make.lattice.Goals as goal

pub fill_shifts-requires : goal.fill_shifts-requires
fill_shifts-requires c =
    let a = c.args in
    let (few, positive, small) = axes-sized a.a a.b a.c (a.axes - 0) c.in_ok-sites.sites (sym c.sites_of.ensures ∙ ap outcome_of c.in_ok-sites.was) in record {
      sides_len_bound = (omega (arith, c.requires, length-take (a.axes - 0) (a.a ∷ a.b ∷ a.c ∷ [])), few, positive, small);
      targets_value = (refl, refl);
    }

pub returns-in_err-sites : goal.returns-in_err-sites
returns-in_err-sites c =
    let a = c.args in
    ap outcome_of (handed_on c.from_residual.result c.from_residual.ensures.1)
    ∙ sym (axes-refused a.a a.b a.c a.axes _ (sym c.sites_of.ensures ∙ ap outcome_of c.in_err-sites.was))

pub returns : goal.returns
returns c =
    let a = c.args in
    let n = c.in_ok-sites.sites in
    let all = sub-zero a.axes in
    let sides : ℕ → List ℕ = λ k. take k (a.a ∷ a.b ∷ a.c ∷ []) in
    sym
    (axes-made a.a a.b a.c a.axes n (sym c.sites_of.ensures ∙ ap outcome_of c.in_ok-sites.was) c.requires _ refl refl
    (c.fill_shifts.ensures.orders ∙ ap (λ (k : ℕ). filled max_generators (map (λ x. x.order) (shifts n 1 (sides k)))) all)
    (c.fill_shifts.ensures.targets ∙ ap (λ (k : ℕ). placed_all (map (λ x. x.perm) (shifts n 1 (sides k)))) all))
