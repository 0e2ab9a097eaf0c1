-- `lattice::shifted` meets its contract: each part of the sum is at most the sites.
use mathlib.Core.Path.{refl}
use native.Mathlib.Omega.{arith}
use native.Mathlib.Nat.{mul-pos}
use Rattle.action.specs.Lattice.{shifted}
use Rattle.generators.proofs.Shifts.{place-small, low_small, axis-small, high_small}
use Rattle.pauli_word.specs.Limits.{max_sites}
use Rattle.generators.proofs.lattice.shifted.Goals as goal

pub overflow_add-result : goal.overflow_add-result
overflow_add-result c = let a = c.args in let p = c.requires in omega (arith, place-small a.stride a.side a.q p.0 p.1 max_sites p.2)

pub overflow_mul-result : goal.overflow_mul-result
overflow_mul-result c = let a = c.args in let p = c.requires in omega (arith, axis-small a.stride a.side a.q p.0 p.1 max_sites p.2)

pub overflow_add-result-2 : goal.overflow_add-result-2
overflow_add-result-2 c =
    let a = c.args in
    let p = c.requires in
    omega (arith, low_small a.stride a.side a.q p.0 p.1 max_sites p.2, axis-small a.stride a.side a.q p.0 p.1 max_sites p.2)

pub nonzero_div-result : goal.nonzero_div-result
nonzero_div-result c = let p = c.requires in mul-pos p.0 p.1

pub overflow_mul-result-2 : goal.overflow_mul-result-2
overflow_mul-result-2 c = let a = c.args in let p = c.requires in omega (arith, high_small a.stride a.side a.q p.0 p.1 max_sites p.2)

pub overflow_add-result-3 : goal.overflow_add-result-3
overflow_add-result-3 c =
    let a = c.args in
    let p = c.requires in
    omega (
      arith,
      low_small a.stride a.side a.q p.0 p.1 max_sites p.2,
      axis-small a.stride a.side a.q p.0 p.1 max_sites p.2,
      high_small a.stride a.side a.q p.0 p.1 max_sites p.2,
    )

pub returns : goal.returns
unfolding shifted
returns c = refl
