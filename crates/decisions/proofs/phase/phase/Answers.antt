-- `phase::phase` meets its contract: both factors are below the order, so that products fit (`product-fits`, `turn_small`).
use Prim.Native.Nat.{ℕ, ◌*◌, ◌/◌, ◌%◌}
use mathlib.Core.Path.{◌≡◌, ap, ◌∙◌}
use native.Mathlib.Nat.{mod-lt}
use native.Mathlib.Omega.{arith}
use mir.Syntax.{w32}
use mir.ValLaws.{to_z-of_z}
use Rattle.action.specs.Sector.{reduced}
use Rattle.decisions.proofs.Remainders.{reduced-below}
use Rattle.decisions.proofs.Phases.{turn, turn_small, product_fits}
use Rattle.decisions.proofs.phase.phase.Goals as goal
use Rattle.decisions.proofs.phase.phase.Lts as lts
use Rattle.decisions.proofs.phase.phase.Tie as tie
use Rattle.decisions.proofs.phase.phase.Reads as reads

abbrev ctx-After-reduced_mode : Type 0
ctx-After-reduced_mode = lts.After-reduced_mode tie.the-claims reads.Pre reads.Post

-- the mode as it is passed on
mode-same : (c : ctx-After-reduced_mode) → c.reduced_mode-k.result ≡ reduced c.args.order c.args.mode
mode-same c =
    c.reduced_mode-k.ensures ∙ ap (reduced c.args.order) (to_z-of_z w32 c.args.mode c.ranges.mode)

-- the result, by the reduced mode
same : (c : ctx-After-reduced_mode) → let a = c.args in
    (c.reduced_mode-k.result * (a.digit % a.order) % a.order * (a.modulus / a.order) ≡ turn a.modulus a.order a.mode a.digit)
same c =
    let a = c.args in
    ap (λ (k : ℕ). k * (a.digit % a.order) % a.order * (a.modulus / a.order)) (mode-same c)

pub overflow_mul-result : goal.overflow_mul-result
overflow_mul-result c =
    let a = c.args in
    record {
      fits =
          product_fits c.reduced_mode-k.result (a.digit % a.order)
          (omega (arith, mode-same c, reduced-below a.order a.mode c.requires, c.ranges.order.fits))
          (omega (arith, mod-lt a.digit c.requires, c.ranges.order.fits));
    }

pub overflow_mul-result-2 : goal.overflow_mul-result-2
overflow_mul-result-2 c =
    let a = c.args in
    omega (arith, same c, turn_small a.modulus a.order a.mode a.digit c.requires, c.ranges.modulus.fits)

pub returns : goal.returns
returns c = same c
