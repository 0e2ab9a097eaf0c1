use Prim.Native.Nat.{◌%◌}
use mathlib.Core.Path.{ap}
use mathlib.Core.Bool.{false≢true}
use native.Mathlib.Nat.{div-add-mod, mod-add-mod, mod-lt, zero-mod}
use borrow.Author.Tests.{eqb-true, not-false}
use borrow.Author.Count.{below_more}
use Rattle.pauli_word.specs.Limits.{max_sites}
use Rattle.packed.specs.Packed.{rotated}
use Rattle.renumbered.specs.Renumbered.{at}
use Rattle.renumbered.proofs.Tabled.{rotated-next}
use mathlib.Core.Path.{◌≡◌, sym, ◌∙◌}
use lib.ListN.{get_or}
use Prim.Native.Nat.{ℕ, ◌+◌, ◌-◌, ◌*◌}
use native.Mathlib.Omega.{arith}
use Rattle.renumbered.proofs.table.carries.Goals as goal

pub loop-a-init : goal.loop-a-init
loop-a-init c = (omega arith, sym (zero-mod c.args.block), λ b h. absurd (omega arith))

pub overflow_sub-next : goal.overflow_sub-next
overflow_sub-next c = omega (arith, c.loop-a.invariant.1, div-add-mod c.loop-a.a c.args.block)

pub overflow_add-inside : goal.overflow_add-inside
overflow_add-inside c = omega (arith, c.loop-a.invariant.1, mod-lt c.loop-a.a c.requires.block_nonzero.0)

pub round-requires : goal.round-requires
round-requires c = omega (arith, c.loop-a.invariant.1, mod-lt c.loop-a.a c.requires.block_nonzero.0)

pub overflow_add-next : goal.overflow_add-next
overflow_add-next c = omega (arith, c.round.ensures, mod-lt (c.loop-a.inside + c.args.stride) c.requires.block_nonzero.0)

pub offset_bounds-site-a : goal.offset_bounds-site-a
offset_bounds-site-a c = omega arith

pub bounds-site-a : goal.bounds-site-a
bounds-site-a c = omega arith

pub offset_bounds-site-next : goal.offset_bounds-site-next
offset_bounds-site-next c = omega arith

pub bounds-site-next : goal.bounds-site-next
bounds-site-next c = omega arith

pub overflow_mul-g : goal.overflow_mul-g
overflow_mul-g c = omega arith

pub overflow_add-g : goal.overflow_add-g
overflow_add-g c = omega (arith, c.requires.by_index c.loop-a.a c.loop-a-test.true)

pub offset_bounds-targets-g : goal.offset_bounds-targets-g
offset_bounds-targets-g c = omega (arith, c.requires.by_index c.loop-a.a c.loop-a-test.true)

pub bounds-targets-g : goal.bounds-targets-g
bounds-targets-g c = omega (arith, c.requires.by_index c.loop-a.a c.loop-a-test.true)

pub returns-then-sites-next : goal.returns-then-sites-next
returns-then-sites-next c t = absurd (false≢true t)

pub overflow_add-inside-in-loop-a : goal.overflow_add-inside-in-loop-a
overflow_add-inside-in-loop-a c = omega (arith, c.loop-a.invariant.1, mod-lt c.loop-a.a c.requires.block_nonzero.0)

pub round-inside-requires : goal.round-inside-requires
round-inside-requires c = omega (arith, c.loop-a.invariant.1, mod-lt c.loop-a.a c.requires.block_nonzero.0)

pub loop-a-preserved : goal.loop-a-preserved
loop-a-preserved c =
    let a = c.args in
    let l = c.loop-a in
    let next : l.a - l.inside + c.round.result ≡ rotated a.stride a.block l.a =
    ap (λ (y : ℕ). l.a - l.inside + y) c.round.ensures
    ∙ ap (λ (y : ℕ). l.a - y + (y + a.stride) % a.block) l.invariant.1
    ∙ rotated-next a.stride a.block l.a in
    let here : at a.site.now (l.a - l.inside + c.round.result) ≡ get_or a.targets.now (max_sites * a.g + at a.site.now l.a) 0 = eqb-true _ _ (not-false _ c.if-site-next.false-raw) in (
      omega arith,
      c.round-inside.ensures ∙ ap (λ (y : ℕ). (y + 1) % a.block) l.invariant.1 ∙ mod-add-mod l.a a.block 1,
      below_more _ _ l.invariant.2 (rw next at here),
    )

pub returns : goal.returns
returns c t = let l = c.loop-a in λ a h. l.invariant.2 a (omega (arith, c.loop-a-test.false))
