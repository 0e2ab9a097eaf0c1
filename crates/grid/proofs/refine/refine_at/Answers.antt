-- `refine::refine_at` meets its contract: a block whose bits are all alike changes nothing, and any other is copied and refined by.
use Prim.Native.Nat.{ℕ, ◌+◌}
use mathlib.Core.Path.{sym, ◌∙◌}
use mathlib.Core.Bool.{Bool}
use native.Mathlib.Omega.{arith}
use Rattle.packed.specs.Packed.{bit_of}
use Rattle.grid.proofs.Rounds.{block_alike, shows_copied}
use Rattle.grid.proofs.refine.refine_at.Goals as goal

pub take_block-requires : goal.take_block-requires
take_block-requires c =
    let r = c.requires.steps in
    (omega (arith, c.requires.tables.sites, c.requires.base_le_sites.0), r.room, omega (arith, r.few))

pub alike-requires : goal.alike-requires
alike-requires c = omega (arith, c.requires.steps.room, c.take_block.auto.at)

pub returns-then-alike : goal.returns-then-alike
returns-then-alike c =
    let b : ℕ → Bool = λ y. bit_of c.args.plane.now (c.args.base + y) in
    let t = c.take_block.ensures.bits in
    block_alike c.requires.tables.valid c.requires.order_value b (λ j k jm km. sym (t j jm) ∙ c.alike.ensures c.if-alike.true j k jm km ∙ t k km)

pub refine_block-requires : goal.refine_block-requires
refine_block-requires c =
    let e = c.take_block.auto.at in record {
      tables = c.requires.tables;
      order_value = c.requires.order_value;
      steps = rw (← e) at c.requires.steps;
      clear = (c.take_block.ensures.clear, c.requires.base_le_sites.1 ∙ sym e);
    }

pub returns : goal.returns
returns c =
    let b : ℕ → Bool = λ y. bit_of c.args.plane.now (c.args.base + y) in
    λ F u l shows. c.refine_block.ensures F u l (shows_copied c.requires.tables.valid c.requires.order_value b (bit_of c.take_block.new.at) c.take_block.ensures.bits F u shows)
