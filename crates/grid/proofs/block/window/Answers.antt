-- `block::window` meets its contract.
use Prim.Native.Nat.{◌/◌}
use Rattle.packed.specs.Packed.{word_bits}
use Rattle.packed.proofs.Shifts.{window_whole}
use Rattle.grid.proofs.block.window.Goals as goal

pub returns : goal.returns
returns c =
    let a = c.args in
    let f = c.shared_slice_known-1.given (a.p / word_bits) in
    λ k h. rw (c.word_or_zero-low.ensures, c.word_or_zero-high.ensures) (window_whole a.plane.now a.p k f.fits h)
