-- `shift::window` meets its contract.
use Prim.Native.Nat.{◌/◌}
use Rattle.packed.specs.Packed.{word_bits}
use Rattle.packed.proofs.Shifts.{window_whole}
use Rattle.packed.proofs.shift.window.Goals as goal

pub returns : goal.returns
returns c =
    let a = c.args in
    let f = c.shared_slice_known-1.given (a.p / word_bits) in
    λ k h. window_whole a.plane.now a.p k f.fits h
