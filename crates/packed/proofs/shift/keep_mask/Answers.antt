-- `shift::keep_mask` meets its contract.
use Rattle.packed.proofs.Masks.{keep_masked}
use Rattle.packed.proofs.shift.keep_mask.Goals as goal

pub returns : goal.returns
returns c =
    let a = c.args in
    keep_masked a.stride a.block a.sites c.fill_mask.new.mask c.requires.0 c.fill_mask.ensures
