-- `one::turn` meets its contract.
use Rattle.packed.proofs.Masks.{turned_picked}
use Rattle.grid.proofs.one.turn.Goals as goal

pub returns : goal.returns
returns c =
    let a = c.args in
    λ k h. turned_picked a.s a.t a.x a.mask c.lifted.result c.lowered.result c.pick.result k (c.pick.ensures k) (c.lifted.ensures k h) (c.lowered.ensures k)
