-- `least_turns` meets its contract: what the X plane and then the Z plane leave of all turns are those that give the least word.
use Rattle.cyclic.proofs.Refinement.{narrowed_turns}
use Rattle.cyclic.proofs.least_turns.Goals as goal

pub returns : goal.returns
returns c =
    let a = c.args in
    let p = c.requires in
    narrowed_turns a.sites a.block a.x.now a.z.now c.refine-left.result.start c.refine-left.result.step c.refine.result.start c.refine.result.step
    p.0 p.1 c.refine-left.ensures c.refine.ensures
