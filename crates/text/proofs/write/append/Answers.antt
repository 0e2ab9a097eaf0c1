-- `write::append` meets its contract: the text stands where it was copied, and the list stays around it.
use Prim.Native.Nat.{ℕ, ◌+◌}
use mathlib.Core.Path.{◌≡◌, ap}
use mathlib.Core.List.{List, ◌++◌}
use native.Mathlib.Omega.{arith}
use lib.ListN.{length, take}
use borrow.Rule.Slice.PartMut.{Post-is}
use Rattle.text.specs.Text.{put}
use Rattle.text.proofs.write.append.Goals as goal

pub returns-clause-list : goal.returns-clause-list
unfolding put
returns-clause-list c =
    let a = c.args in
    let rest = Post-is a.at (a.at + length a.text.now) a.list.now (omega arith) in
    rw c.copy_from_slice.ensures.after (ap (λ (l : List ℕ). take a.at a.list.now ++ (a.text.now ++ l)) rest)
