-- `join::joined_index` meets its contract: by the tests.
use Rattle.sector_parts.proofs.Joining.{taken_own, taken-index, taken-part, taken-sum}
use Rattle.sector_parts.proofs.join.joined_index.Goals as goal

pub returns-then-orbit-ne0 : goal.returns-then-orbit-ne0
returns-then-orbit-ne0 c = let a = c.args in taken-index a.index a.own a.size a.orbit c.if-size-eq0.true (λ z. absurd (c.if-orbit-ne0.true z))

pub returns-then-own-index : goal.returns-then-own-index
returns-then-own-index c = let a = c.args in taken_own a.index a.own a.size a.orbit c.if-size-eq0.true c.if-orbit-ne0.false c.if-own-index.true

pub returns-then-size-eq0 : goal.returns-then-size-eq0
returns-then-size-eq0 c = let a = c.args in taken-index a.index a.own a.size a.orbit c.if-size-eq0.true (λ z. c.if-own-index.false)

pub returns-then-orbit-eq0 : goal.returns-then-orbit-eq0
returns-then-orbit-eq0 c = let a = c.args in taken-part a.index a.own a.size a.orbit c.if-size-eq0.false c.if-orbit-eq0.true

pub returns : goal.returns
returns c = let a = c.args in taken-sum a.index a.own a.size a.orbit c.if-size-eq0.false c.if-orbit-eq0.false
