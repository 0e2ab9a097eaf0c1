-- `walk::least_in_room` meets its contract. The loop's invariant: i entries are walked (`Walked`).
use Rattle.pauli_word.specs.Bytes.{letters_in}
use Rattle.elements.specs.HeldGroup.{generators_in}
use Rattle.lettered.proofs.Leading.{Walked}
use Rattle.lettered.proofs.walk.least_in_room.Given as goal

abbrev pub invariant-loop-i : goal.invariant-loop-i
invariant-loop-i l = Walked (generators_in l.group.generators l.group.sites l.group.targets.now l.group.orders.now) (letters_in l.group.sites l.word) l.order l.group.sites l.here l.best l.spare l.index l.ties l.i
