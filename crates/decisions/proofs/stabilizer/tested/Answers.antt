-- `stabilizer::tested` meets its contract: comparing the bytes says whether the index fixes the word (`bytes-fixed`, `bytes-moved`).
use mathlib.Core.Path.{◌≡◌, sym, ◌∙◌}
use mathlib.Core.Bool.{true}
use Rattle.action.specs.Orbit.{fixes}
use Rattle.elements.specs.HeldGroup.{generators_in}
use Rattle.decisions.proofs.Traversals.{test-moves, test-fixes, test-breaks, bytes-fixed, bytes-moved}
use Rattle.pauli_word.specs.Bytes.{letters_in}
use Rattle.decisions.proofs.stabilizer.tested.Goals as goal
use Rattle.decisions.proofs.stabilizer.tested.Lts as lts
use Rattle.decisions.proofs.stabilizer.tested.Tie as tie
use Rattle.decisions.proofs.stabilizer.tested.Reads as reads

abbrev ctx-After-enum_told : Type 0
ctx-After-enum_told = lts.Past-After-enum_told tie.the-claims reads.Pre reads.Post tie.handed_clauses

pub returns-in_default : goal.returns-in_default
returns-in_default c =
    let a = c.args in
    test-moves (generators_in a.group.now.generators a.group.now.sites a.group.now.targets.now a.group.now.orders.now) a.modes.now
    (letters_in a.group.now.sites a.word.now) a.index
    (bytes-moved c.requires.tables c.requires.accepted_word a.index c.requires.here_value c.compare_bytes.ensures.order
    (λ e. absurd (c.in_default.not-Equal e)))

-- the bytes compare as the same
fixed :
    (c : ctx-After-enum_told)
    → let a = c.args in
    let gs = generators_in a.group.now.generators a.group.now.sites a.group.now.targets.now a.group.now.orders.now in
    (fixes gs (letters_in a.group.now.sites a.word.now) a.index ≡ true)
fixed c =
    bytes-fixed c.requires.tables c.requires.accepted_word c.args.index c.requires.here_value c.compare_bytes.ensures.order c.in-Equal.is

pub returns-then-trivial : goal.returns-then-trivial
returns-then-trivial c =
    let a = c.args in
    test-fixes (generators_in a.group.now.generators a.group.now.sites a.group.now.targets.now a.group.now.orders.now) a.modes.now
    (letters_in a.group.now.sites a.word.now) a.index (fixed c.before.before.before) (sym c.trivial.ensures ∙ c.if-trivial.true)

pub returns-else-trivial : goal.returns-else-trivial
returns-else-trivial c =
    let a = c.args in
    test-breaks (generators_in a.group.now.generators a.group.now.sites a.group.now.targets.now a.group.now.orders.now) a.modes.now
    (letters_in a.group.now.sites a.word.now) a.index (fixed c.before.before.before) (sym c.trivial.ensures ∙ c.if-trivial.false)
