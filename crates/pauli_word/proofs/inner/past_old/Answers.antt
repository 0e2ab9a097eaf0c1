-- `inner::past_old` meets its contract: its tests are those of the definition.
use borrow.Author.Tests.{eq-eqb, ne_eqb}
use Rattle.pauli_word.specs.Limits.{old_length}
use Rattle.pauli_word.specs.Calls.{past_old}
use Rattle.pauli_word.proofs.inner.past_old.Goals as goal

pub returns-then-length-eq-OLD_WORD_BYTES : goal.returns-then-length-eq-OLD_WORD_BYTES
unfolding past_old
returns-then-length-eq-OLD_WORD_BYTES c = rw (eq-eqb c.args.length old_length c.if-length-eq-OLD_WORD_BYTES.true)

pub returns-else-length-eq-OLD_WORD_BYTES : goal.returns-else-length-eq-OLD_WORD_BYTES
unfolding past_old
returns-else-length-eq-OLD_WORD_BYTES c = rw (ne_eqb c.args.length old_length c.if-length-eq-OLD_WORD_BYTES.false)
