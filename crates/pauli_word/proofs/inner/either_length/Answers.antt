-- `inner::either_length` meets its contract: its two tests are those of the definition.
use mathlib.Core.Path.{sym}
use mathlib.Core.Logic.{inl}
use borrow.Author.Tests.{ne_eqb}
use Rattle.pauli_word.specs.Limits.{word_length}
use Rattle.pauli_word.specs.Calls.{either_length}
use Rattle.pauli_word.proofs.Checks.{either_true}
use Rattle.pauli_word.proofs.inner.either_length.Goals as goal

pub returns-then-length-eq-WORD_BYTES : goal.returns-then-length-eq-WORD_BYTES
returns-then-length-eq-WORD_BYTES c = sym (either_true c.args.length (inl c.if-length-eq-WORD_BYTES.true))

pub returns-else-length-eq-WORD_BYTES : goal.returns-else-length-eq-WORD_BYTES
unfolding either_length
returns-else-length-eq-WORD_BYTES c = rw (ne_eqb c.args.length word_length c.if-length-eq-WORD_BYTES.false)
