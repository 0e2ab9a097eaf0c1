-- `letter::read` meets its contract: each arm's key computes, and a byte that is no key writes no letter.
use mathlib.Core.Path.{sym, ap}
use Rattle.pauli_word.specs.Calls.{letter_bits}
use Rattle.pauli_word.proofs.Texts.{no_letter}
use Rattle.pauli_word.proofs.letter.read.Goals as goal

pub returns-in-73 : goal.returns-in-73
returns-in-73 c = sym (ap letter_bits c.in-73.is)

pub returns-in-88 : goal.returns-in-88
returns-in-88 c = sym (ap letter_bits c.in-88.is)

pub returns-in-89 : goal.returns-in-89
returns-in-89 c = sym (ap letter_bits c.in-89.is)

pub returns-in-90 : goal.returns-in-90
returns-in-90 c = sym (ap letter_bits c.in-90.is)

pub returns-in-0-to-72 : goal.returns-in-0-to-72
returns-in-0-to-72 c = sym (no_letter c.args.byte c.in-0-to-72.in-0-to-72-own.rest.0.0.0.1 c.in-0-to-72.in-0-to-72-own.rest.0.0.1 c.in-0-to-72.in-0-to-72-own.rest.0.1 c.in-0-to-72.in-0-to-72-own.rest.1)
