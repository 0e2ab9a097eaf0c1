-- `inner::clear_above` meets its contract: the two halves of the bytes are the planes (`full-clear`).
use mathlib.Core.Path.{◌≡◌, sym, ap, ◌∙◌}
use mathlib.Core.Bool.{Bool, ◌&&◌}
use native.Mathlib.Nat.{sub-zero}
use Prim.Native.Nat.{ℕ, ◌-◌, ◌/◌}
use lib.ListN.{length, take, drop}
use Rattle.pauli_word.specs.Bytes.{clear_from}
use Rattle.pauli_word.proofs.Words.{rest_part}
use Rattle.pauli_word.proofs.Forms.{full-clear}
use Rattle.pauli_word.proofs.inner.clear_above.Goals as goal
use Rattle.pauli_word.proofs.inner.clear_above.Lts as lts
use Rattle.pauli_word.proofs.inner.clear_above.Tie as tie
use Rattle.pauli_word.proofs.inner.clear_above.Reads as reads

abbrev ctx-Start : Type 0
ctx-Start = lts.Start tie.the-claims reads.Pre reads.Post

-- the X plane as a part of the word
x-clear :
    (c : ctx-Start)
    → let word = c.args.word.now in
    (clear_from c.args.n (take (length word / 2) word) ≡ clear_from c.args.n (take (length word / 2 - 0) word))
x-clear c = let word = c.args.word.now in ap (λ (k : ℕ). clear_from c.args.n (take k word)) (sym (sub-zero (length word / 2)))

pub returns-then-clear_from : goal.returns-then-clear_from
returns-then-clear_from c =
    let word = c.args.word.now in
    c.clear_from-then-clear_from.ensures
    ∙ ap (clear_from c.args.n) (rest_part (length word / 2) word)
    ∙ sym
    (full-clear word c.requires c.args.n
    ∙ ap (λ (b : Bool). b && clear_from c.args.n (drop (length word / 2) word)) (x-clear c.before.before.before.before.before.before.before ∙ sym c.clear_from.ensures ∙ c.if-clear_from.true))

pub returns-else-clear_from : goal.returns-else-clear_from
returns-else-clear_from c =
    let word = c.args.word.now in
    sym
    (full-clear word c.requires c.args.n
    ∙ ap (λ (b : Bool). b && clear_from c.args.n (drop (length word / 2) word)) (x-clear c.before.before.before.before.before ∙ sym c.clear_from.ensures ∙ c.if-clear_from.false))
