-- `inner::spread` meets its contract: the two planes, each stored over zeros, are the word in full (`both_stored`).
use Prim.Native.Nat.{ℕ, ◌-◌}
use mathlib.Core.Path.{◌≡◌, ap, ap₂, ◌∙◌}
use mathlib.Core.List.{List, ◌++◌}
use native.Mathlib.Omega.{arith}
use native.Mathlib.Nat.{sub-zero}
use lib.ListN.{length, take, length-drop, length-replicate}
use lib.Seq.{length-take-le}
use Rattle.pauli_word.specs.Limits.{plane_length, word_length}
use Rattle.pauli_word.specs.Bytes.{filled_up}
use Rattle.pauli_word.proofs.Forms.{one-long, both_stored}
use Rattle.pauli_word.proofs.Words.{rest_part}
use Rattle.pauli_word.proofs.inner.spread.Goals as goal
use Rattle.pauli_word.proofs.inner.spread.Lts as lts
use Rattle.pauli_word.proofs.inner.spread.Tie as tie
use Rattle.pauli_word.proofs.inner.spread.Reads as reads

abbrev ctx-Start : Type 0
ctx-Start = lts.Start tie.the-claims reads.Pre reads.Post tie.handed_clauses

long : (c : ctx-Start) → length c.args.full.now ≡ word_length
long c = ap length c.requires.full_value ∙ length-replicate {A = ℕ} word_length 0

-- the X plane as it is copied has half of the bytes
x-stored : (c : ctx-Start) {x : List ℕ} → x ≡ take (c.args.half - 0) c.args.word.now → length x ≡ c.args.half
x-stored c e =
    ap length e ∙ ap (λ (k : ℕ). length (take k c.args.word.now)) (sub-zero c.args.half)
    ∙ length-take-le c.args.half c.args.word.now (omega (arith, c.requires.word_len.0))

pub slice_bounds-copy-end-2 : goal.slice_bounds-copy-end-2
slice_bounds-copy-end-2 c = omega (arith, long c.before.before.before.before, c.requires.word_len.1)

pub slice_bounds-copy-end-4 : goal.slice_bounds-copy-end-4
slice_bounds-copy-end-4 c =
    omega (arith, c.requires.word_len.1, one-long c.args.half c.copy.new.dst c.args.full.now c.requires.word_len.1 (x-stored c.before.before.before.before.before.before.before.before.before c.copy.ensures) c.requires.full_value)

pub returns : goal.returns
returns c =
    let h = c.args.half in
    let word = c.args.word.now in
    both_stored h c.copy.new.dst c.args.full.now c.requires.word_len.1 (x-stored c.before.before.before.before.before.before.before.before.before.before.before.before.before c.copy.ensures) c.requires.full_value
    c.copy-2.new.dst (ap length (c.copy-2.ensures ∙ rest_part h word) ∙ length-drop h word ∙ omega (arith, c.requires.word_len.0))
    ∙ ap₂ (λ (x z : List ℕ). filled_up plane_length x ++ filled_up plane_length z)
    (c.copy.ensures ∙ ap (λ (k : ℕ). take k word) (sub-zero h)) (c.copy-2.ensures ∙ rest_part h word)
