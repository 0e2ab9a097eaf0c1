use Prim.Native.Nat.{ℕ, ◌+◌}
use mathlib.Core.Path.{◌≡◌, refl, ap, ◌∙◌}
use native.Mathlib.Omega.{arith}
use lib.ListN.{length, set, take, length-set}
use Rattle.pauli_word.specs.Bytes.{letters_in}
use Rattle.pauli_word.proofs.Words.{decode-length}
use Rattle.pauli_word.proofs.Copies.{copy_next, copy_end}
use Rattle.elements.specs.Letters.{codes}
use Rattle.elements.proofs.Codes.{codes-length, site_code}
use Rattle.elements.proofs.letters.unpack.Goals as goal

pub loop-q-init : goal.loop-q-init
loop-q-init c = (omega arith, refl, refl)

pub bounds-word-at : goal.bounds-word-at
bounds-word-at c = omega arith

pub overflow_cast-x : goal.overflow_cast-x
overflow_cast-x c = omega arith

pub overflow_shr-x : goal.overflow_shr-x
overflow_shr-x c = omega arith

pub overflow_add-z : goal.overflow_add-z
overflow_add-z c = omega arith

pub bounds-word-at-in-loop-q : goal.bounds-word-at-in-loop-q
bounds-word-at-in-loop-q c = omega arith

pub overflow_cast-z : goal.overflow_cast-z
overflow_cast-z c = omega arith

pub overflow_shr-z : goal.overflow_shr-z
overflow_shr-z c = omega arith

pub overflow_mul-letters : goal.overflow_mul-letters
overflow_mul-letters c = omega arith

pub overflow_add-letters : goal.overflow_add-letters
overflow_add-letters c = omega arith

pub bounds-letters-q : goal.bounds-letters-q
bounds-letters-q c = omega arith

pub loop-q-preserved : goal.loop-q-preserved
loop-q-preserved c =
    let l = c.loop-q in
    let more = c.loop-q-test.true in
    let all = codes (letters_in c.args.sites c.args.word.now) in
    let long : length all ≡ c.args.sites = codes-length (letters_in c.args.sites c.args.word.now) ∙ decode-length c.requires.accepted_word in (
      omega arith,
      simp length-set l.invariant.1,
      ap (λ (v : ℕ). take (l.q + 1) (set l.letters l.q v)) (site_code c.requires.accepted_word l.q more)
          ∙ copy_next all l.letters l.q (omega arith) (omega arith) l.invariant.2,
    )

pub returns : goal.returns
returns c =
    let l = c.loop-q in
    let all = codes (letters_in c.args.sites c.args.word.now) in
    let long : length all ≡ c.args.sites = codes-length (letters_in c.args.sites c.args.word.now) ∙ decode-length c.requires.accepted_word in
    copy_end all l.letters l.q (omega arith) (omega arith) l.invariant.2
