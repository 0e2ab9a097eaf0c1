use Prim.Native.Nat.{ℕ}
use mathlib.Core.Path.{refl, sym, ap, ap₂, ◌∙◌}
use mathlib.Core.List.{List}
use native.Mathlib.Omega.{arith}
use lib.ListN.{length, take, get_or, length-map}
use Rattle.pauli_word.specs.Limits.{plane_length}
use Rattle.outcome.specs.Outcome.{answer, on_answer}
use Rattle.pauli_word.specs.Bytes.{plane_of, number, encode, with_site, bytes_of}
use Rattle.pauli_word.specs.Text.{letter, letters_alone, read_text}
use Rattle.pauli_word.specs.Calls.{text_word}
use Rattle.pauli_word.proofs.Words.{encode-length}
use Rattle.pauli_word.proofs.Texts.{bits-letter, other-letter, too_long, no_other, first_other_lem, alone-next, text-next, all_text}
use Rattle.pauli_word.proofs.from_text.Goals as goal

pub returns-then-n-gt-MAX_SITES : goal.returns-then-n-gt-MAX_SITES
returns-then-n-gt-MAX_SITES c = sym (ap (on_answer text_word) (too_long c.args.text.now c.if-n-gt-MAX_SITES.true))

pub loop-i-init : goal.loop-i-init
unfolding letters_alone encode plane_of number
loop-i-init c = (refl, omega arith, omega arith, refl, refl)

pub bounds-text-i : goal.bounds-text-i
bounds-text-i c = omega arith

pub returns-in_default : goal.returns-in_default
returns-in_default c =
    let a = c.args in
    let l = c.loop-i in
    sym
    (ap (on_answer text_word)
    (first_other_lem a.text.now l.i (omega arith) (omega arith) l.invariant.3
    (other-letter (get_or a.text.now l.i 0) (sym c.read.ensures ∙ c.in_default.is))))

pub slice_bounds-put_site-end : goal.slice_bounds-put_site-end
slice_bounds-put_site-end c =
    let l = c.loop-i in
    let a = c.args in
    sym (ap length l.invariant.4 ∙ encode-length plane_length (read_text (take l.i a.text.now)))

pub put_site-requires : goal.put_site-requires
put_site-requires c =
    let l = c.loop-i in
    let a = c.args in
    ap length l.invariant.4 ∙ encode-length plane_length (read_text (take l.i a.text.now))

pub loop-i-preserved : goal.loop-i-preserved
loop-i-preserved c =
    let a = c.args in
    let l = c.loop-i in
    let more = c.loop-i-test.true in
    let k =
    bits-letter (get_or a.text.now l.i 0) c.in-Some.site (sym c.read.ensures ∙ c.in-Some.is)
    in (
      l.invariant.0,
      omega arith,
      l.invariant.2,
      alone-next a.text.now l.i more l.invariant.3 k.0,
      c.put_site.ensures
          ∙ ap (λ (w : List ℕ). with_site plane_length w l.i c.in-Some.site.x c.in-Some.site.z) l.invariant.4
          ∙ ap₂ (with_site plane_length (bytes_of (read_text (take l.i a.text.now))) l.i) k.1 k.2
          ∙ text-next a.text.now l.i more l.invariant.2,
    )

pub returns : goal.returns
returns c =
    let a = c.args in
    let l = c.loop-i in
    let w = all_text a.text.now l.i c.loop-i-test.false in
    let e = no_other a.text.now l.invariant.2 (sym (ap letters_alone w) ∙ l.invariant.3) in
    ap answer
    (ap₂ (λ (k : ℕ) (bytes : List ℕ). record { sites = k; word = bytes }) (sym (length-map a.text.now letter))
    (l.invariant.4 ∙ ap (λ (t : List ℕ). bytes_of (read_text t)) w))
    ∙ sym (ap (on_answer text_word) e)
