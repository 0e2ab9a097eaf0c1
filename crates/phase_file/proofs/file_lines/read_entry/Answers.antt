-- `file_lines::read_entry` meets its contract: the line has no space, or one of its two parts is no number, or both are (`both_read`).
use Prim.Native.Nat.{ℕ, ◌+◌, ◌-◌, ◌<◌}
use mathlib.Core.Path.{◌≡◌, sym, ap, ap₂, ◌∙◌}
use mathlib.Core.List.{List}
use native.Mathlib.Omega.{arith}
use lib.IntN.{ℤ}
use lib.ListN.{length, take, drop}
use borrow.Author.Rules.{rules}
use Rattle.std.specs.Prelude.{Option, Some}
use Rattle.pauli_word.proofs.Words.{rest_part}
use Rattle.text.specs.Text.{space, before}
use Rattle.text.specs.Parts.{signed_read}
use Rattle.text.proofs.Numbers.{other-signed, signed_stays}
use Rattle.text.proofs.Pieces.{before_short}
use Rattle.text.proofs.Lines.{front-part}
use Rattle.phase_file.proofs.Entries.{entry-unparted, entry-no-first, entry-no-second, other_read, both_read}
use Rattle.phase_file.proofs.file_lines.read_entry.Goals as goal

-- the first space stands within the line
inside : (line : List ℕ) (k : ℕ) → k ≡ length (before space line) → (k ≡ length line → ⊥) → k < length line
inside line k found more = omega (arith, found, before_short space line, more)

-- a part as it is read
front : (line : List ℕ) (k : ℕ) {o p : Option ℤ} → o ≡ signed_read (take (k - 0) line) → o ≡ p → signed_read (take k line) ≡ p
front line k told is = ap signed_read (sym (front-part k line)) ∙ sym told ∙ is

back : (line : List ℕ) (k : ℕ) {o p : Option ℤ} → o ≡ signed_read (take (length line - (k + 1)) (drop (k + 1) line)) → o ≡ p → signed_read (drop (k + 1) line) ≡ p
back line k told is = ap signed_read (sym (rest_part (k + 1) line)) ∙ sym told ∙ is

pub returns-then-k-line : goal.returns-then-k-line
returns-then-k-line c =
    let l = c.args.line.now in
    other_read l (entry-unparted l c.find-k.result c.find-k.ensures c.if-k-line.true)

pub slice_bounds-read_signed-end : goal.slice_bounds-read_signed-end
slice_bounds-read_signed-end c = omega (arith, inside c.args.line.now c.find-k.result c.find-k.ensures c.if-k-line.false)

pub returns-in_err-cosine : goal.returns-in_err-cosine
returns-in_err-cosine c =
    let l = c.args.line.now in
    let k = c.find-k.result in
    c.from_residual.ensures
    ∙ other_read l
    (entry-no-first l k c.find-k.ensures (inside l k c.find-k.ensures c.if-k-line.false)
    (other-signed (take k l) (front l k c.read_signed.ensures c.in_err-cosine.was)))

pub overflow_add-k : goal.overflow_add-k
overflow_add-k c = omega (arith, inside c.args.line.now c.find-k.result c.find-k.ensures c.if-k-line.false, c.well_formed)

pub slice_bounds-read_signed-count-2 : goal.slice_bounds-read_signed-count-2
slice_bounds-read_signed-count-2 c = omega (arith, inside c.args.line.now c.find-k.result c.find-k.ensures c.if-k-line.false)

pub slice_bounds-read_signed-start-2 : goal.slice_bounds-read_signed-start-2
slice_bounds-read_signed-start-2 c = omega (arith, inside c.args.line.now c.find-k.result c.find-k.ensures c.if-k-line.false)

pub returns-in_err-sine : goal.returns-in_err-sine
returns-in_err-sine c =
    let l = c.args.line.now in
    let k = c.find-k.result in
    c.from_residual-in_err-sine.ensures
    ∙ other_read l
    (entry-no-second l k c.find-k.ensures (inside l k c.find-k.ensures c.if-k-line.false)
    (other-signed (drop (k + 1) l) (back l k c.read_signed-2.ensures c.in_err-sine.was)))

pub returns : goal.returns
returns c =
    let l = c.args.line.now in
    let k = c.find-k.result in
    let x = c.in_ok-cosine.cosine in
    let y = c.in_ok-sine.sine in
    let first = front l k c.read_signed.ensures c.in_ok-cosine.was in
    let second = back l k c.read_signed-2.ensures c.in_ok-sine.was in
    ap₂ (λ (a b : ℤ). Some (a, b)) (signed_stays (take k l) x first) (signed_stays (drop (k + 1) l) y second)
    ∙ both_read l k c.find-k.ensures (inside l k c.find-k.ensures c.if-k-line.false) x y first second
