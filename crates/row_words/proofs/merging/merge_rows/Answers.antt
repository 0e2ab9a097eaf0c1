use Prim.Native.Nat.{ℕ}
use mathlib.Core.Path.{◌≡◌, subst}
use native.Mathlib.Omega.{arith}
use Rattle.pauli_word.proofs.Planes.{bytes_of_lem}
use Rattle.row_words.specs.Held.{Held}
use Rattle.row_words.proofs.WordMerging.{held_start}
use Rattle.row_words.proofs.merging.merge_rows.Goals as goal

pub loop-i-init : goal.loop-i-init
loop-i-init c =
    let known = c.shared_slice_known-1 in
    (omega arith, held_start c.requires.word_length_len_bound (bytes_of_lem c.args.words.now (λ i. (known.given i).fits)) c.requires.positions_len c.requires.homes_len)

pub merge_row-used-requires : goal.merge_row-used-requires
merge_row-used-requires c = record {
  held = c.loop-i.invariant.1;
  word_length_in_bounds = omega (arith, c.requires.rows_in_bounds, c.loop-i-test.true);
}

pub loop-i-preserved : goal.loop-i-preserved
loop-i-preserved c = (omega (arith, c.loop-i-test.true), c.merge_row-used.ensures)

pub returns : goal.returns
returns c =
    let l = c.loop-i in
    let all : l.i ≡ c.args.rows = omega (arith, c.loop-i-test.false, l.invariant.0) in
    subst (λ (i : ℕ). Held c.args.words.now i l.used l.positions l.homes) all l.invariant.1
