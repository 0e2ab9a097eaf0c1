use borrow.Author.Rules.{rules}
use Prim.Native.Nat.{ℕ, ◌+◌, ◌*◌, ◌≤◌, ◌<◌}
use mathlib.Core.Path.{◌≡◌, refl, sym, ◌∙◌}
use mathlib.Core.List.{List}
use native.Mathlib.Omega.{arith}
use lib.ListN.{length, length-set}
use Rattle.pauli_word.specs.Limits.{word_length}
use Rattle.pauli_word.specs.Bytes.{in_full}
use Rattle.elements.proofs.Orbits.{part_length}
use Rattle.row_lists.specs.Rows.{row_by}
use Rattle.row_lists.proofs.InFull.{row_inside}
use Rattle.parted.proofs.Walking.{Walked, walked_none, walked_next}
use Rattle.least_words.proofs.by_parts.take_in_full.Goals as goal

-- in the loop: row i is one of the rows
module _ {R : ℕ → List ℕ → ℕ → Type 0} {rows₀ indices₀ rows indices : List ℕ} {i : ℕ} (w : Walked R rows₀ indices₀ rows indices i) (inside : i < length indices)
    (fit : length rows₀ ≡ word_length * length indices₀) where
  row_below : i < length indices₀
  row_below = omega (arith, w.long)

  room : word_length * i + word_length ≤ length rows
  room = omega (arith, row_below, w.wide)

pub loop-i-init : goal.loop-i-init
loop-i-init c =
    (omega arith, walked_none (λ j row x. (row ≡ in_full (row_by c.args.size c.args.words.now j)) × (x ≡ 0)) c.args.representatives.now c.args.indices.now)

pub row_in_full-full-requires : goal.row_in_full-full-requires
row_in_full-full-requires c = record {
  either_length = c.requires.either_length.0;
  size_in_bounds = row_inside c.args.size (length c.args.indices.now) c.args.words.now c.requires.either_length.1 c.loop-i.i (row_below c.loop-i.invariant.1 (omega (arith, c.loop-i.auto.indices)) c.requires.representatives_len);
}

pub overflow_mul-at : goal.overflow_mul-at
overflow_mul-at c = omega (arith, row_below c.loop-i.invariant.1 (omega (arith, c.loop-i.auto.indices)) c.requires.representatives_len, c.requires.either_length.2)

pub overflow_add-end : goal.overflow_add-end
overflow_add-end c = omega (arith, row_below c.loop-i.invariant.1 (omega (arith, c.loop-i.auto.indices)) c.requires.representatives_len, c.requires.either_length.2)

pub slice_bounds-copy-count : goal.slice_bounds-copy-count
slice_bounds-copy-count c = omega arith

pub slice_bounds-copy-start : goal.slice_bounds-copy-start
slice_bounds-copy-start c = omega arith

pub slice_bounds-copy-end-in-loop-i : goal.slice_bounds-copy-end-in-loop-i
slice_bounds-copy-end-in-loop-i c = omega (arith, room c.loop-i.invariant.1 (omega (arith, c.loop-i.auto.indices)) c.requires.representatives_len)

pub copy-requires : goal.copy-requires
copy-requires c =
    let long : length c.row_in_full-full.result ≡ word_length = search rules in
    long ∙ sym (part_length word_length c.loop-i.i c.loop-i.representatives (room c.loop-i.invariant.1 (omega (arith, c.loop-i.auto.indices)) c.requires.representatives_len))

pub offset_bounds-indices-i : goal.offset_bounds-indices-i
offset_bounds-indices-i c = omega (arith, row_below c.loop-i.invariant.1 (omega (arith, c.loop-i.auto.indices)) c.requires.representatives_len, c.requires.either_length.2)

pub bounds-indices-i : goal.bounds-indices-i
bounds-indices-i c = omega (arith, c.loop-i.auto.indices)

pub loop-i-preserved : goal.loop-i-preserved
loop-i-preserved c =
    let l = c.loop-i in (
      simp length-set (omega (arith, c.loop-i-test.true)),
      walked_next (λ j row x. (row ≡ in_full (row_by c.args.size c.args.words.now j)) × (x ≡ 0)) l.invariant.1 (omega (arith, c.loop-i.auto.indices)) (room c.loop-i.invariant.1 (omega (arith, c.loop-i.auto.indices)) c.requires.representatives_len) c.copy.new.dst
          (c.copy.auto.dst ∙ part_length word_length l.i l.representatives (room c.loop-i.invariant.1 (omega (arith, c.loop-i.auto.indices)) c.requires.representatives_len)) _
          (c.copy.ensures ∙ c.row_in_full-full.ensures, refl),
    )

pub returns : goal.returns
returns c i h = c.loop-i.invariant.1.done i (omega (arith, c.loop-i-test.false, c.loop-i.invariant.1.long, h))
