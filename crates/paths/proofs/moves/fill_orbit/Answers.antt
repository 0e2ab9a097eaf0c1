use Prim.Native.Nat.{◌*◌, ◌≤◌}
use mathlib.Core.Path.{◌≡◌, sym, ap, ◌∙◌}
use native.Mathlib.Omega.{arith}
use lib.ListN.{length}
use Rattle.std.proofs.Common.{ℕ, List}
use Rattle.pauli_word.specs.Limits.{word_length}
use Rattle.pauli_word.specs.Bytes.{AcceptedWord, letters_in, bytes_of}
use Rattle.pauli_word.proofs.Words.{decode-length}
use Rattle.action.specs.Orbit.{reach}
use Rattle.elements.specs.HeldGroup.{generators_in, Tables, encode_all}
use Rattle.elements.proofs.Orbits.{entries, entries_all, walk_start, walk-accepted, walk_next, part_length, stored, stored-start, stored-length, stored_next, stored-end}
use Rattle.paths.proofs.moves.fill_orbit.Goals as goal

-- the word at hand is accepted
here-accepted : {k n : ℕ} {targets orders word here : List ℕ} → Tables k n targets orders → AcceptedWord n word → (i : ℕ) → here ≡ bytes_of (reach (generators_in k n targets orders) i (letters_in n word)) → AcceptedWord n here
here-accepted {n = n} {word = word} t a i h = walk-accepted t (letters_in n word) (decode-length a) i h

-- the list stays as long as it was
list_length : (k n order i : ℕ) (targets orders word first list : List ℕ) → length first ≡ word_length * order → i ≤ order → list ≡ stored (λ j. reach (generators_in k n targets orders) j (letters_in n word)) first i → length list ≡ word_length * order
list_length k n order i targets orders word first list long h e = ap length e ∙ stored-length (λ j. reach (generators_in k n targets orders) j (letters_in n word)) first i order long h

pub words_in_use-m-requires : goal.words_in_use-m-requires
words_in_use-m-requires c = c.requires.tables.sites

pub find_masks-shapes-requires : goal.find_masks-shapes-requires
find_masks-shapes-requires c = record {
  tables = c.requires.tables;
  sites_bound = c.words_in_use-m.ensures;
  masks_len = omega (arith, c.words_in_use-m.ensures.1);
}

pub copy-requires : goal.copy-requires
copy-requires c = c.requires.accepted_word.long

pub loop-i-init : goal.loop-i-init
loop-i-init c =
    let gs = generators_in c.args.group.now.generators c.args.group.now.sites c.args.group.now.targets.now c.args.group.now.orders.now in
    let w = letters_in c.args.group.now.sites c.args.word.now in
    (omega arith, c.copy.ensures ∙ walk_start c.requires.accepted_word gs, stored-start (λ j. reach gs j w) c.args.list.now)

pub overflow_mul-at : goal.overflow_mul-at
overflow_mul-at c =
    omega (arith, c.requires.tables.small, c.requires.order_value)

pub overflow_add-end : goal.overflow_add-end
overflow_add-end c =
    omega (arith, c.requires.tables.small, c.requires.order_value)

pub slice_bounds-copy-end-in-loop-i : goal.slice_bounds-copy-end-in-loop-i
slice_bounds-copy-end-in-loop-i c = sym (here-accepted c.requires.tables c.requires.accepted_word c.loop-i.i c.loop-i.invariant.1).long

pub slice_bounds-copy-count : goal.slice_bounds-copy-count
slice_bounds-copy-count c = omega arith

pub slice_bounds-copy-start : goal.slice_bounds-copy-start
slice_bounds-copy-start c = omega arith

pub slice_bounds-copy-end-in-loop-i-2 : goal.slice_bounds-copy-end-in-loop-i-2
slice_bounds-copy-end-in-loop-i-2 c = omega (arith, list_length c.args.group.now.generators c.args.group.now.sites c.args.order c.loop-i.i c.args.group.now.targets.now c.args.group.now.orders.now c.args.word.now c.args.list.now c.loop-i.list c.requires.list_len c.loop-i.invariant.0 c.loop-i.invariant.2, c.loop-i-test.true)

pub copy-requires-in-loop-i : goal.copy-requires-in-loop-i
copy-requires-in-loop-i c =
    let l = c.loop-i in
    (here-accepted c.requires.tables c.requires.accepted_word c.loop-i.i c.loop-i.invariant.1).long ∙ sym (part_length word_length l.i l.list (omega (arith, list_length c.args.group.now.generators c.args.group.now.sites c.args.order c.loop-i.i c.args.group.now.targets.now c.args.group.now.orders.now c.args.word.now c.args.list.now c.loop-i.list c.requires.list_len c.loop-i.invariant.0 c.loop-i.invariant.2, c.loop-i-test.true)))

pub slice_bounds-advance-end-in-loop-i : goal.slice_bounds-advance-end-in-loop-i
slice_bounds-advance-end-in-loop-i c = sym (here-accepted c.requires.tables c.requires.accepted_word c.loop-i.i c.loop-i.invariant.1).long

pub advance-requires : goal.advance-requires
advance-requires c = record {
  tables = c.requires.tables;
  sites_bound = c.words_in_use-m.ensures;
  ready = c.find_masks-shapes.ensures;
  accepted_word = here-accepted c.requires.tables c.requires.accepted_word c.loop-i.i c.loop-i.invariant.1;
}

pub loop-i-preserved : goal.loop-i-preserved
loop-i-preserved c =
    let l = c.loop-i in
    let gs = generators_in c.args.group.now.generators c.args.group.now.sites c.args.group.now.targets.now c.args.group.now.orders.now in
    let w = letters_in c.args.group.now.sites c.args.word.now in (
      omega (arith, c.loop-i-test.true),
      walk_next c.requires.tables w (decode-length c.requires.accepted_word) l.i l.invariant.1 c.advance.ensures,
      stored_next (λ j. reach gs j w) c.args.list.now l.list c.copy-in-loop-i.new.dst l.i l.invariant.2 (c.copy-in-loop-i.ensures ∙ l.invariant.1),
    )

pub returns : goal.returns
returns c =
    let l = c.loop-i in
    let gs = generators_in c.args.group.now.generators c.args.group.now.sites c.args.group.now.targets.now c.args.group.now.orders.now in
    let w = letters_in c.args.group.now.sites c.args.word.now in
    l.invariant.2
    ∙ stored-end (λ j. reach gs j w) c.args.list.now l.i c.args.order c.requires.list_len c.loop-i-test.false l.invariant.0
    ∙ ap encode_all (ap (entries gs w) c.requires.order_value ∙ entries_all gs w)
