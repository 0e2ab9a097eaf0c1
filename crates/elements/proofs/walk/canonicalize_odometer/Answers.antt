use mathlib.Core.Path.{sym, ap, ◌∙◌}
use native.Mathlib.Omega.{arith}
use Rattle.pauli_word.specs.Bytes.{AcceptedWord, letters_in, bytes_of}
use Rattle.pauli_word.proofs.Words.{decode-length}
use Rattle.elements.specs.HeldGroup.{generators_in}
use Rattle.elements.proofs.Orbits.{walk_start, walk-accepted, walk_next}
use Rattle.elements.proofs.LeastSoFar.{lead_start, place-start, lead-accepted, lead-bytes, lead-place, lead-end, place_end}
use Rattle.elements.proofs.walk.canonicalize_odometer.Goals as goal
use Rattle.elements.proofs.walk.canonicalize_odometer.Lts as lts
use Rattle.elements.proofs.walk.canonicalize_odometer.Tie as tie
use Rattle.elements.proofs.walk.canonicalize_odometer.Reads as reads

abbrev ctx-At-loop : Type 0
ctx-At-loop = lts.At-loop tie.the-claims reads.Pre reads.Post goal.the-invariant-loop-i goal.the-decreases-loop-i tie.handed_clauses

-- the word at hand is accepted
here-accepted : (c : ctx-At-loop) → AcceptedWord c.args.group.now.sites c.loop-i.here
here-accepted c =
    let l = c.loop-i in
    let w = letters_in c.args.group.now.sites c.args.word.now in
    walk-accepted c.requires.tables w (decode-length c.requires.accepted_word) l.i l.invariant.1

best-accepted : (c : ctx-At-loop) → AcceptedWord c.args.group.now.sites c.loop-i.best
best-accepted c =
    let l = c.loop-i in
    let w = letters_in c.args.group.now.sites c.args.word.now in
    lead-accepted c.requires.tables w (decode-length c.requires.accepted_word) l.i l.invariant.1 l.invariant.2

pub copy-requires : goal.copy-requires
copy-requires c = c.requires.accepted_word.long

pub copy-requires-2 : goal.copy-requires-2
copy-requires-2 c = c.requires.accepted_word.long

pub loop-i-init : goal.loop-i-init
loop-i-init c =
    let gs = generators_in c.args.group.now.generators c.args.group.now.sites c.args.group.now.targets.now c.args.group.now.orders.now in
    let w = letters_in c.args.group.now.sites c.args.word.now in (
      omega arith,
      c.copy.ensures ∙ walk_start c.requires.accepted_word gs,
      c.copy-2.ensures ∙ lead_start c.requires.accepted_word gs,
      place-start gs w,
    )

pub slice_bounds-take_less-end : goal.slice_bounds-take_less-end
slice_bounds-take_less-end c = sym (here-accepted c.before.before.before).long

pub slice_bounds-take_less-end-in-loop-i : goal.slice_bounds-take_less-end-in-loop-i
slice_bounds-take_less-end-in-loop-i c = sym (best-accepted c.before.before.before.before).long

pub take_less-index-requires : goal.take_less-index-requires
take_less-index-requires c = record {
  accepted_word = here-accepted c.before.before.before.before;
  accepted_word_2 = best-accepted c.before.before.before.before;
}

pub slice_bounds-advance-end : goal.slice_bounds-advance-end
slice_bounds-advance-end c = sym (here-accepted c.before.before.before.before.before.before.before).long

pub advance-requires : goal.advance-requires
advance-requires c = record {
  tables = c.requires.tables;
  accepted_word = here-accepted c.before.before.before.before.before.before.before;
}

pub loop-i-preserved : goal.loop-i-preserved
loop-i-preserved c =
    let l = c.loop-i in
    let t = c.requires.tables in
    let w = letters_in c.args.group.now.sites c.args.word.now in
    let long = decode-length c.requires.accepted_word in (
      omega (arith, c.loop-i-test.true),
      walk_next t w long l.i l.invariant.1 c.advance.ensures,
      lead-bytes t w long l.i l.invariant.1 l.invariant.2 c.take_less-index.ensures.best,
      lead-place t w long l.i l.invariant.1 l.invariant.2 l.invariant.3 c.take_less-index.ensures.index,
    )

pub returns : goal.returns
returns c =
    let l = c.loop-i in
    let gs = generators_in c.args.group.now.generators c.args.group.now.sites c.args.group.now.targets.now c.args.group.now.orders.now in
    let w = letters_in c.args.group.now.sites c.args.word.now in record {
      word = l.invariant.2 ∙ ap bytes_of (lead-end gs w l.i (omega arith));
      index = l.invariant.3 ∙ place_end gs w l.i (omega arith);
    }
