use Prim.Native.Nat.{◌<◌}
use mathlib.Core.Path.{◌≡◌, sym, ap, ◌∙◌}
use native.Mathlib.Omega.{arith}
use Rattle.pauli_word.specs.Bytes.{AcceptedWord, letters_in, bytes_of}
use Rattle.pauli_word.proofs.Words.{decode-length}
use Rattle.action.specs.Index.{order_of}
use Rattle.elements.specs.HeldGroup.{generators_in}
use Rattle.elements.proofs.Orbits.{walk_start, walk-accepted, walk_next}
use Rattle.elements.proofs.LeastSoFar.{lead_start, place-start, lead-accepted, lead-bytes, lead-place, lead-end, place_end}
use Rattle.decisions.proofs.Traversals.{passed_start, passed-few, passed-moves, passed-fixes, placed-kept, word_kept, placed-broken, word-broken, fixing-some}
use Rattle.decisions.proofs.stabilizer.canonicalize_with_stabilizer.Goals as goal
use Rattle.decisions.proofs.stabilizer.canonicalize_with_stabilizer.Goals.{in-Fixes, in-Moves}
use Rattle.decisions.proofs.stabilizer.canonicalize_with_stabilizer.Lts as lts
use Rattle.decisions.proofs.stabilizer.canonicalize_with_stabilizer.Tie as tie
use Rattle.decisions.proofs.stabilizer.canonicalize_with_stabilizer.Reads as reads

abbrev ctx-At-loop : Type 0
ctx-At-loop = lts.At-loop tie.the-claims reads.Pre reads.Post goal.the-invariant-loop-i goal.the-decreases-loop-i tie.handed_clauses

abbrev ctx-After-loop : Type 0
ctx-After-loop = lts.After-loop tie.the-claims reads.Pre reads.Post goal.the-invariant-loop-i goal.the-decreases-loop-i tie.handed_clauses

-- the word at hand is accepted
here-accepted :
    (c : ctx-At-loop)
    → AcceptedWord c.args.group.now.sites c.loop-i.here
here-accepted c =
    let l = c.loop-i in
    let w = letters_in c.args.group.now.sites c.args.word.now in
    walk-accepted c.requires.tables w (decode-length c.requires.accepted_word) l.i l.invariant.1

best-accepted :
    (c : ctx-At-loop)
    → AcceptedWord c.args.group.now.sites c.loop-i.best
best-accepted c =
    let l = c.loop-i in
    let w = letters_in c.args.group.now.sites c.args.word.now in
    lead-accepted c.requires.tables w (decode-length c.requires.accepted_word) l.i l.invariant.1 l.invariant.2

pub copy-requires : goal.copy-requires
copy-requires c = c.requires.accepted_word.long

pub copy-requires-2 : goal.copy-requires-2
copy-requires-2 c = c.requires.accepted_word.long

pub loop-i-init : goal.loop-i-init
loop-i-init c =
    let gs = generators_in c.args.group.now.generators c.args.group.now.sites c.args.group.now.targets.now c.args.group.now.orders.now in
    let w = letters_in c.args.group.now.sites c.args.word.now in
    let ok = c.requires.accepted_word in (
      omega arith,
      c.copy.ensures ∙ walk_start ok gs,
      c.copy-2.ensures ∙ lead_start ok gs,
      place-start gs w,
      passed_start gs c.args.modes.now w,
    )

pub slice_bounds-tested-end : goal.slice_bounds-tested-end
slice_bounds-tested-end c = sym (here-accepted c.before.before.before).long

pub tested-requires : goal.tested-requires
tested-requires c = record {
  tables = c.requires.tables;
  modulus_value = c.requires.m_value;
  modes_len = c.requires.modes_len;
  accepted_word = c.requires.accepted_word;
  here_value = c.loop-i.invariant.1;
}

pub returns-in-Breaks : goal.returns-in-Breaks
returns-in-Breaks c =
    let l = c.loop-i in
    let ks = c.args.modes.now in
    let gs = generators_in c.args.group.now.generators c.args.group.now.sites c.args.group.now.targets.now c.args.group.now.orders.now in
    let w = letters_in c.args.group.now.sites c.args.word.now in
    let inside : l.i < order_of gs = omega (arith, c.requires.order_value, c.loop-i-test.true) in
    let breaks = sym c.tested.ensures ∙ c.in-Breaks.is in record {
      answer = c.dropped.ensures.0 ∙ placed-broken gs ks w l.i l.invariant.4 inside breaks;
      word = c.dropped.ensures.1 ∙ word-broken gs ks w l.i l.invariant.4 inside breaks;
    }

pub overflow_add-fixing : goal.overflow_add-fixing
overflow_add-fixing c =
    let l = c.loop-i in
    let gs = generators_in c.args.group.now.generators c.args.group.now.sites c.args.group.now.targets.now c.args.group.now.orders.now in
    let w = letters_in c.args.group.now.sites c.args.word.now in
    let few = passed-few gs c.args.modes.now w l.i l.invariant.4 in
    omega (arith, c.requires.tables.small, c.requires.order_value, c.loop-i-test.true, few)

pub slice_bounds-take_less-end : goal.slice_bounds-take_less-end
slice_bounds-take_less-end c = sym (here-accepted c.before.before.before.before.before.before).long

pub slice_bounds-take_less-end-in-loop-i : goal.slice_bounds-take_less-end-in-loop-i
slice_bounds-take_less-end-in-loop-i c = sym (best-accepted c.before.before.before.before.before.before.before).long

pub take_less-index-requires : goal.take_less-index-requires
take_less-index-requires c = record {
  accepted_word = here-accepted c.before.before.before.before.before.before.before;
  accepted_word_2 = best-accepted c.before.before.before.before.before.before.before;
}

pub slice_bounds-advance-end : goal.slice_bounds-advance-end
slice_bounds-advance-end c = sym (here-accepted c.before.before.before.before.before.before.before.before.before.before).long

pub advance-requires : goal.advance-requires
advance-requires c = record {
  tables = c.requires.tables;
  sites_bound = c.requires.sites_bound;
  ready = c.requires.ready;
  accepted_word = here-accepted c.before.before.before.before.before.before.before.before.before.before;
}

pub loop-i-preserved : goal.loop-i-preserved
loop-i-preserved c =
    let l = c.loop-i in
    let ks = c.args.modes.now in
    let t = c.requires.tables in
    let gs = generators_in c.args.group.now.generators c.args.group.now.sites c.args.group.now.targets.now c.args.group.now.orders.now in
    let w = letters_in c.args.group.now.sites c.args.word.now in
    let long = decode-length c.requires.accepted_word in
    let test = sym c.tested.ensures in
    let came = c.match-tested.branch in (
      omega (arith, c.loop-i-test.true),
      walk_next t w long l.i l.invariant.1 c.advance.ensures,
      lead-bytes t w long l.i l.invariant.1 l.invariant.2 c.take_less-index.ensures.best,
      lead-place t w long l.i l.invariant.1 l.invariant.2 l.invariant.3 c.take_less-index.ensures.index,
      elim came [ in-Fixes v ↦ passed-fixes gs ks w l.i l.invariant.4 (test ∙ v.in-Fixes.is) v.fixing-is | in-Moves v ↦ passed-moves gs ks w l.i l.invariant.4 (test ∙ v.in-Moves.is) v.fixing-is ],
    )

-- every index was tested
all_tested :
    (c : ctx-After-loop)
    → (c.loop-i.i ≡ order_of (generators_in c.args.group.now.generators c.args.group.now.sites c.args.group.now.targets.now c.args.group.now.orders.now))
all_tested c =
    omega (arith, c.requires.order_value, c.loop-i-test.false, c.loop-i.invariant.0)

pub invert-back-requires : goal.invert-back-requires
invert-back-requires c = c.requires.tables

pub nonzero_div-result : goal.nonzero_div-result
nonzero_div-result c =
    let l = c.loop-i in
    let gs = generators_in c.args.group.now.generators c.args.group.now.sites c.args.group.now.targets.now c.args.group.now.orders.now in
    let w = letters_in c.args.group.now.sites c.args.word.now in
    fixing-some gs c.args.modes.now w l.i l.invariant.4 (all_tested c.before.before) c.requires.tables.valid

pub returns : goal.returns
returns c =
    let l = c.loop-i in
    let ks = c.args.modes.now in
    let gs = generators_in c.args.group.now.generators c.args.group.now.sites c.args.group.now.targets.now c.args.group.now.orders.now in
    let w = letters_in c.args.group.now.sites c.args.word.now in
    let all = all_tested c.before.before in record {
      answer = placed-kept gs ks w l.i l.invariant.4 all (l.invariant.3 ∙ place_end gs w l.i all) c.invert-back.ensures c.requires.order_value;
      word = l.invariant.2 ∙ ap bytes_of (lead-end gs w l.i all) ∙ word_kept gs ks w l.i l.invariant.4 all;
    }
