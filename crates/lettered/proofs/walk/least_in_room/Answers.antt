use mathlib.Core.Path.{sym, ◌∙◌}
use native.Mathlib.Omega.{arith}
use Rattle.pauli_word.specs.Bytes.{letters_in}
use Rattle.pauli_word.proofs.Words.{decode-length}
use Rattle.action.specs.Orbit.{least}
use Rattle.elements.specs.HeldGroup.{generators_in}
use Rattle.lettered.proofs.Leading.{walked_start, walked_next, walked_end, hand-long, lead-long, many-small}
use Rattle.lettered.proofs.walk.least_in_room.Goals as goal

pub unpack-requires : goal.unpack-requires
unpack-requires c = record {
  accepted_word = c.requires.accepted_word;
  letters_len = c.requires.here_len;
}

pub copy-requires : goal.copy-requires
copy-requires c =
    c.unpack.auto.letters ∙ c.requires.here_len ∙ sym c.requires.best_len

pub loop-i-init : goal.loop-i-init
loop-i-init c =
    let gs = generators_in c.args.group.now.generators c.args.group.now.sites c.args.group.now.targets.now c.args.group.now.orders.now in
    let w = letters_in c.args.group.now.sites c.args.word.now in
    walked_start gs w c.args.order c.args.group.now.sites _ _ c.args.spare.now c.requires.spare_len c.unpack.ensures c.copy.ensures

pub take_codes-lead-requires : goal.take_codes-lead-requires
take_codes-lead-requires c =
    let l = c.loop-i in record {
      here_len = hand-long l.invariant ∙ sym (lead-long l.invariant);
      ties_le_max_order = omega (arith, many-small l.invariant, c.requires.order_value, c.requires.tables.small);
    }

pub advance-requires : goal.advance-requires
advance-requires c =
    let l = c.loop-i in record {
      tables = c.requires.tables;
      here_len = hand-long l.invariant ∙ decode-length c.requires.accepted_word;
      spare_len = l.invariant.room;
    }

pub loop-i-preserved : goal.loop-i-preserved
loop-i-preserved c =
    let l = c.loop-i in
    walked_next l.invariant c.requires.tables.valid (decode-length c.requires.accepted_word) c.loop-i-test.true
    c.advance.auto.spare c.advance.ensures c.take_codes-lead.ensures.best c.take_codes-lead.ensures.index c.take_codes-lead.ensures.ties

pub pack-requires : goal.pack-requires
pack-requires c =
    let l = c.loop-i in
    omega (arith, lead-long l.invariant, decode-length c.requires.accepted_word, c.requires.tables.sites)

pub returns : goal.returns
returns c =
    let l = c.loop-i in
    let gs = generators_in c.args.group.now.generators c.args.group.now.sites c.args.group.now.targets.now c.args.group.now.orders.now in
    let w = letters_in c.args.group.now.sites c.args.word.now in
    let end = walked_end l.invariant c.requires.tables.valid (decode-length c.requires.accepted_word) c.requires.order_value c.loop-i-test.false in record {
      word = c.pack.ensures (least gs w) end.0;
      index = end.1;
      ties = end.2;
    }
