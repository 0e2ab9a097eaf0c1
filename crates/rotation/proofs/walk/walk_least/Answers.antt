use Prim.Native.Nat.{◌≤◌}
use mathlib.Core.Path.{◌≡◌, refl, sym, ap, ◌∙◌}
use native.Mathlib.Omega.{arith}
use lib.ListN.{length}
use Rattle.action.specs.Index.{order_of}
use Rattle.permutation.specs.Limits.{max_order}
use Rattle.elements.specs.HeldGroup.{generators_in}
use Rattle.elements.proofs.LeastSoFar.{place_end}
use Rattle.packed.specs.Packed.{bit_of, letters_at}
use Rattle.packed.proofs.Packing.{letters_by-length}
use Rattle.rotation.proofs.Ties.{ties-small, ties_end}
use Rattle.rotation.proofs.Walks.{walked_start, walked_next}
use Rattle.rotation.proofs.walk.walk_least.Goals as goal

pub loop-i-init : goal.loop-i-init
loop-i-init c =
    let gs = generators_in c.args.group.now.generators c.args.group.now.sites c.args.group.now.targets.now c.args.group.now.orders.now in
    let p = c.requires.planes in
    (omega arith, rw (p.1, p.2) (walked_start gs p.0), refl, refl)

pub take_lead-lead-requires : goal.take_lead-lead-requires
take_lead-lead-requires c =
    let even : length c.loop-i.z ≡ length c.loop-i.zs = c.loop-i.invariant.2 ∙ sym (c.loop-i.invariant.3 ∙ ap length c.requires.planes.2) in
    let counted : c.loop-i.lead.ties ≤ max_order = let l = c.loop-i in
    let gs = generators_in c.args.group.now.generators c.args.group.now.sites c.args.group.now.targets.now c.args.group.now.orders.now in
    let w = letters_at c.args.group.now.sites c.args.x.now c.args.z.now in
    omega (arith, l.invariant.1.counted, ties-small gs w l.i, l.invariant.0, c.requires.tables.small, c.requires.order_value) in
    let a = c.loop-i.invariant.1 in
    let long = a.best.x_long in record {
      z_len = (even, counted);
      planes = rw long a.here;
      planes_2 = rw long a.best;
    }

pub advance-requires : goal.advance-requires
advance-requires c = record {
  tables = c.requires.tables;
  shapes = c.requires.shapes;
  masks = c.requires.masks;
  planes_2 = c.loop-i.invariant.1.here;
}

pub loop-i-preserved : goal.loop-i-preserved
loop-i-preserved c =
    let l = c.loop-i in
    let w = letters_at c.args.group.now.sites c.args.x.now c.args.z.now in
    let long = letters_by-length c.args.group.now.sites (bit_of c.args.x.now) (bit_of c.args.z.now) in (
      omega (arith, c.loop-i-test.true),
      walked_next c.requires.tables.valid long l.invariant.1 c.advance.ensures.planes c.advance.ensures.letters c.take_lead-lead.ensures.x c.take_lead-lead.ensures.z c.take_lead-lead.ensures.index c.take_lead-lead.ensures.ties,
      c.advance.auto.z ∙ l.invariant.2,
      c.take_lead-lead.auto.zs ∙ l.invariant.3,
    )

pub returns : goal.returns
returns c =
    let l = c.loop-i in
    let gs = generators_in c.args.group.now.generators c.args.group.now.sites c.args.group.now.targets.now c.args.group.now.orders.now in
    let w = letters_at c.args.group.now.sites c.args.x.now c.args.z.now in
    let long = letters_by-length c.args.group.now.sites (bit_of c.args.x.now) (bit_of c.args.z.now) in
    let all : l.i ≡ order_of gs = omega (arith, l.invariant.0, c.loop-i-test.false, c.requires.order_value) in record {
      index = l.invariant.1.first ∙ place_end gs w l.i all;
      ties = l.invariant.1.counted ∙ ties_end c.requires.tables.valid w long l.i all;
    }
