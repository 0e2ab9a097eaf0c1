-- `least::lead_of` meets its contract: where one index alone reaches the least of the X plane's orbit it leads, and else the whole word is walked.
use mathlib.Core.Path.{sym, ◌∙◌}
use native.Mathlib.Omega.{arith}
use Rattle.rotation.proofs.Leads.{x_planes, x-forward, x-fixing}
use Rattle.rotation.proofs.least.lead_of.Goals as goal

pub fill_masks-requires : goal.fill_masks-requires
fill_masks-requires c =
    let shapes = c.requires.shapes in
    let p = c.requires.z_len.1 in record {
      strides_len = (shapes.stride_count, shapes.rest_count, c.requires.tables.few);
      sites_bound = (p.room, omega (arith, p.few), omega (arith, p.few));
      by_index = λ g h. let b = (shapes.each g h).blocks in (omega (arith, b.inside), b.whole, b.small);
    }

pub walk_from-lead-requires : goal.walk_from-lead-requires
walk_from-lead-requires c = record {
  tables = c.requires.tables;
  shapes = c.requires.shapes;
  masks = c.fill_masks.ensures;
  planes = x_planes c.requires.z_len.1;
  order_value = c.requires.order_value;
}

pub walk_from-requires : goal.walk_from-requires
walk_from-requires c = record {
  tables = c.requires.tables;
  shapes = c.requires.shapes;
  masks = c.fill_masks.ensures;
  planes = c.requires.z_len.1;
  order_value = c.requires.order_value;
}

pub returns-then-lead-eq1 : goal.returns-then-lead-eq1
returns-then-lead-eq1 c =
    let v = c.requires.tables.valid in
    let x = c.args.x.now in
    let z = c.args.z.now in
    let one = sym c.walk_from-lead.ensures.ties ∙ c.if-lead-eq1.true in record {
      index = c.walk_from-lead.ensures.index ∙ x-forward v x z one;
      ties = c.walk_from-lead.ensures.ties ∙ x-fixing v x z one;
    }
