-- `rows::part_by_way` meets its contract: the way is taken for each row.
use Rattle.rotation.proofs.Packs.{fresh-length}
use native.Mathlib.Omega.{arith}
use mathlib.Core.Path.{refl, ◌∙◌}
use Rattle.parted.proofs.rows.part_by_way.Goals as goal

pub returns-then-ready-eq0 : goal.returns-then-ready-eq0
returns-then-ready-eq0 c = record {
  none = (λ e. (refl, refl));
  some = λ h i l. absurd (omega (arith, h, c.if-ready-eq0.true));
}

pub part_rows-requires : goal.part_rows-requires
part_rows-requires c =
    let q = c.requires.numbering in
    let long = fresh-length c.room-room.result (omega (arith, c.room-room.ensures, c.requires.found.1)) ∙ c.room-room.ensures in record {
      tables = c.requires.tables;
      tables_2 = c.requires.tables_2;
      found = c.requires.found.0;
      order_value = c.requires.order_value;
      numbering = (q.0, q.1, long);
      representatives_len = c.requires.representatives_len;
      by_index = c.requires.by_index;
    }

pub returns : goal.returns
returns c = record {
  none = (λ e. absurd (c.if-ready-eq0.false e));
  some = λ h. c.part_rows.ensures;
}
