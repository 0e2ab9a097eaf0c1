-- `rows::keep_row` meets its contract: a row that is not kept leaves the lists, and one that is is written at one place of each.
use mathlib.Core.Path.{refl, ap}
use lib.ListN.{set}
use mir.Syntax.{w64}
use mir.ValLaws.{to_z-of_z}
use borrow.Author.Tests.{not-true, not-false}
use borrow.Author.Rules.{rules}
use Rattle.project.proofs.rows.keep_row.Goals as goal

pub returns-then-not-row : goal.returns-then-not-row
returns-then-not-row c =
    let row = c.args.row in
    let drop = not-true row.kept c.if-not-row.true in record {
      kept = rw drop refl;
      representatives = rw drop refl;
      xs = rw drop refl;
      ys = rw drop refl;
    }

pub returns : goal.returns
returns c =
    let a = c.args in
    let keep = not-false a.row.kept c.if-not-row.false in record {
      kept = rw keep refl;
      representatives = rw keep c.put_row.ensures;
      xs = rw keep (ap (set a.xs.now a.kept) (to_z-of_z w64 a.row.cosine record { sfits = c.struct_told-1.given.1.1.0.1 }));
      ys = rw keep (ap (set a.ys.now a.kept) (to_z-of_z w64 a.row.sine record { sfits = c.struct_told-2-1.given.1.1.1.0.1 }));
    }
