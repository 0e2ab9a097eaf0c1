-- `rows::place_by_way` meets its contract: the way is taken for each row, with the modes of the part.
use Rattle.rotation.proofs.Packs.{fresh-length}
use Prim.Native.Nat.{ℕ, ◌-◌}
use lib.ListN.{length, take}
use mathlib.Core.List.{List}
use native.Mathlib.Omega.{arith}
use mathlib.Core.Path.{◌≡◌, refl, sym, ap, ◌∙◌}
use Rattle.sector_parts.proofs.rows.place_by_way.Goals as goal

-- the modes from the first on
from_first : {A : Type 0} (k : ℕ) (xs : List A) {ys : List A} → take k xs ≡ ys → take (k - 0) xs ≡ ys
from_first k xs e =
    let none : k - 0 ≡ k = omega arith in
    ap (λ (j : ℕ). take j xs) none ∙ e

pub returns-then-ready-eq0 : goal.returns-then-ready-eq0
returns-then-ready-eq0 c = record {
  none = (λ e. (refl, refl, refl));
  some = λ h i l. absurd (omega (arith, h, c.if-ready-eq0.true));
}

pub place_part_rows-requires : goal.place_part_rows-requires
place_part_rows-requires c =
    let q = c.requires.numbering in
    let long = fresh-length c.room-room.result (omega (arith, c.room-room.ensures, c.requires.found.1)) ∙ c.room-room.ensures in record {
      tables = (c.requires.tables.0, c.requires.tables.1);
      tables_2 = c.requires.tables_2.0;
      found = c.requires.found.0;
      order_value = c.requires.order_value;
      modulus_value = (c.phase_modulus-modulus.ensures, ap length (from_first c.take_modes-count.result c.take_modes-count.new.own c.take_modes-count.ensures.modes) ∙ c.requires.tables_2.1);
      numbering = (q.0, q.1, long);
      representatives_len = c.requires.representatives_len;
      by_index = c.requires.by_index;
    }

pub returns : goal.returns
returns c = record {
  none = (λ e. absurd (c.if-ready-eq0.false e));
  some = λ h i l. rw (sym (from_first c.take_modes-count.result c.take_modes-count.new.own c.take_modes-count.ensures.modes)) (c.place_part_rows.ensures i l);
}
