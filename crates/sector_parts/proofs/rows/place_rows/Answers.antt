use Rattle.sector_parts.proofs.Standing.{sector-first, sector-accepted, sector-below, sector-small, sector-last}
use Rattle.sector_parts.specs.Steps.{AllPlaced}
use Rattle.row_lists.specs.Rows.{row_at}
use Rattle.elements.proofs.TableRows.{generators-length}
use Rattle.elements.specs.HeldGroup.{generators_in, Tables}
use Rattle.pauli_word.specs.Bytes.{letters_in}
use Rattle.pauli_word.specs.Limits.{word_length}
use lib.IntN.{ℤ}
use lib.ListN.{length, get_or}
use native.Mathlib.Omega.{arith}
use native.Mathlib.Numerals.{add-one}
use mathlib.Core.List.{List}
use mathlib.Core.Path.{◌≡◌, refl, sym, ap, subst, ◌∙◌}
use Prim.Native.Nat.{ℕ, ◌*◌, ◌<◌}
use Rattle.sector_parts.proofs.rows.place_rows.Goals as goal

-- there is a label for each generator, and a mode
labelled : {k n : ℕ} {targets orders : List ℕ} (labels : List ℕ) → Tables k n targets orders → length labels ≡ k → length labels ≡ length (generators_in k n targets orders)
labelled labels t e = e ∙ sym (generators-length t)

phased : {k n : ℕ} {targets orders : List ℕ} (modes : List ℤ) → Tables k n targets orders → length modes ≡ k → length (generators_in k n targets orders) ≡ length modes
phased modes t e = generators-length t ∙ sym e

pub loop-part-init : goal.loop-part-init
loop-part-init c =
    (omega arith, refl, refl, refl, λ i h. let r = c.requires.by_index_2 i h in sector-first c.requires.tables.0.valid c.args.labels.now (labelled c.args.labels.now c.requires.tables.0 c.requires.tables.1) c.args.modes.now r.0 r.1 r.2)

pub place_part_of_all-requires : goal.place_part_of_all-requires
place_part_of_all-requires c =
    let l = c.loop-part in
    let labels = c.args.labels.now in
    let modes = c.args.modes.now in
    let v = c.requires.tables.0.valid in record {
      tables = (c.requires.tables.0, c.requires.tables.1, c.requires.tables.2, c.loop-part-test.true, c.requires.tables.3);
      divided = c.requires.divided;
      representatives_len = (l.invariant.1 ∙ c.requires.representatives_len.0 ∙ ap (λ (k : ℕ). word_length * k) (sym l.invariant.2), l.invariant.3 ∙ c.requires.representatives_len.1 ∙ sym l.invariant.2);
      by_index = λ i h. let st = l.invariant.4 i h in (
        sector-accepted v labels (labelled c.args.labels.now c.requires.tables.0 c.requires.tables.1) modes c.requires.tables.0.sites st,
        sector-below v labels (labelled c.args.labels.now c.requires.tables.0 c.requires.tables.1) modes c.requires.tables.0.sites st,
        omega (arith, sector-small v labels (labelled c.args.labels.now c.requires.tables.0 c.requires.tables.1) modes c.requires.tables.0.sites st, c.requires.tables.0.small),
      );
    }

pub loop-part-preserved : goal.loop-part-preserved
loop-part-preserved c =
    let a = c.args in
    let l = c.loop-part in
    let gs = generators_in a.group.now.generators a.group.now.sites a.group.now.targets.now a.group.now.orders.now in (
      omega (arith, c.loop-part-test.true),
      c.place_part_of_all.auto.representatives ∙ l.invariant.1,
      c.place_part_of_all.auto.indices ∙ l.invariant.2,
      c.place_part_of_all.auto.sizes ∙ l.invariant.3,
      subst (λ (q : ℕ). AllPlaced a.group.now.sites gs a.labels.now a.modes.now q (λ i. letters_in a.group.now.sites (row_at a.representatives.now i)) c.place_part_of_all.new.representatives c.place_part_of_all.new.indices c.place_part_of_all.new.sizes) (sym (add-one l.part))
          (c.place_part_of_all.ensures (λ i. letters_in a.group.now.sites (row_at a.representatives.now i)) l.invariant.4),
    )

pub clear_dropped-requires : goal.clear_dropped-requires
clear_dropped-requires c =
    let l = c.loop-part in
    l.invariant.1 ∙ c.requires.representatives_len.0 ∙ ap (λ (k : ℕ). word_length * k) (sym (l.invariant.3 ∙ c.requires.representatives_len.1))

pub returns : goal.returns
returns c i h =
    let l = c.loop-part in
    -- past the last part every label is below the part at hand
    let passed : (g : ℕ) → g < length c.args.labels.now → get_or c.args.labels.now g 0 < l.part =
    λ g k. omega (arith, c.loop-part-test.false, c.requires.by_index g (omega (arith, k, c.requires.tables.1))) in
    sector-last c.requires.tables.0.valid c.args.labels.now (labelled c.args.labels.now c.requires.tables.0 c.requires.tables.1) c.args.modes.now (phased c.args.modes.now c.requires.tables.0 c.requires.tables.3) passed (l.invariant.4 i (omega (arith, h, l.invariant.2)))
    (c.clear_dropped.ensures i (omega (arith, h, l.invariant.3, c.requires.representatives_len.1)))
