use Rattle.parted.proofs.Standing.{stands-first, stands-accepted, stands-below, stands_word, stands-index}
use Rattle.parted.specs.Steps.{AllStand}
use Rattle.row_lists.specs.Rows.{row_at}
use Rattle.elements.proofs.TableRows.{generators-length}
use Rattle.elements.specs.HeldGroup.{generators_in, Tables}
use Rattle.pauli_word.specs.Bytes.{letters_in}
use Rattle.pauli_word.specs.Limits.{word_length}
use lib.ListN.{length, get_or}
use native.Mathlib.Omega.{arith}
use native.Mathlib.Numerals.{add-one}
use mathlib.Core.List.{List}
use mathlib.Core.Path.{◌≡◌, refl, sym, ap, subst, ◌∙◌}
use Prim.Native.Nat.{ℕ, ◌*◌, ◌<◌}
use Rattle.parted.proofs.rows.least_rows.Goals as goal

-- there is a label for each generator
labelled : {k n : ℕ} {targets orders : List ℕ} (labels : List ℕ) → Tables k n targets orders → length labels ≡ k → length labels ≡ length (generators_in k n targets orders)
labelled labels t e = e ∙ sym (generators-length t)

pub loop-part-init : goal.loop-part-init
loop-part-init c =
    (omega arith, refl, refl, λ i h. let r = c.requires.by_index_2 i h in stands-first c.requires.tables.0.valid c.args.labels.now (labelled c.args.labels.now c.requires.tables.0 c.requires.tables.1) r.0 r.1)

pub part_of_all-requires : goal.part_of_all-requires
part_of_all-requires c =
    let l = c.loop-part in
    let labels = c.args.labels.now in
    let v = c.requires.tables.0.valid in record {
      tables = (c.requires.tables.0, c.requires.tables.1, c.requires.tables.2, c.loop-part-test.true);
      divided = c.requires.divided;
      representatives_len = l.invariant.1 ∙ c.requires.representatives_len ∙ ap (λ (k : ℕ). word_length * k) (sym l.invariant.2);
      by_index = λ i h. (stands-accepted v labels (labelled c.args.labels.now c.requires.tables.0 c.requires.tables.1) c.requires.tables.0.sites (l.invariant.3 i h), stands-below v labels (labelled c.args.labels.now c.requires.tables.0 c.requires.tables.1) c.requires.tables.0.sites (l.invariant.3 i h));
    }

pub loop-part-preserved : goal.loop-part-preserved
loop-part-preserved c =
    let a = c.args in
    let l = c.loop-part in
    let gs = generators_in a.group.now.generators a.group.now.sites a.group.now.targets.now a.group.now.orders.now in (
      omega (arith, c.loop-part-test.true),
      c.part_of_all.auto.representatives ∙ l.invariant.1,
      c.part_of_all.auto.indices ∙ l.invariant.2,
      subst (λ (q : ℕ). AllStand a.group.now.sites gs a.labels.now q (λ i. letters_in a.group.now.sites (row_at a.representatives.now i)) c.part_of_all.new.representatives c.part_of_all.new.indices) (sym (add-one l.part))
          (c.part_of_all.ensures (λ i. letters_in a.group.now.sites (row_at a.representatives.now i)) l.invariant.3),
    )

pub returns : goal.returns
returns c i h =
    let l = c.loop-part in
    let labels = c.args.labels.now in
    let below : (g : ℕ) → g < length labels → get_or labels g 0 < l.part = λ g k. omega (arith, c.loop-part-test.false, c.requires.by_index g (omega (arith, k, c.requires.tables.1))) in
    let stands = l.invariant.3 i (omega (arith, h, l.invariant.2)) in
    (stands_word c.requires.tables.0.valid labels (labelled c.args.labels.now c.requires.tables.0 c.requires.tables.1) below stands, stands-index c.requires.tables.0.valid labels (labelled c.args.labels.now c.requires.tables.0 c.requires.tables.1) below stands)
