-- `rows::turn_row` meets its contract: a dropped word gives nothing, and a kept one is turned by the entry of its index.
use Prim.Native.Nat.{ℕ, ◌*◌, ◌/◌, ◌<◌}
use mathlib.Core.Path.{◌≡◌, sym, ◌∙◌}
use mathlib.Core.Bool.{true, false≢true}
use mathlib.Core.List.{List}
use native.Mathlib.Omega.{arith}
use lib.IntN.{pos}
use lib.ListN.{get_or}
use mir.Syntax.{w64}
use Rattle.pauli_word.specs.Word.{Word}
use Rattle.pauli_word.specs.Bytes.{letters_in}
use Rattle.action.specs.Permutation.{Generator}
use Rattle.action.specs.Orbit.{index_back}
use Rattle.action.specs.Sector.{modulus, keeps}
use Rattle.elements.specs.HeldGroup.{generators_held}
use Rattle.phases.specs.Rules.{turn, unit}
use Rattle.phases.proofs.Ranges.{product-held, product-stays}
use Rattle.project.specs.Calls.{max_coefficient}
use Rattle.project.proofs.ProjectChecks.{modulus_above}
use Rattle.project.proofs.Turning as Turning
use Rattle.project.proofs.Turning.{kept-keeps, dropped-drops, kept-index, kept_word, entry-inside, turned-cosine, turned-sine}
use borrow.Author.Rules.{rules}
use Rattle.project.proofs.rows.turn_row.Goals as goal

pub returns-in_default : goal.returns-in_default
returns-in_default c =
    let drops = dropped-drops (generators_held c.args.group.now) c.args.modes.now (letters_in c.args.group.now.sites c.args.word.now) c.placement_of-placed.ensures.answer c.in_default.is in record {
      kept = sym drops;
      row = λ e. absurd (false≢true e);
    }

pub overflow_mul-entry : goal.overflow_mul-entry
overflow_mul-entry c = record {
  fits = omega (
    arith,
    Turning.numerator-small (generators_held c.args.group.now) c.args.modes.now (letters_in c.args.group.now.sites c.args.word.now) c.in-Kept.index c.numerator_at-numerator.ensures c.phase_modulus-modulus.ensures (modulus_above c.requires.sector.tables) c.requires.sector.divides,
  );
}

pub nonzero_div-entry : goal.nonzero_div-entry
nonzero_div-entry c = omega (arith, c.phase_modulus-modulus.ensures, modulus_above c.requires.sector.tables)

pub offset_bounds-cosines-entry : goal.offset_bounds-cosines-entry
offset_bounds-cosines-entry c = record {
  fits = omega (arith, entry-inside (generators_held c.args.group.now) c.args.modes.now (letters_in c.args.group.now.sites c.args.word.now) c.in-Kept.index c.numerator_at-numerator.ensures c.phase_modulus-modulus.ensures (modulus_above c.requires.sector.tables));
}

pub bounds-cosines-entry : goal.bounds-cosines-entry
bounds-cosines-entry c =
    omega (
      arith,
      entry-inside (generators_held c.args.group.now) c.args.modes.now (letters_in c.args.group.now.sites c.args.word.now) c.in-Kept.index c.numerator_at-numerator.ensures c.phase_modulus-modulus.ensures (modulus_above c.requires.sector.tables),
      c.requires.phase_lists.cosines_long,
    )

pub overflow_mul-result : goal.overflow_mul-result
overflow_mul-result c =
    let place = c.numerator_at-numerator.result * turn / c.phase_modulus-modulus.result in
    product-held w64 max_coefficient unit c.args.coefficient (get_or c.args.cosines.now place (pos 0)) c.ranges.coefficient
    record { sfits = c.result-1.given } c.requires.in_range (c.requires.phase_lists.cosines_in place) (omega arith)

pub offset_bounds-sines-entry : goal.offset_bounds-sines-entry
offset_bounds-sines-entry c = record {
  fits = omega (arith, entry-inside (generators_held c.args.group.now) c.args.modes.now (letters_in c.args.group.now.sites c.args.word.now) c.in-Kept.index c.numerator_at-numerator.ensures c.phase_modulus-modulus.ensures (modulus_above c.requires.sector.tables));
}

pub bounds-sines-entry : goal.bounds-sines-entry
bounds-sines-entry c =
    omega (
      arith,
      entry-inside (generators_held c.args.group.now) c.args.modes.now (letters_in c.args.group.now.sites c.args.word.now) c.in-Kept.index c.numerator_at-numerator.ensures c.phase_modulus-modulus.ensures (modulus_above c.requires.sector.tables),
      c.requires.phase_lists.sines_long,
    )

pub overflow_mul-result-2 : goal.overflow_mul-result-2
overflow_mul-result-2 c =
    let place = c.numerator_at-numerator.result * turn / c.phase_modulus-modulus.result in
    product-held w64 max_coefficient unit c.args.coefficient (get_or c.args.sines.now place (pos 0)) c.ranges.coefficient
    record { sfits = c.result-2-1.given } c.requires.in_range (c.requires.phase_lists.sines_in place) (omega arith)

pub returns : goal.returns
returns c =
    let a = c.args in
    let gs = generators_held a.group.now in
    let ks = a.modes.now in
    let w = letters_in a.group.now.sites a.word.now in
    let found = c.placement_of-placed.ensures.answer in
    let kept = kept-keeps gs ks w found c.in-Kept.is in
    let index = kept-index gs ks w found c.in-Kept.is in
    let place = c.numerator_at-numerator.result * turn / c.phase_modulus-modulus.result in record {
      kept = sym kept;
      row = λ e. (
        kept_word gs ks w a.cosines.now a.sines.now a.coefficient kept c.placement_of-placed.ensures.word,
        product-stays w64 max_coefficient unit a.coefficient (get_or a.cosines.now place (pos 0)) c.ranges.coefficient
            record { sfits = c.result-1.given } c.requires.in_range (c.requires.phase_lists.cosines_in place) (omega arith)
            ∙ turned-cosine gs ks w c.in-Kept.index c.numerator_at-numerator.ensures c.phase_modulus-modulus.ensures a.cosines.now a.sines.now
            a.coefficient index,
        product-stays w64 max_coefficient unit a.coefficient (get_or a.sines.now place (pos 0)) c.ranges.coefficient
            record { sfits = c.result-2-1.given } c.requires.in_range (c.requires.phase_lists.sines_in place) (omega arith)
            ∙ turned-sine gs ks w c.in-Kept.index c.numerator_at-numerator.ensures c.phase_modulus-modulus.ensures a.cosines.now a.sines.now
            a.coefficient index,
      );
    }
