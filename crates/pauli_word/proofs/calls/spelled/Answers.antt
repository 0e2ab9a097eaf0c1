use Prim.Native.Nat.{ℕ, ◌-◌}
use mathlib.Core.Path.{◌≡◌, refl, ◌∙◌, ap₂}
use mathlib.Core.List.{List, ◌++◌}
use native.Mathlib.Omega.{arith}
use lib.ListN.{set, replicate}
use Rattle.pauli_word.specs.Limits.{max_sites}
use Rattle.pauli_word.specs.Word.{Word}
use Rattle.pauli_word.specs.Text.{spell}
use Rattle.pauli_word.proofs.Sites.{spell_next, all_sites}
use Rattle.pauli_word.proofs.calls.spelled.Goals as goal

pub loop-q-init : goal.loop-q-init
loop-q-init c = (omega arith, refl)

pub site_at-s-requires : goal.site_at-s-requires
site_at-s-requires c = c.requires.long

pub bounds-text-q : goal.bounds-text-q
bounds-text-q c = omega (arith, c.requires.sites)

pub loop-q-preserved : goal.loop-q-preserved
loop-q-preserved c =
    let l = c.loop-q in
    let ok = c.requires in (
      omega arith,
      ap₂ (λ (t : List ℕ) (b : ℕ). set t l.q b) l.invariant.1 c.spelled.ensures
          ∙ spell_next ok l.q c.loop-q-test.true c.site_at-s.result.x c.site_at-s.result.z c.site_at-s.ensures.x c.site_at-s.ensures.z,
    )

pub returns : goal.returns
returns c =
    let l = c.loop-q in
    let a = c.args in
    let e : l.q ≡ a.n = omega arith in
    l.invariant.1
    ∙ ap₂ (λ (w : Word) (k : ℕ). spell w ++ replicate (max_sites - k) 0) (all_sites c.requires l.q c.loop-q-test.false) e
