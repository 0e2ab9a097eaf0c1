-- Generators are divided exactly if each of them, by its number in the tables, leaves every site but those of its part.
use Prim.Native.Nat.{ℕ, zero, suc, ◌+◌, ◌*◌, ◌<◌}
use mathlib.Core.Path.{◌≡◌, sym, ◌∙◌}
use mathlib.Core.Logic.{◌⊎◌, inl, inr, ⊎_elim}
use mathlib.Core.List.{List, [], ◌∷◌}
use native.Mathlib.Nat.{le_of_suc-le-suc, not-suc-le-zero, suc-ne-zero, suc_inj}
use native.Mathlib.Omega.{arith}
use lib.ListN.{length, get_or}
use Rattle.pauli_word.specs.Limits.{max_sites}
use Rattle.action.specs.Permutation.{Generator, target}
use Rattle.permutation.specs.Generators.{row_at}
use Rattle.permutation.proofs.Commuting.{row_target}
use Rattle.elements.specs.HeldGroup.{generators_in, Tables}
use Rattle.elements.proofs.TableRows.{generator_at, generators-length, generators-at}
use Rattle.parts.specs.Labels.{Divided}

-- by what stands at each place of a list of generators
divided_at : (n : ℕ) (gs : List Generator) (ls owners : List ℕ) (d : Generator) → length ls ≡ length gs
    → ((g : ℕ) → g < length gs → (q : ℕ) → q < n → (get_or owners q 0 ≡ suc (get_or ls g 0)) ⊎ (target (get_or gs g d).perm q ≡ q)) → Divided n gs ls owners
divided_at n [] ls owners d e h = tt
divided_at n (x ∷ gs) [] owners d e h = absurd (suc-ne-zero _ (sym e))
divided_at n (x ∷ gs) (l ∷ ls) owners d e h =
    (h 0 (omega arith), divided_at n gs ls owners d (suc_inj e) (λ g k. h (suc g) (omega arith)))

of_divided_at : (n : ℕ) (gs : List Generator) (ls owners : List ℕ) (d : Generator) → Divided n gs ls owners
    → (g : ℕ) → g < length gs → (q : ℕ) → q < n → (get_or owners q 0 ≡ suc (get_or ls g 0)) ⊎ (target (get_or gs g d).perm q ≡ q)
of_divided_at n [] ls owners d v g h = absurd (not-suc-le-zero h)
of_divided_at n (x ∷ gs) [] owners d v g h = absurd v
of_divided_at n (x ∷ gs) (l ∷ ls) owners d v zero h = v.0
of_divided_at n (x ∷ gs) (l ∷ ls) owners d v (suc g) h = of_divided_at n gs ls owners d v.1 g (le_of_suc-le-suc h)

-- by the targets of tables
pub tables_divided : {k n : ℕ} {targets orders : List ℕ} → Tables k n targets orders → (labels owners : List ℕ) → length labels ≡ k
    → ((g : ℕ) → g < k → (q : ℕ) → q < n → (get_or owners q 0 ≡ suc (get_or labels g 0)) ⊎ (get_or targets (max_sites * g + q) 0 ≡ q))
    → Divided n (generators_in k n targets orders) labels owners
tables_divided {k} {n} {targets} {orders} t labels owners e h =
    let d : Generator = generator_at n targets orders 0 in
    divided_at n (generators_in k n targets orders) labels owners d (e ∙ sym (generators-length t))
    (λ g l q b. let i : g < k = rw (generators-length t) at l in
    rw (generators-at t g d i) (⊎_elim (λ o. inl o) (λ s. inr (row_target n targets g q b ∙ s)) (h g i q b)))

pub of_tables_divided : {k n : ℕ} {targets orders : List ℕ} → Tables k n targets orders → (labels owners : List ℕ)
    → Divided n (generators_in k n targets orders) labels owners
    → (g : ℕ) → g < k → (q : ℕ) → q < n → (get_or owners q 0 ≡ suc (get_or labels g 0)) ⊎ (target (row_at n targets g) q ≡ q)
of_tables_divided {k} {n} {targets} {orders} t labels owners v g h q b =
    let d : Generator = generator_at n targets orders 0 in
    rw (generators-at t g d h) at (of_divided_at n (generators_in k n targets orders) labels owners d v g (rw (generators-length t) h) q b)
