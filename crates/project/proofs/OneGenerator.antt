-- Words moved once by one generator: they stay in their orbit, and the generator turns by its mode over its order, of a turn.
-- The fact that carries it: of the digits of a generator's index only its own may be other than 0 (`phases-generator`).
use Prim.Native.Nat.{ℕ, zero, suc, ◌*◌, ◌/◌, ◌%◌, ◌<◌}
use native.Mathlib.Nat.{
  add-zero,
  div-eq_of_lt,
  eq-or-lt_of_le,
  le_of_suc-le-suc,
  mod-eq_of_lt,
  mod-eq-zero_of_dvd,
  mod-lt,
  mod-mod,
  mul_comm,
  mul-div-mul_right,
  mul-div_right,
  mul-lt-mul_of_pos_right,
  mul-mod_right,
  mul-one,
  not-suc-le-zero,
  zero-mod,
  zero-mul,
}
use native.Mathlib.Omega.{arith}
use mathlib.Core.Path.{◌≡◌, sym, ap, ◌∙◌}
use mathlib.Core.Logic.{◌⊎◌, inl, inr}
use mathlib.Core.Bool.{true}
use mathlib.Core.List.{List, [], ◌∷◌}
use lib.IntN.{ℤ, pos}
use lib.ListN.{length, get_or}
use Rattle.pauli_word.specs.Word.{Word}
use Rattle.action.proofs.Lists.{member_at}
use Rattle.action.specs.Lists.{Member}
use Rattle.action.specs.Permutation.{Generator, Valid}
use Rattle.action.specs.Index.{digits}
use Rattle.action.specs.Orbit.{move, orbit, is_in}
use Rattle.action.specs.Sector.{modulus, reduced, phases, numerator}
use Rattle.action.proofs.Index.{Positive, valid_positive}
use Rattle.action.proofs.ExactOrders.{order_positive}
use Rattle.action.proofs.Canonical.{orbit_intro}
use Rattle.action.proofs.Annihilators.{cofactor, pos_of_mul, phases-cons-zero, phases-zeros}
use Rattle.action.proofs.Characters.{reduced-below, modulus-positive, modulus-multiple}
use Rattle.phases.specs.Rules.{turn}
use Rattle.projection.specs.Projection.{generator_index}
use Rattle.projection.proofs.Entries.{generator_below, generator_reaches}

-- a number below o, once or, if o is 1, not at all
once_counted : (o r : ℕ) → r < o → r * (1 % o) % o ≡ r
once_counted o r h = go (eq-or-lt_of_le {n = 1} {m = o} (omega arith))
  where
    go : (1 ≡ o) ⊎ (1 < o) → r * (1 % o) % o ≡ r
    go (inl e) = let none : r ≡ 0 = omega arith in rw (none, zero-mul) (zero-mod o)
    go (inr l) = rw (mod-eq_of_lt l, mul-one) (mod-eq_of_lt h)

-- the phases of a generator's index are its own
phases_generator :
    (m : ℕ) (gs : List Generator) → Positive gs → (ks : List ℤ) (k : ℕ) (d : Generator) → k < length gs
    → phases m gs ks (digits gs (generator_index gs k)) ≡ reduced (get_or gs k d).order (get_or ks k (pos 0)) * (m / (get_or gs k d).order)
unfolding phases reduced digits generator_index
phases_generator m [] p ks k d h = absurd (not-suc-le-zero h)
phases_generator m (g ∷ gs) p [] k d h = simp (zero-mod, zero-mul)
phases_generator m (g ∷ gs) p (j ∷ ks) zero d h =
    let own : reduced g.order j < g.order = reduced-below g.order j p.0 in
    simp (mod-mod, div-eq_of_lt (mod-lt 1 p.0), phases-zeros m gs ks, add-zero, once_counted g.order (reduced g.order j) own)
phases_generator m (g ∷ gs) p (j ∷ ks) (suc k) d h =
    rw (mul-mod_right g.order (generator_index gs k), mul-div_right (generator_index gs k) p.0)
    (phases-cons-zero m g gs j ks (digits gs (generator_index gs k)) ∙ phases_generator m gs p.1 ks k d (le_of_suc-le-suc h))

module _ {n : ℕ} {gs : List Generator} (valid : Valid n gs) (k : ℕ) (d : Generator) (inside : k < length gs) where
  -- a word stays in its orbit
  pub generator-orbit : (w : Word) → length w ≡ n → is_in (move (get_or gs k d).perm w) (orbit gs w) ≡ true
  generator-orbit w long =
      ap (λ (u : Word). is_in u (orbit gs w))
      (sym (generator_reaches gs (valid_positive valid) (λ x m. (valid.permutes x m, valid.exact x m)) k d inside w long))
      ∙ orbit_intro gs w (generator_index gs k) (generator_below gs (valid_positive valid) k)

  -- a generator of order o turns by its mode, taken modulo o, over o
  pub generator-turns : (ks : List ℤ)
      → numerator gs ks (digits gs (generator_index gs k)) * turn / modulus gs
      ≡ reduced (get_or gs k d).order (get_or ks k (pos 0)) * turn / (get_or gs k d).order
  unfolding numerator
  generator-turns ks =
      ap (λ (x : ℕ). x % m * turn / m) (phases_generator m gs (valid_positive valid) ks k d inside)
      ∙ ap (λ (x : ℕ). x * turn / m) (mod-eq_of_lt (rw whole at (mul-lt-mul_of_pos_right mode-below part-above)))
      ∙ ap (λ (x : ℕ). x / m) regrouped
      ∙ ap (λ (x : ℕ). r * turn * part / x) (sym whole)
      ∙ mul-div-mul_right (r * turn) o part-above
    where
      own : Member (get_or gs k d) gs
      own = member_at gs d k inside

      o : ℕ
      o = (get_or gs k d).order

      r : ℕ
      r = reduced o (get_or ks k (pos 0))

      m : ℕ
      m = modulus gs

      part : ℕ
      part = m / o

      whole : o * part ≡ m
      whole = cofactor o m (mod-eq-zero_of_dvd o (modulus-multiple gs (get_or gs k d) own))

      order-above : 0 < o
      order-above = rw (valid.exact (get_or gs k d) own) (order_positive (get_or gs k d).perm)

      mode-below : r < o
      mode-below = reduced-below o (get_or ks k (pos 0)) order-above

      part-above : 0 < part
      part-above = pos_of_mul part o m (mul_comm part o ∙ whole) (modulus-positive gs (valid_positive valid))

      regrouped : r * part * turn ≡ r * turn * part
      regrouped = omega arith
