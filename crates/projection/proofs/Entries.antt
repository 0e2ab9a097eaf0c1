-- The entry of a word: it is inside a turn, and it does not matter which index leads from the least word of the orbit to the word.
-- The fact that carries it: two indices that lead to one kept word have the same numerator (`numerator-which`), since what they differ by fixes it.
use Prim.Native.Nat.{ℕ, zero, suc, ◌+◌, ◌*◌, ◌/◌, ◌%◌, ◌<◌, ◌∣◌}
use native.Mathlib.Nat.{
  add-mul,
  add-mul-div_left,
  add-mul-mod_self_left,
  div-eq_of_lt,
  div-lt_iff_lt-mul,
  eq-or-lt_of_le,
  le_of_suc-le-suc,
  mod-add-div,
  mod-eq_of_lt,
  mod-lt,
  mod-mod,
  mul-div_assoc,
  mul-div_right,
  mul-le-mul_left,
  mul-lt-mul_of_pos_left,
  mul-lt-mul_of_pos_right,
  mul-mod_right,
  not-suc-le-zero,
  zero-add,
  zero-div,
  zero-mod,
  zero-mul,
}
use native.Mathlib.Omega.{arith}
use mathlib.Core.Path.{◌≡◌, refl, sym, ◌∙◌, ap}
use mathlib.Core.Logic.{◌⊎◌, inl, inr}
use mathlib.Core.Bool.{Bool, true, false, false≢true}
use mathlib.Core.List.{List, [], ◌∷◌}
use lib.IntN.{ℤ, pos}
use lib.ListN.{length, get_or}
use Rattle.pauli_word.specs.Word.{Word}
use Rattle.action.specs.Lists.{Member}
use Rattle.action.specs.Permutation.{Generator, exact_order, Permutes, Valid}
use Rattle.action.specs.Index.{order_of, digits, add, inverse}
use Rattle.action.specs.Orbit.{move, moves, by_digits, reach, orbit, is_in, least, index_back, fixes}
use Rattle.action.specs.Sector.{modulus, reduced, phases, numerator, keeps, breaks}
use Rattle.action.proofs.Index.{Positive, valid_positive, order_of_positive, add-below, add-redo}
use Rattle.action.proofs.ExactOrders.{order_positive}
use Rattle.action.proofs.Move.{moves-order}
use Rattle.action.proofs.Reach.{reach-length, reach-zero, reach-add, reach-comm, reach-inverse}
use Rattle.action.proofs.Canonical.{orbit_intro, least-length, least-same, back-reaches}
use Rattle.action.proofs.Stabilizer.{fixes_intro}
use Rattle.action.proofs.Characters.{modulus-positive, numerator-index-add}
use Rattle.action.proofs.Kept.{keeps-orbit}
use Rattle.action.proofs.Dropped.{breaks-elim, unbroken-elim, keeps-broken, some-breaks}
use Rattle.phases.specs.Rules.{turn}
use Rattle.projection.specs.Projection.{entry_at, entry_of, generator_index}

-- ---- parts of a turn

module _ (m t : ℕ) (some : 0 < m) (whole : 0 < t) where
  -- fewer than m parts, of which m make the whole t, are less than t
  part-below : (n : ℕ) → n < m → n * t / m < t
  part-below n h = (div-lt_iff_lt-mul some).1 (omega (arith, mul-lt-mul_of_pos_right {k = t} h whole))

  -- m parts are a round
  part-round : (n : ℕ) → n % m * t / m ≡ n * t / m % t
  part-round n =
      sym (mod-eq_of_lt (part-below (n % m) (mod-lt n some)))
      ∙ sym (add-mul-mod_self_left (n % m * t / m) t (n / m))
      ∙ ap (λ (x : ℕ). x % t)
      (sym (add-mul-div_left (n % m * t) (t * (n / m)) some) ∙ ap (λ (x : ℕ). x / m) (omega (arith, ap (λ (x : ℕ). x * t) (mod-add-div n m))))

  part-add : m ∣ t → (a b : ℕ) → (a + b) % m * t / m ≡ (a * t / m + b * t / m) % t
  part-add d a b =
      part-round (a + b)
      ∙ ap (λ (x : ℕ). x % t) (rw (mul-div_assoc m (a + b) d, mul-div_assoc m a d, mul-div_assoc m b d) (add-mul a b (t / m)))

-- ---- entries of indices

module _ (gs : List Generator) (ks : List ℤ) where
  numerator-below : 0 < modulus gs → (i : ℕ) → numerator gs ks (digits gs i) < modulus gs
  unfolding numerator
  numerator-below h i = mod-lt (phases (modulus gs) gs ks (digits gs i)) h

  -- an entry is inside a turn
  pub entry-below : 0 < modulus gs → (i : ℕ) → entry_at gs ks i < turn
  unfolding entry_at
  entry-below h i = part-below (modulus gs) turn h (omega arith) (numerator gs ks (digits gs i)) (numerator-below h i)

  -- and so is that of a word
  pub word_below : 0 < modulus gs → (w : Word) → entry_of gs ks w < turn
  unfolding entry_of
  word_below h w = entry-below h (index_back gs w)

-- ---- kept words

-- an index that fixes a kept word has numerator 0
kept_fixed : (gs : List Generator) (ks : List ℤ) (w : Word) → keeps gs ks w ≡ true
    → (i : ℕ) → i < order_of gs → fixes gs w i ≡ true → numerator gs ks (digits gs i) ≡ 0
kept_fixed gs ks w kept i inside f = go (breaks gs ks w i) refl
  where
    go : (b : Bool) → breaks gs ks w i ≡ b → numerator gs ks (digits gs i) ≡ 0
    go true e = absurd (false≢true (sym (keeps-broken gs ks w i inside e) ∙ kept))
    go false e = unbroken-elim gs ks w i e f

module _ {n : ℕ} {gs : List Generator} (valid : Valid n gs) (ks : List ℤ) where
  positive : 0 < modulus gs
  positive = modulus-positive gs (valid_positive valid)

  -- two indices that lead from one word to one kept word have the same numerator
  numerator-which :
      (u w : Word) → length u ≡ n → length w ≡ n → keeps gs ks w ≡ true → (i j : ℕ) → i < order_of gs → reach gs i u ≡ w → reach gs j u ≡ w
      → numerator gs ks (digits gs i) ≡ numerator gs ks (digits gs j)
  numerator-which u w lu lw kept i j below e f =
      ap (λ (x : ℕ). numerator gs ks (digits gs x)) (sym (add-redo gs (valid_positive valid) i j below))
      ∙ numerator-index-add gs (valid_positive valid) ks apart j
      ∙ rw (kept_fixed gs ks w kept apart (add-below gs (valid_positive valid) i (inverse gs j)) (fixes_intro gs w apart fixed), zero-add)
      (mod-eq_of_lt (numerator-below gs ks positive j))
    where
      apart : ℕ
      apart = add gs i (inverse gs j)

      fixed : reach gs apart w ≡ w
      fixed =
          reach-add valid i (inverse gs j) w lw
          ∙ reach-comm valid (inverse gs j) i w lw
          ∙ ap (λ (x : Word). reach gs i (reach gs (inverse gs j) x)) (sym f)
          ∙ ap (reach gs i) (reach-inverse valid j u lu)
          ∙ e

  -- any index that leads from the representative to the word gives the word's entry
  pub entry-which :
      (w : Word) → length w ≡ n → keeps gs ks w ≡ true → (i : ℕ) → i < order_of gs → reach gs i (least gs w) ≡ w → entry_at gs ks i ≡ entry_of gs ks w
  unfolding entry_of entry_at
  entry-which w long kept i below e =
      ap (λ (x : ℕ). x * turn / modulus gs)
      (numerator-which (least gs w) w (least-length valid w ∙ long) long kept i (index_back gs w) below e (back-reaches valid w long))

  -- a word moved by an index has the sum of the two entries, modulo a turn
  pub entry-moved :
      modulus gs ∣ turn → (w : Word) → length w ≡ n → keeps gs ks w ≡ true → (j : ℕ) → j < order_of gs
      → entry_of gs ks (reach gs j w) ≡ (entry_of gs ks w + entry_at gs ks j) % turn
  unfolding entry_of entry_at
  entry-moved d w long kept j below =
      sym (entry-which moved (reach-length gs j w ∙ long) (keeps-orbit valid w long ks moved inside ∙ kept) (add gs (index_back gs w) j)
      (add-below gs (valid_positive valid) (index_back gs w) j) leads)
      ∙ ap (λ (x : ℕ). x * turn / modulus gs) (numerator-index-add gs (valid_positive valid) ks (index_back gs w) j)
      ∙ part-add (modulus gs) turn positive (omega arith) d (numerator gs ks (digits gs (index_back gs w))) (numerator gs ks (digits gs j))
    where
      moved : Word
      moved = reach gs j w

      inside : is_in moved (orbit gs w) ≡ true
      inside = orbit_intro gs w j below

      leads : reach gs (add gs (index_back gs w) j) (least gs moved) ≡ moved
      leads =
          ap (reach gs (add gs (index_back gs w) j)) (least-same valid w long moved inside)
          ∙ reach-add valid (index_back gs w) j (least gs w) (least-length valid w ∙ long)
          ∙ ap (reach gs j) (back-reaches valid w long)

-- ---- modes that are all 0

phases-zeros : (m : ℕ) (gs : List Generator) (ks : List ℤ) (cs : List ℕ) → ((k : ℤ) → Member k ks → k ≡ pos 0) → phases m gs ks cs ≡ 0
unfolding phases reduced
phases-zeros m [] ks cs zeros = refl
phases-zeros m (g ∷ gs) [] cs zeros = refl
phases-zeros m (g ∷ gs) (k ∷ ks) [] zeros = refl
phases-zeros m (g ∷ gs) (k ∷ ks) (c ∷ cs) zeros =
    rw (zeros k (inl refl)) (simp (zero-mod, zero-mul, zero-add) (phases-zeros m gs ks cs (λ j h. zeros j (inr h))))

module _ (gs : List Generator) (ks : List ℤ) (zeros : (k : ℤ) → Member k ks → k ≡ pos 0) where
  numerator-zeros : (cs : List ℕ) → numerator gs ks cs ≡ 0
  unfolding numerator
  numerator-zeros cs = rw (phases-zeros (modulus gs) gs ks cs zeros) (zero-mod (modulus gs))

  -- every entry is 0
  pub entry-zero-modes : (i : ℕ) → entry_at gs ks i ≡ 0
  unfolding entry_at
  entry-zero-modes i = rw (numerator-zeros (digits gs i)) (zero-div (modulus gs))

  pub word-zero-modes : (w : Word) → entry_of gs ks w ≡ 0
  unfolding entry_of
  word-zero-modes w = entry-zero-modes (index_back gs w)

  -- every word is kept
  pub keeps-zero-modes : (w : Word) → keeps gs ks w ≡ true
  keeps-zero-modes w = go (keeps gs ks w) refl
    where
      go : (b : Bool) → keeps gs ks w ≡ b → b ≡ true
      go true e = refl
      go false e = let (i, inside, b) = some-breaks gs ks w e in absurd ((breaks-elim gs ks w i b).1 (numerator-zeros (digits gs i)))

-- ---- one generator

-- the index of a generator is below the order
pub generator_below : (gs : List Generator) → Positive gs → (k : ℕ) → generator_index gs k < order_of gs
unfolding generator_index order_of
generator_below [] p k = omega arith
generator_below (g ∷ gs) p zero = omega (arith, mod-lt 1 p.0, mul-le-mul_left g.order (order_of_positive gs p.1))
generator_below (g ∷ gs) p (suc k) = mul-lt-mul_of_pos_left (generator_below gs p.1 k) p.0

-- a permutation of order 1 moves nothing
moved-once : {n : ℕ} {perm : List ℕ} → Permutes n perm → (w : Word) → length w ≡ n → moves (1 % exact_order perm) perm w ≡ move perm w
unfolding moves
moved-once {perm = perm} permutes w long = go (eq-or-lt_of_le (order_positive perm))
  where
    go : (1 ≡ exact_order perm) ⊎ (1 < exact_order perm) → moves (1 % exact_order perm) perm w ≡ move perm w
    go (inl e) = rw (← e) (sym (rw (← e) at (moves-order permutes w long)))
    go (inr h) = rw (mod-eq_of_lt h) refl

-- the index of a generator reaches what the generator makes of a word
pub generator_reaches :
    {n : ℕ} (gs : List Generator) → Positive gs → ((g : Generator) → Member g gs → Permutes n g.perm × (g.order ≡ exact_order g.perm))
    → (k : ℕ) (d : Generator) → k < length gs → (w : Word) → length w ≡ n → reach gs (generator_index gs k) w ≡ move (get_or gs k d).perm w
unfolding generator_index reach digits by_digits moves
generator_reaches [] p v k d h w long = absurd (not-suc-le-zero h)
generator_reaches (g ∷ gs) p v zero d h w long =
    rw (mod-mod 1 g.order, div-eq_of_lt (mod-lt 1 p.0))
    (reach-zero gs (moves (1 % g.order) g.perm w) ∙ rw (v g (inl refl)).1 (moved-once (v g (inl refl)).0 w long))
generator_reaches (g ∷ gs) p v (suc k) d h w long =
    rw (mul-mod_right g.order (generator_index gs k), mul-div_right (generator_index gs k) p.0)
    (generator_reaches gs p.1 (λ f m. v f (inr m)) k d (le_of_suc-le-suc h) w long)

module _ {n : ℕ} {gs : List Generator} (valid : Valid n gs) (ks : List ℤ) (d : modulus gs ∣ turn) where
  -- a word moved once by the generator in place k
  pub entry-generator :
      (w : Word) → length w ≡ n → keeps gs ks w ≡ true → (k : ℕ) (g : Generator) → k < length gs
      → entry_of gs ks (move (get_or gs k g).perm w) ≡ (entry_of gs ks w + entry_at gs ks (generator_index gs k)) % turn
  entry-generator w long kept k g h =
      ap (entry_of gs ks) (sym (generator_reaches gs (valid_positive valid) (λ f m. (valid.permutes f m, valid.exact f m)) k g h w long))
      ∙ entry-moved valid ks d w long kept (generator_index gs k) (generator_below gs (valid_positive valid) k)
