-- The mode lists are the characters of the group: the numerators of a mode list are a character, every character is the numerators of one mode
-- list in reduced form, and two of those differ at some index. What carries it: modes and digits pair symmetrically (`phases-swap`), and the
-- first generator's unit, the digits 1, 0, 0, .., reads off the first mode (`phases-unit`).
use Prim.Native.Nat.{ℕ, zero, suc, ◌+◌, ◌-◌, ◌*◌, ◌/◌, ◌%◌, ◌<◌, ◌∣◌}
use native.Mathlib.Nat.{
  add-mod,
  add-mod-mod,
  add-zero as sum-zero,
  eq_of_mul-eq-mul_left,
  eq_of_mul-eq-mul_right,
  lt_of_mul-lt-mul_right,
  mod-add-div,
  mod-add-mod,
  mod-eq_of_lt,
  mod-eq-zero_of_dvd,
  mod-lt,
  mod-mod,
  mod_self,
  mod-zero,
  mul_comm,
  mul-lt-mul_of_pos_right,
  mul-mod_right,
  mul-one,
  mul-suc,
  suc_inj,
  suc-mul,
  suc-ne-zero,
  zero-mod,
  zero-mul,
}
use native.Mathlib.Numerals.{add-one}
use native.Mathlib.Omega.{arith}
use mathlib.Core.Path.{◌≡◌, refl, sym, ◌∙◌, ap, ap₂, subst}
use mathlib.Core.Logic.{◌↔◌, inl, inr}
use mathlib.Core.List.{List, [], ◌∷◌, map}
use lib.IntN.{ℤ, pos, negsuc}
use lib.ListN.{length}
use Rattle.action.specs.Lists.{below, Member}
use Rattle.action.specs.Permutation.{Generator}
use Rattle.action.specs.Index.{order_of, digits, index, add_digits, add, Digits}
use Rattle.action.specs.Sector.{modulus, reduced, phases, numerator, reduced_modes, reduced_digits, Modes, Character}
use Rattle.action.specs.Count.{all_modes}
use Rattle.action.proofs.Arithmetic.{lcm_all_member, lcm_all_divides, lcm_all-positive}
use Rattle.action.proofs.Lists.{Chosen, member_below, of_member_below, member-map, of-member-map, member-choices, of-member-choices}
use Rattle.action.proofs.Index.{Positive, order_of_positive, digits_proper, index_below, index-digits, digits-index, add_digits_comm, add_digits-zero, digits-add, digits-length, index-add}
use Rattle.action.proofs.Annihilators.{Divides, divides_positive, cofactor, turn, pos_of_mul, phases-cons-zero, phases-zeros, phases-add}

-- the phase modulus

divides_intro : (m : ℕ) (gs : List Generator) → Positive gs → ((g : Generator) → Member g gs → m % g.order ≡ 0) → Divides m gs
divides_intro m [] p h = tt
divides_intro m (g ∷ gs) p h = (p.0, h g (inl refl), divides_intro m gs p.1 (λ f k. h f (inr k)))

positive_member : (gs : List Generator) → Positive gs → (g : Generator) → Member g gs → 0 < g.order
positive_member [] p g k = absurd k
positive_member (f ∷ gs) p g (inl e) = rw e p.0
positive_member (f ∷ gs) p g (inr k) = positive_member gs p.1 g k

-- the modulus is a multiple of each order, and every common multiple is one of it
pub modulus-multiple : (gs : List Generator) (g : Generator) → Member g gs → g.order ∣ modulus gs
unfolding modulus
modulus-multiple gs g k = lcm_all_member g.order (map (λ f. f.order) gs) (member-map (λ f. f.order) gs g k)

pub modulus-least : (gs : List Generator) (m : ℕ) → ((g : Generator) → Member g gs → g.order ∣ m) → modulus gs ∣ m
unfolding modulus
modulus-least gs m h =
    lcm_all_divides (map (λ f. f.order) gs) m (λ a k. let (g, l, e) = of-member-map (λ f. f.order) gs a k in rw e (h g l))

pub modulus_divides : (gs : List Generator) → Positive gs → Divides (modulus gs) gs
modulus_divides gs p = divides_intro (modulus gs) gs p (λ g k. mod-eq-zero_of_dvd g.order (modulus-multiple gs g k))

pub modulus-positive : (gs : List Generator) → Positive gs → 0 < modulus gs
unfolding modulus
modulus-positive gs p =
    lcm_all-positive (map (λ f. f.order) gs)
    (λ a k. let (g, l, e) = of-member-map (λ f. f.order) gs a k in rw e (positive_member gs p g l))

-- the numerator depends on the modes and the digits modulo the orders, and is additive in the digits

pub numerator-add :
    (gs : List Generator) → Positive gs → (ks : List ℤ) (cs ds : List ℕ) → length cs ≡ length gs → length ds ≡ length gs
    → numerator gs ks (add_digits gs cs ds) ≡ (numerator gs ks cs + numerator gs ks ds) % modulus gs
unfolding numerator
numerator-add gs p ks cs ds h k =
    let m : ℕ = modulus gs in
    phases-add m gs ks cs ds (modulus_divides gs p) h k ∙ add-mod (phases m gs ks cs) (phases m gs ks ds) m

pub numerator-index-add :
    (gs : List Generator) → Positive gs → (ks : List ℤ) (i j : ℕ)
    → numerator gs ks (digits gs (add gs i j)) ≡ (numerator gs ks (digits gs i) + numerator gs ks (digits gs j)) % modulus gs
numerator-index-add gs p ks i j = ap (numerator gs ks) (digits-add gs p i j) ∙ numerator-add gs p ks (digits gs i) (digits gs j) (long i) (long j)
  where
    long : (i : ℕ) → length (digits gs i) ≡ length gs
    long i = digits-length gs (digits gs i) (digits_proper gs p i)

-- a reduced mode is below the order, and differs from the mode by a multiple of it
pub reduced-below : (o : ℕ) (k : ℤ) → 0 < o → reduced o k < o
unfolding reduced
reduced-below o (pos k) h = mod-lt k h
reduced-below o (negsuc k) h = omega arith

pub reduced_negative : (o k : ℕ) → 0 < o → (reduced o (negsuc k) + suc k) % o ≡ 0
unfolding reduced
reduced_negative o k h = rw whole (mul-mod_right o (suc (k / o)))
  where
    whole : o - 1 - k % o + suc k ≡ o * suc (k / o)
    whole = omega (arith, mod-lt k h, mod-add-div k o, mul-suc o (k / o))

reduced_again : (o : ℕ) (k : ℤ) → reduced o k % o ≡ reduced o k
unfolding reduced
reduced_again o (pos k) = mod-mod k o
reduced_again zero (negsuc k) = mod-zero (0 - 1 - k % 0)
reduced_again (suc o) (negsuc k) = mod-eq_of_lt (omega arith)

phases-reduced_modes : (m : ℕ) (gs : List Generator) (ks : List ℤ) (cs : List ℕ) → phases m gs (reduced_modes gs ks) cs ≡ phases m gs ks cs
unfolding phases reduced_modes
phases-reduced_modes m [] ks cs = refl
phases-reduced_modes m (g ∷ gs) [] cs = refl
phases-reduced_modes m (g ∷ gs) (k ∷ ks) [] = refl
phases-reduced_modes m (g ∷ gs) (k ∷ ks) (c ∷ cs) =
    ap₂ (λ (r x : ℕ). r * (c % g.order) % g.order * (m / g.order) + x) (reduced_again g.order k) (phases-reduced_modes m gs ks cs)

pub numerator-reduced_modes : (gs : List Generator) (ks : List ℤ) (cs : List ℕ) → numerator gs (reduced_modes gs ks) cs ≡ numerator gs ks cs
unfolding numerator
numerator-reduced_modes gs ks cs = ap (λ (x : ℕ). x % modulus gs) (phases-reduced_modes (modulus gs) gs ks cs)

phases-reduced-digits : (m : ℕ) (gs : List Generator) (ks : List ℤ) (cs : List ℕ) → phases m gs ks (reduced_digits gs cs) ≡ phases m gs ks cs
unfolding phases reduced_digits
phases-reduced-digits m [] ks cs = refl
phases-reduced-digits m (g ∷ gs) [] cs = refl
phases-reduced-digits m (g ∷ gs) (k ∷ ks) [] = refl
phases-reduced-digits m (g ∷ gs) (k ∷ ks) (c ∷ cs) =
    ap₂ (λ (r x : ℕ). reduced g.order k * r % g.order * (m / g.order) + x) (mod-mod c g.order) (phases-reduced-digits m gs ks cs)

pub numerator-reduced-digits : (gs : List Generator) (ks : List ℤ) (cs : List ℕ) → numerator gs ks (reduced_digits gs cs) ≡ numerator gs ks cs
unfolding numerator
numerator-reduced-digits gs ks cs = ap (λ (x : ℕ). x % modulus gs) (phases-reduced-digits (modulus gs) gs ks cs)

-- reduced mode lists are digit lists

modes_chosen : (gs : List Generator) (ks : List ℤ) → Modes gs ks → Chosen ks (map (λ g. map pos (below g.order)) gs)
modes_chosen [] [] h = tt
modes_chosen [] (k ∷ ks) h = absurd h
modes_chosen (g ∷ gs) [] h = absurd h
modes_chosen (g ∷ gs) (pos k ∷ ks) h = (member-map pos (below g.order) k (member_below g.order k h.0), modes_chosen gs ks h.1)
modes_chosen (g ∷ gs) (negsuc k ∷ ks) h = absurd h

chosen_modes : (gs : List Generator) (ks : List ℤ) → Chosen ks (map (λ g. map pos (below g.order)) gs) → Modes gs ks
chosen_modes [] [] h = tt
chosen_modes [] (k ∷ ks) h = absurd h
chosen_modes (g ∷ gs) [] h = absurd h
chosen_modes (g ∷ gs) (k ∷ ks) h =
    let (j, l, e) = of-member-map pos (below g.order) k h.0 in
    subst (λ (k : ℤ). Modes (g ∷ gs) (k ∷ ks)) (sym e) (of_member_below g.order j l, chosen_modes gs ks h.1)

pub modes_reduced : (gs : List Generator) (ks : List ℤ) → Member ks (all_modes gs) ↔ Modes gs ks
unfolding all_modes
modes_reduced gs ks =
    let cs : List (List ℤ) = map (λ g. map pos (below g.order)) gs in
    (λ h. chosen_modes gs ks (of-member-choices cs ks h), λ h. member-choices cs ks (modes_chosen gs ks h))

-- every mode list, reduced, is one of all mode lists
pub reduced_modes_lem : (gs : List Generator) → Positive gs → (ks : List ℤ) → length ks ≡ length gs → Member (reduced_modes gs ks) (all_modes gs)
unfolding reduced_modes
reduced_modes_lem gs p ks e = (modes_reduced gs (reduced_modes gs ks)).1 (proper gs p ks e)
  where
    proper : (gs : List Generator) → Positive gs → (ks : List ℤ) → length ks ≡ length gs → Modes gs (reduced_modes gs ks)
    proper [] p [] e = tt
    proper [] p (k ∷ ks) e = absurd (suc-ne-zero (length ks) e)
    proper (g ∷ gs) p [] e = absurd (suc-ne-zero (length gs) (sym e))
    proper (g ∷ gs) p (k ∷ ks) e = (reduced-below g.order k p.0, proper gs p.1 ks (suc_inj e))

modes_of_digits : (gs : List Generator) (cs : List ℕ) → Digits gs cs → Modes gs (map pos cs)
modes_of_digits [] [] h = tt
modes_of_digits [] (c ∷ cs) h = absurd h
modes_of_digits (g ∷ gs) [] h = absurd h
modes_of_digits (g ∷ gs) (c ∷ cs) h = (h.0, modes_of_digits gs cs h.1)

digits_of_modes : (gs : List Generator) (ks : List ℤ) → Modes gs ks → (cs : List ℕ) × Digits gs cs × (ks ≡ map pos cs)
digits_of_modes [] [] h = ([], tt, refl)
digits_of_modes [] (k ∷ ks) h = absurd h
digits_of_modes (g ∷ gs) [] h = absurd h
digits_of_modes (g ∷ gs) (pos k ∷ ks) h =
    let (cs, d, e) = digits_of_modes gs ks h.1 in
    (k ∷ cs, (h.0, d), ap (λ (t : List ℤ). pos k ∷ t) e)
digits_of_modes (g ∷ gs) (negsuc k ∷ ks) h = absurd h

-- modes and digits may change places
phases-swap : (m : ℕ) (gs : List Generator) (cs ds : List ℕ) → phases m gs (map pos cs) ds ≡ phases m gs (map pos ds) cs
unfolding phases
phases-swap m [] cs ds = refl
phases-swap m (g ∷ gs) [] [] = refl
phases-swap m (g ∷ gs) [] (d ∷ ds) = refl
phases-swap m (g ∷ gs) (c ∷ cs) [] = refl
phases-swap m (g ∷ gs) (c ∷ cs) (d ∷ ds) =
    ap₂ (λ (x y : ℕ). x % g.order * (m / g.order) + y) (mul_comm (c % g.order) (d % g.order)) (phases-swap m gs cs ds)

-- x is 0 if it is x + x modulo m
zero_of_double : (m x : ℕ) → x < m → x ≡ (x + x) % m → x ≡ 0
zero_of_double m x l e =
    sym (mod-eq_of_lt l) ∙ ap (λ (y : ℕ). y % m) (omega (arith, mod-add-div (x + x) m)) ∙ mul-mod_right m ((x + x) / m)

module _ (m : ℕ) (p : 0 < m) where
  part-positive : (o : ℕ) → m % o ≡ 0 → 0 < m / o
  part-positive o h = pos_of_mul (m / o) o m (mul_comm (m / o) o ∙ cofactor o m h) p

  -- the unit of the first generator reads off the first mode
  phases-unit :
      (g : Generator) (gs : List Generator) (c : ℕ) (ks : List ℤ) → Divides m (g ∷ gs) → c < g.order
      → phases m (g ∷ gs) (pos c ∷ ks) (1 % g.order ∷ digits gs 0) % m ≡ c * (m / g.order)
  unfolding phases
  phases-unit g gs c ks v l =
      ap (λ (x : ℕ). (c % o * (1 % o % o) % o * (m / o) + x) % m) (phases-zeros m gs ks)
      ∙ ap (λ (x : ℕ). x % m) (sum-zero _ ∙ ap (λ (x : ℕ). c % o * x % o * (m / o)) (mod-mod 1 o) ∙ turn o m (c % o) 1 v.0 v.1)
      ∙ mod-mod (c % o * 1 * (m / o)) m
      ∙ ap (λ (x : ℕ). x * (m / o) % m) (mul-one (c % o) ∙ mod-eq_of_lt l)
      ∙ mod-eq_of_lt (rw (cofactor o m v.1) at (mul-lt-mul_of_pos_right l (part-positive o v.1)))
    where
      o : ℕ
      o = g.order

  -- digit lists that, as modes, give every digit list the same phase are the same
  separated :
      (gs : List Generator) (cs ds : List ℕ) → Divides m gs → Digits gs cs → Digits gs ds
      → ((es : List ℕ) → Digits gs es → phases m gs (map pos cs) es % m ≡ phases m gs (map pos ds) es % m) → cs ≡ ds
  separated [] [] [] v h k same = refl
  separated [] [] (d ∷ ds) v h k same = absurd k
  separated [] (c ∷ cs) ds v h k same = absurd h
  separated (g ∷ gs) [] ds v h k same = absurd h
  separated (g ∷ gs) (c ∷ cs) [] v h k same = absurd k
  separated (g ∷ gs) (c ∷ cs) (d ∷ ds) v h k same =
      ap₂ ◌∷◌ first (separated gs cs ds v.2 h.1 k.1 rest)
    where
      o : ℕ
      o = g.order

      unit : List ℕ
      unit = 1 % o ∷ digits gs 0

      first : c ≡ d
      first =
          eq_of_mul-eq-mul_right (m / o) (part-positive o v.1) c d
          (sym (phases-unit g gs c (map pos cs) v h.0)
          ∙ same unit (mod-lt 1 v.0, digits_proper gs (divides_positive m gs v.2) 0)
          ∙ phases-unit g gs d (map pos ds) v k.0)

      rest : (es : List ℕ) → Digits gs es → phases m gs (map pos cs) es % m ≡ phases m gs (map pos ds) es % m
      rest es u =
          ap (λ (x : ℕ). x % m) (sym (phases-cons-zero m g gs (pos c) (map pos cs) es))
          ∙ same (0 ∷ es) (v.0, u)
          ∙ ap (λ (x : ℕ). x % m) (phases-cons-zero m g gs (pos d) (map pos ds) es)

-- characters as functions of digit lists

-- f maps digit lists to numbers below m, and their sums to sums modulo m
record Additive (m : ℕ) (gs : List Generator) (f : List ℕ → ℕ) : Type 0 where
  bounded : (cs : List ℕ) → Digits gs cs → f cs < m
  sums : (cs ds : List ℕ) → Digits gs cs → Digits gs ds → f (add_digits gs cs ds) ≡ (f cs + f ds) % m

-- f is the phases of digits taken as modes
abbrev Matched : ℕ → List Generator → (List ℕ → ℕ) → Type 0
Matched m gs f = (cs : List ℕ) × Digits gs cs × ((ds : List ℕ) → Digits gs ds → phases m gs (map pos cs) ds % m ≡ f ds)

-- the first generator split off
module _ (m : ℕ) (g : Generator) (gs : List Generator) (f : List ℕ → ℕ) (v : Divides m (g ∷ gs)) (a : Additive m (g ∷ gs) f) where
  -- how f runs through the multiples of the first generator
  along : ℕ → ℕ
  along n = f (n % g.order ∷ digits gs 0)

  tail-zero : Digits gs (digits gs 0)
  tail-zero = digits_proper gs (divides_positive m gs v.2) 0

  tail-additive : Additive m gs (λ cs. f (0 ∷ cs))
  unfolding add_digits
  tail-additive = record {
    bounded = λ cs h. a.bounded (0 ∷ cs) (v.0, h);
    sums = λ cs ds h k. ap (λ (x : ℕ). f (x ∷ add_digits gs cs ds)) (sym (zero-mod g.order)) ∙ a.sums (0 ∷ cs) (0 ∷ ds) (v.0, h) (v.0, k);
  }

  along-add : (x y : ℕ) → along (x + y) ≡ (along x + along y) % m
  unfolding along add_digits
  along-add x y =
      ap₂ (λ (c : ℕ) (cs : List ℕ). f (c ∷ cs)) (add-mod x y g.order) (sym (add_digits-zero gs (digits gs 0) tail-zero))
      ∙ a.sums (x % g.order ∷ digits gs 0) (y % g.order ∷ digits gs 0) (mod-lt x v.0, tail-zero) (mod-lt y v.0, tail-zero)

  along-zero : along 0 ≡ 0
  unfolding along
  along-zero = zero_of_double m (along 0) (a.bounded (0 % g.order ∷ digits gs 0) (mod-lt 0 v.0, tail-zero)) (along-add 0 0)

  along-times : (n : ℕ) → along n ≡ n * along 1 % m
  along-times zero = along-zero ∙ sym (ap (λ (x : ℕ). x % m) (zero-mul (along 1)) ∙ zero-mod m)
  along-times (suc n) =
      ap along (sym (add-one n))
      ∙ along-add n 1
      ∙ ap (λ (x : ℕ). (x + along 1) % m) (along-times n)
      ∙ mod-add-mod (n * along 1) m (along 1)
      ∙ ap (λ (x : ℕ). x % m) (sym (suc-mul n (along 1)))

  -- the first mode
  mode : ℕ
  mode = g.order * along 1 / m

  -- o times the value at the unit is 0 modulo m, so the value is a multiple of m / o
  along-unit : along 1 ≡ mode * (m / g.order)
  unfolding along mode
  along-unit =
      eq_of_mul-eq-mul_left g.order v.0 (along 1) (mode * (m / g.order))
      (omega (arith, mod-add-div (g.order * along 1) m, round, ap (λ (x : ℕ). x * mode) (cofactor g.order m v.1)))
    where
      round : g.order * along 1 % m ≡ 0
      round =
          sym (along-times g.order)
          ∙ ap (λ (x : ℕ). f (x ∷ digits gs 0)) (mod_self g.order ∙ sym (zero-mod g.order))
          ∙ along-zero

  mode-below : mode < g.order
  unfolding along
  mode-below =
      lt_of_mul-lt-mul_right (m / g.order)
      (rw (← along-unit, cofactor g.order m v.1) (a.bounded (1 % g.order ∷ digits gs 0) (mod-lt 1 v.0, tail-zero)))

  -- the first digit's phase is f's value at it
  mode-value : (c : ℕ) → c < g.order → mode % g.order * (c % g.order) % g.order * (m / g.order) ≡ f (c ∷ digits gs 0)
  unfolding along
  mode-value c l =
      ap (λ (x : ℕ). x * (c % g.order) % g.order * (m / g.order)) (mod-eq_of_lt mode-below)
      ∙ turn g.order m mode c v.0 v.1
      ∙ ap (λ (x : ℕ). x % m) (omega (arith, ap (λ (x : ℕ). c * x) along-unit))
      ∙ sym (along-times c)
      ∙ ap (λ (x : ℕ). f (x ∷ digits gs 0)) (mod-eq_of_lt l)

  -- f is the sum of its value at the first digit and its value at the rest
  split-first : (c : ℕ) (cs : List ℕ) → c < g.order → Digits gs cs → f (c ∷ cs) ≡ (f (c ∷ digits gs 0) + f (0 ∷ cs)) % m
  unfolding add_digits
  split-first c cs l h =
      ap₂ (λ (x : ℕ) (t : List ℕ). f (x ∷ t))
      (sym (ap (λ (x : ℕ). x % g.order) (sum-zero c) ∙ mod-eq_of_lt l))
      (sym (add_digits_comm gs (digits gs 0) cs ∙ add_digits-zero gs cs h))
      ∙ a.sums (c ∷ digits gs 0) (0 ∷ cs) (l, tail-zero) (v.0, h)

  -- the first mode in front of modes for the rest
  matched-step : Matched m gs (λ cs. f (0 ∷ cs)) → Matched m (g ∷ gs) f
  unfolding phases
  matched-step (cs, d, e) = (mode ∷ cs, (mode-below, d), value)
    where
      value : (ds : List ℕ) → Digits (g ∷ gs) ds → phases m (g ∷ gs) (pos mode ∷ map pos cs) ds % m ≡ f ds
      value [] h = absurd h
      value (d ∷ ds) h =
          sym (add-mod-mod _ (phases m gs (map pos cs) ds) m)
          ∙ ap₂ (λ (x y : ℕ). (x + y) % m) (mode-value d h.0) (e ds h.1)
          ∙ sym (split-first d ds h.0 h.1)

matched : (m : ℕ) (gs : List Generator) (f : List ℕ → ℕ) → Divides m gs → Additive m gs f → Matched m gs f
unfolding phases add_digits
matched m [] f v a = ([], tt, value)
  where
    value : (ds : List ℕ) → Digits [] ds → 0 % m ≡ f ds
    value [] h = zero-mod m ∙ sym (zero_of_double m (f []) (a.bounded [] tt) (a.sums [] [] tt tt))
    value (d ∷ ds) h = absurd h
matched m (g ∷ gs) f v a = matched-step m g gs f v a (matched m gs (λ cs. f (0 ∷ cs)) v.2 (tail-additive m g gs f v a))

-- the laws

module _ (gs : List Generator) (p : Positive gs) where
  -- for any modes, reduced or not
  pub numerator-character : (ks : List ℤ) → Character gs (λ i. numerator gs ks (digits gs i))
  unfolding numerator
  numerator-character ks = record {
    inside = λ i h. mod-lt (phases (modulus gs) gs ks (digits gs i)) (modulus-positive gs p);
    additive = λ i j h k. numerator-index-add gs p ks i j;
  }

  -- every character is the numerators of a reduced mode list
  pub character-modes :
      (f : ℕ → ℕ) → Character gs f
      → (ks : List ℤ) × Member ks (all_modes gs) × ((i : ℕ) → i < order_of gs → numerator gs ks (digits gs i) ≡ f i)
  unfolding numerator
  character-modes f c = (map pos r.0, (modes_reduced gs (map pos r.0)).1 (modes_of_digits gs r.0 r.1), value)
    where
      r : Matched (modulus gs) gs (λ cs. f (index gs cs))
      r = matched (modulus gs) gs (λ cs. f (index gs cs)) (modulus_divides gs p) (record {
        bounded = λ cs h. c.inside (index gs cs) (index_below gs cs h);
        sums = λ cs ds h k. ap f (index-add gs p cs ds h k) ∙ c.additive (index gs cs) (index gs ds) (index_below gs cs h) (index_below gs ds k);
      })

      value : (i : ℕ) → i < order_of gs → numerator gs (map pos r.0) (digits gs i) ≡ f i
      value i h = r.2 (digits gs i) (digits_proper gs p i) ∙ ap f (index-digits gs p i h)

  -- two reduced mode lists with the same numerators are the same
  pub modes-unique :
      (ks ls : List ℤ) → Member ks (all_modes gs) → Member ls (all_modes gs)
      → ((i : ℕ) → i < order_of gs → numerator gs ks (digits gs i) ≡ numerator gs ls (digits gs i)) → ks ≡ ls
  unfolding numerator
  modes-unique ks ls h k same =
      let (cs, c, e) = digits_of_modes gs ks ((modes_reduced gs ks).0 h) in
      let (ds, d, f) = digits_of_modes gs ls ((modes_reduced gs ls).0 k) in
      e ∙ ap (map pos) (separated m (modulus-positive gs p) gs cs ds (modulus_divides gs p) c d (agree cs ds e f)) ∙ sym f
    where
      m : ℕ
      m = modulus gs

      agree :
          (cs ds : List ℕ) → ks ≡ map pos cs → ls ≡ map pos ds → (es : List ℕ) → Digits gs es
          → phases m gs (map pos cs) es % m ≡ phases m gs (map pos ds) es % m
      agree cs ds e f es u = rw (digits-index gs p es u, e, f) at (same (index gs es) (index_below gs es u))

  -- an index at which every reduced mode list has numerator 0 is 0
  pub numerator-faithful :
      (i : ℕ) → i < order_of gs → ((ks : List ℤ) → Member ks (all_modes gs) → numerator gs ks (digits gs i) ≡ 0) → i ≡ 0
  unfolding numerator
  numerator-faithful i h none =
      sym (index-digits gs p i h)
      ∙ ap (index gs) (separated m (modulus-positive gs p) gs cs zs (modulus_divides gs p) (digits_proper gs p i) (digits_proper gs p 0) agree)
      ∙ index-digits gs p 0 (order_of_positive gs p)
    where
      m : ℕ
      m = modulus gs

      cs : List ℕ
      cs = digits gs i

      zs : List ℕ
      zs = digits gs 0

      agree : (es : List ℕ) → Digits gs es → phases m gs (map pos cs) es % m ≡ phases m gs (map pos zs) es % m
      agree es u =
          ap (λ (x : ℕ). x % m) (phases-swap m gs cs es)
          ∙ none (map pos es) ((modes_reduced gs (map pos es)).1 (modes_of_digits gs es u))
          ∙ sym (ap (λ (x : ℕ). x % m) (phases-swap m gs zs es ∙ phases-zeros m gs (map pos es)) ∙ zero-mod m)
