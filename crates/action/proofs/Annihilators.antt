-- As many mode lists are trivial on a closed set of digit lists as the group order divided by the size of the set.
-- By induction over the generators. The fact that carries it: the first digits that occur in the set are the multiples of one number d
-- that divides the first order o (`leader`), so that with the first generator the set grows by the factor o / d (`count-passing`), and
-- the mode lists that are trivial on it by the factor d (`count-kills`).
use Prim.Native.Nat.{ℕ, zero, suc, pred, ◌+◌, ◌-◌, ◌*◌, ◌/◌, ◌%◌, ◌<◌}
use native.Mathlib.Nat.{
  add_assoc,
  add_comm,
  add-zero,
  zero-add,
  mul_comm,
  mul_assoc,
  mul-zero,
  one-mul,
  zero-mul,
  add-suc,
  suc-add,
  le_of_suc-le-suc,
  eq-or-lt_of_le,
  suc-mul,
  zero-mod,
  zero-div,
  mod-lt,
  mod-mod,
  mod_self,
  mod-eq_of_lt,
  add-mod,
  add-mod-mod,
  mod-add-mod,
  mod-add-div,
  div-add-mod',
  add-mul-mod_self_left,
  add-mul-mod_self_right,
  mul-lt-mul_of_pos_right,
  div-lt_iff_lt-mul,
  eq-zero-or-pos,
  eq_of_mul-eq-mul_left,
  eq_of_mul-eq-mul_right,
  suc-pred-eq_of_pos,
  suc_inj,
  suc-ne-zero,
}
use native.Mathlib.Omega.{arith}
use mathlib.Core.Path.{◌≡◌, refl, sym, ◌∙◌, ap, ap₂}
use mathlib.Core.Logic.{⊎_elim}
use mathlib.Core.Bool.{Bool, true, false, ◌&&◌, ◌||◌, not, cond, true≢false, and-eq-true_iff}
use mathlib.Core.List.{List, [], ◌∷◌, map}
use lib.Arith.{digits_lt, digits_div, digits_mod}
use lib.Dec.{eqb, ltb}
use lib.IntN.{ℤ, pos}
use lib.ListN.{length}
use borrow.Author.Tests.{eq-eqb, eqb-true, eqb-false, ltb-true, lt-ltb}
use Rattle.action.specs.Lists.{below, Member, count, every, choices, NoRepeats}
use Rattle.action.specs.Permutation.{Generator}
use Rattle.action.specs.Index.{order_of, digits, add_digits, Digits}
use Rattle.action.specs.Sector.{reduced, phases}
use Rattle.action.specs.Count.{all_modes}
use Rattle.action.proofs.Lists.{Chosen, member_below, of_member_below, no_repeats_below, length-below, of-member-map, every-intro, every-elim, total-cong, total-mul, total-map, total-count-swap, count-total, count-true, count-false, count-cong, count-pos, of-count-pos, count_bijection, count-prefixed, member-choices, of-member-choices, no_repeats_choices, bool_ext}
use Rattle.action.proofs.Index.{Positive, digits_proper, add_digits_proper, add_digits_comm, add_digits_assoc, add_digits-zero, digits-length}

-- numbers

-- sums of numbers with the same remainders have the same remainder
add_cong : (m a b c d : ℕ) → a % m ≡ b % m → c % m ≡ d % m → (a + c) % m ≡ (b + d) % m
add_cong m a b c d e f = cc (add-mod a c m, add-mod b d m)

-- a factor may be reduced
mul-mod-mod : (k a m : ℕ) → k * (a % m) % m ≡ k * a % m
mul-mod-mod k a m =
    sym (add-mul-mod_self_left (k * (a % m)) m (k * (a / m)))
    ∙ ap (λ (x : ℕ). x % m) (omega (arith, ap (λ (x : ℕ). k * x) (mod-add-div a m)))

mul-mod-zero : (o m c : ℕ) → m % o ≡ 0 → c * m % o ≡ 0
mul-mod-zero o m c h = rw (← mul-mod-mod c m o, h, mul-zero c, zero-mod o)

-- m - 1 times c is opposite to c modulo what divides m
opposite_pred : (o m c : ℕ) → 0 < m → m % o ≡ 0 → (c + pred m * c) % o ≡ 0
opposite_pred o m c p h =
    ap (λ (x : ℕ). x % o) (omega (arith, ap (λ (x : ℕ). c * x) (suc-pred-eq_of_pos p))) ∙ mul-mod-zero o m c h

-- a remainder, scaled
mod-mul : (x o M : ℕ) → 0 < o → x % o * M ≡ x * M % (o * M)
mod-mul x o zero p = simp (mul-zero, zero-mod)
mod-mul x o (suc M) p =
    sym (digits_mod (x / o) (mul-lt-mul_of_pos_right {k = suc M} (mod-lt x p) (omega arith)))
    ∙ ap (λ (y : ℕ). y % (o * suc M)) (omega (arith, ap (λ (y : ℕ). y * suc M) (div-add-mod' x o)))

-- e - j % e is opposite to j modulo e
opposite : (e j : ℕ) → 0 < e → (j + (e - j % e)) % e ≡ 0
opposite e j p =
    ap (λ (x : ℕ). x % e) (omega (arith, mod-add-div j e, mod-lt j p)) ∙ add-mul-mod_self_left e e (j / e) ∙ mod_self e

-- of the numbers below d * e, d are opposite to j modulo e
count-opposite : (d e j : ℕ) → 0 < e → count (λ k. eqb ((k + j) % e) 0) (below (d * e)) ≡ d
count-opposite d e j p =
    count_bijection (below (d * e)) (below d) (λ k. eqb ((k + j) % e) 0) (λ q. true) (λ k. k / e) (λ q. q * e + r)
    (no_repeats_below (d * e)) (no_repeats_below d) there back
    ∙ count-true (below d)
    ∙ length-below d
  where
    r : ℕ
    r = (e - j % e) % e

    residue : (k : ℕ) → (k + j) % e ≡ 0 → k % e ≡ r
    residue k h =
        ap (λ (x : ℕ). x % e) (sym (add-zero k))
        ∙ add_cong e k k 0 (j + (e - j % e)) refl (zero-mod e ∙ sym (opposite e j p))
        ∙ ap (λ (x : ℕ). x % e) (sym (add_assoc k j (e - j % e)))
        ∙ add_cong e (k + j) 0 (e - j % e) (e - j % e) (h ∙ sym (zero-mod e)) refl
        ∙ ap (λ (x : ℕ). x % e) (zero-add (e - j % e))

    there :
        (k : ℕ) → Member k (below (d * e)) → eqb ((k + j) % e) 0 ≡ true
        → Member (k / e) (below d) × (true ≡ true) × (k / e * e + r ≡ k)
    there k h t = (
      member_below d (k / e) ((div-lt_iff_lt-mul p).1 (of_member_below (d * e) k h)),
      refl,
      ap (λ (x : ℕ). k / e * e + x) (sym (residue k (eqb-true ((k + j) % e) 0 t))) ∙ div-add-mod' k e,
    )

    zeroed : (q : ℕ) → (q * e + r + j) % e ≡ 0
    zeroed q =
        ap (λ (x : ℕ). x % e) (add_assoc (q * e) r j ∙ add_comm (q * e) (r + j))
        ∙ add-mul-mod_self_right (r + j) q e
        ∙ mod-add-mod (e - j % e) e j
        ∙ ap (λ (x : ℕ). x % e) (add_comm (e - j % e) j)
        ∙ opposite e j p

    back :
        (q : ℕ) → Member q (below d) → true ≡ true
        → Member (q * e + r) (below (d * e)) × (eqb ((q * e + r + j) % e) 0 ≡ true) × ((q * e + r) / e ≡ q)
    back q h t =
        let l : r < e = mod-lt (e - j % e) p in (
          member_below (d * e) (q * e + r) (digits_lt (of_member_below d q h) l),
          eq-eqb ((q * e + r + j) % e) 0 (zeroed q),
          digits_div q l,
        )

count_multiples : (e d : ℕ) → 0 < d → count (λ c. eqb (c % d) 0) (below (e * d)) ≡ e
count_multiples e d p = simp add-zero at (count-opposite e d 0 p)

-- the least positive number that passes a test, looked for from a on, where a + f passes it
least-from :
    (t : ℕ → Bool) (f a : ℕ) → 0 < a → t (a + f) ≡ true → ((c : ℕ) → 0 < c → c < a → t c ≡ false)
    → (d : ℕ) × (0 < d) × (t d ≡ true) × ((c : ℕ) → 0 < c → c < d → t c ≡ false)
least-from t zero a p h none = (a, p, rw (add-zero a) at h, none)
least-from t (suc f) a p h none = split (t a) refl (least-from t f (suc a) (omega arith) (rw (add-suc a f, ← suc-add a f) at h))
  where
    Least : Type 0
    Least = (d : ℕ) × (0 < d) × (t d ≡ true) × ((c : ℕ) → 0 < c → c < d → t c ≡ false)

    split : (b : Bool) → t a ≡ b → (((c : ℕ) → 0 < c → c < suc a → t c ≡ false) → Least) → Least
    split true e later = (a, p, e, none)
    split false e later = later (λ c q l. ⊎_elim (λ k. ap t k ∙ e) (none c q) (eq-or-lt_of_le (le_of_suc-le-suc l)))

-- a set of numbers that repeats after o, has 0 and is closed under sums: its numbers are the multiples of one of them
module _
    (o : ℕ)
    (t : ℕ → Bool)
    (periodic : (x y : ℕ) → t (x + y * o) ≡ t x)
    (zero_in : t 0 ≡ true)
    (add-in : (x y : ℕ) → t x ≡ true → t y ≡ true → t (x + y) ≡ true)
  where
    multiple-in : (n x : ℕ) → t x ≡ true → t (n * x) ≡ true
    multiple-in zero x h = rw (zero-mul x) zero_in
    multiple-in (suc n) x h = rw (suc-mul n x) (add-in (n * x) x (multiple-in n x h) h)

    -- c % d is c and (o - 1) (c / d) times d, less a multiple of o
    remainder-in : (n d c : ℕ) → suc n ≡ o → t d ≡ true → t c ≡ true → t (c % d) ≡ true
    remainder-in n d c e h k =
        sym (periodic (c % d) (c / d * d))
        ∙ ap t (omega (arith, div-add-mod' c d, ap (λ (x : ℕ). c / d * d * x) e))
        ∙ add-in c (c / d * (n * d)) k (multiple-in (c / d) (n * d) (multiple-in n d h))

    -- the least positive one
    divisor : 0 < o → (d : ℕ) × (0 < d) × (t d ≡ true) × ((c : ℕ) → t c ≡ true → c % d ≡ 0)
    divisor p = (least.0, least.1, least.2, λ c h. ⊎_elim (λ e. e) (λ q. absurd (small c h q)) (eq-zero-or-pos (c % least.0)))
      where
        least : (d : ℕ) × (0 < d) × (t d ≡ true) × ((c : ℕ) → 0 < c → c < d → t c ≡ false)
        least =
            least-from t (pred o) 1 (omega arith) (ap t (omega arith) ∙ periodic 0 1 ∙ zero_in) (λ c q l. absurd (not-lt-zero c q l))
          where
            not-lt-zero : (c : ℕ) → 0 < c → c < 1 → ⊥
            not-lt-zero c q l = omega arith

        small : (c : ℕ) → t c ≡ true → 0 < c % least.0 → ⊥
        small c h q =
            let t_true : t (c % least.0) ≡ true = remainder-in (pred o) least.0 c (suc-pred-eq_of_pos p) least.2 h in
            true≢false (sym t_true ∙ least.3 (c % least.0) q (mod-lt c least.1))

-- digit lists

-- each order is positive and divides m
abbrev pub Divides : ℕ → List Generator → Type 0
Divides m [] = Unit {0}
Divides m (g ∷ gs) = (0 < g.order) × (m % g.order ≡ 0) × Divides m gs

pub divides_positive : (m : ℕ) (gs : List Generator) → Divides m gs → Positive gs
divides_positive m [] v = tt
divides_positive m (g ∷ gs) v = (v.0, divides_positive m gs v.2)

-- all digit lists
unfoldable pub all_digits : List Generator → List (List ℕ)
unfolding choices below
all_digits gs = choices (map (λ g. below g.order) gs)

-- the digits of 0 are all 0
digits-zero_cons : (g : Generator) (gs : List Generator) → digits (g ∷ gs) 0 ≡ 0 ∷ digits gs 0
unfolding digits
digits-zero_cons g gs = simp (zero-mod, zero-div)

pub member_all_digits : (gs : List Generator) (cs : List ℕ) → Digits gs cs → Member cs (all_digits gs)
unfolding all_digits
member_all_digits gs cs h = member-choices (map (λ g. below g.order) gs) cs (chosen gs cs h)
  where
    chosen : (gs : List Generator) (cs : List ℕ) → Digits gs cs → Chosen cs (map (λ g. below g.order) gs)
    chosen [] [] h = tt
    chosen [] (c ∷ cs) h = absurd h
    chosen (g ∷ gs) [] h = absurd h
    chosen (g ∷ gs) (c ∷ cs) h = (member_below g.order c h.0, chosen gs cs h.1)

pub of_member_all_digits : (gs : List Generator) (cs : List ℕ) → Member cs (all_digits gs) → Digits gs cs
unfolding all_digits
of_member_all_digits gs cs h = proper gs cs (of-member-choices (map (λ g. below g.order) gs) cs h)
  where
    proper : (gs : List Generator) (cs : List ℕ) → Chosen cs (map (λ g. below g.order) gs) → Digits gs cs
    proper [] [] h = tt
    proper [] (c ∷ cs) h = absurd h
    proper (g ∷ gs) [] h = absurd h
    proper (g ∷ gs) (c ∷ cs) h = (of_member_below g.order c h.0, proper gs cs h.1)

pub no_repeats_all_digits : (gs : List Generator) → NoRepeats (all_digits gs)
unfolding all_digits
no_repeats_all_digits gs = no_repeats_choices (map (λ g. below g.order) gs) each
  where
    each : (c : List ℕ) → Member c (map (λ g. below g.order) gs) → NoRepeats c
    each c h =
        let k : (g : Generator) × Member g gs × (c ≡ below g.order) = of-member-map (λ g. below g.order) gs c h in
        rw k.2 (no_repeats_below k.0.order)

-- n times a digit list
times : List Generator → ℕ → List ℕ → List ℕ
times [] n cs = []
times (g ∷ gs) n [] = []
times (g ∷ gs) n (c ∷ cs) = n * c % g.order ∷ times gs n cs

module _ (m : ℕ) where
  digits-times : (gs : List Generator) (n : ℕ) (cs : List ℕ) → Divides m gs → Digits gs cs → Digits gs (times gs n cs)
  unfolding times
  digits-times [] n cs v h = tt
  digits-times (g ∷ gs) n [] v h = absurd h
  digits-times (g ∷ gs) n (c ∷ cs) v h = (mod-lt (n * c) v.0, digits-times gs n cs v.2 h.1)

  -- m times a digit list is 0
  times-all : (gs : List Generator) (cs : List ℕ) → Divides m gs → Digits gs cs → times gs m cs ≡ digits gs 0
  unfolding times digits
  times-all [] cs v h = refl
  times-all (g ∷ gs) [] v h = absurd h
  times-all (g ∷ gs) (c ∷ cs) v h =
      ap₂ ◌∷◌ (ap (λ (x : ℕ). x % g.order) (mul_comm m c) ∙ mul-mod-zero g.order m c v.1) (times-all gs cs v.2 h.1)
      ∙ sym (digits-zero_cons g gs)

times_zero : (gs : List Generator) (cs : List ℕ) → Digits gs cs → times gs 0 cs ≡ digits gs 0
unfolding times digits
times_zero [] cs h = refl
times_zero (g ∷ gs) [] h = absurd h
times_zero (g ∷ gs) (c ∷ cs) h =
    ap₂ ◌∷◌ (ap (λ (x : ℕ). x % g.order) (zero-mul c) ∙ zero-mod g.order) (times_zero gs cs h.1) ∙ sym (digits-zero_cons g gs)

times-suc : (gs : List Generator) (n : ℕ) (cs : List ℕ) → times gs (suc n) cs ≡ add_digits gs cs (times gs n cs)
unfolding times add_digits
times-suc [] n cs = refl
times-suc (g ∷ gs) n [] = refl
times-suc (g ∷ gs) n (c ∷ cs) =
    ap₂ ◌∷◌ (ap (λ (x : ℕ). x % g.order) (omega arith) ∙ sym (add-mod-mod c (n * c) g.order)) (times-suc gs n cs)

-- m - 1 times a digit list is opposite to it
times-opposite :
    (m : ℕ) (gs : List Generator) (cs : List ℕ) → 0 < m → Divides m gs → Digits gs cs
    → add_digits gs cs (times gs (pred m) cs) ≡ digits gs 0
times-opposite m gs cs p v h =
    sym (times-suc gs (pred m) cs) ∙ ap (λ (n : ℕ). times gs n cs) (suc-pred-eq_of_pos p) ∙ times-all m gs cs v h

-- adding what is opposite undoes an addition
add_digits_undo :
    (gs : List Generator) (cs xs ys : List ℕ) → Digits gs cs → add_digits gs xs ys ≡ digits gs 0
    → add_digits gs (add_digits gs cs xs) ys ≡ cs
add_digits_undo gs cs xs ys h e = add_digits_assoc gs cs xs ys ∙ ap (add_digits gs cs) e ∙ add_digits-zero gs cs h

-- phases

pub cofactor : (o m : ℕ) → m % o ≡ 0 → o * (m / o) ≡ m
cofactor o m h = omega (arith, mod-add-div m o)

-- the phase of a single digit
pub turn : (o m r c : ℕ) → 0 < o → m % o ≡ 0 → r * (c % o) % o * (m / o) ≡ r * c * (m / o) % m
turn o m r c p h =
    ap (λ (x : ℕ). x * (m / o)) (mul-mod-mod r c o)
    ∙ mod-mul (r * c) o (m / o) p
    ∙ ap (λ (x : ℕ). r * c * (m / o) % x) (cofactor o m h)

turn-add :
    (o m r c d : ℕ) → 0 < o → m % o ≡ 0
    → r * ((c + d) % o % o) % o * (m / o) % m ≡ (r * (c % o) % o * (m / o) + r * (d % o) % o * (m / o)) % m
turn-add o m r c d p h =
    ap (λ (x : ℕ). r * x % o * (m / o) % m) (mod-mod (c + d) o)
    ∙ ap (λ (x : ℕ). x % m) (turn o m r (c + d) p h)
    ∙ mod-mod (r * (c + d) * (m / o)) m
    ∙ ap (λ (x : ℕ). x % m) (omega arith)
    ∙ add-mod (r * c * (m / o)) (r * d * (m / o)) m
    ∙ ap₂ (λ (x y : ℕ). (x + y) % m) (sym (turn o m r c p h)) (sym (turn o m r d p h))

module _ (m : ℕ) where
  pub phases-cons-zero :
      (g : Generator) (gs : List Generator) (k : ℤ) (ks : List ℤ) (cs : List ℕ)
      → phases m (g ∷ gs) (k ∷ ks) (0 ∷ cs) ≡ phases m gs ks cs
  unfolding phases
  phases-cons-zero g gs k ks cs = simp (zero-mod, mul-zero, zero-mul, zero-add)

  pub phases-zeros : (gs : List Generator) (ks : List ℤ) → phases m gs ks (digits gs 0) ≡ 0
  unfolding phases
  phases-zeros [] ks = refl
  phases-zeros (g ∷ gs) [] = refl
  phases-zeros (g ∷ gs) (k ∷ ks) = rw digits-zero_cons (phases-cons-zero g gs k ks (digits gs 0) ∙ phases-zeros gs ks)

  -- phases are additive modulo m
  pub phases-add :
      (gs : List Generator) (ks : List ℤ) (cs ds : List ℕ) → Divides m gs → length cs ≡ length gs → length ds ≡ length gs
      → phases m gs ks (add_digits gs cs ds) % m ≡ (phases m gs ks cs + phases m gs ks ds) % m
  unfolding phases add_digits
  phases-add [] ks cs ds v h k = refl
  phases-add (g ∷ gs) [] cs ds v h k = refl
  phases-add (g ∷ gs) (k ∷ ks) [] ds v h l = absurd (suc-ne-zero (length gs) (sym h))
  phases-add (g ∷ gs) (k ∷ ks) (c ∷ cs) [] v h l = absurd (suc-ne-zero (length gs) (sym l))
  phases-add (g ∷ gs) (k ∷ ks) (c ∷ cs) (d ∷ ds) v h l =
      add_cong m (t ((c + d) % g.order)) (t c + t d) (phases m gs ks (add_digits gs cs ds)) (phases m gs ks cs + phases m gs ks ds)
      (turn-add g.order m (reduced g.order k) c d v.0 v.1)
      (phases-add gs ks cs ds v.2 (suc_inj h) (suc_inj l))
      ∙ ap (λ (x : ℕ). x % m) (swap (t c) (t d) (phases m gs ks cs) (phases m gs ks ds))
    where
      t : ℕ → ℕ
      t x = reduced g.order k * (x % g.order) % g.order * (m / g.order)

      swap : (x y z w : ℕ) → x + y + (z + w) ≡ x + z + (y + w)
      swap x y z w = omega arith

  phases-times :
      (gs : List Generator) (ks : List ℤ) (n : ℕ) (cs : List ℕ) → Divides m gs → Digits gs cs
      → phases m gs ks (times gs n cs) % m ≡ n * phases m gs ks cs % m
  phases-times gs ks zero cs v h = rw (times_zero gs cs h, phases-zeros gs ks, zero-mul)
  phases-times gs ks (suc n) cs v h =
      ap (λ (x : List ℕ). phases m gs ks x % m) (times-suc gs n cs)
      ∙ phases-add gs ks cs (times gs n cs) v (digits-length gs cs h) (digits-length gs (times gs n cs) (digits-times m gs n cs v h))
      ∙ add_cong m (phases m gs ks cs) (phases m gs ks cs) (phases m gs ks (times gs n cs)) (n * phases m gs ks cs) refl
      (phases-times gs ks n cs v h)
      ∙ ap (λ (x : ℕ). x % m) (omega arith)

-- what a mode list does to the digit lists that pass a test

pub pos_of_mul : (a b c : ℕ) → a * b ≡ c → 0 < c → 0 < a
pos_of_mul zero b c e p = omega arith
pos_of_mul (suc a) b c e p = omega arith

eqb-mul : (x c : ℕ) → 0 < c → eqb (x * c) 0 ≡ eqb x 0
eqb-mul x c p =
    bool_ext (eqb (x * c) 0) (eqb x 0)
    (λ t. eq-eqb x 0 (eq_of_mul-eq-mul_right c p x 0 (eqb-true (x * c) 0 t ∙ sym (zero-mul c))))
    (λ t. eq-eqb (x * c) 0 (ap (λ (y : ℕ). y * c) (eqb-true x 0 t) ∙ zero-mul c))

-- of the modes below o, d give the digit d a phase that is opposite to φ, where φ times e = o / d is 0 modulo m
count_solutions :
    (o e d m φ : ℕ) → 0 < m → 0 < o → e * d ≡ o → m % o ≡ 0 → e * φ % m ≡ 0
    → count (λ k. eqb ((k % o * (d % o % o) % o * (m / o) + φ) % m) 0) (below o) ≡ d
count_solutions o e d m φ p q s t u =
    count-cong _ (λ k. eqb ((k + z) % e) 0) (below o) same
    ∙ ap (λ (n : ℕ). count (λ k. eqb ((k + z) % e) 0) (below n)) (sym s ∙ mul_comm e d)
    ∙ count-opposite d e z parts
  where
    z : ℕ
    z = e * φ / m

    whole : e * (d * (m / o)) ≡ m
    whole = omega (arith, ap (λ (x : ℕ). x * (m / o)) s, cofactor o m t)

    parts : 0 < e
    parts = pos_of_mul e d o s q

    step : 0 < d * (m / o)
    step = pos_of_mul (d * (m / o)) e m (mul_comm (d * (m / o)) e ∙ whole) p

    φ-eq : φ ≡ z * (d * (m / o))
    φ-eq =
        eq_of_mul-eq-mul_left e parts φ (z * (d * (m / o)))
        (omega (arith, mod-add-div (e * φ) m, ap (λ (x : ℕ). x * z) whole))

    value : (k : ℕ) → k < o → (k % o * (d % o % o) % o * (m / o) + φ) % m ≡ (k + z) % e * (d * (m / o))
    value k h =
        ap₂ (λ (x y : ℕ). (x * y % o * (m / o) + φ) % m) (mod-eq_of_lt h) (mod-mod d o)
        ∙ ap (λ (x : ℕ). (x + φ) % m) (turn o m k d q t)
        ∙ mod-add-mod (k * d * (m / o)) m φ
        ∙ ap₂ ◌%◌ (omega (arith, φ-eq)) (sym whole)
        ∙ sym (mod-mul (k + z) e (d * (m / o)) parts)

    same : (k : ℕ) → Member k (below o) → eqb ((k % o * (d % o % o) % o * (m / o) + φ) % m) 0 ≡ eqb ((k + z) % e) 0
    same k h = ap (λ (x : ℕ). eqb x 0) (value k (of_member_below o k h)) ∙ eqb-mul ((k + z) % e) (d * (m / o)) step

-- a test on digit lists that 0 passes, and the sum of two that pass
pub record Closed (gs : List Generator) (h : List ℕ → Bool) : Type 0 where
  pub zeros-in : h (digits gs 0) ≡ true
  pub add-in : (cs ds : List ℕ) → Digits gs cs → Digits gs ds → h cs ≡ true → h ds ≡ true → h (add_digits gs cs ds) ≡ true

module _ (m : ℕ) (gs : List Generator) (h : List ℕ → Bool) (v : Divides m gs) (closed : Closed gs h) where
  -- the multiples of what passes pass
  times-in : (n : ℕ) (cs : List ℕ) → Digits gs cs → h cs ≡ true → h (times gs n cs) ≡ true
  times-in zero cs k e = ap h (times_zero gs cs k) ∙ closed.zeros-in
  times-in (suc n) cs k e =
      ap h (times-suc gs n cs) ∙ closed.add-in cs (times gs n cs) k (digits-times m gs n cs v k) e (times-in n cs k e)

-- the mode list ks is trivial on the digit lists that pass h
abbrev kills : ℕ → List Generator → (List ℕ → Bool) → List ℤ → Bool
kills m gs h ks = every (λ cs. not (h cs) || eqb (phases m gs ks cs % m) 0) (all_digits gs)

module _ (m : ℕ) (gs : List Generator) (h : List ℕ → Bool) (ks : List ℤ) where
  kills-intro : ((cs : List ℕ) → Digits gs cs → h cs ≡ true → phases m gs ks cs % m ≡ 0) → kills m gs h ks ≡ true
  kills-intro f =
      every-intro _ (all_digits gs) (λ cs k. implies (h cs) _ (λ e. eq-eqb (phases m gs ks cs % m) 0 (f cs (of_member_all_digits gs cs k) e)))
    where
      implies : (a b : Bool) → (a ≡ true → b ≡ true) → (not a || b) ≡ true
      implies true b k = k refl
      implies false b k = refl

  kills-elim : kills m gs h ks ≡ true → (cs : List ℕ) → Digits gs cs → h cs ≡ true → phases m gs ks cs % m ≡ 0
  kills-elim e cs k t =
      eqb-true (phases m gs ks cs % m) 0
      (ap (λ (b : Bool). not b || eqb (phases m gs ks cs % m) 0) (sym t) ∙ every-elim _ (all_digits gs) e cs (member_all_digits gs cs k))

-- among what passes h, the first digits that occur are the multiples of d, and d divides the order: e times d is the order.
-- The digit d modulo the order occurs in front of a
record Leader (g : Generator) (gs : List Generator) (h : List ℕ → Bool) : Type 0 where
  d : ℕ
  e : ℕ
  a : List ℕ
  product : e * d ≡ g.order
  a-digits : Digits gs a
  a-passes : h (d % g.order ∷ a) ≡ true
  multiples : (c : ℕ) (cs : List ℕ) → c < g.order → Digits gs cs → h (c ∷ cs) ≡ true → c % d ≡ 0

-- the first generator split off
module _
    (m : ℕ)
    (g : Generator)
    (gs : List Generator)
    (h : List ℕ → Bool)
    (p : 0 < m)
    (v : Divides m (g ∷ gs))
    (closed : Closed (g ∷ gs) h)
  where
    tail-positive : Positive gs
    tail-positive = divides_positive m gs v.2

    -- a sum with the first digit z
    add-first :
        (x y z : ℕ) (cs ds : List ℕ) → x < g.order → y < g.order → (x + y) % g.order ≡ z → Digits gs cs → Digits gs ds
        → h (x ∷ cs) ≡ true → h (y ∷ ds) ≡ true → h (z ∷ add_digits gs cs ds) ≡ true
    unfolding add_digits
    add-first x y z cs ds q r e k l i j =
        ap (λ (w : ℕ). h (w ∷ add_digits gs cs ds)) (sym e) ∙ closed.add-in (x ∷ cs) (y ∷ ds) (q, k) (r, l) i j

    -- a multiple with the first digit z
    times-first :
        (n x z : ℕ) (cs : List ℕ) → x < g.order → n * x % g.order ≡ z → Digits gs cs → h (x ∷ cs) ≡ true → h (z ∷ times gs n cs) ≡ true
    unfolding times
    times-first n x z cs q e k i =
        ap (λ (w : ℕ). h (w ∷ times gs n cs)) (sym e) ∙ times-in m (g ∷ gs) h v closed n (x ∷ cs) (q, k) i

    -- what passes with the first digit 0
    tail-closed : Closed gs (λ cs. h (0 ∷ cs))
    tail-closed = record {
      zeros-in = ap h (sym (digits-zero_cons g gs)) ∙ closed.zeros-in;
      add-in = λ cs ds k l. add-first 0 0 0 cs ds v.0 v.0 (zero-mod g.order) k l;
    }

    -- as many pass with the first digit c as with 0, if one does
    shift :
        (c : ℕ) (b : List ℕ) → c < g.order → Digits gs b → h (c ∷ b) ≡ true
        → count (λ cs. h (c ∷ cs)) (all_digits gs) ≡ count (λ cs. h (0 ∷ cs)) (all_digits gs)
    shift c b l k e =
        count_bijection (all_digits gs) (all_digits gs) (λ cs. h (c ∷ cs)) (λ cs. h (0 ∷ cs))
        (λ cs. add_digits gs cs b⁻) (λ cs. add_digits gs cs b) (no_repeats_all_digits gs) (no_repeats_all_digits gs) there back
      where
        b⁻ : List ℕ
        b⁻ = times gs (pred m) b

        k⁻ : Digits gs b⁻
        k⁻ = digits-times m gs (pred m) b v.2 k

        b⁻-passes : h (pred m * c % g.order ∷ b⁻) ≡ true
        b⁻-passes = times-first (pred m) c _ b l refl k e

        opposites : add_digits gs b b⁻ ≡ digits gs 0
        opposites = times-opposite m gs b p v.2 k

        first : (c + pred m * c % g.order) % g.order ≡ 0
        first = add-mod-mod c (pred m * c) g.order ∙ opposite_pred g.order m c p v.1

        there :
            (cs : List ℕ) → Member cs (all_digits gs) → h (c ∷ cs) ≡ true
            → Member (add_digits gs cs b⁻) (all_digits gs) × (h (0 ∷ add_digits gs cs b⁻) ≡ true) × (add_digits gs (add_digits gs cs b⁻) b ≡ cs)
        there cs u t =
            let d : Digits gs cs = of_member_all_digits gs cs u in (
              member_all_digits gs (add_digits gs cs b⁻) (add_digits_proper gs tail-positive cs b⁻ d k⁻),
              add-first c (pred m * c % g.order) 0 cs b⁻ l (mod-lt (pred m * c) v.0) first d k⁻ t b⁻-passes,
              add_digits_undo gs cs b⁻ b d (add_digits_comm gs b⁻ b ∙ opposites),
            )

        back :
            (cs : List ℕ) → Member cs (all_digits gs) → h (0 ∷ cs) ≡ true
            → Member (add_digits gs cs b) (all_digits gs) × (h (c ∷ add_digits gs cs b) ≡ true) × (add_digits gs (add_digits gs cs b) b⁻ ≡ cs)
        back cs u t =
            let d : Digits gs cs = of_member_all_digits gs cs u in (
              member_all_digits gs (add_digits gs cs b) (add_digits_proper gs tail-positive cs b d k),
              add-first 0 c c cs b v.0 l (ap (λ (x : ℕ). x % g.order) (zero-add c) ∙ mod-eq_of_lt l) d k t e,
              add_digits_undo gs cs b b⁻ d opposites,
            )

    -- whether c, taken modulo the order, is the first digit of a digit list that passes
    occurs : ℕ → Bool
    occurs c = ltb 0 (count (λ cs. h (c % g.order ∷ cs)) (all_digits gs))

    occurs-intro : (c : ℕ) (cs : List ℕ) → Digits gs cs → h (c % g.order ∷ cs) ≡ true → occurs c ≡ true
    unfolding occurs
    occurs-intro c cs k e = lt-ltb 0 _ (count-pos (λ cs. h (c % g.order ∷ cs)) (all_digits gs) cs (member_all_digits gs cs k) e)

    occurs-elim : (c : ℕ) → occurs c ≡ true → (cs : List ℕ) × Digits gs cs × (h (c % g.order ∷ cs) ≡ true)
    unfolding occurs
    occurs-elim c e = (r.0, of_member_all_digits gs r.0 r.1, r.2)
      where
        r : (cs : List ℕ) × Member cs (all_digits gs) × (h (c % g.order ∷ cs) ≡ true)
        r = of-count-pos (λ cs. h (c % g.order ∷ cs)) (all_digits gs) (ltb-true 0 _ e)

    occurs-add : (x y : ℕ) → occurs x ≡ true → occurs y ≡ true → occurs (x + y) ≡ true
    occurs-add x y i j =
        let r : (cs : List ℕ) × Digits gs cs × (h (x % g.order ∷ cs) ≡ true) = occurs-elim x i in
        let s : (cs : List ℕ) × Digits gs cs × (h (y % g.order ∷ cs) ≡ true) = occurs-elim y j in
        occurs-intro (x + y) (add_digits gs r.0 s.0) (add_digits_proper gs tail-positive r.0 s.0 r.1 s.1)
        (add-first (x % g.order) (y % g.order) _ r.0 s.0 (mod-lt x v.0) (mod-lt y v.0) (sym (add-mod x y g.order))
        r.1 s.1 r.2 s.2)

    occurs-periodic : (x y : ℕ) → occurs (x + y * g.order) ≡ occurs x
    unfolding occurs
    occurs-periodic x y = ap (λ (z : ℕ). ltb 0 (count (λ cs. h (z ∷ cs)) (all_digits gs))) (add-mul-mod_self_right x y g.order)

    -- the least positive first digit that occurs, or the order if only 0 does, leads
    leader : Leader g gs h
    leader = record {
      d = d;
      e = g.order / d;
      a = r.0;
      product = product;
      a-digits = r.1;
      a-passes = r.2;
      multiples = multiples;
    }
      where
        passing-zero : h (0 % g.order ∷ digits gs 0) ≡ true
        passing-zero = ap (λ (x : ℕ). h (x ∷ digits gs 0)) (zero-mod g.order) ∙ tail-closed.zeros-in

        occurs-zero : occurs 0 ≡ true
        occurs-zero = occurs-intro 0 (digits gs 0) (digits_proper gs tail-positive 0) passing-zero

        found : (d : ℕ) × (0 < d) × (occurs d ≡ true) × ((c : ℕ) → occurs c ≡ true → c % d ≡ 0)
        found = divisor g.order occurs occurs-periodic occurs-zero occurs-add v.0

        d : ℕ
        d = found.0

        r : (cs : List ℕ) × Digits gs cs × (h (d % g.order ∷ cs) ≡ true)
        r = occurs-elim d found.2

        product : g.order / d * d ≡ g.order
        product =
            omega (arith, div-add-mod' g.order d, found.3 g.order (ap occurs (omega arith) ∙ occurs-periodic 0 1 ∙ occurs-zero))

        multiples : (c : ℕ) (cs : List ℕ) → c < g.order → Digits gs cs → h (c ∷ cs) ≡ true → c % d ≡ 0
        multiples c cs l k e = found.3 c (occurs-intro c cs k (rw (mod-eq_of_lt l) e))

    module _ (leads : Leader g gs h) where
      open leads use {d, e, a, product, a-digits, a-passes, multiples}

      multiple-digits : (n : ℕ) → Digits gs (times gs n a)
      multiple-digits n = digits-times m gs n a v.2 a-digits

      -- n times d ∷ a passes
      multiple-passes : (n z : ℕ) → n * (d % g.order) % g.order ≡ z → h (z ∷ times gs n a) ≡ true
      multiple-passes n z first = times-first n (d % g.order) z a (mod-lt d v.0) first a-digits a-passes

      -- as many pass with the first digit c as with 0 if c is a multiple of d, and else none
      count-first :
          (c : ℕ) → c < g.order
          → count (λ cs. h (c ∷ cs)) (all_digits gs) ≡ cond (eqb (c % d) 0) 1 0 * count (λ cs. h (0 ∷ cs)) (all_digits gs)
      count-first c l = split (eqb (c % d) 0) refl
        where
          digit : c % d ≡ 0 → c / d * (d % g.order) % g.order ≡ c
          digit z =
              mul-mod-mod (c / d) d g.order
              ∙ ap (λ (x : ℕ). x % g.order) (omega (arith, div-add-mod' c d))
              ∙ mod-eq_of_lt l

          multiple : 0 < count (λ cs. h (c ∷ cs)) (all_digits gs) → c % d ≡ 0
          multiple q =
              let r : (cs : List ℕ) × Member cs (all_digits gs) × (h (c ∷ cs) ≡ true) = of-count-pos (λ cs. h (c ∷ cs)) (all_digits gs) q in
              multiples c r.0 l (of_member_all_digits gs r.0 r.1) r.2

          split :
              (b : Bool) → eqb (c % d) 0 ≡ b
              → count (λ cs. h (c ∷ cs)) (all_digits gs) ≡ cond b 1 0 * count (λ cs. h (0 ∷ cs)) (all_digits gs)
          split true t =
              shift c (times gs (c / d) a) l (multiple-digits (c / d)) (multiple-passes (c / d) c (digit (eqb-true (c % d) 0 t)))
              ∙ sym (one-mul _)
          split false t =
              ⊎_elim (λ z. z) (λ q. absurd (eqb-false (c % d) 0 t (multiple q))) (eq-zero-or-pos (count (λ cs. h (c ∷ cs)) (all_digits gs)))
              ∙ sym (zero-mul _)

      -- with the first generator the set grows by the factor e
      count-passing : count h (all_digits (g ∷ gs)) ≡ e * count (λ cs. h (0 ∷ cs)) (all_digits gs)
      unfolding all_digits
      count-passing =
          count-prefixed h (below g.order) (all_digits gs)
          ∙ total-cong _ _ (below g.order) (λ c k. count-first c (of_member_below g.order c k))
          ∙ total-mul (count (λ cs. h (0 ∷ cs)) (all_digits gs)) (λ c. cond (eqb (c % d) 0) 1 0) (below g.order)
          ∙ ap (λ (n : ℕ). n * count (λ cs. h (0 ∷ cs)) (all_digits gs))
          (sym (count-total (λ c. eqb (c % d) 0) (below g.order)) ∙ occurring)
        where
          occurring : count (λ c. eqb (c % d) 0) (below g.order) ≡ e
          occurring = rw (← product) (count_multiples e d (pos_of_mul d e g.order (mul_comm d e ∙ product) v.0))

      -- a digit list that passes, with the right multiple of d ∷ a added, has the first digit 0
      trivial-all :
          (k : ℤ) (ks : List ℤ) → kills m gs (λ cs. h (0 ∷ cs)) ks ≡ true → phases m (g ∷ gs) (k ∷ ks) (d % g.order ∷ a) % m ≡ 0
          → (cs : List ℕ) → Digits (g ∷ gs) cs → h cs ≡ true → phases m (g ∷ gs) (k ∷ ks) cs % m ≡ 0
      unfolding add_digits times
      trivial-all k ks t z [] u i = absurd u
      trivial-all k ks t z (c ∷ cs) u i =
          ap (λ (x : ℕ). x % m) (sym (add-zero (phase (c ∷ cs))))
          ∙ add_cong m (phase (c ∷ cs)) (phase (c ∷ cs)) 0 (phase multiple) refl (zero-mod m ∙ sym trivial-multiple)
          ∙ sym (phases-add m (g ∷ gs) (k ∷ ks) (c ∷ cs) multiple v (digits-length (g ∷ gs) (c ∷ cs) u)
          (digits-length (g ∷ gs) multiple (mod-lt (n * (d % g.order)) v.0, multiple-digits n)))
          ∙ ap (λ (x : ℕ). phase (x ∷ rest) % m) first
          ∙ ap (λ (x : ℕ). x % m) (phases-cons-zero m g gs k ks rest)
          ∙ kills-elim m gs (λ ds. h (0 ∷ ds)) ks t rest (add_digits_proper gs tail-positive cs (times gs n a) u.1 (multiple-digits n)) rest-passes
        where
          n : ℕ
          n = pred m * (c / d)

          phase : List ℕ → ℕ
          phase ds = phases m (g ∷ gs) (k ∷ ks) ds

          multiple : List ℕ
          multiple = times (g ∷ gs) n (d % g.order ∷ a)

          rest : List ℕ
          rest = add_digits gs cs (times gs n a)

          trivial-multiple : phase multiple % m ≡ 0
          trivial-multiple = phases-times m (g ∷ gs) (k ∷ ks) n (d % g.order ∷ a) v (mod-lt d v.0, a-digits) ∙ mul-mod-zero m _ n z

          quotient : c / d * d ≡ c
          quotient = omega (arith, div-add-mod' c d, multiples c cs u.0 u.1 i)

          first : (c + n * (d % g.order) % g.order) % g.order ≡ 0
          first =
              ap (λ (x : ℕ). (c + x) % g.order) (mul-mod-mod n d g.order)
              ∙ add-mod-mod c (n * d) g.order
              ∙ ap (λ (x : ℕ). (c + x) % g.order) (mul_assoc (pred m) (c / d) d ∙ ap (λ (x : ℕ). pred m * x) quotient)
              ∙ opposite_pred g.order m c p v.1

          rest-passes : h (0 ∷ rest) ≡ true
          rest-passes =
              add-first c (n * (d % g.order) % g.order) 0 cs (times gs n a) u.0 (mod-lt (n * (d % g.order)) v.0) first u.1
              (multiple-digits n) i (multiple-passes n _ refl)

      -- a mode list is trivial on what passes if it is on d ∷ a, and its rest is on what passes with the first digit 0
      kills-split :
          (k : ℤ) (ks : List ℤ) → kills m (g ∷ gs) h (k ∷ ks)
          ≡ (kills m gs (λ cs. h (0 ∷ cs)) ks && eqb (phases m (g ∷ gs) (k ∷ ks) (d % g.order ∷ a) % m) 0)
      kills-split k ks = bool_ext (kills m (g ∷ gs) h (k ∷ ks)) (rest && first) there back
        where
          rest : Bool
          rest = kills m gs (λ cs. h (0 ∷ cs)) ks

          first : Bool
          first = eqb (phases m (g ∷ gs) (k ∷ ks) (d % g.order ∷ a) % m) 0

          there : kills m (g ∷ gs) h (k ∷ ks) ≡ true → (rest && first) ≡ true
          there t = (and-eq-true_iff rest first).1 (kills-intro m gs (λ cs. h (0 ∷ cs)) ks on-rest, eq-eqb _ 0 on-leader)
            where
              on : (cs : List ℕ) → Digits (g ∷ gs) cs → h cs ≡ true → phases m (g ∷ gs) (k ∷ ks) cs % m ≡ 0
              on = kills-elim m (g ∷ gs) h (k ∷ ks) t

              on-rest : (cs : List ℕ) → Digits gs cs → h (0 ∷ cs) ≡ true → phases m gs ks cs % m ≡ 0
              on-rest cs u i = ap (λ (x : ℕ). x % m) (sym (phases-cons-zero m g gs k ks cs)) ∙ on (0 ∷ cs) (v.0, u) i

              on-leader : phases m (g ∷ gs) (k ∷ ks) (d % g.order ∷ a) % m ≡ 0
              on-leader = on (d % g.order ∷ a) (mod-lt d v.0, a-digits) a-passes

          back : (rest && first) ≡ true → kills m (g ∷ gs) h (k ∷ ks) ≡ true
          back t =
              kills-intro m (g ∷ gs) h (k ∷ ks)
              (trivial-all k ks ((and-eq-true_iff rest first).0 t).0 (eqb-true _ 0 ((and-eq-true_iff rest first).0 t).1))

      -- d first modes go with each rest that is trivial on what passes with the first digit 0, and none with another
      count-modes :
          (ks : List ℤ) → count (λ k. kills m (g ∷ gs) h (pos k ∷ ks)) (below g.order) ≡ cond (kills m gs (λ cs. h (0 ∷ cs)) ks) 1 0 * d
      unfolding phases
      count-modes ks =
          count-cong _ _ (below g.order) (λ k u. kills-split (pos k) ks) ∙ split (kills m gs (λ cs. h (0 ∷ cs)) ks) refl
        where
          multiple : kills m gs (λ cs. h (0 ∷ cs)) ks ≡ true → e * phases m gs ks a % m ≡ 0
          multiple t =
              sym (phases-times m gs ks e a v.2 a-digits)
              ∙ kills-elim m gs (λ cs. h (0 ∷ cs)) ks t (times gs e a) (multiple-digits e) (multiple-passes e 0 first)
            where
              first : e * (d % g.order) % g.order ≡ 0
              first = mul-mod-mod e d g.order ∙ ap (λ (x : ℕ). x % g.order) product ∙ mod_self g.order

          split :
              (b : Bool) → kills m gs (λ cs. h (0 ∷ cs)) ks ≡ b
              → count (λ k. b && eqb (phases m (g ∷ gs) (pos k ∷ ks) (d % g.order ∷ a) % m) 0) (below g.order) ≡ cond b 1 0 * d
          split true t =
              count_solutions g.order e d m (phases m gs ks a) p v.0 product v.1 (multiple t) ∙ sym (one-mul d)
          split false t = count-false (below g.order) ∙ sym (zero-mul d)

      -- and the mode lists that are trivial on it by the factor d
      count-kills : count (kills m (g ∷ gs) h) (all_modes (g ∷ gs)) ≡ count (kills m gs (λ cs. h (0 ∷ cs))) (all_modes gs) * d
      unfolding all_modes
      count-kills =
          count-prefixed (kills m (g ∷ gs) h) (map pos (below g.order)) (all_modes gs)
          ∙ total-map (λ k. count (λ ks. kills m (g ∷ gs) h (k ∷ ks)) (all_modes gs)) pos (below g.order)
          ∙ total-count-swap (λ k ks. kills m (g ∷ gs) h (pos k ∷ ks)) (below g.order) (all_modes gs)
          ∙ total-cong _ _ (all_modes gs) (λ ks u. count-modes ks)
          ∙ total-mul d (λ ks. cond (kills m gs (λ cs. h (0 ∷ cs)) ks) 1 0) (all_modes gs)
          ∙ ap (λ (x : ℕ). x * d) (sym (count-total (kills m gs (λ cs. h (0 ∷ cs))) (all_modes gs)))

      step :
          count (kills m gs (λ cs. h (0 ∷ cs))) (all_modes gs) * count (λ cs. h (0 ∷ cs)) (all_digits gs) ≡ order_of gs
          → count (kills m (g ∷ gs) h) (all_modes (g ∷ gs)) * count h (all_digits (g ∷ gs)) ≡ order_of (g ∷ gs)
      unfolding order_of
      step ih =
          ap₂ ◌*◌ count-kills count-passing
          ∙ swap (count (kills m gs (λ cs. h (0 ∷ cs))) (all_modes gs)) (count (λ cs. h (0 ∷ cs)) (all_digits gs))
          ∙ ap₂ ◌*◌ product ih
        where
          swap : (x y : ℕ) → x * d * (e * y) ≡ e * d * (x * y)
          swap x y = omega arith

-- the mode lists that are trivial on what passes, times what passes, are as many as the group has elements
pub annihilators :
    (m : ℕ) (gs : List Generator) (h : List ℕ → Bool) → 0 < m → Divides m gs → Closed gs h
    → count (λ ks. every (λ cs. not (h cs) || eqb (phases m gs ks cs % m) 0) (all_digits gs)) (all_modes gs) * count h (all_digits gs)
    ≡ order_of gs
unfolding order_of digits count every phases all_digits all_modes
annihilators m [] h p v closed = rw (closed.zeros-in, zero-mod m)
annihilators m (g ∷ gs) h p v closed =
    step m g gs h p v closed (leader m g gs h p v closed)
    (annihilators m gs (λ cs. h (0 ∷ cs)) p v.2 (tail-closed m g gs h p v closed))
