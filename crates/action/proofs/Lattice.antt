-- The shifts along the axes of a lattice are valid generators: they permute the sites, have the sides as their exact orders, and commute
-- (`shifts-valid`). The four named lattices are cases of it, and where their generators send a site is said by its coordinates (`chain-sends` and
-- those after it).
-- What carries it: a site is l + stride c + stride side h with l < stride and c < side, and l, c and h can be read off it (`site-low`, `site-place`,
-- `site-high`), so that a shift turns c into (c + 1) mod side and leaves l and h.
use Prim.Native.Nat.{ℕ, zero, suc, ◌+◌, ◌*◌, ◌/◌, ◌%◌, ◌<◌, ◌∣◌}
use mathlib.Core.Path.{◌≡◌, refl, sym, ◌∙◌, ap}
use mathlib.Core.Logic.{inl, inr}
use mathlib.Core.List.{List, [], ◌∷◌, map}
use native.Mathlib.Nat.{
  add-mod_right,
  add-zero,
  div-div-eq-div-mul,
  div-lt_iff_lt-mul,
  dvd_antisymm,
  dvd-mul_left,
  dvd-mul_right,
  dvd_of_mod-eq-zero,
  dvd_refl,
  dvd_trans,
  le_of_suc-le-suc,
  mod-add-div,
  mod-add-mod,
  mod-lt,
  mod-mod,
  mul-div_cancel',
  mul-pos,
  pos_of_dvd_of_pos,
  zero-add,
  zero-div,
  zero-mod,
}
use native.Mathlib.Omega.{arith}
use lib.Arith.{digits_lt, digits_div, digits_mod}
use lib.ListN.{length, get_or, length-map}
use Rattle.action.specs.Arithmetic.{product}
use Rattle.action.specs.Lists.{from, below, Member}
use Rattle.action.specs.Permutation.{Generator, target, sends, after, exact_order, Permutes, Commute, Valid}
use Rattle.action.specs.Index.{order_of}
use Rattle.action.specs.Lattice.{shifted, shift, shifts, chain, ladder, torus2, torus3}
use Rattle.action.proofs.Lists.{length-below}
use Rattle.action.proofs.ExactOrders.{order_divides, order-returns}

-- a shift's target

get_d_map-from : (f : ℕ → ℕ) (n a q : ℕ) → q < n → get_or (map f (from a n)) q 0 ≡ f (a + q)
unfolding from
get_d_map-from f zero a q h = absurd (omega arith)
get_d_map-from f (suc n) a zero h = ap f (omega arith)
get_d_map-from f (suc n) a (suc q) h = get_d_map-from f n (suc a) q (le_of_suc-le-suc h) ∙ ap f (omega arith)

pub target-shift : (n stride side q : ℕ) → q < n → target (shift n stride side).perm q ≡ shifted stride side q
unfolding shift below
target-shift n stride side q h = get_d_map-from (shifted stride side) n 0 q h ∙ ap (shifted stride side) (zero-add q)

-- the coordinates of a site

-- the site at place c of an axis, with l in front of the axis and h behind it
abbrev site : ℕ → ℕ → ℕ → ℕ → ℕ → ℕ
site s a l c h = l + s * c + s * a * h

module _ (s a : ℕ) where
  site-split : (l c h : ℕ) → site s a l c h ≡ (h * a + c) * s + l
  site-split l c h = omega arith

  site-low : (l c h : ℕ) → l < s → site s a l c h % s ≡ l
  site-low l c h p = rw (site-split l c h) (digits_mod (h * a + c) p)

  site-rest : (l c h : ℕ) → l < s → site s a l c h / s ≡ h * a + c
  site-rest l c h p = rw (site-split l c h) (digits_div (h * a + c) p)

  site-place : (l c h : ℕ) → l < s → c < a → site s a l c h / s % a ≡ c
  site-place l c h p r = rw (site-rest l c h p) (digits_mod h r)

  site-high : (l c h : ℕ) → l < s → c < a → site s a l c h / (s * a) ≡ h
  site-high l c h p r = rw (← div-div-eq-div-mul (site s a l c h) s a, site-rest l c h p) (digits_div h r)

  -- each site is the site of its coordinates
  site-of : (q : ℕ) → site s a (q % s) (q / s % a) (q / (s * a)) ≡ q
  site-of q = rw (← div-div-eq-div-mul q s a) (omega (arith, mod-add-div q s, ap (λ (x : ℕ). s * x) (mod-add-div (q / s) a)))

  shifted-site : (l c h : ℕ) → l < s → c < a → shifted s a (site s a l c h) ≡ site s a l ((c + 1) % a) h
  unfolding shifted
  shifted-site l c h p r = rw (site-low l c h p, site-place l c h p r, site-high l c h p r)

-- an axis of a lattice of n sites: `side` places that are `stride` sites apart, so that stride * side sites are one round of it, and n sites are
-- whole rounds
record Axis (n stride side : ℕ) : Type 0 where
  sites-positive : 0 < n
  whole : stride * side ∣ n

-- the last axis: all sites are one round
axis_last : {s a : ℕ} → 0 < s → 0 < a → Axis (s * a) s a
axis_last {s} {a} p r = record { sites-positive = mul-pos p r; whole = dvd_refl (s * a) }

-- an axis of the sites in front of another axis is an axis of all sites
axis_within : {n s a t b : ℕ} → Axis t s a → Axis n t b → Axis n s a
axis_within {n} {s} {a} {t} {b} x y = record {
  sites-positive = y.sites-positive;
  whole = dvd_trans (s * a) x.whole (dvd_trans t (dvd-mul_right t b) y.whole);
}

-- two sites that the same number of applications brings back are equal if their targets are
returns_apart :
    (perm : List ℕ) (c p q : ℕ) → 0 < c → after perm c p ≡ p → after perm c q ≡ q → target perm p ≡ target perm q → p ≡ q
unfolding after
returns_apart perm zero p q h u v e = absurd (omega arith)
returns_apart perm (suc c) p q h u v e = sym u ∙ ap (after perm c) e ∙ v

module _ {n s a : ℕ} (x : Axis n s a) where
  stride-positive : 0 < s
  stride-positive = pos_of_dvd_of_pos (dvd_trans s (dvd-mul_right s a) x.whole) x.sites-positive

  side-positive : 0 < a
  side-positive = pos_of_dvd_of_pos (dvd_trans a (dvd-mul_left a s) x.whole) x.sites-positive

  all-rounds : s * a * (n / (s * a)) ≡ n
  all-rounds = mul-div_cancel' (s * a) x.whole

  shifted-below : (q : ℕ) → q < n → shifted s a q < n
  unfolding shifted
  shifted-below q h =
      omega (arith, all-rounds, digits_lt high (digits_lt (mod-lt (q / s % a + 1) side-positive) (mod-lt q stride-positive)))
    where
      high : q / (s * a) < n / (s * a)
      high = (div-lt_iff_lt-mul (mul-pos stride-positive side-positive)).1 (omega (arith, all-rounds))

  -- a shift of n sites does not touch what stands behind them
  shifted-add : (q y : ℕ) → shifted s a (q + n * y) ≡ shifted s a q + n * y
  unfolding shifted
  shifted-add q y =
      let behind : s * a * (n / (s * a)) * y ≡ n * y = ap (λ (z : ℕ). z * y) all-rounds in
      ap (shifted s a) (omega (arith, site-of s a q))
      ∙ shifted-site s a (q % s) (q / s % a) (q / (s * a) + n / (s * a) * y) (mod-lt q stride-positive) (mod-lt (q / s) side-positive)
      ∙ omega arith

  -- c applications add c to the place
  after-shift : (c q : ℕ) → q < n → after (shift n s a).perm c q ≡ site s a (q % s) ((q / s % a + c) % a) (q / (s * a))
  unfolding after shifted
  after-shift zero q h = rw (add-zero, mod-mod) (sym (site-of s a q))
  after-shift (suc c) q h =
      rw (target-shift n s a q h)
      (after-shift c (shifted s a q) (shifted-below q h)
      ∙ rw (site-low s a l i k low, site-place s a l i k low place, site-high s a l i k low place, mod-add-mod (q / s % a + 1) a c)
      (ap (λ (z : ℕ). site s a l (z % a) k) (omega arith)))
    where
      l : ℕ
      l = q % s

      i : ℕ
      i = (q / s % a + 1) % a

      k : ℕ
      k = q / (s * a)

      low : l < s
      low = mod-lt q stride-positive

      place : i < a
      place = mod-lt (q / s % a + 1) side-positive

  shift-returns : (q : ℕ) → q < n → after (shift n s a).perm a q ≡ q
  shift-returns q h = after-shift a q h ∙ rw (add-mod_right, mod-mod) (site-of s a q)

  shift-permutes : Permutes n (shift n s a).perm
  shift-permutes = record {
    long = unfold shift in length-map (below n) (shifted s a) ∙ length-below n;
    inside = λ q h. rw (target-shift n s a q h) (shifted-below q h);
    apart = λ p q h k e. returns_apart (shift n s a).perm a p q side-positive (shift-returns p h) (shift-returns q k) e;
  }

  -- the exact order's applications bring site 0 from place 0 to the place exact_order mod side, and they bring it back
  shift-exact : a ≡ exact_order (shift n s a).perm
  shift-exact = dvd_antisymm (dvd_of_mod-eq-zero a back) (order_divides shift-permutes a shift-returns)
    where
      e : ℕ
      e = exact_order (shift n s a).perm

      back : e % a ≡ 0
      back =
          simp (zero-div, zero-mod, zero-add) at
          (sym (site-place s a (0 % s) ((0 / s % a + e) % a) (0 / (s * a)) (mod-lt 0 stride-positive) (mod-lt (0 / s % a + e) side-positive))
          ∙ ap (λ (z : ℕ). z / s % a) (sym (after-shift e 0 x.sites-positive) ∙ order-returns shift-permutes 0 x.sites-positive))

-- the shift along an axis in front of another moves q % t, which the other leaves, and leaves q / t, which the other moves
shifted_commute : {n s a t b : ℕ} → Axis t s a → Axis n t b → (q : ℕ) → shifted s a (shifted t b q) ≡ shifted t b (shifted s a q)
unfolding shifted
shifted_commute {n} {s} {a} {t} {b} x y q =
    ap (shifted s a) (omega arith)
    ∙ shifted-add x l (d + b * h)
    ∙ omega arith
    ∙ sym (shifted-site t b (shifted s a l) c h (shifted-below x l (mod-lt q (stride-positive y))) (mod-lt (q / t) (side-positive y)))
    ∙ ap (shifted t b) (omega (arith, shifted-add x l (c + b * h), ap (shifted s a) whole))
  where
    l : ℕ
    l = q % t

    c : ℕ
    c = q / t % b

    d : ℕ
    d = (c + 1) % b

    h : ℕ
    h = q / (t * b)

    whole : q ≡ l + t * (c + b * h)
    whole = omega (arith, site-of t b q)

shift_commute : {n s a t b : ℕ} → Axis t s a → Axis n t b → Commute n (shift n s a).perm (shift n t b).perm
shift_commute {n} {s} {a} {t} {b} x y q h =
    rw (
      target-shift n t b q h,
      target-shift n s a q h,
      target-shift n s a (shifted t b q) (shifted-below y q h),
      target-shift n t b (shifted s a q) (shifted-below (axis_within x y) q h),
    )
    (shifted_commute x y q)

-- any list of axes

valid_nil : (n : ℕ) → Valid n []
valid_nil n = record { permutes = λ g m. absurd m; exact = λ g m. absurd m; commute = λ g h m k. absurd m }

-- one more axis, whose shift commutes with the others
shift_cons :
    {n s a : ℕ} {gs : List Generator} → Axis n s a → ((g : Generator) → Member g gs → Commute n (shift n s a).perm g.perm) → Valid n gs
    → Valid n (shift n s a ∷ gs)
shift_cons {n} {s} {a} {gs} x along v = record { permutes = permutes; exact = exact; commute = commute }
  where
    permutes : (g : Generator) → Member g (shift n s a ∷ gs) → Permutes n g.perm
    permutes g (inl e) = rw e (shift-permutes x)
    permutes g (inr m) = v.permutes g m

    exact : (g : Generator) → Member g (shift n s a ∷ gs) → g.order ≡ exact_order g.perm
    exact g (inl e) = rw e (unfold shift in shift-exact x)
    exact g (inr m) = v.exact g m

    commute : (g h : Generator) → Member g (shift n s a ∷ gs) → Member h (shift n s a ∷ gs) → Commute n g.perm h.perm
    commute g h (inl e) (inl f) = rw (e, f) (λ q l. refl)
    commute g h (inl e) (inr m) = rw e (along h m)
    commute g h (inr m) (inl f) = rw f (λ q l. sym (along g m q l))
    commute g h (inr m) (inr k) = v.commute g h m k

-- n sites that are `rounds` times what some axes span
module _ {n : ℕ} (some : 0 < n) where
  -- the first of the axes, and those behind it
  axis-first : (s a : ℕ) (sides : List ℕ) (rounds : ℕ) → s * product (a ∷ sides) * rounds ≡ n → Axis n s a
  unfolding product
  axis-first s a sides rounds e =
      let whole : s * a * (product sides * rounds) ≡ n = omega arith in
      record { sites-positive = some; whole = rw (← whole) (dvd-mul_right (s * a) (product sides * rounds)) }

  sides-behind : (s a : ℕ) (sides : List ℕ) (rounds : ℕ) → s * product (a ∷ sides) * rounds ≡ n → s * a * product sides * rounds ≡ n
  unfolding product
  sides-behind s a sides rounds e = omega arith

  -- the shift along an axis commutes with the shifts along those behind it
  shifts-commute :
      {s a t : ℕ} → Axis t s a → (sides : List ℕ) (rounds : ℕ) → t * product sides * rounds ≡ n → (g : Generator) → Member g (shifts n t sides)
      → Commute n (shift n s a).perm g.perm
  unfolding shifts
  shifts-commute x [] rounds e g m = absurd m
  shifts-commute {t = t} x (b ∷ sides) rounds e g (inl i) = rw i (shift_commute x (axis-first t b sides rounds e))
  shifts-commute {t = t} x (b ∷ sides) rounds e g (inr m) =
      let y = axis-first t b sides rounds e in
      shifts-commute {t = t * b} (axis_within x (axis_last (stride-positive y) (side-positive y))) sides rounds (sides-behind t b sides rounds e) g m

  -- each side is the exact order of its shift, and the shifts permute the sites and commute
  pub shifts_valid : (stride : ℕ) (sides : List ℕ) (rounds : ℕ) → stride * product sides * rounds ≡ n → Valid n (shifts n stride sides)
  unfolding shifts
  shifts_valid s [] rounds e = valid_nil n
  shifts_valid s (a ∷ sides) rounds e =
      let x = axis-first s a sides rounds e in
      let behind = sides-behind s a sides rounds e in
      shift_cons x (shifts-commute (axis_last (stride-positive x) (side-positive x)) sides rounds behind) (shifts_valid (s * a) sides rounds behind)

-- the group order is the product of the sides
pub shifts_order : (n stride : ℕ) (sides : List ℕ) → order_of (shifts n stride sides) ≡ product sides
unfolding shifts order_of product
shifts_order n s [] = refl
shifts_order n s (a ∷ sides) = ap (λ (k : ℕ). a * k) (shifts_order n (s * a) sides)

pub shifts-length : (n stride : ℕ) (sides : List ℕ) → length (shifts n stride sides) ≡ length sides
unfolding shifts
shifts-length n s [] = refl
shifts-length n s (a ∷ sides) = ap suc (shifts-length n (s * a) sides)

-- the four lattices

pub chain_valid : (n : ℕ) → 0 < n → Valid n (chain n)
unfolding chain product
chain_valid n p = shifts_valid p 1 (n ∷ []) 1 (omega arith)

pub ladder_valid : (l legs : ℕ) → 0 < l → 0 < legs → Valid (l * legs) (ladder l legs)
unfolding ladder product
ladder_valid l legs p r = shifts_valid (mul-pos p r) 1 (l ∷ []) legs (omega arith)

pub torus2_valid : (lx ly : ℕ) → 0 < lx → 0 < ly → Valid (lx * ly) (torus2 lx ly)
unfolding torus2 product
torus2_valid lx ly p r = shifts_valid (mul-pos p r) 1 (lx ∷ ly ∷ []) 1 (omega arith)

pub torus3_valid : (lx ly lz : ℕ) → 0 < lx → 0 < ly → 0 < lz → Valid (lx * ly * lz) (torus3 lx ly lz)
unfolding torus3 product
torus3_valid lx ly lz p r u = shifts_valid (mul-pos (mul-pos p r) u) 1 (lx ∷ ly ∷ lz ∷ []) 1 (omega arith)

-- the shift along an axis moves the site at place c to place c + 1, round at the end, and leaves what is in front of the axis and behind it
shift-site :
    (n s a l c h : ℕ) → l < s → c < a → (q : ℕ) → q < n → q ≡ site s a l c h → target (shift n s a).perm q ≡ site s a l ((c + 1) % a) h
shift-site n s a l c h low place q r e = target-shift n s a q r ∙ ap (shifted s a) e ∙ shifted-site s a l c h low place

pub chain-sends : (n j : ℕ) → j < n → sends (chain n) 0 j ≡ (j + 1) % n
unfolding chain sends
chain-sends n j p = shift-site n 1 n 0 j 0 (omega arith) p j p (omega arith) ∙ omega arith

pub ladder-sends : (l legs j leg : ℕ) → j < l → leg < legs → sends (ladder l legs) 0 (leg * l + j) ≡ leg * l + (j + 1) % l
unfolding ladder sends
ladder-sends l legs j leg p r =
    shift-site (l * legs) 1 l 0 j leg (omega arith) p (leg * l + j) (omega (arith, digits_lt r p)) (omega arith) ∙ omega arith

module _ (lx ly i j : ℕ) (p : i < lx) (r : j < ly) where
  torus2-inside : j * lx + i < lx * ly
  torus2-inside = omega (arith, digits_lt r p)

  pub torus2-sends-x : sends (torus2 lx ly) 0 (j * lx + i) ≡ j * lx + (i + 1) % lx
  unfolding torus2 sends
  torus2-sends-x = shift-site (lx * ly) 1 lx 0 i j (omega arith) p (j * lx + i) torus2-inside (omega arith) ∙ omega arith

  pub torus2-sends-y : sends (torus2 lx ly) 1 (j * lx + i) ≡ (j + 1) % ly * lx + i
  unfolding torus2 sends
  torus2-sends-y = shift-site (lx * ly) (1 * lx) ly i j 0 (omega arith) r (j * lx + i) torus2-inside (omega arith) ∙ omega arith

module _ (lx ly lz i j k : ℕ) (p : i < lx) (r : j < ly) (u : k < lz) where
  torus3-inside : k * lx * ly + j * lx + i < lx * ly * lz
  torus3-inside = omega (arith, digits_lt u (digits_lt r p))

  pub torus3-sends-x : sends (torus3 lx ly lz) 0 (k * lx * ly + j * lx + i) ≡ k * lx * ly + j * lx + (i + 1) % lx
  unfolding torus3 sends
  torus3-sends-x =
      shift-site (lx * ly * lz) 1 lx 0 i (k * ly + j) (omega arith) p (k * lx * ly + j * lx + i) torus3-inside (omega arith) ∙ omega arith

  pub torus3-sends-y : sends (torus3 lx ly lz) 1 (k * lx * ly + j * lx + i) ≡ k * lx * ly + (j + 1) % ly * lx + i
  unfolding torus3 sends
  torus3-sends-y =
      shift-site (lx * ly * lz) (1 * lx) ly i j k (omega arith) r (k * lx * ly + j * lx + i) torus3-inside (omega arith) ∙ omega arith

  pub torus3-sends-z : sends (torus3 lx ly lz) 2 (k * lx * ly + j * lx + i) ≡ (k + 1) % lz * lx * ly + j * lx + i
  unfolding torus3 sends
  torus3-sends-z =
      shift-site (lx * ly * lz) (1 * lx * ly) lz (j * lx + i) k 0 (omega (arith, digits_lt r p)) u (k * lx * ly + j * lx + i) torus3-inside
      (omega arith)
      ∙ omega arith
