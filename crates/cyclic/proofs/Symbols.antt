-- A block of a plane as a ring of symbols, runs of bits that are compared: what `Scans` asks of symbols, and what the scan finds as turns of the block.
use Rattle.std.specs.declared.cmp.Ordering.{Ordering}
use Rattle.std.specs.declared.cmp.Ordering.TheVariants.{Less, Equal, Greater}
use Prim.Native.Nat.{ℕ, suc, ◌+◌, ◌*◌, ◌-◌, ◌/◌, ◌%◌, ◌<◌, ◌≤◌, min, max}
use mathlib.Core.Path.{◌≡◌, refl, sym, ◌∙◌, ap, subst, subst₂, fun_ext}
use mathlib.Core.Bool.{Bool, true, false, cond}
use native.Mathlib.Nat.{mod-eq_of_lt, mod-eq-sub-mod, mod-lt, mod-add-div, mod-add-div', div-add-mod, div-add-mod', suc-mul, add-mul-mod_self_right, div-eq_of_lt, div-lt_iff_lt-mul, add-mul, mul_assoc, mul_comm, mul-mod_right, mul-le-mul_right}
use native.Mathlib.Omega.{arith}
use lib.Dec.{ltb, eqb}
use borrow.Author.Tests.{eqb-true, eqb-false, lt-ltb, le-ltb}
use lib.Arith.{digits_lt, digits_div, digits_mod, mod-mul}
use Rattle.packed.specs.Packed.{rotated, LessAt, Compared}
use Rattle.packed.proofs.Masks.{block_end}
use Rattle.cyclic.specs.Narrowing.{around, parted, next_scan, period_of, Narrowed}
use Rattle.cyclic.specs.declared.scan.Scan.{Scan}
use Rattle.cyclic.proofs.BitOrder.{by_order, by_equal, compared, less-same, same-less, LeastRow, least-row}
use Rattle.cyclic.proofs.Scans.{Ring, Alike, Under, Loses, Struck, Scanning, Found, scan-swap, scan-same, scan-less, scan-greater, scan-met, scan-apart, scan-agreed, scan-passed}

-- twice round a ring, one subtraction brings a place back
pub once_round : (p m : ℕ) → m ≤ p → p < m + m → p - m ≡ p % m
once_round p m h l = let s : p - m < m = omega arith in sym (mod-eq-sub-mod h ∙ mod-eq_of_lt s)

-- bit y of symbol a of a block of b bits
abbrev pub symbol : (ℕ → Bool) → ℕ → ℕ → ℕ → ℕ → ℕ → Bool
symbol h b start step a y = h ((start + a * step + y) % b)

-- two symbols are the same
abbrev pub SameSymbol : (ℕ → Bool) → ℕ → ℕ → ℕ → ℕ → ℕ → Type 0
SameSymbol h b start step a c = (y : ℕ) → y < step → symbol h b start step a y ≡ symbol h b start step c y

-- one symbol is less than another
abbrev pub LessSymbol : (ℕ → Bool) → ℕ → ℕ → ℕ → ℕ → ℕ → Type 0
LessSymbol h b start step a c = LessAt step (symbol h b start step a) (symbol h b start step c)

module _ (h : ℕ → Bool) (b start step m : ℕ) (whole : step * m ≡ b) where
  -- a symbol comes again all round
  symbol-again : (a k y : ℕ) → symbol h b start step (a + k * m) y ≡ symbol h b start step a y
  symbol-again a k y =
      let e : (a + k * m) * step ≡ a * step + k * b = add-mul a (k * m) step ∙ ap (λ (x : ℕ). a * step + x) (mul_assoc k m step ∙ ap (λ (x : ℕ). k * x) (mul_comm m step ∙ whole)) in
      let f : start + (a + k * m) * step + y ≡ start + a * step + y + k * b = omega arith in
      ap h (ap (λ (x : ℕ). x % b) f ∙ add-mul-mod_self_right (start + a * step + y) k b)

  -- a symbol by its place once round
  pub symbol-round : (a p : ℕ) → a ≡ p % m → symbol h b start step a ≡ symbol h b start step p
  symbol-round a p e =
      fun_ext (λ y.
      let f : a + p / m * m ≡ p = omega (arith, mod-add-div' p m) in
      sym (symbol-again a (p / m) y) ∙ ap (λ (x : ℕ). symbol h b start step x y) f)

  -- symbols make a ring
  pub symbols-ring : Ring m (SameSymbol h b start step) (LessSymbol h b start step)
  symbols-ring =
      record {
        back = λ e y l. sym (e y l);
        chain = λ e f y l. e y l ∙ f y l;
        round = λ a y l. round a y;
        right = λ a c d l e. less-same step (symbol h b start step a) (symbol h b start step c) (symbol h b start step d) l e;
      }
    where
      round : (a y : ℕ) → symbol h b start step a y ≡ symbol h b start step (a + m) y
      round a y = let e : a + 1 * m ≡ a + m = omega arith in sym (symbol-again a 1 y) ∙ ap (λ (x : ℕ). symbol h b start step x y) e

-- there are no more symbols than bits
pub symbols_fit : (start step m b : ℕ) → start < step → step * m ≡ b → m ≤ b
symbols_fit start step m b l whole = let e : 1 * m ≤ step * m = mul-le-mul_right m (omega arith) in omega arith

-- a symbol ends inside the block
pub symbol_fits : (step m b a p : ℕ) → step * m ≡ b → p < m + m → a ≡ p % m → a * step + step ≤ b
symbol_fits step m b a p whole h e =
    let l : p % m < m = mod-lt p (omega arith) in
    let f : suc a * step ≤ m * step = mul-le-mul_right step (omega arith) in
    omega (arith, suc-mul a step, mul_comm m step)

-- a block turned by r, bit by bit
block_turned : (h : ℕ → Bool) (b r q : ℕ) → q < b → around h b r q ≡ h ((q + r) % b)
unfolding rotated
block_turned h b r q l =
    let e : b * (q / b) ≡ b * 0 = ap (λ (x : ℕ). b * x) (div-eq_of_lt l) in
    let f : (q % b + r) % b ≡ (q + r) % b = ap (λ (x : ℕ). (x + r) % b) (mod-eq_of_lt l) in
    let g : b * (q / b) + (q % b + r) % b ≡ (q + r) % b = omega arith in
    ap h g

-- a number by its rest by step, and the rest of its quotient by period
two_digits : (step period r : ℕ) → 0 < step → 0 < period → r % (step * period) ≡ r / step % period * step + r % step
two_digits step period r a c = ap (λ (x : ℕ). r % x) (mul_comm step period) ∙ mod-mul r c a

-- both rests tell the rest by step times period
pub of_digits : (step period start first r : ℕ) → start < step → first < period → r % step ≡ start → r / step % period ≡ first
    → r % (step * period) ≡ start + first * step
of_digits step period start first r l k d e =
    let f : r / step % period * step ≡ first * step = ap (λ (x : ℕ). x * step) e in
    omega (arith, two_digits step period r (omega arith) (omega arith))

-- and it tells both
pub digits_of : (step period start first r : ℕ) → start < step → first < period → r % (step * period) ≡ start + first * step
    → (r % step ≡ start) × (r / step % period ≡ first)
digits_of step period start first r l k e =
    let low : r % step < step = mod-lt r (omega arith) in
    let f : r / step % period * step + r % step ≡ first * step + start = omega (arith, two_digits step period r (omega arith) (omega arith)) in (
      sym (digits_mod (r / step % period) low) ∙ ap (λ (x : ℕ). x % step) f ∙ digits_mod first l,
      sym (digits_div (r / step % period) low) ∙ ap (λ (x : ℕ). x / step) f ∙ digits_div first l,
    )

-- turn t of a block: by start and t steps
abbrev pub turn_of : (ℕ → Bool) → ℕ → ℕ → ℕ → ℕ → ℕ → Bool
turn_of h b start step t = around h b (start + t * step)

module _ (h : ℕ → Bool) (b start step m : ℕ) (whole : step * m ≡ b) (low : start < step) where
  abbrev E : ℕ → ℕ → Type 0
  E = SameSymbol h b start step

  abbrev L : ℕ → ℕ → Type 0
  L = LessSymbol h b start step

  -- bit y of the symbol k places on
  turn-symbol : (t k y : ℕ) → k < m → y < step → turn_of h b start step t (k * step + y) ≡ symbol h b start step (t + k) y
  turn-symbol t k y l f =
      let g : k * step + y < b = subst (λ (x : ℕ). k * step + y < x) (mul_comm m step ∙ whole) (digits_lt l f) in
      let e : k * step + y + (start + t * step) ≡ start + (t + k) * step + y = omega (arith, add-mul t k step) in
      block_turned h b (start + t * step) (k * step + y) g ∙ ap (λ (x : ℕ). h (x % b)) e

  -- each bit of a turn is of a symbol
  turn_at : (t p : ℕ) → p < b → turn_of h b start step t p ≡ symbol h b start step (t + p / step) (p % step)
  turn_at t p l =
      let pos : 0 < step = omega arith in
      let k : p / step < m = (div-lt_iff_lt-mul pos).1 (subst (λ (x : ℕ). p < x) (sym whole ∙ mul_comm step m) l) in
      ap (turn_of h b start step t) (sym (div-add-mod' p step)) ∙ turn-symbol t (p / step) (p % step) k (mod-lt p pos)

  -- rotations that are alike are turns that are alike
  turn-alike : (t u : ℕ) → Alike E t u → (p : ℕ) → p < b → turn_of h b start step t p ≡ turn_of h b start step u p
  turn-alike t u a p l = turn_at t p l ∙ a (p / step) (p % step) (mod-lt p (omega arith)) ∙ sym (turn_at u p l)

  -- a lesser rotation is a lesser turn
  turn-under : (t u : ℕ) → Under m E L t u → LessAt b (turn_of h b start step t) (turn_of h b start step u)
  turn-under t u (k, l, f, (y, d, g, lo, hi)) =
      (k * step + y, inside, before, turn-symbol t k y l d ∙ lo, turn-symbol u k y l d ∙ hi)
    where
      inside : k * step + y < b
      inside = subst (λ (x : ℕ). k * step + y < x) (mul_comm m step ∙ whole) (digits_lt l d)

      before : (p : ℕ) → p < k * step + y → turn_of h b start step t p ≡ turn_of h b start step u p
      before p o = by_order (k * step) p within ahead
        where
          within : k * step ≤ p → turn_of h b start step t p ≡ turn_of h b start step u p
          within w =
              let e : k * step + (p - k * step) ≡ p = omega arith in
              let z : p - k * step < y = omega arith in
              subst (λ (x : ℕ). turn_of h b start step t x ≡ turn_of h b start step u x) e
              (turn-symbol t k (p - k * step) l (omega arith) ∙ g (p - k * step) z ∙ sym (turn-symbol u k (p - k * step) l (omega arith)))

          ahead : p < k * step → turn_of h b start step t p ≡ turn_of h b start step u p
          ahead w =
              turn_at t p (omega (arith, inside))
              ∙ f (p / step) ((div-lt_iff_lt-mul (omega arith)).1 w) (p % step) (mod-lt p (omega arith))
              ∙ sym (turn_at u p (omega (arith, inside)))

  -- turns come again all round
  turn-round : (t p : ℕ) → p < b → turn_of h b start step (t % m) p ≡ turn_of h b start step t p
  turn-round t p l =
      let e : (t % m + t / m * m) * step ≡ t % m * step + t / m * b = add-mul (t % m) (t / m * m) step ∙ ap (λ (x : ℕ). t % m * step + x) (mul_assoc (t / m) m step ∙ ap (λ (x : ℕ). t / m * x) (mul_comm m step ∙ whole)) in
      let d : (t % m + t / m * m) * step ≡ t * step = ap (λ (x : ℕ). x * step) (mod-add-div' t m) in
      let f : p + (start + t % m * step) + t / m * b ≡ p + (start + t * step) = omega arith in
      block_turned h b (start + t % m * step) p l
      ∙ ap h (sym (add-mul-mod_self_right (p + (start + t % m * step)) (t / m) b) ∙ ap (λ (x : ℕ). x % b) f)
      ∙ sym (block_turned h b (start + t * step) p l)

  -- some turn has none less
  least-turn : 0 < m → (s : ℕ) × ((t : ℕ) → LessAt b (turn_of h b start step t) (turn_of h b start step s) → ⊥)
  least-turn pos = go (least-row b (m - 1) (turn_of h b start step))
    where
      go : (s : ℕ) × LeastRow b (suc (m - 1)) (turn_of h b start step) s → (s : ℕ) × ((t : ℕ) → LessAt b (turn_of h b start step t) (turn_of h b start step s) → ⊥)
      go (s, w) = (
        s,
        λ t k.
            let l : t % m < m = mod-lt t pos in
            w (t % m) (omega arith) (same-less b (turn_of h b start step (t % m)) (turn_of h b start step t) (turn_of h b start step s) (turn-round t) k),
      )

  -- a scan that starts anew
  parted-stands : (i j : ℕ) → Struck m E L i j → Scanning m E L (parted i j).i (parted i j).j 0
  parted-stands i j w = go (eqb i j) refl
    where
      go : (t : Bool) → eqb i j ≡ t → Scanning m E L i (cond (eqb i j) (j + 1) j) 0
      go true e = rw e (scan-met m E L (symbols-ring h b start step m whole) (eqb-true i j e) w)
      go false e = rw e (scan-apart m E L (symbols-ring h b start step m whole) (eqb-false i j e) w)

  -- a scan goes on by what the comparison of its symbols says
  pub scan-next :
      (o : Ordering) (s : Scan) → Scanning m E L s.i s.j s.k → s.k < m
      → Compared o step (symbol h b start step (s.i + s.k)) (symbol h b start step (s.j + s.k))
      → Scanning m E L (next_scan o s).i (next_scan o s).j (next_scan o s).k
  scan-next Less s w l c = parted-stands s.i (s.j + s.k + 1) (scan-less m E L (symbols-ring h b start step m whole) w l c)
  scan-next Equal s w l c = scan-same m E L (symbols-ring h b start step m whole) w c
  scan-next Greater s w l c = parted-stands (s.i + s.k + 1) s.j (scan-greater m E L (symbols-ring h b start step m whole) w l c)

  -- what the scan finds are the turns that give the least bits
  found-narrowed : (first period : ℕ) → 0 < m → Found m E L first period → (s : ℕ) → ((t : ℕ) → LessAt b (turn_of h b start step t) (turn_of h b start step s) → ⊥)
      → Narrowed b b h start step (start + first * step) (step * period)
  found-narrowed first period pos f s w =
      record {
        inside = let l : first * step + start < period * step = digits_lt f.inside low in omega (arith, mul_comm step period);
        divides = divides;
        among = λ r e. (digits_of step period start first r low f.inside e).0;
        ties = λ r u d e t l. like r d t l ∙ sym (like u e t l);
        rest = λ r u d e n. rest r u d e n;
      }
    where
      divides : b % (step * period) ≡ 0
      divides =
          let e : period * (m / period) ≡ m = omega (arith, mod-add-div m period, f.divides) in
          subst (λ (x : ℕ). x % (step * period) ≡ 0) (mul_assoc step period (m / period) ∙ ap (λ (x : ℕ). step * x) e ∙ whole) (mul-mod_right (step * period) (m / period))

      own : (r : ℕ) → r % step ≡ start → (t : ℕ) → around h b r t ≡ turn_of h b start step (r / step) t
      own r e t = let d : r ≡ start + r / step * step = omega (arith, mod-add-div' r step) in ap (λ (x : ℕ). around h b x t) d

      unbeaten : s % period ≡ first
      unbeaten = by_equal (s % period) first (λ e. e) (λ n. absurd (beaten (f.others s n)))
        where
          beaten : Loses m E L s → ⊥
          beaten (t, k) = w t (turn-under t s k)

      like : (r : ℕ) → r % (step * period) ≡ start + first * step → (t : ℕ) → t < b → around h b r t ≡ turn_of h b start step s t
      like r d t l =
          let g = digits_of step period start first r low f.inside d in
          own r g.0 t
          ∙ sym (turn-alike first (r / step) (f.alike (r / step) g.1) t l)
          ∙ turn-alike first s (f.alike s unbeaten) t l

      rest : (r u : ℕ) → r % (step * period) ≡ start + first * step → u % step ≡ start → (u % (step * period) ≡ start + first * step → ⊥) → LessAt b (around h b r) (around h b u)
      rest r u d e n = by-compared (compared b (around h b r) (around h b u))
        where
          never : (t : ℕ) → LessAt b (turn_of h b start step t) (around h b r) → ⊥
          never t k = w t (less-same b (turn_of h b start step t) (around h b r) (turn_of h b start step s) k (like r d))

          lost : Loses m E L (u / step)
          lost = f.others (u / step) (λ g. n (of_digits step period start first u low f.inside e g))

          by-compared : (o : Ordering) × Compared o b (around h b r) (around h b u) → LessAt b (around h b r) (around h b u)
          by-compared (Less, k) = k
          by-compared (Equal, k) = absurd (tied lost)
            where
              tied : Loses m E L (u / step) → ⊥
              tied (t, g) = never t (less-same b (turn_of h b start step t) (turn_of h b start step (u / step)) (around h b r) (turn-under t (u / step) g) (λ q l. sym (own u e q) ∙ sym (k q l)))
          by-compared (Greater, k) = absurd (never (u / step) (same-less b (turn_of h b start step (u / step)) (around h b u) (around h b r) (λ q l. sym (own u e q)) k))

  -- a scan that ended with i before j
  ended : (i j k : ℕ) → 0 < m → i < j → Scanning m E L i j k → (k < m → i < m → j < m → ⊥) → (s : ℕ) → (Loses m E L s → ⊥) → Found m E L i (cond (ltb k m) m (j - i))
  ended i j k pos l w e s u = by_order m k all part
    where
      all : m ≤ k → Found m E L i (cond (ltb k m) m (j - i))
      all g = rw (le-ltb k m g) (scan-agreed m E L (symbols-ring h b start step m whole) pos g l w s u)

      part : k < m → Found m E L i (cond (ltb k m) m (j - i))
      part g =
          let past : m ≤ j = by_order m j (λ y. y) (λ y. absurd (e g (omega arith) y)) in
          rw (lt-ltb k m g) (scan-passed m E L (symbols-ring h b start step m whole) pos l past w s u)

  -- a scan that ended has found the turns that give the least bits
  pub scan-narrowed :
      (s : Scan) → 0 < m → Scanning m E L s.i s.j s.k → (s.k < m → s.i < m → s.j < m → ⊥)
      → Narrowed b b h start step (start + min s.i s.j * step) (step * period_of m s)
  scan-narrowed s pos w e =
      found-narrowed (min s.i s.j) (period_of m s) pos (by_order s.i s.j low_first low-last) least.0 least.1
    where
      least : (s : ℕ) × ((t : ℕ) → LessAt b (turn_of h b start step t) (turn_of h b start step s) → ⊥)
      least = least-turn pos

      firm : Loses m E L least.0 → ⊥
      firm (t, k) = least.1 t (turn-under t least.0 k)

      low_first : s.i ≤ s.j → Found m E L (min s.i s.j) (period_of m s)
      low_first l =
          let n : s.i < s.j = by_equal s.i s.j (λ d. absurd (w.apart d)) (λ d. omega arith) in
          let a : s.i ≡ min s.i s.j = omega arith in
          let c : s.j - s.i ≡ max s.i s.j - min s.i s.j = omega arith in
          subst₂ (λ (x y : ℕ). Found m E L x (cond (ltb s.k m) m y)) a c (ended s.i s.j s.k pos n w e least.0 firm)

      low-last : s.j < s.i → Found m E L (min s.i s.j) (period_of m s)
      low-last l =
          let a : s.j ≡ min s.i s.j = omega arith in
          let c : s.i - s.j ≡ max s.i s.j - min s.i s.j = omega arith in
          subst₂ (λ (x y : ℕ). Found m E L x (cond (ltb s.k m) m y)) a c
          (ended s.j s.i s.k pos l (scan-swap m E L (symbols-ring h b start step m whole) w) (λ x y z. e x z y) least.0 firm)

parted_grows : (i j n : ℕ) → n < i + j → n < (parted i j).i + (parted i j).j + (parted i j).k
parted_grows i j n l = go (eqb i j) refl
  where
    go : (t : Bool) → eqb i j ≡ t → n < i + cond (eqb i j) (j + 1) j + 0
    go true e = rw e (omega arith)
    go false e = rw e (omega arith)

-- a scan's places never come back
pub scan_grows : (o : Ordering) (s : Scan) → s.i + s.j + s.k < (next_scan o s).i + (next_scan o s).j + (next_scan o s).k
scan_grows Less s = parted_grows s.i (s.j + s.k + 1) (s.i + s.j + s.k) (omega arith)
scan_grows Equal s = omega arith
scan_grows Greater s = parted_grows (s.i + s.k + 1) s.j (s.i + s.j + s.k) (omega arith)

-- a block is some whole symbols
pub whole_symbols : (b step : ℕ) → 0 < b → b % step ≡ 0 → (step * (b / step) ≡ b) × (0 < b / step)
whole_symbols b step pos d = (e, by_equal (b / step) 0 (λ z. absurd (none z)) (λ n. omega arith))
  where
    e : step * (b / step) ≡ b
    e = omega (arith, mod-add-div b step)

    none : b / step ≡ 0 → ⊥
    none z = let f : step * (b / step) ≡ step * 0 = ap (λ (x : ℕ). step * x) z in omega (arith, e)

-- before the end of whole blocks there is a block more
pub block_more : (b n base : ℕ) → 0 < b → n % b ≡ 0 → base % b ≡ 0 → base < n → base + b ≤ n
block_more b n base pos whole start l = omega (arith, block_end b n base pos whole l, div-add-mod base b)
