-- The scan for the least rotation, for any ring of m symbols: two places of the ring walk on, and each turn strikes out the rotations from a run of
-- places. Of the symbols nothing is asked but that sameness is one, goes round the ring, and carries the order with it: no rotation is ever said
-- to be least but by one that is known to lose to none.
use Prim.Native.Nat.{ℕ, zero, suc, ◌+◌, ◌*◌, ◌-◌, ◌/◌, ◌%◌, ◌<◌, ◌≤◌, max}
use mathlib.Core.Path.{◌≡◌, sym, subst, subst₂}
use native.Mathlib.Nat.{suc-mul, mod-add-div', mod-lt, mul-mod_left, le-mul_of_pos_right}
use native.Mathlib.Omega.{arith}
use Rattle.cyclic.proofs.BitOrder.{by_equal, by_order}

-- places of a ring of m symbols, at any number: E holds of two places with one symbol, L of a place with a lesser and one with a greater symbol
pub record Ring (m : ℕ) (E L : ℕ → ℕ → Type 0) : Type 0 where
  pub back : {a b : ℕ} → E a b → E b a
  pub chain : {a b c : ℕ} → E a b → E b c → E a c
  pub round : (a : ℕ) → E a (a + m)
  pub right : (a b c : ℕ) → L a b → E b c → L a c

-- the rotations from t and from u are the same
abbrev pub Alike : (ℕ → ℕ → Type 0) → ℕ → ℕ → Type 0
Alike E t u = (x : ℕ) → E (t + x) (u + x)

-- the rotation from t is less than that from u
abbrev pub Under : ℕ → (ℕ → ℕ → Type 0) → (ℕ → ℕ → Type 0) → ℕ → ℕ → Type 0
Under m E L t u = (k : ℕ) × (k < m) × ((x : ℕ) → x < k → E (t + x) (u + x)) × L (t + k) (u + k)

-- some rotation is less than that from u
abbrev pub Loses : ℕ → (ℕ → ℕ → Type 0) → (ℕ → ℕ → Type 0) → ℕ → Type 0
Loses m E L u = (t : ℕ) × Under m E L t u

-- the rotations from below the greater of i and j all lose, but perhaps those from i and j
abbrev pub Struck : ℕ → (ℕ → ℕ → Type 0) → (ℕ → ℕ → Type 0) → ℕ → ℕ → Type 0
Struck m E L i j = (t : ℕ) → t < max i j → (t ≡ i → ⊥) → (t ≡ j → ⊥) → Loses m E L t

-- what holds as the scan stands at i, j and k: the rotations from i and j agree at k places
pub record Scanning (m : ℕ) (E L : ℕ → ℕ → Type 0) (i j k : ℕ) : Type 0 where
  pub apart : i ≡ j → ⊥
  pub agree : (x : ℕ) → x < k → E (i + x) (j + x)
  pub struck : Struck m E L i j

-- what the scan finds: the rotations from start, start + period .. are the same and lose to none, and all others lose
pub record Found (m : ℕ) (E L : ℕ → ℕ → Type 0) (start period : ℕ) : Type 0 where
  pub inside : start < period
  pub divides : m % period ≡ 0
  pub alike : (t : ℕ) → t % period ≡ start → Alike E start t
  pub others : (t : ℕ) → (t % period ≡ start → ⊥) → Loses m E L t
  pub wins : Loses m E L start → ⊥

module _ (m : ℕ) (E L : ℕ → ℕ → Type 0) (ring : Ring m E L) where
  -- the two places of a scan may be exchanged
  pub scan-swap : {i j k : ℕ} → Scanning m E L i j k → Scanning m E L j i k
  scan-swap {i} {j} {k} s =
      record {
        apart = λ e. s.apart (sym e);
        agree = λ x h. ring.back (s.agree x h);
        struck = λ t h a b. s.struck t (omega arith) b a;
      }

  -- a scan starts at places 0 and 1
  pub scan-start : Scanning m E L 0 1 0
  scan-start =
      record {
        apart = λ e. omega arith;
        agree = λ x h. absurd (omega arith);
        struck = λ t h a b. absurd (a (omega arith));
      }

  -- the same symbols: they agree at one place more
  pub scan-same : {i j k : ℕ} → Scanning m E L i j k → E (i + k) (j + k) → Scanning m E L i j (k + 1)
  scan-same {i} {j} {k} s e =
      record {
        apart = s.apart;
        agree = λ x h. by_equal x k (λ q. subst (λ (y : ℕ). E (i + y) (j + y)) (sym q) e) (λ n. s.agree x (omega arith));
        struck = s.struck;
      }

  -- the rotation from i + d loses to that from j + d, for each d up to the place where they differ
  passed : {i j k : ℕ} → Scanning m E L i j k → k < m → L (j + k) (i + k) → (d : ℕ) → d ≤ k → Loses m E L (i + d)
  passed {i} {j} {k} s h l d f =
      let a : j + k ≡ j + d + (k - d) = omega arith in
      let b : i + k ≡ i + d + (k - d) = omega arith in
      (j + d, (k - d, omega arith, (λ x g. before x g), subst₂ L a b l))
    where
      before : (x : ℕ) → x < k - d → E (j + d + x) (i + d + x)
      before x g =
          let a : j + (d + x) ≡ j + d + x = omega arith in
          let b : i + (d + x) ≡ i + d + x = omega arith in
          subst₂ E a b (ring.back (s.agree (d + x) (omega arith)))

  -- a greater symbol at i: the places up to it are struck out
  pub scan-greater : {i j k : ℕ} → Scanning m E L i j k → k < m → L (j + k) (i + k) → Struck m E L (i + k + 1) j
  scan-greater {i} {j} {k} s h l t f a b = by_order i t (λ g. by_order t (i + k) (inside g) above) (λ g. s.struck t (omega arith) (λ e. omega arith) b)
    where
      inside : i ≤ t → t ≤ i + k → Loses m E L t
      inside g g' =
          let d : (d : ℕ) × (t ≡ i + d) = (t - i, omega arith) in
          subst (Loses m E L) (sym d.1) (passed s h l d.0 (omega arith))

      above : i + k < t → Loses m E L t
      above g = s.struck t (omega arith) (λ e. omega arith) b

  -- a lesser symbol at i: the places of j up to it are struck out
  pub scan-less : {i j k : ℕ} → Scanning m E L i j k → k < m → L (i + k) (j + k) → Struck m E L i (j + k + 1)
  scan-less {i} {j} {k} s h l t f a b = scan-greater (scan-swap s) h l t (omega arith) b a

  -- two places apart go on from the start of their rotations
  pub scan-apart : {i j : ℕ} → (i ≡ j → ⊥) → Struck m E L i j → Scanning m E L i j 0
  scan-apart n s = record { apart = n; agree = λ x h. absurd (omega arith); struck = s }

  -- two places that met: one moves on
  pub scan-met : {i j : ℕ} → i ≡ j → Struck m E L i j → Scanning m E L i (j + 1) 0
  scan-met {i} {j} e s =
      record {
        apart = λ f. omega arith;
        agree = λ x h. absurd (omega arith);
        struck = λ t h a b. s t (omega arith) a (omega arith);
      }

  -- the ring has a period p
  abbrev Periodic : ℕ → Type 0
  Periodic p = (a : ℕ) → E a (a + p)

  steps : (p : ℕ) → Periodic p → (q a : ℕ) → E a (a + q * p)
  steps p h zero a = subst (λ (b : ℕ). E a b) (omega arith) (ring.chain (ring.round a) (ring.back (ring.round a)))
  steps p h (suc q) a =
      let e : a + q * p + p ≡ a + suc q * p = omega (arith, suc-mul q p) in
      subst (λ (b : ℕ). E a b) e (ring.chain (steps p h q a) (h (a + q * p)))

  -- a rotation is that from its place's rest by a period
  residue : (p : ℕ) → Periodic p → (t : ℕ) → Alike E (t % p) t
  residue p h t x =
      let e : t % p + x + t / p * p ≡ t + x = omega (arith, mod-add-div' t p) in
      subst (λ (b : ℕ). E (t % p + x) b) e (steps p h (t / p) (t % p + x))

  -- what is alike loses alike
  loses-alike : (t u : ℕ) → Alike E t u → Loses m E L t → Loses m E L u
  loses-alike t u a (v, (k, h, f, l)) = (v, (k, h, (λ x g. ring.chain (f x g) (a x)), ring.right (v + k) (t + k) (u + k) l (a k)))

  module _ {i j : ℕ} (struck : Struck m E L i j) (p : ℕ) (pos : 0 < p) (low : i < j) (fits : p ≤ j) (periodic : Periodic p) where
    others : (t : ℕ) → (t % p ≡ i → ⊥) → Loses m E L t
    others t n =
        let l : t % p < p = mod-lt t pos in
        loses-alike (t % p) t (residue p periodic t) (struck (t % p) (omega arith) n (λ e. omega arith))

    stays : (t : ℕ) → (Loses m E L t → ⊥) → t % p ≡ i
    stays t w = by_equal (t % p) i (λ e. e) (λ n. absurd (w (others t n)))

    -- a period up to which all places but i are struck out is what is looked for, if any rotation loses to none
    found : (s : ℕ) → (Loses m E L s → ⊥) → Found m E L i p
    found s w =
        record {
          inside = let l : s % p < p = mod-lt s pos in let e : s % p ≡ i = stays s w in omega arith;
          divides = whole;
          alike = λ t e. subst (λ (a : ℕ). Alike E a t) e (residue p periodic t);
          others = others;
          wins = wins;
        }
      where
        wins : Loses m E L i → ⊥
        wins l = w (loses-alike i s (subst (λ (a : ℕ). Alike E a s) (stays s w) (residue p periodic s)) l)

        after : Alike E (i + m) i
        after x =
            let e : i + x + m ≡ i + m + x = omega arith in
            ring.back (subst (λ (b : ℕ). E (i + x) b) e (ring.round (i + x)))

        whole : m % p ≡ 0
        whole =
            let e : (i + m) % p ≡ i = stays (i + m) (λ l. wins (loses-alike (i + m) i after l)) in
            let f : m ≡ (i + m) / p * p = omega (arith, mod-add-div' (i + m) p) in
            subst (λ (a : ℕ). a % p ≡ 0) (sym f) (mul-mod_left ((i + m) / p) p)

  -- where two rotations agree all round, the ring has the period between them
  apart-period : {i j k : ℕ} → 0 < m → m ≤ k → i < j → Scanning m E L i j k → Periodic (j - i)
  apart-period {i} {j} {k} pos all low s a =
      let far : i ≤ i * m = le-mul_of_pos_right i pos in
      let x : ℕ = a + i * m - i in
      let e : i + x ≡ a + i * m = omega arith in
      let f : j + x ≡ a + (j - i) + i * m = omega arith in
      ring.chain (steps m ring.round i a)
      (ring.chain (subst₂ E e f (every x)) (ring.back (steps m ring.round i (a + (j - i)))))
    where
      at : (b x : ℕ) → E (b + x % m) (b + x)
      at b x =
          let e : x % m + b ≡ b + x % m = omega arith in
          let f : x + b ≡ b + x = omega arith in
          subst₂ E e f (residue m ring.round x b)

      every : (x : ℕ) → E (i + x) (j + x)
      every x =
          let l : x % m < m = mod-lt x pos in
          ring.chain (ring.back (at i x)) (ring.chain (s.agree (x % m) (omega arith)) (at j x))

  -- a scan that agreed all round has found the first place, with the distance of the two as the period
  pub scan-agreed : {i j k : ℕ} → 0 < m → m ≤ k → i < j → Scanning m E L i j k → (s : ℕ) → (Loses m E L s → ⊥) → Found m E L i (j - i)
  scan-agreed {i} {j} {k} pos all low s = found s.struck (j - i) (omega arith) low (omega arith) (apart-period pos all low s)

  -- a scan one of whose places passed the ring has found the other, with no period but the ring
  pub scan-passed : {i j k : ℕ} → 0 < m → i < j → m ≤ j → Scanning m E L i j k → (s : ℕ) → (Loses m E L s → ⊥) → Found m E L i m
  scan-passed {i} {j} {k} pos low past s = found s.struck m pos low past ring.round
