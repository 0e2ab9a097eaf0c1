-- Bits ordered by the first that differs: the order is strict, any two rows of bits stand in it or are the same, and so among finitely many one is least.
use Rattle.std.specs.declared.cmp.Ordering.{Ordering}
use Rattle.std.specs.declared.cmp.Ordering.TheVariants.{Less, Equal, Greater}
use Prim.Native.Nat.{ℕ, zero, suc, ◌<◌, ◌≤◌}
use mathlib.Core.Path.{◌≡◌, refl, sym, ◌∙◌, subst}
use mathlib.Core.Logic.{◌⊎◌, inl, inr}
use mathlib.Core.Bool.{Bool, true, false, not, beq, true≢false, false≢true}
use native.Mathlib.Decide.{ℕ_discrete, dec_le}
use native.Mathlib.Omega.{arith}
use Rattle.packed.specs.Packed.{LessAt, Compared}

-- numbers that are equal or not, by cases
pub by_equal : {A : Type 0} (a b : ℕ) → (a ≡ b → A) → ((a ≡ b → ⊥) → A) → A
by_equal {A} a b f g = go (ℕ_discrete a b)
  where
    go : Dec (a ≡ b) → A
    go (yes e) = f e
    go (no n) = g n

-- the order of two numbers, by cases
pub by_order : {A : Type 0} (a b : ℕ) → (a ≤ b → A) → (b < a → A) → A
by_order {A} a b f g = go (dec_le a b)
  where
    go : Dec (a ≤ b) → A
    go (yes e) = f e
    go (no n) = g (omega arith)

-- where the test `a != b` of two bits fails, they are the same
pub bit-same : (a b : Bool) → not (beq a b) ≡ false → a ≡ b
bit-same true true h = refl
bit-same false false h = refl
bit-same true false h = absurd (true≢false h)
bit-same false true h = absurd (true≢false h)

-- where it holds, each is the other's opposite
pub bit-apart : (a b : Bool) → not (beq a b) ≡ true → b ≡ not a
bit-apart true true h = absurd (false≢true h)
bit-apart false false h = absurd (false≢true h)
bit-apart true false h = refl
bit-apart false true h = refl

-- one bit more that agrees
pub same_more : (f g : ℕ → Bool) (n : ℕ) → ((q : ℕ) → q < n → f q ≡ g q) → f n ≡ g n → (q : ℕ) → q < suc n → f q ≡ g q
same_more f g n h e q l = by_equal q n (λ d. subst (λ (x : ℕ). f x ≡ g x) (sym d) e) (λ d. h q (omega arith))

-- more bits leave a lesser row lesser
pub less-longer : (n m : ℕ) (f g : ℕ → Bool) → n ≤ m → LessAt n f g → LessAt m f g
less-longer n m f g h (q, l, s, a, b) = (q, omega arith, s, a, b)

-- how the first n bits stand to each other
pub compared : (n : ℕ) (f g : ℕ → Bool) → (o : Ordering) × Compared o n f g
compared zero f g = (Equal, λ q h. absurd (omega arith))
compared (suc n) f g = go (compared n f g)
  where
    last : (a b : Bool) → f n ≡ a → g n ≡ b → ((q : ℕ) → q < n → f q ≡ g q) → (o : Ordering) × Compared o (suc n) f g
    last true true p r h = (Equal, same_more f g n h (p ∙ sym r))
    last false false p r h = (Equal, same_more f g n h (p ∙ sym r))
    last false true p r h = (Less, (n, omega arith, h, p, r))
    last true false p r h = (Greater, (n, omega arith, (λ q l. sym (h q l)), r, p))

    go : (o : Ordering) × Compared o n f g → (o : Ordering) × Compared o (suc n) f g
    go (Less, h) = (Less, less-longer n (suc n) f g (omega arith) h)
    go (Equal, h) = last (f n) (g n) refl refl h
    go (Greater, h) = (Greater, less-longer n (suc n) g f (omega arith) h)

-- no row of bits is less than itself
pub less-not : (n : ℕ) (f g : ℕ → Bool) → ((q : ℕ) → q < n → f q ≡ g q) → LessAt n f g → ⊥
less-not n f g h (q, l, s, a, b) = true≢false (sym b ∙ sym (h q l) ∙ a)

-- the order is transitive
pub less-chain : (n : ℕ) (f g h : ℕ → Bool) → LessAt n f g → LessAt n g h → LessAt n f h
less-chain n f g h (q, l, s, a, b) (r, m, t, c, d) = by_order q r (λ o. by_equal q r same (below o)) above
  where
    same : q ≡ r → LessAt n f h
    same e = absurd (true≢false (sym b ∙ subst (λ (x : ℕ). g x ≡ false) (sym e) c))

    below : q ≤ r → (q ≡ r → ⊥) → LessAt n f h
    below k e = let o : q < r = omega arith in (q, l, (λ p k. s p k ∙ t p (omega arith)), a, sym (t q o) ∙ b)

    above : r < q → LessAt n f h
    above o = (r, m, (λ p k. s p (omega arith) ∙ t p k), s r o ∙ c, d)

-- bits that are the same are less than the same
pub less-same : (n : ℕ) (f g h : ℕ → Bool) → LessAt n f g → ((q : ℕ) → q < n → g q ≡ h q) → LessAt n f h
less-same n f g h (q, l, s, a, b) e = (q, l, (λ p k. s p k ∙ e p (omega arith)), a, sym (e q l) ∙ b)

-- and less are the same
pub same-less : (n : ℕ) (f g h : ℕ → Bool) → ((q : ℕ) → q < n → f q ≡ g q) → LessAt n g h → LessAt n f h
same-less n f g h e (q, l, s, a, b) = (q, l, (λ p k. e p (omega arith) ∙ s p k), e q l ∙ a, b)

-- rows of bits are less or not
less-or-not : (n : ℕ) (f g : ℕ → Bool) → LessAt n f g ⊎ (LessAt n f g → ⊥)
less-or-not n f g = go (compared n f g)
  where
    go : (o : Ordering) × Compared o n f g → LessAt n f g ⊎ (LessAt n f g → ⊥)
    go (Less, h) = inl h
    go (Equal, h) = inr (less-not n f g h)
    go (Greater, h) = inr (λ k. less-not n f f (λ q l. refl) (less-chain n f g f k h))

-- row s is such that none of the first m rows is less
abbrev pub LeastRow : ℕ → ℕ → (ℕ → ℕ → Bool) → ℕ → Type 0
LeastRow n m A s = (t : ℕ) → t < m → LessAt n (A t) (A s) → ⊥

-- of rows of bits, one or more, there is such a one
pub least-row : (n m : ℕ) (A : ℕ → ℕ → Bool) → (s : ℕ) × LeastRow n (suc m) A s
least-row n zero A = (0, λ t h. less-not n (A t) (A 0) (λ q l. subst (λ (x : ℕ). A x q ≡ A 0 q) (omega arith) refl))
least-row n (suc m) A = go (least-row n m A)
  where
    own : (t : ℕ) → t ≡ suc m → LessAt n (A t) (A (suc m)) → ⊥
    own t e = less-not n (A t) (A (suc m)) (λ q l. subst (λ (x : ℕ). A x q ≡ A (suc m) q) (sym e) refl)

    last : (s : ℕ) → LeastRow n (suc m) A s → LessAt n (A (suc m)) (A s) ⊎ (LessAt n (A (suc m)) (A s) → ⊥) → (s : ℕ) × LeastRow n (suc (suc m)) A s
    last s w (inl k) = (suc m, λ t l h. by_equal t (suc m) (λ e. own t e h) (λ e. w t (omega arith) (less-chain n (A t) (A (suc m)) (A s) h k)))
    last s w (inr k) = (s, λ t l h. by_equal t (suc m) (λ e. k (subst (λ (x : ℕ). LessAt n (A x) (A s)) e h)) (λ e. w t (omega arith) h))

    go : (s : ℕ) × LeastRow n (suc m) A s → (s : ℕ) × LeastRow n (suc (suc m)) A s
    go (s, w) = last s w (less-or-not n (A (suc m)) (A s))
