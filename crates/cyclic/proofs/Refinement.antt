-- Planes one after the other: turns that give the least of some bits, and of those the ones that give the least of the next, give the least of all; and what
-- is left by the X plane and then by the Z plane are the turns that give the least word.
use Prim.Native.Nat.{ℕ, ◌+◌, ◌*◌, ◌/◌, ◌%◌, ◌-◌, ◌<◌, ◌≤◌}
use mathlib.Core.Path.{◌≡◌, refl, sym, ◌∙◌, ap, ap₂, subst}
use mathlib.Core.Bool.{Bool, true, false, true≢false}
use mathlib.Core.List.{List}
use native.Mathlib.Nat.{mod-one, mod-eq_of_lt, div-add-mod, mul-add, mul-add-div, mul-add-mod_self_left}
use native.Mathlib.Omega.{arith}
use Rattle.pauli_word.specs.Word.{Word, less}
use Rattle.pauli_word.proofs.WordOrder.{less_irrefl, less_trans}
use Rattle.packed.specs.Packed.{bit_of, letters_by, letters_at, rotated, LessAt}
use Rattle.packed.proofs.Packing.{letters_by_cong}
use Rattle.packed.proofs.Masks.{block_fits}
use Rattle.rotation.proofs.Rotations.{rotated-mod}
use Rattle.cyclic.specs.Cyclic.{turned, LeastTurn, Turns}
use Rattle.cyclic.specs.Narrowing.{around, Narrowed}
use Rattle.cyclic.proofs.BitOrder.{by_equal, by_order, less-longer}
use Rattle.cyclic.proofs.Keys.{turned-letters, less_by_x, less_by_z}

-- no bits leave all turns
pub narrowed_none : (b : ℕ) (h : ℕ → Bool) (start step : ℕ) → start < step → b % step ≡ 0 → Narrowed 0 b h start step start step
narrowed_none b h start step l d =
    record {
      inside = l;
      divides = d;
      among = λ r e. e;
      ties = λ r u e f t k. absurd (omega arith);
      rest = λ r u e f n. absurd (n f);
    }

-- a turn of a place after whole blocks
rotated-after : (r b n t : ℕ) → 0 < b → n % b ≡ 0 → rotated r b (n + t) ≡ n + rotated r b t
unfolding rotated
rotated-after r b n t pos whole =
    let c : b * (n / b) ≡ n = omega (arith, div-add-mod n b) in
    ap (λ (x : ℕ). rotated r b (x + t)) (sym c)
    ∙ ap₂ (λ (x y : ℕ). b * x + (y + r) % b) (mul-add-div pos (n / b) t) (mul-add-mod_self_left b (n / b) t)
    ∙ omega (arith, mul-add b (n / b) (t / b))

-- bits after whole blocks, turned
around-after : (h : ℕ → Bool) (b n r t : ℕ) → 0 < b → n % b ≡ 0 → around h b r (n + t) ≡ around (λ y. h (n + y)) b r t
around-after h b n r t pos whole = ap h (rotated-after r b n t pos whole)

-- the turns that are left by some whole blocks, and of those the ones that are left by the next block, are left by all of these
pub narrowed_more :
    (n b : ℕ) (h : ℕ → Bool) (start step first next first' next' : ℕ) → 0 < b → n % b ≡ 0 → Narrowed n b h start step first next
    → Narrowed b b (λ y. h (n + y)) first next first' next' → Narrowed (n + b) b h start step first' next'
narrowed_more n b h start step first next first' next' pos whole v w =
    record {
      inside = w.inside;
      divides = w.divides;
      among = λ r e. v.among r (w.among r e);
      ties = ties;
      rest = rest;
    }
  where
    after : (r u m : ℕ) → ((t : ℕ) → t < m → around (λ y. h (n + y)) b r t ≡ around (λ y. h (n + y)) b u t)
        → (t : ℕ) → n ≤ t → t < n + m → around h b r t ≡ around h b u t
    after r u m s t l k =
        let e : n + (t - n) ≡ t = omega arith in
        subst (λ (x : ℕ). around h b r x ≡ around h b u x) e
        (around-after h b n r (t - n) pos whole ∙ s (t - n) (omega arith) ∙ sym (around-after h b n u (t - n) pos whole))

    ties : (r u : ℕ) → r % next' ≡ first' → u % next' ≡ first' → (t : ℕ) → t < n + b → around h b r t ≡ around h b u t
    ties r u d e t l = by_order n t (λ k. after r u b (w.ties r u d e) t k l) (λ k. v.ties r u (w.among r d) (w.among u e) t k)

    further : (r u : ℕ) → ((t : ℕ) → t < n → around h b r t ≡ around h b u t) → LessAt b (around (λ y. h (n + y)) b r) (around (λ y. h (n + y)) b u)
        → LessAt (n + b) (around h b r) (around h b u)
    further r u s (q, l, g, c, d) =
        (n + q, omega arith, before, around-after h b n r q pos whole ∙ c, around-after h b n u q pos whole ∙ d)
      where
        before : (p : ℕ) → p < n + q → around h b r p ≡ around h b u p
        before p k = by_order n p (λ o. after r u q g p o k) (s p)

    rest : (r u : ℕ) → r % next' ≡ first' → u % step ≡ start → (u % next' ≡ first' → ⊥) → LessAt (n + b) (around h b r) (around h b u)
    rest r u d e k =
        by_equal (u % next) first (λ f. further r u (v.ties r u (w.among r d) f) (w.rest r u d f k))
        (λ f. less-longer n (n + b) (around h b r) (around h b u) (omega arith) (v.rest r u (w.among r d) e f))

-- turns with one rest by the block are the same
rotated-same : (r u b t : ℕ) → r % b ≡ u % b → rotated r b t ≡ rotated u b t
rotated-same r u b t e = sym (rotated-mod r b t) ∙ ap (λ (s : ℕ). rotated s b t) e ∙ rotated-mod u b t

-- where one turn is left, it is left by any more bits
pub narrowed_alone :
    (n m b : ℕ) (h : ℕ → Bool) (start step first next : ℕ) → n ≤ m → next ≡ b → Narrowed n b h start step first next → Narrowed m b h start step first next
narrowed_alone n m b h start step first next l one v =
    record {
      inside = v.inside;
      divides = v.divides;
      among = v.among;
      ties = λ r u d e t k. ap h (rotated-same r u b t (subst (λ (x : ℕ). r % x ≡ u % x) one (d ∙ sym e)));
      rest = λ r u d e k. less-longer n m (around h b r) (around h b u) l (v.rest r u d e k);
    }

-- of two words not both are less
not-both : (u v : Word) → less u v ≡ true → less v u ≡ false
not-both u v h = go (less v u) refl
  where
    go : (t : Bool) → less v u ≡ t → less v u ≡ false
    go false e = e
    go true e = absurd (true≢false (sym (less_trans u v u h e) ∙ less_irrefl u))

-- what the X plane and then the Z plane leave of all turns are those that give the least word
pub narrowed_turns :
    (n b : ℕ) (xs zs : List ℕ) (first next first' next' : ℕ) → 0 < b → n % b ≡ 0 → Narrowed n b (bit_of xs) 0 1 first next
    → Narrowed n b (bit_of zs) first next first' next' → Turns b (letters_at n xs zs) first' next'
narrowed_turns n b xs zs first next first' next' pos whole v w =
    record { inside = w.inside; divides = w.divides; least = least; only = only }
  where
    word_of : ℕ → Word
    word_of r = letters_by n (around (bit_of xs) b r) (around (bit_of zs) b r)

    turns : (r : ℕ) → turned b r (letters_at n xs zs) ≡ word_of r
    turns r = turned-letters n b r (bit_of xs) (bit_of zs) pos whole

    -- a turn that is left gives a lesser word than one that is not
    lesser : (r u : ℕ) → r % next' ≡ first' → (u % next' ≡ first' → ⊥) → less (word_of r) (word_of u) ≡ true
    lesser r u d k =
        by_equal (u % next) first
        (λ e. less_by_z n (around (bit_of xs) b r) (around (bit_of zs) b r) (around (bit_of xs) b u) (around (bit_of zs) b u) (v.ties r u (w.among r d) e) (w.rest r u d e k))
        (λ e. less_by_x n (around (bit_of xs) b r) (around (bit_of zs) b r) (around (bit_of xs) b u) (around (bit_of zs) b u) (v.rest r u (w.among r d) (mod-one u) e))

    alike : (r u : ℕ) → r % next' ≡ first' → u % next' ≡ first' → word_of r ≡ word_of u
    alike r u d e =
        letters_by_cong n (around (bit_of xs) b r) (around (bit_of zs) b r) (around (bit_of xs) b u) (around (bit_of zs) b u) (v.ties r u (w.among r d) (w.among u e)) (w.ties r u d e)

    least : (r : ℕ) → r < b → r % next' ≡ first' → LeastTurn b (letters_at n xs zs) r
    least r l d j k =
        ap₂ less (turns j) (turns r)
        ∙ by_equal (j % next') first' (λ e. ap (λ (u : Word). less u (word_of r)) (alike j r e d) ∙ less_irrefl (word_of r)) (λ e. not-both (word_of r) (word_of j) (lesser r j d e))

    only : (r : ℕ) → r < b → LeastTurn b (letters_at n xs zs) r → r % next' ≡ first'
    only r l m = by_equal (r % next') first' (λ e. e) (λ e. absurd (true≢false (sym (won e) ∙ lost)))
      where
        inside : first' < b
        inside = omega (arith, w.inside, block_fits next' b w.divides pos)

        won : (r % next' ≡ first' → ⊥) → less (word_of first') (word_of r) ≡ true
        won e = lesser first' r (mod-eq_of_lt w.inside) e

        lost : less (word_of first') (word_of r) ≡ false
        lost = sym (ap₂ less (turns first') (turns r)) ∙ m first' inside
