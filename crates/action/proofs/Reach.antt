-- The indices act on words: index 0 keeps a word, the sum of two indices reaches what one reaches after the other, and the walk's steps go
-- through the indices in their order. What carries it: moves by commuting permutations commute, so that the generators can be taken one by one.
use Prim.Native.Nat.{ℕ, zero, suc, ◌+◌, ◌*◌, ◌/◌, ◌%◌, ◌<◌}
use mathlib.Core.Path.{◌≡◌, refl, sym, ◌∙◌, ap}
use mathlib.Core.Logic.{◌≢◌, inl, inr}
use mathlib.Core.Bool.{Bool, true, false, cond}
use mathlib.Core.List.{List, [], ◌∷◌}
use native.Mathlib.Nat.{
  add-mul-div_left,
  add-mul-mod_self_left,
  div-add-mod,
  div-eq_of_lt,
  mod-add-div,
  mod-eq_of_lt,
  mod-lt,
  mul-div_right,
  mul-mod_right,
  mul-suc,
  mul-zero,
  suc-add,
  zero-add,
  zero-div,
  zero-mod,
}
use native.Mathlib.Numerals.{add-one}
use native.Mathlib.Omega.{arith}
use lib.Dec.{eqb}
use lib.ListN.{length}
use borrow.Author.Tests.{eqb-true, eqb-false}
use Rattle.pauli_word.specs.Word.{Word}
use Rattle.action.specs.Lists.{Member}
use Rattle.action.specs.Permutation.{Generator, exact_order, Permutes, Commute, Valid}
use Rattle.action.specs.Index.{order_of, digits, add_digits, add, inverse, Digits}
use Rattle.action.specs.Orbit.{move, moves, by_digits, reach, stepped}
use Rattle.action.proofs.Move.{move-length, moves-length, moves-order, move_commute}
use Rattle.action.proofs.Index.{valid_positive, digits_proper, digits_order, digits-add, add_comm, add-inverse}

-- moves by one permutation, and by two

pub moves-add : (c d : ℕ) (perm : List ℕ) (w : Word) → moves (c + d) perm w ≡ moves d perm (moves c perm w)
unfolding moves
moves-add zero d perm w = rw zero-add
moves-add (suc c) d perm w = rw suc-add (moves-add c d perm (move perm w))

module _ {n : ℕ} {perm : List ℕ} (permutes : Permutes n perm) where
  moves-multiple : (k : ℕ) (w : Word) → length w ≡ n → moves (exact_order perm * k) perm w ≡ w
  unfolding moves
  moves-multiple zero w e = rw mul-zero
  moves-multiple (suc k) w e = rw (mul-suc, moves-add, moves-multiple k w e) (moves-order permutes w e)

  -- whole rounds make no difference
  moves-mod : (c : ℕ) (w : Word) → length w ≡ n → moves (c % exact_order perm) perm w ≡ moves c perm w
  moves-mod c w e =
      let o : ℕ = exact_order perm in
      cc (moves-add (o * (c / o)) (c % o) perm w, moves-multiple (c / o) w e, div-add-mod c o)

module _ {n : ℕ} {f g : List ℕ} (F : Permutes n f) (G : Permutes n g) (commute : Commute n f g) where
  move-moves : (d : ℕ) (w : Word) → length w ≡ n → move f (moves d g w) ≡ moves d g (move f w)
  unfolding moves
  move-moves zero w e = refl
  move-moves (suc d) w e = move-moves d (move g w) (move-length g w ∙ e) ∙ ap (moves d g) (move_commute F G commute w e)

  moves-moves : (c d : ℕ) (w : Word) → length w ≡ n → moves c f (moves d g w) ≡ moves d g (moves c f w)
  unfolding moves
  moves-moves zero d w e = refl
  moves-moves (suc c) d w e = ap (moves c f) (move-moves d w e) ∙ moves-moves c d (move f w) (move-length f w ∙ e)

-- moves by digits

by_digits-length : (gs : List Generator) (cs : List ℕ) (w : Word) → length (by_digits gs cs w) ≡ length w
unfolding by_digits
by_digits-length [] cs w = refl
by_digits-length (g ∷ gs) [] w = refl
by_digits-length (g ∷ gs) (c ∷ cs) w = by_digits-length gs cs (moves c g.perm w) ∙ moves-length c g.perm w

-- a permutation that commutes with every generator
moves-by_digits :
    {n : ℕ} {f : List ℕ} → Permutes n f → (gs : List Generator) → ((g : Generator) → Member g gs → Permutes n g.perm × Commute n f g.perm)
    → (c : ℕ) (cs : List ℕ) (w : Word) → length w ≡ n → moves c f (by_digits gs cs w) ≡ by_digits gs cs (moves c f w)
unfolding by_digits
moves-by_digits F [] h c cs w e = refl
moves-by_digits F (g ∷ gs) h c [] w e = refl
moves-by_digits F (g ∷ gs) h c (d ∷ cs) w e =
    moves-by_digits F gs (λ k m. h k (inr m)) c cs (moves d g.perm w) (moves-length d g.perm w ∙ e)
    ∙ ap (by_digits gs cs) (moves-moves F (h g (inl refl)).0 (h g (inl refl)).1 c d w e)

valid_tail : {n : ℕ} {g : Generator} {gs : List Generator} → Valid n (g ∷ gs) → Valid n gs
valid_tail v = record {
  permutes = λ g m. v.permutes g (inr m);
  exact = λ g m. v.exact g (inr m);
  commute = λ g h k m. v.commute g h (inr k) (inr m);
}

-- the first generator commutes with those behind it
moves-behind :
    {n : ℕ} (g : Generator) (gs : List Generator) → Valid n (g ∷ gs) → (c : ℕ) (cs : List ℕ) (w : Word) → length w ≡ n
    → moves c g.perm (by_digits gs cs w) ≡ by_digits gs cs (moves c g.perm w)
moves-behind g gs v = moves-by_digits (v.permutes g (inl refl)) gs (λ h m. (v.permutes h (inr m), v.commute g h (inl refl) (inr m)))

by_digits-add :
    {n : ℕ} (gs : List Generator) → Valid n gs → (cs ds : List ℕ) → Digits gs cs → Digits gs ds → (w : Word) → length w ≡ n
    → by_digits gs (add_digits gs cs ds) w ≡ by_digits gs ds (by_digits gs cs w)
unfolding by_digits add_digits
by_digits-add [] v cs ds p q w e = refl
by_digits-add (g ∷ gs) v [] ds p q w e = absurd p
by_digits-add (g ∷ gs) v (c ∷ cs) [] p q w e = absurd q
by_digits-add (g ∷ gs) v (c ∷ cs) (d ∷ ds) p q w e =
    by_digits-add gs (valid_tail v) cs ds p.1 q.1 (moves ((c + d) % g.order) g.perm w) (moves-length ((c + d) % g.order) g.perm w ∙ e)
    ∙ ap (λ (u : Word). by_digits gs ds (by_digits gs cs u)) once
    ∙ ap (by_digits gs ds) (sym (moves-behind g gs v d cs (moves c g.perm w) (moves-length c g.perm w ∙ e)))
  where
    once : moves ((c + d) % g.order) g.perm w ≡ moves d g.perm (moves c g.perm w)
    once = rw (v.exact g (inl refl)) (moves-mod (v.permutes g (inl refl)) (c + d) w e ∙ moves-add c d g.perm w)

by_digits-zero : (gs : List Generator) (w : Word) → by_digits gs (digits gs 0) w ≡ w
unfolding by_digits digits moves
by_digits-zero [] w = refl
by_digits-zero (g ∷ gs) w = rw (zero-mod, zero-div) (by_digits-zero gs w)

-- the action

pub reach-length : (gs : List Generator) (i : ℕ) (w : Word) → length (reach gs i w) ≡ length w
unfolding reach
reach-length gs i w = by_digits-length gs (digits gs i) w

pub reach-zero : (gs : List Generator) (w : Word) → reach gs 0 w ≡ w
unfolding reach
reach-zero gs w = by_digits-zero gs w

module _ {n : ℕ} {gs : List Generator} (v : Valid n gs) where
  pub reach-add : (i j : ℕ) (w : Word) → length w ≡ n → reach gs (add gs i j) w ≡ reach gs j (reach gs i w)
  unfolding reach
  reach-add i j w e =
      rw (digits-add gs (valid_positive v) i j)
      (by_digits-add gs v (digits gs i) (digits gs j) (digits_proper gs (valid_positive v) i) (digits_proper gs (valid_positive v) j) w e)

  pub reach-comm : (i j : ℕ) (w : Word) → length w ≡ n → reach gs i (reach gs j w) ≡ reach gs j (reach gs i w)
  reach-comm i j w e = cc (reach-add i j w e, reach-add j i w e, add_comm gs i j)

  pub reach-inverse : (i : ℕ) (w : Word) → length w ≡ n → reach gs (inverse gs i) (reach gs i w) ≡ w
  reach-inverse i w e = cc (reach-add i (inverse gs i) w e, add-inverse gs (valid_positive v) i, reach-zero gs w)

  pub reach-of-inverse : (i : ℕ) (w : Word) → length w ≡ n → reach gs i (reach gs (inverse gs i) w) ≡ w
  reach-of-inverse i w e =
      cc (reach-add (inverse gs i) i w e, add_comm gs (inverse gs i) i, add-inverse gs (valid_positive v) i, reach-zero gs w)

  -- after the last index the walk is back at its word
  pub reach-order : (w : Word) → reach gs (order_of gs) w ≡ w
  unfolding reach
  reach-order w = rw (digits_order gs (valid_positive v)) (by_digits-zero gs w)

-- the walk: a digit rolls over exactly if it is the last below its order

rolls : (o i : ℕ) → suc (i % o) ≡ o → (suc i % o ≡ 0) × (suc i / o ≡ suc (i / o))
rolls o i e = (rw whole (mul-mod_right o (suc (i / o))), rw whole (mul-div_right (suc (i / o)) (omega arith)))
  where
    whole : suc i ≡ o * suc (i / o)
    whole = omega (arith, mod-add-div i o, mul-suc o (i / o))

stays : (o i : ℕ) → 0 < o → suc (i % o) ≢ o → (suc i % o ≡ suc (i % o)) × (suc i / o ≡ i / o)
stays o i p e =
    (rw (whole, add-mul-mod_self_left) (mod-eq_of_lt small), rw (whole, add-mul-div_left (suc (i % o)) (i / o) p, div-eq_of_lt small) (zero-add (i / o)))
  where
    small : suc (i % o) < o
    small = omega (arith, mod-lt i p)

    whole : suc i ≡ suc (i % o) + o * (i / o)
    whole = omega (arith, mod-add-div i o)

pub reach_step :
    {n : ℕ} {gs : List Generator} → Valid n gs → (i : ℕ) (w : Word) → length w ≡ n
    → reach gs (suc i) w ≡ stepped gs (digits gs i) (reach gs i w)
unfolding reach digits by_digits stepped moves
reach_step {gs = []} v i w e = refl
reach_step {gs = g ∷ gs} v i w e = go (eqb (suc c) o) refl (reach_step (valid_tail v) (i / o) w e)
  where
    o : ℕ
    o = g.order

    c : ℕ
    c = i % o

    ds : List ℕ
    ds = digits gs (i / o)

    here : Word
    here = by_digits gs ds (moves c g.perm w)

    -- one more move of the first generator
    next : move g.perm here ≡ by_digits gs ds (moves (suc c) g.perm w)
    next =
        moves-behind g gs v 1 ds (moves c g.perm w) (moves-length c g.perm w ∙ e)
        ∙ ap (by_digits gs ds) (sym (moves-add c 1 g.perm w) ∙ ap (λ (k : ℕ). moves k g.perm w) (add-one c))

    go :
        (b : Bool) → eqb (suc c) o ≡ b → by_digits gs (digits gs (suc (i / o))) w ≡ stepped gs ds (by_digits gs ds w)
        → by_digits gs (digits gs (suc i / o)) (moves (suc i % o) g.perm w)
        ≡ cond b (stepped gs ds (move g.perm here)) (move g.perm here)
    go true t later =
        let full : suc c ≡ o = eqb-true (suc c) o t in
        let back : moves (suc c) g.perm w ≡ w = rw (full, v.exact g (inl refl)) (moves-order (v.permutes g (inl refl)) w e) in
        rw ((rolls o i full).0, (rolls o i full).1, next, back) later
    go false t later =
        let more : (suc i % o ≡ suc c) × (suc i / o ≡ i / o) = stays o i (valid_positive v).0 (eqb-false (suc c) o t) in
        rw (more.0, more.1, next) refl
