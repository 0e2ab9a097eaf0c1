-- The least word of an orbit: it is in the orbit, no word of the orbit is less, and the words with one least word are those of one orbit.
-- What carries it: an index reaches back what it reached, so that the words of one orbit have the same orbit, and the order of words of one
-- length is total.
use Prim.Native.Nat.{ℕ, zero, suc, ◌+◌, ◌<◌, suc-le-suc}
use mathlib.Core.Path.{◌≡◌, refl, sym, ◌∙◌, ap, subst}
use mathlib.Core.Logic.{◌⊎◌, inl, inr, ⊎_elim}
use mathlib.Core.Bool.{Bool, true, false, cond, ◌||◌, or-true, false≢true}
use mathlib.Core.List.{List, [], ◌∷◌, map}
use native.Mathlib.Nat.{add-suc, suc-add, zero-add, le_of_suc-le-suc, zero-lt-suc, add-zero as sum-zero}
use native.Mathlib.Omega.{arith}
use lib.ListN.{length}
use Rattle.pauli_word.specs.Word.{Word, same, less}
use Rattle.pauli_word.proofs.WordOrder.{same_refl, same_eq, less_irrefl, less_trans, less-total}
use Rattle.action.specs.Lists.{from, below, Member, NoRepeats}
use Rattle.action.specs.Permutation.{Generator, Valid}
use Rattle.action.specs.Index.{order_of, add, inverse}
use Rattle.action.specs.Orbit.{reach, orbit_list, is_in, once, orbit, least_of, least, first_at, forward, index_back}
use Rattle.action.proofs.Lists.{member_below, of_member_below, member-map, of-member-map}
use Rattle.action.proofs.Index.{valid_positive, order_of_positive, add-below, inverse-below}
use Rattle.action.proofs.Reach.{reach-length, reach-zero, reach-add, reach-inverse}

-- `isIn` says what `Member` says

pub is_in_intro : (u : Word) (ws : List Word) → Member u ws → is_in u ws ≡ true
unfolding is_in
is_in_intro u [] h = absurd h
is_in_intro u (w ∷ ws) (inl e) = rw (e, same_refl)
is_in_intro u (w ∷ ws) (inr h) = rw (is_in_intro u ws h) (or-true (same u w))

pub is_in_elim : (u : Word) (ws : List Word) → is_in u ws ≡ true → Member u ws
unfolding is_in
is_in_elim u [] h = absurd (false≢true h)
is_in_elim u (w ∷ ws) h = go (same u w) refl (is_in_elim u ws) h
  where
    go : (b : Bool) → same u w ≡ b → (is_in u ws ≡ true → Member u ws) → b || is_in u ws ≡ true → Member u (w ∷ ws)
    go true t later h = inl (same_eq u w t)
    go false t later h = inr (later h)

-- `once` keeps the members, each once

pub once_intro : (u : Word) (ws : List Word) → Member u ws → Member u (once ws)
unfolding once
once_intro u [] h = absurd h
once_intro u (w ∷ ws) h = go (is_in w ws) refl (once_intro u ws) h
  where
    go : (b : Bool) → is_in w ws ≡ b → (Member u ws → Member u (once ws)) → Member u (w ∷ ws) → Member u (cond b (once ws) (w ∷ once ws))
    go true t later (inl e) = later (rw e (is_in_elim w ws t))
    go true t later (inr m) = later m
    go false t later (inl e) = inl e
    go false t later (inr m) = inr (later m)

pub once_elim : (u : Word) (ws : List Word) → Member u (once ws) → Member u ws
unfolding once
once_elim u [] h = h
once_elim u (w ∷ ws) h = go (is_in w ws) (once_elim u ws) h
  where
    go : (b : Bool) → (Member u (once ws) → Member u ws) → Member u (cond b (once ws) (w ∷ once ws)) → Member u (w ∷ ws)
    go true later m = inr (later m)
    go false later (inl e) = inl e
    go false later (inr m) = inr (later m)

pub no_repeats_once : (ws : List Word) → NoRepeats (once ws)
unfolding once
no_repeats_once [] = tt
no_repeats_once (w ∷ ws) = go (is_in w ws) refl (no_repeats_once ws)
  where
    go : (b : Bool) → is_in w ws ≡ b → NoRepeats (once ws) → NoRepeats (cond b (once ws) (w ∷ once ws))
    go true t r = r
    go false t r = (λ m. false≢true (sym t ∙ is_in_intro w ws (once_elim w ws m)), r)

-- the least of a list

less-not_back : (u v : Word) → less u v ≡ true → less v u ≡ false
less-not_back u v h = go (less v u) refl
  where
    go : (b : Bool) → less v u ≡ b → less v u ≡ false
    go true t = absurd (false≢true (sym (less_irrefl u) ∙ less_trans u v u h t))
    go false t = t

-- not being less is transitive on words of one length
not-less_trans : (u v w : Word) → length v ≡ length w → less u v ≡ false → less v w ≡ false → less u w ≡ false
not-less_trans u v w l a b = go (less u w) refl (less-total v w l)
  where
    go : (c : Bool) → less u w ≡ c → (less v w ≡ true) ⊎ ((v ≡ w) ⊎ (less w v ≡ true)) → less u w ≡ false
    go false t order = t
    go true t (inl h) = absurd (false≢true (sym b ∙ h))
    go true t (inr (inl h)) = absurd (false≢true (sym a ∙ ap (less u) h ∙ t))
    go true t (inr (inr h)) = absurd (false≢true (sym a ∙ less_trans u w v t h))

-- the lesser of two words
abbrev lesser : Word → Word → Word
lesser v w = cond (less w v) w v

lesser-either : (v w : Word) → (lesser v w ≡ v) ⊎ (lesser v w ≡ w)
lesser-either v w = go (less w v)
  where
    go : (b : Bool) → (cond b w v ≡ v) ⊎ (cond b w v ≡ w)
    go true = inr refl
    go false = inl refl

lesser-least : (v w : Word) → (less v (lesser v w) ≡ false) × (less w (lesser v w) ≡ false)
lesser-least v w = go (less w v) refl
  where
    go : (b : Bool) → less w v ≡ b → (less v (cond b w v) ≡ false) × (less w (cond b w v) ≡ false)
    go true t = (less-not_back w v t, less_irrefl w)
    go false t = (less_irrefl v, t)

pub least_of_member : (v : Word) (ws : List Word) → Member (least_of v ws) (v ∷ ws)
unfolding least_of
least_of_member v [] = inl refl
least_of_member v (w ∷ ws) =
    ⊎_elim
    (λ e. ⊎_elim (λ k. inl (e ∙ k)) (λ k. inr (inl (e ∙ k))) (lesser-either v w))
    (λ m. inr (inr m))
    (least_of_member (lesser v w) ws)

pub least_of-least :
    {n : ℕ} (v : Word) (ws : List Word) → length v ≡ n → ((u : Word) → Member u ws → length u ≡ n)
    → (u : Word) → Member u (v ∷ ws) → less u (least_of v ws) ≡ false
unfolding least_of
least_of-least v [] l long u (inl e) = rw e (less_irrefl v)
least_of-least v [] l long u (inr m) = absurd m
least_of-least {n} v (w ∷ ws) l long u h = go (least_of-least x ws size (λ y m. long y (inr m))) h
  where
    x : Word
    x = lesser v w

    size : length x ≡ n
    size = ⊎_elim (λ e. ap length e ∙ l) (λ e. ap length e ∙ long w (inl refl)) (lesser-either v w)

    sizes : length x ≡ length (least_of x ws)
    sizes = size ∙ sym (⊎_elim (λ e. ap length e ∙ size) (λ m. long (least_of x ws) (inr m)) (least_of_member x ws))

    go : ((y : Word) → Member y (x ∷ ws) → less y (least_of x ws) ≡ false) → Member u (v ∷ w ∷ ws) → less u (least_of x ws) ≡ false
    go later (inl e) = rw e (not-less_trans v x (least_of x ws) sizes (lesser-least v w).0 (later x (inl refl)))
    go later (inr (inl e)) = rw e (not-less_trans w x (least_of x ws) sizes (lesser-least v w).1 (later x (inl refl)))
    go later (inr (inr m)) = later u (inr m)

-- the first place of a word among the values of f from a on

-- it is among them, so the place is below their number and holds the word
first_at_found :
    (v : Word) (f : ℕ → Word) (n a : ℕ) → Member v (map f (from a n))
    → (first_at v (map f (from a n)) < n) × (f (a + first_at v (map f (from a n))) ≡ v)
unfolding from first_at
first_at_found v f zero a h = absurd h
first_at_found v f (suc n) a h = go (same v (f a)) refl (first_at_found v f n (suc a)) h
  where
    k : ℕ
    k = first_at v (map f (from (suc a) n))

    go :
        (b : Bool) → same v (f a) ≡ b → (Member v (map f (from (suc a) n)) → (k < n) × (f (suc a + k) ≡ v)) → Member v (map f (from a (suc n)))
        → (cond b 0 (suc k) < suc n) × (f (a + cond b 0 (suc k)) ≡ v)
    go true t later m = (zero-lt-suc n, rw sum-zero (sym (same_eq v (f a) t)))
    go false t later (inl e) = absurd (false≢true (sym t ∙ rw e (same_refl (f a))))
    go false t later (inr m) = (suc-le-suc (later m).0, rw (add-suc, ← suc-add a k) (later m).1)

-- and no place before it does
first_at_first : (v : Word) (f : ℕ → Word) (n a i : ℕ) → i < first_at v (map f (from a n)) → f (a + i) ≡ v → ⊥
unfolding from first_at
first_at_first v f zero a i h e = absurd (omega arith)
first_at_first v f (suc n) a i h e = go (same v (f a)) refl i (first_at_first v f n (suc a)) h e
  where
    k : ℕ
    k = first_at v (map f (from (suc a) n))

    go : (b : Bool) → same v (f a) ≡ b → (i : ℕ) → ((i : ℕ) → i < k → f (suc a + i) ≡ v → ⊥) → i < cond b 0 (suc k) → f (a + i) ≡ v → ⊥
    go true t i later h e = omega arith
    go false t zero later h e = false≢true (sym t ∙ rw (← e, sum-zero) (same_refl (f a)))
    go false t (suc i) later h e = later i (le_of_suc-le-suc h) (rw (add-suc, ← suc-add a i) at e)

-- the words of an orbit

orbit_list_intro : (gs : List Generator) (w : Word) (i : ℕ) → i < order_of gs → Member (reach gs i w) (orbit_list gs w)
unfolding orbit_list
orbit_list_intro gs w i h = member-map (λ i. reach gs i w) (below (order_of gs)) i (member_below (order_of gs) i h)

orbit_list_elim : (gs : List Generator) (w u : Word) → Member u (orbit_list gs w) → (i : ℕ) × (i < order_of gs) × (u ≡ reach gs i w)
unfolding orbit_list
orbit_list_elim gs w u h =
    let (i, m, e) = of-member-map (λ i. reach gs i w) (below (order_of gs)) u h in
    (i, of_member_below (order_of gs) i m, e)

pub orbit_intro : (gs : List Generator) (w : Word) (i : ℕ) → i < order_of gs → is_in (reach gs i w) (orbit gs w) ≡ true
unfolding orbit
orbit_intro gs w i h = is_in_intro (reach gs i w) (orbit gs w) (once_intro (reach gs i w) (orbit_list gs w) (orbit_list_intro gs w i h))

pub orbit_elim : (gs : List Generator) (w u : Word) → is_in u (orbit gs w) ≡ true → (i : ℕ) × (i < order_of gs) × (u ≡ reach gs i w)
unfolding orbit
orbit_elim gs w u h = orbit_list_elim gs w u (once_elim u (orbit_list gs w) (is_in_elim u (orbit gs w) h))

pub orbit-length : (gs : List Generator) (w u : Word) → is_in u (orbit gs w) ≡ true → length u ≡ length w
orbit-length gs w u h = let (i, l, e) = orbit_elim gs w u h in ap length e ∙ reach-length gs i w

-- no smaller index reaches the least word
pub forward_first : (gs : List Generator) (w : Word) (i : ℕ) → i < forward gs w → reach gs i w ≡ least gs w → ⊥
unfolding forward orbit_list below
forward_first gs w i h k = first_at_first (least gs w) (λ i. reach gs i w) (order_of gs) 0 i h (rw zero-add k)

module _ {n : ℕ} {gs : List Generator} (v : Valid n gs) (w : Word) where
  -- the list starts at w itself, by index 0
  least-listed : Member (least gs w) (orbit_list gs w)
  unfolding least
  least-listed = go (least_of_member w (orbit_list gs w))
    where
      go : Member (least_of w (orbit_list gs w)) (w ∷ orbit_list gs w) → Member (least_of w (orbit_list gs w)) (orbit_list gs w)
      go (inl k) = rw (k ∙ sym (reach-zero gs w)) (orbit_list_intro gs w 0 (order_of_positive gs (valid_positive v)))
      go (inr m) = m

  pub least-in-orbit : is_in (least gs w) (orbit gs w) ≡ true
  unfolding orbit
  least-in-orbit = is_in_intro (least gs w) (orbit gs w) (once_intro (least gs w) (orbit_list gs w) least-listed)

  pub least-length : length (least gs w) ≡ length w
  least-length = orbit-length gs w (least gs w) least-in-orbit

  forward-found : (forward gs w < order_of gs) × (reach gs (0 + forward gs w) w ≡ least gs w)
  unfolding forward orbit_list below
  forward-found = first_at_found (least gs w) (λ i. reach gs i w) (order_of gs) 0 least-listed

  pub forward-below : forward gs w < order_of gs
  forward-below = forward-found.0

  pub forward-reaches : reach gs (forward gs w) w ≡ least gs w
  forward-reaches = rw zero-add at forward-found.1

  pub back_below : index_back gs w < order_of gs
  unfolding index_back
  back_below = inverse-below gs (valid_positive v) (forward gs w)

module _ {n : ℕ} {gs : List Generator} (v : Valid n gs) (w : Word) (e : length w ≡ n) where
  -- no word of the orbit is less
  pub least-least : (u : Word) → is_in u (orbit gs w) ≡ true → less u (least gs w) ≡ false
  unfolding least orbit
  least-least u h =
      least_of-least w (orbit_list gs w) e
      (λ x m. let (i, l, k) = orbit_list_elim gs w x m in ap length k ∙ reach-length gs i w ∙ e)
      u (inr (once_elim u (orbit_list gs w) (is_in_elim u (orbit gs w) h)))

  pub back-reaches : reach gs (index_back gs w) (least gs w) ≡ w
  unfolding index_back
  back-reaches = ap (reach gs (inverse gs (forward gs w))) (sym (forward-reaches v w)) ∙ reach-inverse v (forward gs w) w e

  pub orbit-symmetric : (u : Word) → is_in u (orbit gs w) ≡ true → is_in w (orbit gs u) ≡ true
  orbit-symmetric u h =
      let (i, l, k) = orbit_elim gs w u h in
      let back : reach gs (inverse gs i) u ≡ w = ap (reach gs (inverse gs i)) k ∙ reach-inverse v i w e in
      subst (λ (x : Word). is_in x (orbit gs u) ≡ true) back (orbit_intro gs u (inverse gs i) (inverse-below gs (valid_positive v) i))

  pub orbit-trans : (u x : Word) → is_in u (orbit gs w) ≡ true → is_in x (orbit gs u) ≡ true → is_in x (orbit gs w) ≡ true
  orbit-trans u x h k =
      let (i, l, a) = orbit_elim gs w u h in
      let (j, m, b) = orbit_elim gs u x k in
      let both : reach gs (add gs i j) w ≡ x = reach-add v i j w e ∙ ap (reach gs j) (sym a) ∙ sym b in
      subst (λ (y : Word). is_in y (orbit gs w) ≡ true) both (orbit_intro gs w (add gs i j) (add-below gs (valid_positive v) i j))

module _ {n : ℕ} {gs : List Generator} (v : Valid n gs) (w : Word) (e : length w ≡ n) where
  -- each of the two least words is in the other's orbit, so neither is less
  pub least-same : (u : Word) → is_in u (orbit gs w) ≡ true → least gs u ≡ least gs w
  least-same u h = go (less-total (least gs u) (least gs w) (least-length v u ∙ l ∙ sym (least-length v w ∙ e)))
    where
      l : length u ≡ n
      l = orbit-length gs w u h ∙ e

      down : less (least gs u) (least gs w) ≡ false
      down = least-least v w e (least gs u) (orbit-trans v w e u (least gs u) h (least-in-orbit v u))

      up : less (least gs w) (least gs u) ≡ false
      up = least-least v u l (least gs w) (orbit-trans v u l w (least gs w) (orbit-symmetric v w e u h) (least-in-orbit v w))

      go : (less (least gs u) (least gs w) ≡ true) ⊎ ((least gs u ≡ least gs w) ⊎ (less (least gs w) (least gs u) ≡ true)) → least gs u ≡ least gs w
      go (inl t) = absurd (false≢true (sym down ∙ t))
      go (inr (inl t)) = t
      go (inr (inr t)) = absurd (false≢true (sym up ∙ t))

  pub least-own : least gs (least gs w) ≡ least gs w
  least-own = least-same (least gs w) (least-in-orbit v w)

  pub orbit-of-least : (u : Word) → length u ≡ n → least gs u ≡ least gs w → is_in u (orbit gs w) ≡ true
  orbit-of-least u l k =
      orbit-trans v w e (least gs w) u (least-in-orbit v w)
      (subst (λ (x : Word). is_in u (orbit gs x) ≡ true) k (orbit-symmetric v u l (least gs u) (least-in-orbit v u)))
