-- Keys in rising order: a key put in, the place where it stands, and the search for this place by halves.
-- The fact that carries it: the slot of a key says what putting the key in does to the list (`insert-slot`).
use Prim.Native.Nat.{ℕ, zero, suc, ◌+◌, ◌≤◌, ◌<◌, suc-le-suc}
use native.Mathlib.Nat.{eq-or-lt_of_le, le_of_suc-le-suc, not-suc-le-zero}
use native.Mathlib.Omega.{arith}
use mathlib.Core.Path.{◌≡◌, refl, sym, ◌∙◌, ap, subst}
use mathlib.Core.Logic.{◌⊎◌, inl, inr, ⊎_elim}
use mathlib.Core.Bool.{Bool, true, false, false≢true}
use mathlib.Core.List.{List, [], ◌∷◌, ◌++◌, map}
use lib.ListN.{length, get_or}
use Rattle.action.proofs.Lists.{member_at}
use Rattle.action.specs.Lists.{Member, NoRepeats}
use Rattle.keyed.specs.Keyed.{Orders, Rising, insert_key, insert_all, rising, Slot, found, free, next_slot, slot_of, insert_at}

-- how a key k stands to a key j, by the two tests
data Compared {K : Type 0} (less : K → K → Bool) (j k : K) : Type 0 where
  after : less j k ≡ true → Compared less j k
  before : less j k ≡ false → less k j ≡ true → Compared less j k
  level : less j k ≡ false → less k j ≡ false → Compared less j k

compared : {K : Type 0} (less : K → K → Bool) (j k : K) → Compared less j k
compared less j k = go (less j k) refl (less k j) refl
  where
    go : (s : Bool) → less j k ≡ s → (t : Bool) → less k j ≡ t → Compared less j k
    go true e t f = after e
    go false e true f = before e f
    go false e false f = level e f

-- of two keys that are less, equal or greater, those of which neither is less are equal
pub neither_less : {K : Type 0} (less : K → K → Bool) (a b : K) → (less a b ≡ true) ⊎ ((a ≡ b) ⊎ (less b a ≡ true)) → less a b ≡ false → less b a ≡ false → a ≡ b
neither_less less a b (inl h) e f = absurd (false≢true (sym e ∙ h))
neither_less less a b (inr (inl same)) e f = same
neither_less less a b (inr (inr h)) e f = absurd (false≢true (sym f ∙ h))

module _ {K : Type 0} (less : K → K → Bool) where
  -- the first of a list, if there is one, is above a
  abbrev Leads : K → List K → Type 0
  Leads a [] = Unit {0}
  Leads a (b ∷ ks) = less a b ≡ true

  rising-cons : (a : K) (ks : List K) → Leads a ks → Rising less ks → Rising less (a ∷ ks)
  rising-cons a [] l r = tt
  rising-cons a (b ∷ ks) l r = (l, r)

  rising-leads : (a : K) (ks : List K) → Rising less (a ∷ ks) → Leads a ks
  rising-leads a [] r = tt
  rising-leads a (b ∷ ks) r = r.0

  pub rising-tail : (a : K) (ks : List K) → Rising less (a ∷ ks) → Rising less ks
  rising-tail a [] r = tt
  rising-tail a (b ∷ ks) r = r.1

  -- ---- a key put in

  insert-leads : (k a : K) (js : List K) → less a k ≡ true → Leads a js → Leads a (insert_key less k js)
  unfolding insert_key
  insert-leads k a [] h l = h
  insert-leads k a (j ∷ js) h l = go (compared less j k)
    where
      go : Compared less j k → Leads a (insert_key less k (j ∷ js))
      go (after e) = rw e l
      go (before e f) = rw (e, f) h
      go (level e f) = rw (e, f) l

  pub insert-rising : (k : K) (js : List K) → Rising less js → Rising less (insert_key less k js)
  unfolding insert_key
  insert-rising k [] r = tt
  insert-rising k (j ∷ js) r = go (compared less j k) (insert-rising k js (rising-tail j js r))
    where
      go : Compared less j k → Rising less (insert_key less k js) → Rising less (insert_key less k (j ∷ js))
      go (after e) later = rw e (rising-cons j (insert_key less k js) (insert-leads k j js e (rising-leads j js r)) later)
      go (before e f) later = rw (e, f) (f, r)
      go (level e f) later = rw (e, f) r

  pub of-insert-member : (k a : K) (js : List K) → Member a (insert_key less k js) → (a ≡ k) ⊎ Member a js
  unfolding insert_key
  of-insert-member k a [] m = m
  of-insert-member k a (j ∷ js) m = go (compared less j k) (of-insert-member k a js) m
    where
      first :
          (Member a (insert_key less k js) → (a ≡ k) ⊎ Member a js) → (a ≡ j) ⊎ Member a (insert_key less k js)
          → (a ≡ k) ⊎ Member a (j ∷ js)
      first later (inl e) = inr (inl e)
      first later (inr n) = ⊎_elim (λ e. inl e) (λ e. inr (inr e)) (later n)

      go :
          Compared less j k → (Member a (insert_key less k js) → (a ≡ k) ⊎ Member a js) → Member a (insert_key less k (j ∷ js))
          → (a ≡ k) ⊎ Member a (j ∷ js)
      go (after e) later n = first later (rw e at n)
      go (before e f) later n = rw (e, f) at n
      go (level e f) later n = inr (rw (e, f) at n)

  pub insert-member-other : (k a : K) (js : List K) → Member a js → Member a (insert_key less k js)
  unfolding insert_key
  insert-member-other k a [] m = absurd m
  insert-member-other k a (j ∷ js) m = go (compared less j k) (insert-member-other k a js) m
    where
      go : Compared less j k → (Member a js → Member a (insert_key less k js)) → Member a (j ∷ js) → Member a (insert_key less k (j ∷ js))
      go (after e) later (inl f) = rw e (inl f)
      go (after e) later (inr n) = rw e (inr (later n))
      go (before e f) later n = rw (e, f) (inr n)
      go (level e f) later n = rw (e, f) n

  insert-passing : {P : K → Type 0} (k : K) (js : List K) → P k → ((a : K) → Member a js → P a) → (a : K) → Member a (insert_key less k js) → P a
  insert-passing k js pk ps a n = ⊎_elim (λ e. rw e pk) (ps a) (of-insert-member k a js n)

  -- ---- all keys of a list put in

  insert_all-rising : (ks js : List K) → Rising less js → Rising less (insert_all less js ks)
  unfolding insert_all
  insert_all-rising [] js r = r
  insert_all-rising (k ∷ ks) js r = insert_all-rising ks (insert_key less k js) (insert-rising k js r)

  insert_all-append : (ks ls js : List K) → insert_all less js (ks ++ ls) ≡ insert_all less (insert_all less js ks) ls
  unfolding insert_all
  insert_all-append [] ls js = refl
  insert_all-append (k ∷ ks) ls js = insert_all-append ks ls (insert_key less k js)

  insert_all-keeps : (ks js : List K) (a : K) → Member a js → Member a (insert_all less js ks)
  unfolding insert_all
  insert_all-keeps [] js a m = m
  insert_all-keeps (k ∷ ks) js a m = insert_all-keeps ks (insert_key less k js) a (insert-member-other k a js m)

  of_insert_all_member : (ks js : List K) (a : K) → Member a (insert_all less js ks) → Member a js ⊎ Member a ks
  unfolding insert_all
  of_insert_all_member [] js a m = inl m
  of_insert_all_member (k ∷ ks) js a m =
      ⊎_elim (λ n. ⊎_elim (λ e. inr (inl e)) (λ e. inl e) (of-insert-member k a js n)) (λ n. inr (inr n))
      (of_insert_all_member ks (insert_key less k js) a m)

  pub rising-rising : (ks : List K) → Rising less (rising less ks)
  unfolding rising
  rising-rising ks = insert_all-rising ks [] tt

  pub rising-next : (ks : List K) (k : K) → rising less (ks ++ (k ∷ [])) ≡ insert_key less k (rising less ks)
  unfolding rising
  rising-next ks k = insert_all-append ks (k ∷ []) []

  pub of-rising-member : (ks : List K) (k : K) → Member k (rising less ks) → Member k ks
  unfolding rising
  of-rising-member ks k m = ⊎_elim (λ n. absurd n) (λ n. n) (of_insert_all_member ks [] k m)

  -- ---- slots

  -- the list after a key is put in at its slot
  abbrev placed : Slot → K → List K → List K
  placed (found i) k js = js
  placed (free i) k js = insert_at i k js

  placed-next : (s : Slot) (k j : K) (js : List K) → placed (next_slot s) k (j ∷ js) ≡ j ∷ placed s k js
  placed-next (found i) k j js = refl
  placed-next (free i) k j js = refl

  insert-slot : (k : K) (js : List K) → insert_key less k js ≡ placed (slot_of less k js) k js
  unfolding insert_key slot_of
  insert-slot k [] = refl
  insert-slot k (j ∷ js) = go (compared less j k) (insert-slot k js)
    where
      go :
          Compared less j k → insert_key less k js ≡ placed (slot_of less k js) k js
          → insert_key less k (j ∷ js) ≡ placed (slot_of less k (j ∷ js)) k (j ∷ js)
      go (after e) later = rw e (ap (λ (l : List K). j ∷ l) later ∙ sym (placed-next (slot_of less k js) k j js))
      go (before e f) later = rw (e, f) refl
      go (level e f) later = rw (e, f) refl

  pub insert-found : (k : K) (js : List K) (i : ℕ) → slot_of less k js ≡ found i → insert_key less k js ≡ js
  insert-found k js i e = insert-slot k js ∙ ap (λ (s : Slot). placed s k js) e

  pub insert-free : (k : K) (js : List K) (i : ℕ) → slot_of less k js ≡ free i → insert_key less k js ≡ insert_at i k js
  insert-free k js i e = insert-slot k js ∙ ap (λ (s : Slot). placed s k js) e

  -- a slot of a list of n keys
  abbrev Inside : Slot → ℕ → Type 0
  Inside (found i) n = i < n
  Inside (free i) n = i ≤ n

  inside-next : (s : Slot) (n : ℕ) → Inside s n → Inside (next_slot s) (suc n)
  inside-next (found i) n h = suc-le-suc h
  inside-next (free i) n h = suc-le-suc h

  slot-inside : (k : K) (js : List K) → Inside (slot_of less k js) (length js)
  unfolding slot_of
  slot-inside k [] = omega arith
  slot-inside k (j ∷ js) = go (compared less j k) (slot-inside k js)
    where
      go : Compared less j k → Inside (slot_of less k js) (length js) → Inside (slot_of less k (j ∷ js)) (length (j ∷ js))
      go (after e) later = rw e (inside-next (slot_of less k js) (length js) later)
      go (before e f) later = rw (e, f) (omega arith)
      go (level e f) later = rw (e, f) (omega arith)

  pub slot-found-below : (k : K) (js : List K) (i : ℕ) → slot_of less k js ≡ found i → i < length js
  slot-found-below k js i e = subst (λ (s : Slot). Inside s (length js)) e (slot-inside k js)

  pub slot-free-below : (k : K) (js : List K) (i : ℕ) → slot_of less k js ≡ free i → i ≤ length js
  slot-free-below k js i e = subst (λ (s : Slot). Inside s (length js)) e (slot-inside k js)

-- a slot that is found is one where k stands
abbrev Stands : {K : Type 0} → Slot → K → K → List K → Type 0
Stands (found i) d k js = get_or js i d ≡ k
Stands (free i) d k js = Unit {0}

stands_next : {K : Type 0} (s : Slot) (d k j : K) (js : List K) → Stands s d k js → Stands (next_slot s) d k (j ∷ js)
stands_next (found i) d k j js h = h
stands_next (free i) d k j js h = h

-- the keys before low are less than k, and k is less than the keys from high on
pub record Between {K : Type 0} (less : K → K → Bool) (d k : K) (js : List K) (low high : ℕ) : Type 0 where
  pub ordered : low ≤ high
  pub inside : high ≤ length js
  pub before : (a : ℕ) → a < low → less (get_or js a d) k ≡ true
  pub after : (a : ℕ) → high ≤ a → a < length js → less k (get_or js a d) ≡ true

module _ {K : Type 0} {P : K → Type 0} {less : K → K → Bool} (o : Orders P less) where
  pub insert-member-own : (k : K) (js : List K) → P k → ((a : K) → Member a js → P a) → Member k (insert_key less k js)
  unfolding insert_key
  insert-member-own k [] pk ps = inl refl
  insert-member-own k (j ∷ js) pk ps = go (compared less j k) (insert-member-own k js pk (λ a m. ps a (inr m)))
    where
      go : Compared less j k → Member k (insert_key less k js) → Member k (insert_key less k (j ∷ js))
      go (after e) later = rw e (inr later)
      go (before e f) later = rw (e, f) (inl refl)
      go (level e f) later = rw (e, f) (inl (o.total k j pk (ps j (inl refl)) f e))

  insert_all_member :
      (ks js : List K) → ((a : K) → Member a js → P a) → ((a : K) → Member a ks → P a)
      → (k : K) → Member k ks → Member k (insert_all less js ks)
  unfolding insert_all
  insert_all_member [] js ps qs k m = absurd m
  insert_all_member (b ∷ ks) js ps qs k (inl e) =
      insert_all-keeps less ks (insert_key less b js) k (rw e (insert-member-own b js (qs b (inl refl)) ps))
  insert_all_member (b ∷ ks) js ps qs k (inr m) =
      insert_all_member ks (insert_key less b js) (insert-passing less b js (qs b (inl refl)) ps) (λ a n. qs a (inr n)) k m

  pub rising-member : (ks : List K) → ((a : K) → Member a ks → P a) → (k : K) → Member k ks → Member k (rising less ks)
  unfolding rising
  rising-member ks ps = insert_all_member ks [] (λ a m. absurd m) ps

  -- ---- places in rising order

  less-not : (a b : K) → less a b ≡ true → less b a ≡ false
  less-not a b e = go (less b a) refl
    where
      go : (t : Bool) → less b a ≡ t → t ≡ false
      go true f = absurd (false≢true (sym (o.irrefl a) ∙ o.trans a b a e f))
      go false f = refl

  pub rising_above : (a : K) (ks : List K) → Rising less (a ∷ ks) → (b : K) → Member b ks → less a b ≡ true
  rising_above a [] r b m = absurd m
  rising_above a (c ∷ ks) r b (inl e) = rw e r.0
  rising_above a (c ∷ ks) r b (inr m) = o.trans a c b r.0 (rising_above c ks r.1 b m)

  pub rising_no_repeats : (js : List K) → Rising less js → NoRepeats js
  rising_no_repeats [] r = tt
  rising_no_repeats (a ∷ js) r =
      (λ m. false≢true (sym (o.irrefl a) ∙ rising_above a js r a m), rising_no_repeats js (rising-tail less a js r))

  pub rising-places : (js : List K) (d : K) → Rising less js → (a b : ℕ) → a < b → b < length js → less (get_or js a d) (get_or js b d) ≡ true
  rising-places [] d r a b h l = absurd (not-suc-le-zero l)
  rising-places (j ∷ js) d r a zero h l = absurd (not-suc-le-zero h)
  rising-places (j ∷ js) d r zero (suc b) h l = rising_above j js r (get_or js b d) (member_at js d b (le_of_suc-le-suc l))
  rising-places (j ∷ js) d r (suc a) (suc b) h l =
      rising-places js d (rising-tail less j js r) a b (le_of_suc-le-suc h) (le_of_suc-le-suc l)

  slot-stands : (k : K) (js : List K) (d : K) → P k → ((a : K) → Member a js → P a) → Stands (slot_of less k js) d k js
  unfolding slot_of
  slot-stands k [] d pk ps = tt
  slot-stands k (j ∷ js) d pk ps = go (compared less j k) (slot-stands k js d pk (λ a m. ps a (inr m)))
    where
      go : Compared less j k → Stands (slot_of less k js) d k js → Stands (slot_of less k (j ∷ js)) d k (j ∷ js)
      go (after e) later = rw e (stands_next (slot_of less k js) d k j js later)
      go (before e f) later = rw (e, f) tt
      go (level e f) later = rw (e, f) (o.total j k (ps j (inl refl)) pk e f)

  slot-own : (js : List K) (d : K) → Rising less js → (m : ℕ) → m < length js → slot_of less (get_or js m d) js ≡ found m
  unfolding slot_of
  slot-own [] d r m h = absurd (not-suc-le-zero h)
  slot-own (j ∷ js) d r zero h = rw (o.irrefl j)
  slot-own (j ∷ js) d r (suc m) h =
      rw (rising_above j js r (get_or js m d) (member_at js d m (le_of_suc-le-suc h)))
      (ap next_slot (slot-own js d (rising-tail less j js r) m (le_of_suc-le-suc h)))

  pub slot-found-at :
      (k : K) (js : List K) (d : K) (i : ℕ) → P k → ((a : K) → Member a js → P a) → slot_of less k js ≡ found i
      → get_or js i d ≡ k
  slot-found-at k js d i pk ps e = subst (λ (s : Slot). Stands s d k js) e (slot-stands k js d pk ps)

  slot-gap :
      (js : List K) (d k : K) (low : ℕ) → low ≤ length js → ((a : ℕ) → a < low → less (get_or js a d) k ≡ true)
      → ((a : ℕ) → low ≤ a → a < length js → less k (get_or js a d) ≡ true) → slot_of less k js ≡ free low
  unfolding slot_of
  slot-gap [] d k zero h u v = refl
  slot-gap [] d k (suc low) h u v = absurd (not-suc-le-zero h)
  slot-gap (j ∷ js) d k zero h u v =
      let e : less k j ≡ true = v 0 (omega arith) (omega arith) in
      rw (less-not k j e, e) refl
  slot-gap (j ∷ js) d k (suc low) h u v =
      rw (u 0 (omega arith))
      (ap next_slot
      (slot-gap js d k low (le_of_suc-le-suc h) (λ a l. u (suc a) (suc-le-suc l)) (λ a g l. v (suc a) (suc-le-suc g) (suc-le-suc l))))

  -- ---- the search by halves

  pub between_start : (d k : K) (js : List K) → Between less d k js 0 (length js)
  between_start d k js =
      record {
        ordered = omega arith;
        inside = omega arith;
        before = λ a h. absurd (not-suc-le-zero h);
        after = λ a h l. absurd (omega arith);
      }

  module _ {d k : K} {js : List K} {low high : ℕ} (b : Between less d k js low high) where
    pub between-free : high ≤ low → slot_of less k js ≡ free low
    between-free h =
        slot-gap js d k low (omega (arith, b.ordered, b.inside)) b.before
        (λ a g l. b.after a (omega (arith, b.ordered)) l)

    module _ (r : Rising less js) {m : ℕ} (l : low ≤ m) (h : m < high) where
      pub between-up : less (get_or js m d) k ≡ true → Between less d k js (m + 1) high
      between-up e =
          record { ordered = omega arith; inside = b.inside; before = λ a g. split a (eq-or-lt_of_le (below a g)); after = b.after }
        where
          below : (a : ℕ) → a < m + 1 → a ≤ m
          below a g = omega arith

          split : (a : ℕ) → (a ≡ m) ⊎ (a < m) → less (get_or js a d) k ≡ true
          split a (inl f) = rw f e
          split a (inr g) = o.trans (get_or js a d) (get_or js m d) k (rising-places js d r a m g (omega (arith, b.inside))) e

      pub between-down : less k (get_or js m d) ≡ true → Between less d k js low m
      between-down e =
          record { ordered = l; inside = omega (arith, b.inside); before = b.before; after = λ a g s. split a s (eq-or-lt_of_le g) }
        where
          split : (a : ℕ) → a < length js → (m ≡ a) ⊎ (m < a) → less k (get_or js a d) ≡ true
          split a s (inl f) = rw (← f) e
          split a s (inr g) = o.trans k (get_or js m d) (get_or js a d) e (rising-places js d r m a g s)

      pub between-found : less (get_or js m d) k ≡ false → less k (get_or js m d) ≡ false → P k → P (get_or js m d) → slot_of less k js ≡ found m
      between-found e f pk pm =
          rw (o.total k (get_or js m d) pk pm f e) (slot-own js d r m (omega (arith, b.inside)))

-- ---- keys renamed

-- names are compared as the keys that they name
module _ {K J : Type 0} {P : K → Type 0} (φ : K → J) (less : K → K → Bool) (over : J → J → Bool)
    (agree : (a b : K) → P a → P b → over (φ a) (φ b) ≡ less a b) where
  insert-renamed : (k : K) (js : List K) → P k → ((a : K) → Member a js → P a) → insert_key over (φ k) (map φ js) ≡ map φ (insert_key less k js)
  unfolding insert_key
  insert-renamed k [] pk ps = refl
  insert-renamed k (j ∷ js) pk ps = go (compared less j k) (insert-renamed k js pk (λ a m. ps a (inr m)))
    where
      pj : P j
      pj = ps j (inl refl)

      go : Compared less j k → insert_key over (φ k) (map φ js) ≡ map φ (insert_key less k js)
          → insert_key over (φ k) (map φ (j ∷ js)) ≡ map φ (insert_key less k (j ∷ js))
      go (after e) later = rw (agree j k pj pk, e) (ap (λ (l : List J). φ j ∷ l) later)
      go (before e f) later = rw (agree j k pj pk, agree k j pk pj, e, f) refl
      go (level e f) later = rw (agree j k pj pk, agree k j pk pj, e, f) refl

  insert_all-renamed :
      (ks js : List K) → ((a : K) → Member a ks → P a) → ((a : K) → Member a js → P a)
      → insert_all over (map φ js) (map φ ks) ≡ map φ (insert_all less js ks)
  unfolding insert_all
  insert_all-renamed [] js qs ps = refl
  insert_all-renamed (k ∷ ks) js qs ps =
      ap (λ (l : List J). insert_all over l (map φ ks)) (insert-renamed k js (qs k (inl refl)) ps)
      ∙ insert_all-renamed ks (insert_key less k js) (λ a m. qs a (inr m)) (insert-passing less k js (qs k (inl refl)) ps)

  pub rising-renamed : (ks : List K) → ((a : K) → Member a ks → P a) → rising over (map φ ks) ≡ map φ (rising less ks)
  unfolding rising
  rising-renamed ks ps = insert_all-renamed ks [] ps (λ a m. absurd m)
