-- The least word so far: of the first i entries of the orbit list, and its first place among them. The next entry takes its place exactly if it
-- is less, and then no entry before it is the same; otherwise the first place stays, since the list starts at the word itself.
use Rattle.std.specs.declared.cmp.Ordering.{Ordering}
use Rattle.std.specs.declared.cmp.Ordering.TheVariants.{Less, Equal, Greater}
use Prim.Native.Nat.{ℕ, suc, ◌+◌, ◌<◌}
use mathlib.Core.Path.{◌≡◌, refl, sym, ap, ap₂, ◌∙◌}
use mathlib.Core.Logic.{◌⊎◌, inl, inr, ⊎_elim}
use mathlib.Core.Bool.{Bool, true, false, cond, false≢true}
use mathlib.Core.List.{List, [], ◌∷◌, ◌++◌}
use native.Mathlib.Nat.{add-zero, zero-add, suc-add, eq-zero-or-pos}
use native.Mathlib.Omega.{arith}
use lib.ListN.{length}
use Rattle.pauli_word.specs.Limits.{plane_length}
use Rattle.pauli_word.specs.Word.{Word, same, less}
use Rattle.pauli_word.specs.Bytes.{plane_bits, AcceptedWord, letters_in, bytes_of}
use Rattle.pauli_word.specs.Calls.{order_of_words, order_of_bits}
use Rattle.pauli_word.proofs.WordOrder.{same_refl, same_eq, less_irrefl, less-total, order_words}
use Rattle.pauli_word.proofs.Words.{decode-length, encode-decode, encoded-accepted, encoded-decode}
use Rattle.action.specs.Lists.{from, below, Member}
use Rattle.action.specs.Permutation.{Generator}
use Rattle.action.specs.Index.{order_of}
use Rattle.action.specs.Orbit.{reach, least_of, least, first_at, forward}
use Rattle.action.proofs.Lists.{member_below, member-map, of-member-map}
use Rattle.action.proofs.Reach.{reach-length, reach-zero}
use Rattle.action.proofs.Canonical.{least_of_member, least_of-least}
use Rattle.elements.specs.HeldGroup.{generators_in, Tables}
use Rattle.elements.proofs.Orbits.{entries, entries-length, entries_next, entries_all}

-- the least of w and the first i entries
abbrev pub least_so_far : List Generator → Word → ℕ → Word
least_so_far gs w i = least_of w (entries gs w i)

least_of-next : (v : Word) (ws : List Word) (u : Word) → least_of v (ws ++ (u ∷ [])) ≡ cond (less u (least_of v ws)) u (least_of v ws)
unfolding least_of
least_of-next v [] u = refl
least_of-next v (w ∷ ws) u = least_of-next (cond (less w v) w v) ws u

first_at_member : (v : Word) (ws xs : List Word) → Member v ws → first_at v (ws ++ xs) ≡ first_at v ws
unfolding first_at
first_at_member v [] xs m = absurd m
first_at_member v (w ∷ ws) xs m = go (same v w) refl (first_at_member v ws xs) m
  where
    go : (b : Bool) → same v w ≡ b → (Member v ws → first_at v (ws ++ xs) ≡ first_at v ws) → Member v (w ∷ ws)
        → cond b 0 (suc (first_at v (ws ++ xs))) ≡ cond b 0 (suc (first_at v ws))
    go true t later m = refl
    go false t later (inl e) = absurd (false≢true (sym t ∙ rw e (same_refl w)))
    go false t later (inr m) = ap suc (later m)

first_at_append : (v : Word) (ws xs : List Word) → (Member v ws → ⊥) → first_at v (ws ++ xs) ≡ length ws + first_at v xs
unfolding first_at
first_at_append v [] xs h = sym (zero-add (first_at v xs))
first_at_append v (w ∷ ws) xs h = go (same v w) refl (first_at_append v ws xs (λ m. h (inr m)))
  where
    go : (b : Bool) → same v w ≡ b → first_at v (ws ++ xs) ≡ length ws + first_at v xs
        → cond b 0 (suc (first_at v (ws ++ xs))) ≡ suc (length ws) + first_at v xs
    go true t later = absurd (h (inl (same_eq v w t)))
    go false t later = ap suc later ∙ sym (suc-add (length ws) (first_at v xs))

-- at the entry itself
first_at_own : (v : Word) → first_at v (v ∷ []) ≡ 0
unfolding first_at
first_at_own v = rw same_refl

-- the first entry is w
place_first : (gs : List Generator) (w : Word) → first_at (least_so_far gs w 0) (entries gs w 0 ++ (reach gs 0 w ∷ [])) ≡ first_at (least_so_far gs w 0) (entries gs w 0)
unfolding below from least_of first_at
place_first gs w = ap (λ (u : Word). first_at w (u ∷ [])) (reach-zero gs w) ∙ first_at_own w

module _ (gs : List Generator) (w : Word) (i : ℕ) where
  lead-next : least_so_far gs w (i + 1) ≡ cond (less (reach gs i w) (least_so_far gs w i)) (reach gs i w) (least_so_far gs w i)
  lead-next = ap (least_of w) (entries_next gs w i) ∙ least_of-next w (entries gs w i) (reach gs i w)

  -- every entry is as long as the word
  pub entries-long : (u : Word) → Member u (entries gs w i) → length u ≡ length w
  entries-long u m = let (j, k, e) = of-member-map (λ j. reach gs j w) (below i) u m in ap length e ∙ reach-length gs j w

  -- and so is the least so far
  pub lead-length : length (least_so_far gs w i) ≡ length w
  lead-length = ⊎_elim (λ e. ap length e) (entries-long (least_so_far gs w i)) (least_of_member w (entries gs w i))

  -- an entry that is less than it is the least, for the first time
  module _ (h : less (reach gs i w) (least_so_far gs w i) ≡ true) where
    pub lead-taken : least_so_far gs w (i + 1) ≡ reach gs i w
    lead-taken = rw (lead-next, h)

    -- no entry before it is the same
    pub lead-new : Member (reach gs i w) (entries gs w i) → ⊥
    lead-new m = false≢true (sym (least_of-least w (entries gs w i) refl entries-long (reach gs i w) (inr m)) ∙ h)

    pub place-taken : first_at (least_so_far gs w (i + 1)) (entries gs w (i + 1)) ≡ i
    place-taken =
        rw (lead-taken, entries_next gs w i)
        (first_at_append (reach gs i w) (entries gs w i) (reach gs i w ∷ []) lead-new
        ∙ rw (entries-length gs w i, first_at_own, add-zero))

  -- otherwise both stay
  module _ (h : less (reach gs i w) (least_so_far gs w i) ≡ false) where
    pub lead-kept : least_so_far gs w (i + 1) ≡ least_so_far gs w i
    lead-kept = rw (lead-next, h)

    pub place_kept : first_at (least_so_far gs w (i + 1)) (entries gs w (i + 1)) ≡ first_at (least_so_far gs w i) (entries gs w i)
    place_kept = rw (lead-kept, entries_next gs w i) (go (eq-zero-or-pos i))
      where
        -- the list starts at w
        listed : 0 < i → Member (least_so_far gs w i) (entries gs w i)
        listed k = self (least_of_member w (entries gs w i))
          where
            self : Member (least_so_far gs w i) (w ∷ entries gs w i) → Member (least_so_far gs w i) (entries gs w i)
            self (inl e) = rw (e ∙ sym (reach-zero gs w)) (member-map (λ j. reach gs j w) (below i) 0 (member_below i 0 k))
            self (inr m) = m

        go : (i ≡ 0) ⊎ (0 < i) → first_at (least_so_far gs w i) (entries gs w i ++ (reach gs i w ∷ [])) ≡ first_at (least_so_far gs w i) (entries gs w i)
        go (inl e) = rw e (place_first gs w)
        go (inr k) = first_at_member (least_so_far gs w i) (entries gs w i) (reach gs i w ∷ []) (listed k)

-- ---- what comparing two words says, and their bytes

pub order_less : (v w : Word) → order_of_words v w ≡ Less → less v w ≡ true
unfolding order_of_words
order_less v w = go (less v w) (less w v)
  where
    go : (a b : Bool) → cond a Less (cond b Greater Equal) ≡ Less → a ≡ true
    go true b e = refl
    go false true e = let z : ◌≡◌ {A = ℕ} 0 1 = cc in absurd (omega arith)
    go false false e = let z : ◌≡◌ {A = ℕ} 0 1 = cc in absurd (omega arith)

pub order_not-less : (v w : Word) → (order_of_words v w ≡ Less → ⊥) → less v w ≡ false
unfolding order_of_words
order_not-less v w = go (less v w) (less w v)
  where
    go : (a b : Bool) → (cond a Less (cond b Greater Equal) ≡ Less → ⊥) → a ≡ false
    go true b h = absurd (h refl)
    go false b h = refl

pub order_same : (v w : Word) → length v ≡ length w → order_of_words v w ≡ Equal → same v w ≡ true
unfolding order_of_words
order_same v w l = go (less v w) (less w v) (less-total v w l)
  where
    go : (a b : Bool) → (a ≡ true) ⊎ ((v ≡ w) ⊎ (b ≡ true)) → cond a Less (cond b Greater Equal) ≡ Equal → same v w ≡ true
    go true b t e = let z : ◌≡◌ {A = ℕ} 0 1 = cc in absurd (omega arith)
    go false true t e = let z : ◌≡◌ {A = ℕ} 0 1 = cc in absurd (omega arith)
    go false false (inl h) e = absurd (false≢true h)
    go false false (inr (inl h)) e = rw h (same_refl w)
    go false false (inr (inr h)) e = absurd (false≢true h)

pub order_not-same : (v w : Word) → (order_of_words v w ≡ Equal → ⊥) → same v w ≡ false
unfolding order_of_words
order_not-same v w h = go (same v w) refl
  where
    go : (b : Bool) → same v w ≡ b → b ≡ false
    go true t = absurd (h (rw (same_eq v w t, less_irrefl w)))
    go false t = refl

module _ {n : ℕ} {here best : List ℕ} (h : AcceptedWord n here) (b : AcceptedWord n best) {o : Ordering}
    (eo : o ≡ order_of_bits (plane_bits here) (plane_bits best)) where
  pub less-taken : o ≡ Less → less (letters_in n here) (letters_in n best) ≡ true
  less-taken e = order_less (letters_in n here) (letters_in n best) (sym (eo ∙ order_words h b) ∙ e)

  pub less-left : (o ≡ Less → ⊥) → less (letters_in n here) (letters_in n best) ≡ false
  less-left f = order_not-less (letters_in n here) (letters_in n best) (λ e. f (eo ∙ order_words h b ∙ e))

  pub same_taken : o ≡ Equal → same (letters_in n here) (letters_in n best) ≡ true
  same_taken e =
      order_same (letters_in n here) (letters_in n best) (decode-length h ∙ sym (decode-length b)) (sym (eo ∙ order_words h b) ∙ e)

  pub same_left : (o ≡ Equal → ⊥) → same (letters_in n here) (letters_in n best) ≡ false
  same_left f = order_not-same (letters_in n here) (letters_in n best) (λ e. f (eo ∙ order_words h b ∙ e))

-- the next entry takes the lead or leaves it
module _ {k n : ℕ} {targets orders : List ℕ} (t : Tables k n targets orders) (w : Word) (long : length w ≡ n) (i : ℕ) {here best : List ℕ}
    (eh : here ≡ bytes_of (reach (generators_in k n targets orders) i w))
    (eb : best ≡ bytes_of (least_so_far (generators_in k n targets orders) w i)) where
  lowest : length (least_so_far (generators_in k n targets orders) w i) ≡ n
  lowest = lead-length (generators_in k n targets orders) w i ∙ long

  pub lead-accepted : AcceptedWord n best
  lead-accepted = encoded-accepted plane_length (least_so_far (generators_in k n targets orders) w i) lowest t.sites eb

  -- of the bytes, as of the words
  compared : less (letters_in n here) (letters_in n best)
      ≡ less (reach (generators_in k n targets orders) i w) (least_so_far (generators_in k n targets orders) w i)
  compared =
      let gs : List Generator = generators_in k n targets orders in
      ap₂ less (encoded-decode plane_length (reach gs i w) (reach-length gs i w ∙ long) t.sites eh)
      (encoded-decode plane_length (least_so_far gs w i) lowest t.sites eb)

  pub lead-bytes : {next : List ℕ} → next ≡ cond (less (letters_in n here) (letters_in n best)) here best
      → next ≡ bytes_of (least_so_far (generators_in k n targets orders) w (i + 1))
  lead-bytes {next} e = go (less (letters_in n here) (letters_in n best)) refl
    where
      gs : List Generator
      gs = generators_in k n targets orders

      go : (b : Bool) → less (letters_in n here) (letters_in n best) ≡ b → next ≡ bytes_of (least_so_far gs w (i + 1))
      go true h = e ∙ rw h (eh ∙ ap bytes_of (sym (lead-taken gs w i (sym compared ∙ h))))
      go false h = e ∙ rw h (eb ∙ ap bytes_of (sym (lead-kept gs w i (sym compared ∙ h))))

  pub lead-place : {index next : ℕ} → index ≡ first_at (least_so_far (generators_in k n targets orders) w i) (entries (generators_in k n targets orders) w i)
      → next ≡ cond (less (letters_in n here) (letters_in n best)) i index
      → next ≡ first_at (least_so_far (generators_in k n targets orders) w (i + 1)) (entries (generators_in k n targets orders) w (i + 1))
  lead-place {index} {next} p e = go (less (letters_in n here) (letters_in n best)) refl
    where
      gs : List Generator
      gs = generators_in k n targets orders

      go : (b : Bool) → less (letters_in n here) (letters_in n best) ≡ b
          → next ≡ first_at (least_so_far gs w (i + 1)) (entries gs w (i + 1))
      go true h = e ∙ rw h (sym (place-taken gs w i (sym compared ∙ h)))
      go false h = e ∙ rw h (p ∙ sym (place_kept gs w i (sym compared ∙ h)))

-- ---- before the first entry, and after the last

pub lead_start : {n : ℕ} {bytes : List ℕ} → AcceptedWord n bytes → (gs : List Generator)
    → bytes ≡ bytes_of (least_so_far gs (letters_in n bytes) 0)
unfolding below from least_of
lead_start ok gs = sym (encode-decode ok)

pub place-start : (gs : List Generator) (w : Word) → 0 ≡ first_at (least_so_far gs w 0) (entries gs w 0)
unfolding below from least_of first_at
place-start gs w = refl

module _ (gs : List Generator) (w : Word) (i : ℕ) (e : i ≡ order_of gs) where
  pub lead-end : least_so_far gs w i ≡ least gs w
  unfolding least
  lead-end = ap (least_of w) (ap (entries gs w) e ∙ entries_all gs w)

  pub place_end : first_at (least_so_far gs w i) (entries gs w i) ≡ forward gs w
  unfolding forward
  place_end = ap₂ first_at lead-end (ap (entries gs w) e ∙ entries_all gs w)
