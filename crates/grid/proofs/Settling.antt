-- Candidates whose words are compared one after the other: what one more says of the best so far and of those that give it, and that at the end these lead.
-- What two that give the same word say of others: their difference fixes the word, and candidates that differ by such an index give the same.
-- And the smallest index that reaches the least word, by the inverses of the candidates that lead.
use Rattle.std.specs.declared.cmp.Ordering.{Ordering}
use Rattle.std.specs.declared.cmp.Ordering.TheVariants.{Less, Equal, Greater}
use Prim.Native.Nat.{ℕ, ◌+◌, ◌*◌, ◌/◌, ◌%◌, ◌<◌, ◌≤◌, min}
use mathlib.Core.Path.{◌≡◌, refl, sym, ◌∙◌, ap, ap₂, subst}
use mathlib.Core.Logic.{◌⊎◌, inl, inr, ◌↔◌}
use mathlib.Core.Bool.{Bool, true, false, ◌||◌, ◌&&◌, not, or-true, or-false, true≢false, false≢true}
use mathlib.Core.List.{List}
use native.Mathlib.Nat.{min-le_left, min-le_right, le-min}
use native.Mathlib.Omega.{arith}
use lib.Bits.{bit_or}
use lib.Dec.{ltb, eqb}
use lib.ListN.{length, get_or, set}
use borrow.Author.Tests.{le-ltb, eqb-true, eq-eqb, ne_eqb}
use Rattle.pauli_word.specs.Word.{Word, same, less}
use Rattle.pauli_word.specs.Calls.{order_of_words}
use Rattle.pauli_word.proofs.WordOrder.{same_refl, same_eq, less_irrefl, less_trans, less-total}
use Rattle.action.specs.Permutation.{Generator, Valid}
use Rattle.action.specs.Index.{order_of, add, inverse}
use Rattle.action.specs.Orbit.{reach, forward, index_back}
use Rattle.action.proofs.Index.{add_comm}
use Rattle.action.proofs.Reach.{reach-length, reach-zero, reach-add, reach-inverse, reach-of-inverse}
use Rattle.action.proofs.Canonical.{forward-below, back_below}
use Rattle.elements.proofs.LeastSoFar.{order_less, order_not-less, order_same, order_not-same}
use Rattle.packed.specs.Packed.{word_bits, bit_at, bit_of}
use Rattle.packed.proofs.Packing.{bit_of_set, bit_of_set-other}
use Rattle.packed.proofs.Shifts.{bit-or, at_word}
use Rattle.rotation.specs.Rotation.{led}
use Rattle.cyclic.proofs.BitOrder.{by_equal, by_order}
use Rattle.grid.specs.Candidates.{candidate, Among, Leading}
use Rattle.grid.specs.Weighing.{found, shifted, Weighed, Knows}
use Rattle.grid.proofs.Leads.{leading-back, leading-forward, leading-first}

-- ---- sets

-- k put into a set by its bit
pub put-bit : (ws : List ℕ) (k v : ℕ) → k < word_bits * length ws → ((j : ℕ) → j < word_bits → bit_at v j ≡ eqb (word_bits * (k / word_bits) + j) k)
    → (j : ℕ) → bit_of (set ws (k / word_bits) (bit_or v (get_or ws (k / word_bits) 0))) j ≡ (eqb j k || bit_of ws j)
put-bit ws k v h own j = by_equal (j / word_bits) (k / word_bits) here other
  where
    i : ℕ
    i = k / word_bits

    here : j / word_bits ≡ i → bit_of (set ws i (bit_or v (get_or ws i 0))) j ≡ (eqb j k || bit_of ws j)
    here e =
        let s : j % word_bits < word_bits = omega arith in
        let q : word_bits * i + j % word_bits ≡ j = omega arith in
        bit_of_set ws i (bit_or v (get_or ws i 0)) j (omega arith) e
        ∙ bit-or v (get_or ws i 0) (j % word_bits)
        ∙ ap₂ ◌||◌ (own (j % word_bits) s ∙ ap (λ (p : ℕ). eqb p k) q) (at_word ws i (j % word_bits) j s q)

    other : (j / word_bits ≡ i → ⊥) → bit_of (set ws i (bit_or v (get_or ws i 0))) j ≡ (eqb j k || bit_of ws j)
    other n =
        bit_of_set-other ws i (bit_or v (get_or ws i 0)) j n
        ∙ sym (ap (λ (b : Bool). b || bit_of ws j) (ne_eqb j k (λ e. n (ap (λ (p : ℕ). p / word_bits) e))))

-- no number is in an empty run
pub none_bit : (j : ℕ) → (not (ltb j 0) && ltb j 0) ≡ false
none_bit j = rw (le-ltb j 0 (omega arith))

-- what is put into an empty set is there alone
pub alone-bit : (a b : Bool) → b ≡ false → (a || b) ≡ a
alone-bit a b e = ap (λ (c : Bool). a || c) e ∙ or-false a

-- ---- one candidate more

-- before any candidate is weighed none is found
pub weighed_start : {gs : List Generator} {w u : Word} {S F : ℕ → Bool} (b : ℕ) → S b ≡ true → u ≡ candidate gs w b → ((j : ℕ) → F j ≡ false) → Weighed gs w S 0 u F
weighed_start b s e none = record {
  given = (b, s, sym e);
  none = λ j h t. absurd (omega arith);
  exactly = λ j. ((λ t. absurd (true≢false (sym t ∙ none j))), λ h. absurd (omega (arith, h.0)));
}

either : (a b : Bool) → (a || b) ≡ true → (a ≡ true) ⊎ (b ≡ true)
either true b e = inl refl
either false b e = inr e

module _ {gs : List Generator} {w u : Word} {S F : ℕ → Bool} {k : ℕ} (h : Weighed gs w S k u F) where
  -- a candidate that is not left changes nothing
  pub weighed-out : S k ≡ false → Weighed gs w S (k + 1) u F
  weighed-out s = record {
    given = h.given;
    none = λ j l t. h.none j (before j l t) t;
    exactly = λ j. ((λ f. let (a, b, c) = (h.exactly j).0 f in (omega arith, b, c)), λ a. (h.exactly j).1 (before j a.0 a.1, a.1, a.2));
  }
    where
      before : (j : ℕ) → j < k + 1 → S j ≡ true → j < k
      before j l t = by_equal j k (λ e. absurd (true≢false (sym t ∙ ap S e ∙ s))) (λ e. omega arith)

  module _ (s : S k ≡ true) where
    -- one that gives a lesser word is the first to give it
    weighed-less : less (candidate gs w k) u ≡ true → {F' : ℕ → Bool} → ((j : ℕ) → F' j ≡ eqb j k) → Weighed gs w S (k + 1) (candidate gs w k) F'
    weighed-less l {F'} own = record { given = (k, s, refl); none = none; exactly = exactly }
      where
        none : (j : ℕ) → j < k + 1 → S j ≡ true → less (candidate gs w j) (candidate gs w k) ≡ false
        none j m t =
            by_equal j k (λ e. ap (λ (i : ℕ). less (candidate gs w i) (candidate gs w k)) e ∙ less_irrefl (candidate gs w k))
            (λ e. go (omega arith) (less (candidate gs w j) (candidate gs w k)) refl)
          where
            go : j < k → (b : Bool) → less (candidate gs w j) (candidate gs w k) ≡ b → b ≡ false
            go p false r = refl
            go p true r = absurd (true≢false (sym (less_trans (candidate gs w j) (candidate gs w k) u r l) ∙ h.none j p t))

        exactly : (j : ℕ) → (F' j ≡ true) ↔ ((j < k + 1) × (S j ≡ true) × (candidate gs w j ≡ candidate gs w k))
        exactly j = (there, back)
          where
            there : F' j ≡ true → (j < k + 1) × (S j ≡ true) × (candidate gs w j ≡ candidate gs w k)
            there f =
                let e : j ≡ k = eqb-true j k (sym (own j) ∙ f) in
                (omega arith, ap S e ∙ s, ap (candidate gs w) e)

            back : (j < k + 1) × (S j ≡ true) × (candidate gs w j ≡ candidate gs w k) → F' j ≡ true
            back (m, t, c) =
                by_equal j k (λ e. own j ∙ eq-eqb j k e)
                (λ e. absurd (true≢false (sym l ∙ ap (λ (v : Word). less v u) (sym c) ∙ h.none j (omega arith) t)))

    -- one that does not leaves the best
    none_more : less (candidate gs w k) u ≡ false → (j : ℕ) → j < k + 1 → S j ≡ true → less (candidate gs w j) u ≡ false
    none_more l j m t = by_equal j k (λ e. ap (λ (i : ℕ). less (candidate gs w i) u) e ∙ l) (λ e. h.none j (omega arith) t)

    -- and is found too if it gives the best
    weighed-same : less (candidate gs w k) u ≡ false → candidate gs w k ≡ u → {F' : ℕ → Bool} → ((j : ℕ) → F' j ≡ (eqb j k || F j)) → Weighed gs w S (k + 1) u F'
    weighed-same l c {F'} own = record { given = h.given; none = none_more l; exactly = exactly }
      where
        exactly : (j : ℕ) → (F' j ≡ true) ↔ ((j < k + 1) × (S j ≡ true) × (candidate gs w j ≡ u))
        exactly j = ((λ f. there (either (eqb j k) (F j) (sym (own j) ∙ f))), back)
          where
            there : (eqb j k ≡ true) ⊎ (F j ≡ true) → (j < k + 1) × (S j ≡ true) × (candidate gs w j ≡ u)
            there (inl f) = let e : j ≡ k = eqb-true j k f in (omega arith, ap S e ∙ s, ap (candidate gs w) e ∙ c)
            there (inr f) = let (a, b, d) = (h.exactly j).0 f in (omega arith, b, d)

            back : (j < k + 1) × (S j ≡ true) × (candidate gs w j ≡ u) → F' j ≡ true
            back (m, t, d) =
                by_equal j k (λ e. own j ∙ ap (λ (b : Bool). b || F j) (eq-eqb j k e))
                (λ e. own j ∙ ap (λ (b : Bool). eqb j k || b) ((h.exactly j).1 (omega arith, t, d)) ∙ or-true (eqb j k))

    -- so it is where it is known to give the best
    pub weighed-tie : candidate gs w k ≡ u → {F' : ℕ → Bool} → ((j : ℕ) → F' j ≡ (eqb j k || F j)) → Weighed gs w S (k + 1) u F'
    weighed-tie c = weighed-same (ap (λ (v : Word). less v u) c ∙ less_irrefl u) c

    -- and not if it gives a greater one
    weighed-greater : less (candidate gs w k) u ≡ false → (candidate gs w k ≡ u → ⊥) → {F' : ℕ → Bool} → ((j : ℕ) → F' j ≡ F j) → Weighed gs w S (k + 1) u F'
    weighed-greater l n {F'} own = record { given = h.given; none = none_more l; exactly = exactly }
      where
        exactly : (j : ℕ) → (F' j ≡ true) ↔ ((j < k + 1) × (S j ≡ true) × (candidate gs w j ≡ u))
        exactly j = ((λ f. let (a, b, d) = (h.exactly j).0 (sym (own j) ∙ f) in (omega arith, b, d)), back)
          where
            back : (j < k + 1) × (S j ≡ true) × (candidate gs w j ≡ u) → F' j ≡ true
            back (m, t, d) =
                by_equal j k (λ e. absurd (n (ap (candidate gs w) (sym e) ∙ d))) (λ e. own j ∙ (h.exactly j).1 (omega arith, t, d))

    -- how its word stands to the best says which of these
    pub weighed-in : {v u' : Word} {F' : ℕ → Bool} → v ≡ candidate gs w k → u' ≡ led (order_of_words v u) v u
        → ((j : ℕ) → F' j ≡ found (order_of_words v u) (eqb j k) (F j)) → Weighed gs w S (k + 1) u' F'
    weighed-in {v} {u'} {F'} e a b = go (order_of_words v u) refl a b
      where
        long : length (candidate gs w k) ≡ length u
        long = let (i, t, c) = h.given in reach-length gs (inverse gs k) w ∙ sym (reach-length gs (inverse gs i) w) ∙ ap length c

        not-less : {o : Ordering} → order_of_words v u ≡ o → (o ≡ Less → ⊥) → less (candidate gs w k) u ≡ false
        not-less t n = ap (λ (x : Word). less x u) (sym e) ∙ order_not-less v u (λ l. n (sym t ∙ l))

        go : (o : Ordering) → order_of_words v u ≡ o → u' ≡ led o v u → ((j : ℕ) → F' j ≡ found o (eqb j k) (F j)) → Weighed gs w S (k + 1) u' F'
        go Less t a b =
            subst (λ (x : Word). Weighed gs w S (k + 1) x F') (sym (a ∙ e))
            (weighed-less (ap (λ (x : Word). less x u) (sym e) ∙ order_less v u t) b)
        go Equal t a b =
            subst (λ (x : Word). Weighed gs w S (k + 1) x F') (sym a)
            (weighed-same (not-less t (λ l. let z : ◌≡◌ {A = ℕ} 0 1 = cc in omega arith))
            (sym e ∙ same_eq v u (order_same v u (ap length e ∙ long) t)) b)
        go Greater t a b =
            subst (λ (x : Word). Weighed gs w S (k + 1) x F') (sym a)
            (weighed-greater (not-less t (λ l. let z : ◌≡◌ {A = ℕ} 0 1 = cc in omega arith)) apart b)
          where
            apart : candidate gs w k ≡ u → ⊥
            apart c =
                false≢true
                (sym (order_not-same v u (λ l. let z : ◌≡◌ {A = ℕ} 0 1 = cc in omega arith)) ∙ ap (λ (x : Word). same x u) (e ∙ c) ∙ same_refl u)

-- ---- indices that fix the word

module _ {n : ℕ} {gs : List Generator} (v : Valid n gs) {w : Word} (e : length w ≡ n) where
  -- candidates that differ by such an index give the same word
  pub shift_same : (k s : ℕ) → reach gs s w ≡ w → candidate gs w (add gs k s) ≡ candidate gs w k
  shift_same k s f = sym (reach-inverse v k c long) ∙ ap (reach gs (inverse gs k)) there
    where
      c : Word
      c = candidate gs w (add gs k s)

      long : length c ≡ n
      long = reach-length gs (inverse gs (add gs k s)) w ∙ e

      there : reach gs k c ≡ w
      there =
          sym (reach-inverse v s (reach gs k c) (reach-length gs k c ∙ long))
          ∙ ap (reach gs (inverse gs s)) (sym (reach-add v k s c long) ∙ reach-of-inverse v (add gs k s) w e ∙ sym f)
          ∙ reach-inverse v s w e

  -- the difference of two that give the same word is one
  pub tie-fixes : (j k : ℕ) → candidate gs w j ≡ candidate gs w k → reach gs (add gs j (inverse gs k)) w ≡ w
  tie-fixes j k t =
      ap (λ (i : ℕ). reach gs i w) (add_comm gs j (inverse gs k))
      ∙ reach-add v (inverse gs k) j w e
      ∙ ap (reach gs j) (sym t)
      ∙ reach-of-inverse v j w e

  -- a candidate that leads, or is a shift away from one that is found, gives the best word
  pub knows-tie : {u : Word} {S F : ℕ → Bool} {k lead shift : ℕ} → Knows gs w u lead shift → Weighed gs w S k u F
      → (eqb k lead || F (add gs k shift)) ≡ true → candidate gs w k ≡ u
  knows-tie {u} {S} {F} {k} {lead} {shift} known h t = go (either (eqb k lead) (F (add gs k shift)) t)
    where
      go : (eqb k lead ≡ true) ⊎ (F (add gs k shift) ≡ true) → candidate gs w k ≡ u
      go (inl l) = ap (candidate gs w) (eqb-true k lead l) ∙ known.leads
      go (inr f) = sym (shift_same k shift known.fixed) ∙ ((h.exactly (add gs k shift)).0 f).2

  -- what is known after one more is compared with the best so far
  pub knows-next : {u c u' : Word} (k : ℕ) {lead shift lead' shift' : ℕ} {o : Ordering} → Knows gs w u lead shift → c ≡ candidate gs w k → o ≡ order_of_words c u
      → u' ≡ led (order_of_words c u) c u → lead' ≡ led o k lead → shift' ≡ shifted o (add gs lead (inverse gs k)) shift → Knows gs w u' lead' shift'
  knows-next {u} {c} {u'} k {lead} {shift} {lead'} {shift'} {o} known a t b l s =
      go o (sym t) (b ∙ ap (λ (p : Ordering). led p c u) (sym t)) l s
    where
      long : length c ≡ length u
      long = ap length a ∙ reach-length gs (inverse gs k) w ∙ sym (reach-length gs (inverse gs lead) w) ∙ ap length known.leads

      moved : (i : ℕ) → i ≡ shift → reach gs i w ≡ w
      moved i d = ap (λ (p : ℕ). reach gs p w) d ∙ known.fixed

      go : (p : Ordering) → order_of_words c u ≡ p → u' ≡ led p c u → lead' ≡ led p k lead → shift' ≡ shifted p (add gs lead (inverse gs k)) shift
          → Knows gs w u' lead' shift'
      go Less q x y z = record { leads = ap (candidate gs w) y ∙ sym a ∙ sym x; fixed = moved shift' z }
      go Equal q x y z = record {
        leads = ap (candidate gs w) y ∙ known.leads ∙ sym x;
        fixed = ap (λ (p : ℕ). reach gs p w) z ∙ tie-fixes lead k (known.leads ∙ sym (same_eq c u (order_same c u long q)) ∙ a);
      }
      go Greater q x y z = record { leads = ap (candidate gs w) y ∙ known.leads ∙ sym x; fixed = moved shift' z }

-- before any is weighed the shift is 0
pub knows_start : {gs : List Generator} {w u : Word} {lead : ℕ} → candidate gs w lead ≡ u → Knows gs w u lead 0
knows_start {gs} {w} c = record { leads = c; fixed = reach-zero gs w }

-- where all are weighed, those that were found lead
pub weighed_leading : {gs : List Generator} {w u : Word} {S F : ℕ → Bool} → Among gs w S → Weighed gs w S (order_of gs) u F → Leading gs w F
weighed_leading {gs} {w} {u} {S} {F} a h = record {
  among = record { inside = λ k f. ((h.exactly k).0 f).0; some = some; rest = rest };
  ties = λ j k f g. ((h.exactly j).0 f).2 ∙ sym ((h.exactly k).0 g).2;
}
  where
    some : (k : ℕ) × (F k ≡ true)
    some = let (b, s, c) = h.given in (b, (h.exactly b).1 (a.inside b s, s, c))

    rest : (j k : ℕ) → F j ≡ true → k < order_of gs → F k ≡ false → less (candidate gs w j) (candidate gs w k) ≡ true
    rest j k f l g = go (S k) refl
      where
        t : (j < order_of gs) × (S j ≡ true) × (candidate gs w j ≡ u)
        t = (h.exactly j).0 f

        decide : S k ≡ true → (less (candidate gs w j) (candidate gs w k) ≡ true) ⊎ ((candidate gs w j ≡ candidate gs w k) ⊎ (less (candidate gs w k) (candidate gs w j) ≡ true))
            → less (candidate gs w j) (candidate gs w k) ≡ true
        decide s (inl d) = d
        decide s (inr (inl d)) = absurd (true≢false (sym ((h.exactly k).1 (l, s, sym d ∙ t.2)) ∙ g))
        decide s (inr (inr d)) = absurd (true≢false (sym d ∙ ap (less (candidate gs w k)) t.2 ∙ h.none k l s))

        go : (b : Bool) → S k ≡ b → less (candidate gs w j) (candidate gs w k) ≡ true
        go true s = decide s (less-total (candidate gs w j) (candidate gs w k) (reach-length gs (inverse gs j) w ∙ sym (reach-length gs (inverse gs k) w)))
        go false s = a.rest j k t.1 l s

-- ---- the smallest inverse

-- of the numbers below k that are in S the smallest inverse, and the group's order if none is
pub record Smallest (gs : List Generator) (S : ℕ → Bool) (k best : ℕ) : Type 0 where
  pub least : (j : ℕ) → j < k → S j ≡ true → best ≤ inverse gs j
  pub own : (best ≡ order_of gs) ⊎ ((j : ℕ) × (S j ≡ true) × (best ≡ inverse gs j))

-- before any number it is the order
pub smallest_start : {gs : List Generator} {S : ℕ → Bool} {o : ℕ} → o ≡ order_of gs → Smallest gs S 0 o
smallest_start e = record { least = λ j h s. absurd (omega arith); own = inl e }

module _ {gs : List Generator} {S : ℕ → Bool} {k best : ℕ} (h : Smallest gs S k best) where
  -- a number that is not in S changes nothing
  pub smallest-out : S k ≡ false → Smallest gs S (k + 1) best
  smallest-out s = record {
    least = λ j l t. by_equal j k (λ e. absurd (true≢false (sym t ∙ ap S e ∙ s))) (λ e. h.least j (omega arith) t);
    own = h.own;
  }

  -- for one that is, the smaller of its inverse and the smallest before
  pub smallest-in : S k ≡ true → {next : ℕ} → next ≡ min (inverse gs k) best → Smallest gs S (k + 1) next
  smallest-in s {next} e = record { least = least; own = own }
    where
      i : ℕ
      i = inverse gs k

      least : (j : ℕ) → j < k + 1 → S j ≡ true → next ≤ inverse gs j
      least j l t =
          by_equal j k (λ d. subst (λ (m : ℕ). next ≤ inverse gs m) (sym d) (omega (arith, min-le_left i best)))
          (λ d. omega (arith, min-le_right i best, h.least j (omega arith) t))

      kept : best ≡ next → (best ≡ order_of gs) ⊎ ((j : ℕ) × (S j ≡ true) × (best ≡ inverse gs j))
          → (next ≡ order_of gs) ⊎ ((j : ℕ) × (S j ≡ true) × (next ≡ inverse gs j))
      kept d (inl a) = inl (sym d ∙ a)
      kept d (inr (j, t, a)) = inr (j, t, sym d ∙ a)

      own : (next ≡ order_of gs) ⊎ ((j : ℕ) × (S j ≡ true) × (next ≡ inverse gs j))
      own =
          by_order i best
          (λ a. let low : i ≤ min i best = le-min (omega arith) a in inr (k, s, omega (arith, min-le_left i best)))
          (λ a. let low : best ≤ min i best = le-min (omega arith) (omega arith) in kept (omega (arith, min-le_right i best)) h.own)

-- of candidates that lead it is the smallest index that reaches the least word
pub smallest_forward : {n : ℕ} {gs : List Generator} → Valid n gs → {w : Word} → length w ≡ n → {S : ℕ → Bool} → Leading gs w S → {k best : ℕ} → order_of gs ≤ k
    → Smallest gs S k best → best ≡ forward gs w
smallest_forward {gs = gs} v {w} e {S} l {k} {best} all h = go h.own
  where
    small : best ≤ forward gs w
    small =
        omega (arith, h.least (index_back gs w) (omega (arith, back_below v w)) (leading-back v w e l), leading-forward v w e l)

    go : (best ≡ order_of gs) ⊎ ((j : ℕ) × (S j ≡ true) × (best ≡ inverse gs j)) → best ≡ forward gs w
    go (inl o) = absurd (omega (arith, forward-below v w, small))
    go (inr (j, s, i)) = omega (arith, leading-first v w e l j s, small)

-- none is smaller than 0
pub smallest_none : {n : ℕ} {gs : List Generator} → Valid n gs → {w : Word} → length w ≡ n → {S : ℕ → Bool} → Leading gs w S → {k best : ℕ}
    → Smallest gs S k best → best ≡ 0 → 0 ≡ forward gs w
smallest_none {gs = gs} v {w} e {S} l {k} {best} h none = go h.own
  where
    go : (best ≡ order_of gs) ⊎ ((j : ℕ) × (S j ≡ true) × (best ≡ inverse gs j)) → 0 ≡ forward gs w
    go (inl o) = absurd (omega (arith, forward-below v w))
    go (inr (j, s, i)) = omega (arith, leading-first v w e l j s)
