-- What the turns of a word say of a group of one generator that rotates sites inside blocks: which indices reach the least word, which fix the word,
-- the orbit's size, the index back and which modes keep the word. What carries it: index i reaches the word turned by what i is short of a block, so
-- that the turns that give the least word, start and every step after it, are the indices that reach it, counted from the other end.
use Prim.Native.Nat.{ℕ, zero, suc, ◌+◌, ◌-◌, ◌*◌, ◌/◌, ◌%◌, ◌<◌, ◌≤◌, ◌∣◌}
use mathlib.Core.Path.{◌≡◌, refl, sym, ◌∙◌, ap, ap₂, fun_ext}
use mathlib.Core.Logic.{◌↔◌}
use mathlib.Core.Bool.{Bool, true, false, cond, ◌||◌, not}
use mathlib.Core.List.{List, [], ◌∷◌, map}
use native.Mathlib.Nat.{
  add_assoc,
  add_comm,
  add-mod,
  add-mod-mod,
  add-zero,
  div-eq_of_eq-mul_left,
  div-lt_iff_lt-mul,
  div-mul_cancel,
  div-one,
  dvd_of_mod-eq-zero,
  le_of_dvd,
  mod-add-div,
  mod-add-mod,
  mod-eq_of_lt,
  mod-lt,
  mod-mod,
  mod-mod_of_dvd,
  mod-one,
  mod_self,
  mul-add-mod_self_left,
  mul_comm,
  mul-div_cancel',
  mul-div_right,
  mul-lt-mul_of_pos_left,
  mul-mod_right,
  mul-one,
  mul-suc,
  mul-zero,
  one-mul,
  zero-add,
  zero-mod,
}
use native.Mathlib.Decide.{dec_lt}
use native.Mathlib.Omega.{arith}
use lib.Dec.{eqb}
use lib.IntN.{ℤ}
use lib.ListN.{length, get_or}
use borrow.Author.Tests.{eqb-true, eqb-false, eq-eqb}
use Rattle.pauli_word.specs.Word.{I, Word, less}
use Rattle.action.specs.Lists.{below, Member, count}
use Rattle.action.specs.Permutation.{Generator, Valid}
use Rattle.action.specs.Lattice.{shifted, shift}
use Rattle.action.specs.Index.{order_of, digits, index, add_digits, add, inverse_digits, inverse}
use Rattle.action.specs.Orbit.{move, by_digits, reach, least, forward, index_back, fixes, fixing, orbit_size}
use Rattle.action.specs.Sector.{modulus, numerator, trivial, keeps}
use Rattle.action.proofs.Lists.{member_below, of_member_below, no_repeats_below, length-below, every-intro, every-elim, count-select, count-cong, count-true, count_bijection, bool_ext}
use Rattle.action.proofs.Below.{map-below-at, map-below-length}
use Rattle.action.proofs.Index.{Positive, valid_positive}
use Rattle.action.proofs.Reach.{reach-length, reach-add, reach-inverse}
use Rattle.action.proofs.Canonical.{orbit_intro, least-least, forward_first, forward-below, forward-reaches}
use Rattle.action.proofs.Stabilizer.{fixes_intro, fixes_elim, fixing-positive}
use Rattle.action.proofs.Characters.{numerator-index-add}
use Rattle.packed.specs.Packed.{rotated}
use Rattle.rotation.specs.Rotation.{rotation}
use Rattle.rotation.proofs.Rotations.{rotated-mod, rotated-zero, rotated-add, rotated-inside, rotation-mod, move-rotation, moves-rotation}
use Rattle.rotation.proofs.XPlane.{least-is, forward-is, trivial-zero}
use Rattle.cyclic.specs.Cyclic.{turned, LeastTurn, Turns}

-- ---- remainders

-- what is added to both sides makes no difference modulo m
mod_cancel : (m i x y : ℕ) → 0 < m → (i + x) % m ≡ (i + y) % m → x % m ≡ y % m
mod_cancel m i x y some h =
    sym (again x) ∙ sym (add-mod-mod c (i + x) m) ∙ ap (λ (r : ℕ). (c + r) % m) h ∙ add-mod-mod c (i + y) m ∙ again y
  where
    c : ℕ
    c = m - i % m

    again : (x : ℕ) → (c + (i + x)) % m ≡ x % m
    again x =
        ap (λ (r : ℕ). r % m) (omega (arith, mod-lt i some, mod-add-div i m, mul-suc m (i / m))) ∙ mul-add-mod_self_left m (suc (i / m)) x

-- of the numbers below k times m, k are multiples of m
count_multiples : (m k : ℕ) → 0 < m → count (λ i. eqb (i % m) 0) (below (m * k)) ≡ k
count_multiples m k some =
    count_bijection (below (m * k)) (below k) (λ i. eqb (i % m) 0) (λ j. true) (λ i. i / m) (λ j. m * j)
    (no_repeats_below (m * k)) (no_repeats_below k) there back
    ∙ count-true (below k)
    ∙ length-below k
  where
    there : (i : ℕ) → Member i (below (m * k)) → eqb (i % m) 0 ≡ true → Member (i / m) (below k) × (◌≡◌ {A = Bool} true true) × (m * (i / m) ≡ i)
    there i h z = (
      member_below k (i / m) ((div-lt_iff_lt-mul some).1 (rw (mul_comm k m) (of_member_below (m * k) i h))),
      refl,
      omega (arith, mod-add-div i m, eqb-true (i % m) 0 z),
    )

    back : (j : ℕ) → Member j (below k) → ◌≡◌ {A = Bool} true true → Member (m * j) (below (m * k)) × (eqb (m * j % m) 0 ≡ true) × (m * j / m ≡ j)
    back j h z = (
      member_below (m * k) (m * j) (mul-lt-mul_of_pos_left (of_member_below k j h) some),
      eq-eqb (m * j % m) 0 (mul-mod_right m j),
      mul-div_right j some,
    )

-- ---- characters

-- where the characters of two indices are 1, that of their sum is
trivial-add :
    (gs : List Generator) → Positive gs → (ks : List ℤ) (i j : ℕ) → trivial gs ks i ≡ true → trivial gs ks j ≡ true → trivial gs ks (add gs i j) ≡ true
unfolding trivial
trivial-add gs p ks i j h k =
    eq-eqb (numerator gs ks (digits gs (add gs i j))) 0
    (numerator-index-add gs p ks i j
    ∙ ap₂ (λ (x y : ℕ). (x + y) % modulus gs) (eqb-true (numerator gs ks (digits gs i)) 0 h) (eqb-true (numerator gs ks (digits gs j)) 0 k)
    ∙ zero-mod (modulus gs))

-- ---- turned words

-- a word keeps its length when it is turned
pub turned-length : (b r : ℕ) (w : Word) → length (turned b r w) ≡ length w
unfolding turned
turned-length b r w = map-below-length (λ q. get_or w (rotated r b q) I) (length w)

-- what a turned word has at a site
pub turned-at : (b r : ℕ) (w : Word) (q : ℕ) → q < length w → get_or (turned b r w) q I ≡ get_or w (rotated r b q) I
unfolding turned
turned-at b r w q h = map-below-at (λ q. get_or w (rotated r b q) I) (length w) q I h

-- a rotation by i turns a word by what i is short of whole blocks
pub move-turned :
    (n b : ℕ) → 0 < b → n % b ≡ 0 → (w : Word) → length w ≡ n → (i r : ℕ) → (i + r) % b ≡ 0 → move (rotation n i b) w ≡ turned b r w
move-turned n b some blocks w e i r short = move-rotation n b some blocks i w (turned b r w) e (turned-length b r w ∙ e) at-site
  where
    at-site : (q : ℕ) → q < n → get_or (turned b r w) (rotated i b q) I ≡ get_or w q I
    at-site q h =
        turned-at b r w (rotated i b q) (rw e (rotated-inside n b some blocks i q h))
        ∙ ap (λ (p : ℕ). get_or w p I)
        (rotated-add b some i r q ∙ sym (rotated-mod (i + r) b q) ∙ ap (λ (s : ℕ). rotated s b q) short ∙ rotated-zero b q)

-- ---- groups of one generator that rotates by one inside blocks

-- g rotates n sites, which are whole blocks of b, by one inside the blocks, and is valid alone
pub record TurnsBlocks (n b : ℕ) (g : Generator) : Type 0 where
  pub valid : Valid n (g ∷ [])
  pub turns : g.perm ≡ rotation n 1 b
  pub long : g.order ≡ b
  pub some : 0 < b
  pub blocks : n % b ≡ 0

-- the shift along the first axis of a lattice is one: of a chain, and of a ladder along its legs
pub shift_turns : (n b : ℕ) → 0 < b → n % b ≡ 0 → Valid n (shift n 1 b ∷ []) → TurnsBlocks n b (shift n 1 b)
unfolding shift rotation shifted rotated
shift_turns n b some blocks valid = record {
  valid = valid;
  turns = ap (λ (f : ℕ → ℕ). map f (below n)) (fun_ext site);
  long = refl;
  some = some;
  blocks = blocks;
}
  where
    site : (q : ℕ) → shifted 1 b q ≡ rotated 1 b q
    site q = simp (mod-one, div-one, one-mul, zero-add) (add_comm ((q % b + 1) % b) (b * (q / b)))

module _ {n b : ℕ} {g : Generator} (t : TurnsBlocks n b g) where
  -- the group has b indices
  pub turns-order : order_of (g ∷ []) ≡ b
  unfolding order_of
  turns-order = mul-one g.order ∙ t.long

  -- indices are added modulo b
  pub turns-add : (i j : ℕ) → add (g ∷ []) i j ≡ (i + j) % b
  unfolding add digits add_digits index
  turns-add i j = rw t.long (simp (mul-zero, add-zero) (sym (add-mod i j b)))

  -- the inverse of an index is what it is short of b
  pub turns-inverse : (i : ℕ) → inverse (g ∷ []) i ≡ (b - i % b) % b
  unfolding inverse digits inverse_digits index
  turns-inverse i = rw t.long (simp (mul-zero, add-zero))

  -- indices that differ by whole rounds have the same digits
  pub turns-digits : (i : ℕ) → digits (g ∷ []) (i % b) ≡ digits (g ∷ []) i
  unfolding digits
  turns-digits i = rw (t.long, mod-mod)

  module _ (w : Word) (e : length w ≡ n) where
    -- index i rotates by i
    pub reach-rotation : (i : ℕ) → reach (g ∷ []) i w ≡ move (rotation n i b) w
    unfolding reach digits by_digits
    reach-rotation i =
        rw (t.long, t.turns)
        (moves-rotation n b t.some t.blocks (i % b) 1 w e
        ∙ ap (λ (s : ℕ). move (rotation n s b) w) (mul-one (i % b))
        ∙ ap (λ (p : List ℕ). move p w) (rotation-mod n i b))

    -- index i reaches the word turned by r where i and r come to whole blocks
    pub reach-turns : (i r : ℕ) → (i + r) % b ≡ 0 → reach (g ∷ []) i w ≡ turned b r w
    reach-turns i r h = reach-rotation i ∙ move-turned n b t.some t.blocks w e i r h

    -- index i reaches the word turned by what i is short of b
    pub reach-turned : (i : ℕ) → i < b → reach (g ∷ []) i w ≡ turned b ((b - i) % b) w
    reach-turned i h = reach-turns i ((b - i) % b) (add-mod-mod i (b - i) b ∙ ap (λ (x : ℕ). x % b) (omega arith) ∙ mod_self b)

    -- the word turned by r is reached by what r is short of b
    pub turned-reach : (r : ℕ) → r < b → turned b r w ≡ reach (g ∷ []) ((b - r) % b) w
    turned-reach r h =
        sym (reach-turns ((b - r) % b) r (mod-add-mod (b - r) b r ∙ ap (λ (x : ℕ). x % b) (omega arith) ∙ mod_self b))

    -- a turn that gives a word that no other is less than gives the least word
    pub least_turn_least : (r : ℕ) → r < b → LeastTurn b w r → least (g ∷ []) w ≡ turned b r w
    least_turn_least r h none =
        least-is t.valid w e ((b - r) % b) (rw turns-order (mod-lt (b - r) t.some)) lesser ∙ sym (turned-reach r h)
      where
        lesser : (j : ℕ) → j < order_of (g ∷ []) → less (reach (g ∷ []) j w) (reach (g ∷ []) ((b - r) % b) w) ≡ false
        lesser j k =
            ap₂ less (reach-turned j (rw turns-order at k)) (sym (turned-reach r h)) ∙ none ((b - j) % b) (mod-lt (b - j) t.some)

    -- and a turn that gives the least word is such a turn
    pub least_least_turn : (r : ℕ) → turned b r w ≡ least (g ∷ []) w → LeastTurn b w r
    least_least_turn r h j k =
        ap₂ less (turned-reach j k) h
        ∙ least-least t.valid w e (reach (g ∷ []) ((b - j) % b) w)
        (orbit_intro (g ∷ []) w ((b - j) % b) (rw turns-order (mod-lt (b - j) t.some)))

    -- ---- the index back, of all turns that give the least word: 0 if it is one, else the largest

    -- the smallest index that reaches the least word is below b
    pub forward-inside : forward (g ∷ []) w < b
    forward-inside = omega (arith, forward-below t.valid w, turns-order)

    -- the index back is what the smallest index that reaches the least word is short of b
    back-short : index_back (g ∷ []) w ≡ (b - forward (g ∷ []) w) % b
    unfolding index_back
    back-short =
        turns-inverse (forward (g ∷ []) w)
        ∙ ap (λ (i : ℕ). (b - i) % b) (mod-eq_of_lt forward-inside)

    -- the index back is a turn below b
    pub back_inside : index_back (g ∷ []) w < b
    back_inside = rw back-short (mod-lt (b - forward (g ∷ []) w) t.some)

    -- it gives the least word
    pub back-turn : LeastTurn b w (index_back (g ∷ []) w)
    back-turn =
        least_least_turn (index_back (g ∷ []) w)
        (ap (λ (r : ℕ). turned b r w) back-short
        ∙ sym (reach-turned (forward (g ∷ []) w) forward-inside)
        ∙ forward-reaches t.valid w)

    -- it is 0 if the word itself is the least
    pub back-zero : LeastTurn b w 0 → index_back (g ∷ []) w ≡ 0
    back-zero h =
        let whole : b - forward (g ∷ []) w ≡ b = omega (arith, none) in
        back-short ∙ ap (λ (x : ℕ). x % b) whole ∙ mod_self b
      where
        none : forward (g ∷ []) w ≡ 0
        none =
            forward-is t.valid w e 0 (reach-turns 0 0 (zero-mod b) ∙ sym (least_turn_least 0 t.some h)) (λ j k m. absurd (omega arith))

    -- otherwise no turn that gives the least word is larger
    pub back-largest : (LeastTurn b w 0 → ⊥) → (r : ℕ) → r < b → LeastTurn b w r → r ≤ index_back (g ∷ []) w
    back-largest other r h k = rw (back-short, mod-eq_of_lt inside) (omega (arith, early, some-forward))
      where
        f : ℕ
        f = forward (g ∷ []) w

        positive : 0 < r
        positive = go r refl
          where
            go : (s : ℕ) → s ≡ r → 0 < s
            go zero z = absurd (other (rw z k))
            go (suc s) z = omega arith

        reaches : reach (g ∷ []) (b - r) w ≡ least (g ∷ []) w
        reaches =
            reach-turns (b - r) r (ap (λ (x : ℕ). x % b) (omega arith) ∙ mod_self b) ∙ sym (least_turn_least r h k)

        early : f ≤ b - r
        early = go (dec_lt (b - r) f)
          where
            go : Dec (b - r < f) → f ≤ b - r
            go (yes l) = absurd (forward_first (g ∷ []) w (b - r) l reaches)
            go (no l) = omega arith

        some-forward : 0 < f
        some-forward = go f refl
          where
            go : (s : ℕ) → s ≡ f → 0 < s
            go zero z = absurd (other (least_least_turn 0 (sym (reach-turns 0 0 (zero-mod b)) ∙ ap (λ (i : ℕ). reach (g ∷ []) i w) z ∙ forward-reaches t.valid w)))
            go (suc s) z = omega arith

        inside : b - f < b
        inside = omega (arith, t.some, some-forward)

-- ---- what the turns that give the least word, start and every step after it, say of the group

module _ {n b : ℕ} {g : Generator} (t : TurnsBlocks n b g) (w : Word) (e : length w ≡ n) {start step : ℕ} (m : Turns b w start step) where
  step-positive : 0 < step
  step-positive = omega (arith, m.inside)

  divides : step ∣ b
  divides = dvd_of_mod-eq-zero step m.divides

  -- a step is at most a block
  pub step-inside : step ≤ b
  step-inside = le_of_dvd t.some divides

  start-inside : start < b
  start-inside = omega (arith, step-inside, m.inside)

  -- the turn that index i makes
  short-turn : (i : ℕ) → i < b → ((b - i) % b % step ≡ start) ↔ ((i + start) % step ≡ 0)
  short-turn i h = (there, back)
    where
      whole : (i + (b - i)) % step ≡ 0
      whole = ap (λ (x : ℕ). x % step) (omega arith) ∙ m.divides

      there : (b - i) % b % step ≡ start → (i + start) % step ≡ 0
      there k =
          ap (λ (x : ℕ). (i + x) % step) (sym k ∙ mod-mod_of_dvd step (b - i) divides) ∙ add-mod-mod i (b - i) step ∙ whole

      back : (i + start) % step ≡ 0 → (b - i) % b % step ≡ start
      back k =
          mod-mod_of_dvd step (b - i) divides
          ∙ mod_cancel step i (b - i) start step-positive (whole ∙ sym k)
          ∙ mod-eq_of_lt m.inside

  -- the indices that reach the least word are those that come with start to whole steps
  pub reaches-least : (i : ℕ) → i < b → (reach (g ∷ []) i w ≡ least (g ∷ []) w) ↔ ((i + start) % step ≡ 0)
  reaches-least i h = (there, back)
    where
      inside : (b - i) % b < b
      inside = mod-lt (b - i) t.some

      there : reach (g ∷ []) i w ≡ least (g ∷ []) w → (i + start) % step ≡ 0
      there k =
          (short-turn i h).0 (m.only ((b - i) % b) inside (least_least_turn t w e ((b - i) % b) (sym (reach-turned t w e i h) ∙ k)))

      back : (i + start) % step ≡ 0 → reach (g ∷ []) i w ≡ least (g ∷ []) w
      back k =
          reach-turned t w e i h
          ∙ sym (least_turn_least t w e ((b - i) % b) inside (m.least ((b - i) % b) inside ((short-turn i h).1 k)))

  -- the word turned by start is the least
  pub turns-least : least (g ∷ []) w ≡ turned b start w
  turns-least = least_turn_least t w e start start-inside (m.least start start-inside (mod-eq_of_lt m.inside))

  -- the smallest index that reaches it is what start is short of a step
  pub turns-forward : forward (g ∷ []) w ≡ (step - start) % step
  turns-forward = forward-is t.valid w e i ((reaches-least i (omega (arith, below_step, step-inside))).1 reached) first
    where
      i : ℕ
      i = (step - start) % step

      below_step : i < step
      below_step = mod-lt (step - start) step-positive

      reached : (i + start) % step ≡ 0
      reached =
          mod-add-mod (step - start) step start ∙ ap (λ (x : ℕ). x % step) (omega (arith, m.inside)) ∙ mod_self step

      -- an index that reaches it is the same modulo step, so it is not smaller
      first : (j : ℕ) → j < i → reach (g ∷ []) j w ≡ least (g ∷ []) w → ⊥
      first j h k =
          let l : j < b = omega (arith, h, below_step, step-inside) in
          let alike : i % step ≡ j % step = mod_cancel step start i j step-positive (swap i ∙ reached ∙ sym (swap j ∙ (reaches-least j l).0 k)) in
          let far : j < step = omega (arith, h, below_step) in
          omega (arith, h, alike, mod-eq_of_lt below_step, mod-eq_of_lt far)
        where
          swap : (x : ℕ) → (start + x) % step ≡ (x + start) % step
          swap x = ap (λ (y : ℕ). y % step) (omega arith)

  -- after index i the smallest index that reaches the least word still does, exactly if i is whole steps
  shifted-index : (i : ℕ) → ((i + forward (g ∷ []) w) % b + start) % step ≡ i % step
  shifted-index i =
      sym (mod-add-mod ((i + f) % b) step start)
      ∙ ap (λ (x : ℕ). (x + start) % step) (mod-mod_of_dvd step (i + f) divides)
      ∙ mod-add-mod (i + f) step start
      ∙ ap (λ (x : ℕ). x % step) (add_assoc i f start)
      ∙ sym (add-mod-mod i (f + start) step)
      ∙ ap (λ (x : ℕ). (i + x) % step) ((reaches-least f (forward-inside t w e)).0 (forward-reaches t.valid w))
      ∙ ap (λ (x : ℕ). x % step) (add-zero i)
    where
      f : ℕ
      f = forward (g ∷ []) w

  -- the indices that fix the word are whole steps
  pub fixed-steps : (i : ℕ) → i < b → (reach (g ∷ []) i w ≡ w) ↔ (i % step ≡ 0)
  fixed-steps i h = (there, back)
    where
      f : ℕ
      f = forward (g ∷ []) w

      inside : (i + f) % b < b
      inside = mod-lt (i + f) t.some

      both : reach (g ∷ []) ((i + f) % b) w ≡ reach (g ∷ []) f (reach (g ∷ []) i w)
      both = ap (λ (k : ℕ). reach (g ∷ []) k w) (sym (turns-add t i f)) ∙ reach-add t.valid i f w e

      there : reach (g ∷ []) i w ≡ w → i % step ≡ 0
      there k =
          sym (shifted-index i)
          ∙ (reaches-least ((i + f) % b) inside).0 (both ∙ ap (reach (g ∷ []) f) k ∙ forward-reaches t.valid w)

      back : i % step ≡ 0 → reach (g ∷ []) i w ≡ w
      back k =
          sym (reach-inverse t.valid f (reach (g ∷ []) i w) (reach-length (g ∷ []) i w ∙ e))
          ∙ ap (reach (g ∷ []) (inverse (g ∷ []) f))
          (sym both ∙ (reaches-least ((i + f) % b) inside).1 (shifted-index i ∙ k) ∙ sym (forward-reaches t.valid w))
          ∙ reach-inverse t.valid f w e

  -- the same as a test
  pub turns-fixes : (i : ℕ) → i < b → fixes (g ∷ []) w i ≡ eqb (i % step) 0
  turns-fixes i h =
      bool_ext (fixes (g ∷ []) w i) (eqb (i % step) 0)
      (λ k. eq-eqb (i % step) 0 ((fixed-steps i h).0 (fixes_elim (g ∷ []) w i k)))
      (λ k. fixes_intro (g ∷ []) w i ((fixed-steps i h).1 (eqb-true (i % step) 0 k)))

  -- as many indices fix the word as there are steps in a block
  pub turns-count : length (fixing (g ∷ []) w) * step ≡ b
  unfolding fixing
  turns-count =
      ap (λ (k : ℕ). k * step)
      (sym (count-select (fixes (g ∷ []) w) (below (order_of (g ∷ []))))
      ∙ ap (λ (k : ℕ). count (fixes (g ∷ []) w) (below k)) (turns-order t)
      ∙ count-cong (fixes (g ∷ []) w) (λ i. eqb (i % step) 0) (below b) (λ i h. turns-fixes i (of_member_below b i h))
      ∙ ap (λ (k : ℕ). count (λ i. eqb (i % step) 0) (below k)) (sym (mul-div_cancel' step divides))
      ∙ count_multiples step (b / step) step-positive)
      ∙ div-mul_cancel step divides

  -- the orbit has as many words as a step is long
  pub turns-size : orbit_size (g ∷ []) w ≡ step
  unfolding orbit_size
  turns-size =
      div-eq_of_eq-mul_left (fixing-positive t.valid w)
      (turns-order t ∙ sym turns-count ∙ mul_comm (length (fixing (g ∷ []) w)) step)

  -- the index back: of all turns that give the least word 0 if that is one, else the largest
  pub turns-back : index_back (g ∷ []) w ≡ cond (eqb start 0) 0 (b - step + start)
  turns-back = go (eqb start 0) refl
    where
      go : (c : Bool) → eqb start 0 ≡ c → index_back (g ∷ []) w ≡ cond c 0 (b - step + start)
      go true z =
          back-zero t w e (m.least 0 t.some (zero-mod step ∙ sym (eqb-true start 0 z)))
      go false z =
          let some : start ≡ 0 → ⊥ = eqb-false start 0 z in
          let early : (step - start) % step ≡ step - start = mod-eq_of_lt (omega arith) in
          let short : b - forward (g ∷ []) w ≡ b - step + start = omega (arith, turns-forward, early, m.inside, step-inside) in
          back-short t w e ∙ ap (λ (x : ℕ). x % b) short ∙ mod-eq_of_lt (omega (arith, m.inside, step-inside))

  -- ---- which modes keep the word

  -- whole rounds make no difference to the character
  trivial-round : (ks : List ℤ) (i : ℕ) → trivial (g ∷ []) ks (i % b) ≡ trivial (g ∷ []) ks i
  unfolding trivial
  trivial-round ks i = ap (λ (cs : List ℕ). eqb (numerator (g ∷ []) ks cs) 0) (turns-digits t i)

  -- where the character of one step is 1, that of whole steps is
  trivial-steps : (ks : List ℤ) → trivial (g ∷ []) ks step ≡ true → (k : ℕ) → trivial (g ∷ []) ks (step * k) ≡ true
  trivial-steps ks h zero = rw mul-zero (trivial-zero (g ∷ []) ks)
  trivial-steps ks h (suc k) =
      ap (trivial (g ∷ []) ks) (mul-suc step k)
      ∙ sym (trivial-round ks (step * k + step))
      ∙ ap (trivial (g ∷ []) ks) (sym (turns-add t (step * k) step))
      ∙ trivial-add (g ∷ []) (valid_positive t.valid) ks (step * k) step (trivial-steps ks h k) h

  -- a step is a fixing index, or a whole round
  trivial-step : (ks : List ℤ) → keeps (g ∷ []) ks w ≡ true → trivial (g ∷ []) ks step ≡ true
  unfolding keeps
  trivial-step ks kept = go (dec_lt step b)
    where
      go : Dec (step < b) → trivial (g ∷ []) ks step ≡ true
      go (yes h) =
          let each : (not (fixes (g ∷ []) w step) || trivial (g ∷ []) ks step) ≡ true =
          every-elim _ (below (order_of (g ∷ []))) kept step (member_below (order_of (g ∷ [])) step (rw (turns-order t) h)) in
          rw (turns-fixes step h, mod_self) at each
      go (no h) =
          let whole : step ≡ b = omega (arith, step-inside) in
          sym (trivial-round ks step) ∙ ap (λ (x : ℕ). trivial (g ∷ []) ks (x % b)) whole ∙ ap (trivial (g ∷ []) ks) (mod_self b) ∙ trivial-zero (g ∷ []) ks

  -- the modes keep the word exactly if the character of one step is 1
  pub turns_keeps : (ks : List ℤ) → keeps (g ∷ []) ks w ≡ trivial (g ∷ []) ks step
  unfolding keeps
  turns_keeps ks = bool_ext (keeps (g ∷ []) ks w) (trivial (g ∷ []) ks step) (trivial-step ks) back
    where
      one : trivial (g ∷ []) ks step ≡ true → (i : ℕ) → i < b → (c : Bool) → fixes (g ∷ []) w i ≡ c → (not c || trivial (g ∷ []) ks i) ≡ true
      one h i k false z = refl
      one h i k true z =
          let none : i % step ≡ 0 = (fixed-steps i k).0 (fixes_elim (g ∷ []) w i z) in
          let whole : step * (i / step) ≡ i = omega (arith, mod-add-div i step) in
          ap (trivial (g ∷ []) ks) (sym whole) ∙ trivial-steps ks h (i / step)

      back : trivial (g ∷ []) ks step ≡ true → keeps (g ∷ []) ks w ≡ true
      back h =
          every-intro _ (below (order_of (g ∷ [])))
          (λ i k. one h i (rw (turns-order t) at (of_member_below (order_of (g ∷ [])) i k)) (fixes (g ∷ []) w i) refl)
