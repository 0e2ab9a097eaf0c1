-- Which index reaches the least word, and how many do: each that does is one of them shifted by a fixing index, so that where only one index fixes
-- the X bits alone, they decide. What carries it: moving a word and taking its X bits go in either order, and of two words with different X bits the
-- one with the lesser X bits is the lesser.
use Prim.Native.Nat.{ℕ, zero, suc, ◌<◌, ◌%◌}
use mathlib.Core.Path.{◌≡◌, refl, sym, ◌∙◌, ap, ap₂}
use mathlib.Core.Logic.{◌⊎◌, inl, inr}
use mathlib.Core.Bool.{Bool, true, false, ◌||◌, not, false≢true}
use mathlib.Core.List.{List, [], ◌∷◌, ◌++◌, map}
use native.Mathlib.Nat.{div-one, suc_inj, suc-ne-zero, zero-mod}
use native.Mathlib.Decide.{dec_lt}
use native.Mathlib.Omega.{arith}
use lib.IntN.{ℤ}
use lib.ListN.{length, set, replicate, length-map}
use borrow.Author.Tests.{eq-eqb}
use Rattle.pauli_word.specs.Word.{Letter, I, Word, x_bit, z_bit, letter_of, bits, same, less_bits, less}
use Rattle.pauli_word.proofs.Words.{x_bit-letter_of}
use Rattle.pauli_word.proofs.WordOrder.{less_irrefl, less-total}
use Rattle.action.specs.Lists.{below, Member, count}
use Rattle.action.specs.Permutation.{Generator, Valid}
use Rattle.action.specs.Index.{order_of, digits, add, inverse}
use Rattle.action.specs.Orbit.{place, move, moves, by_digits, reach, least, forward, fixes, fixing, orbit_size}
use Rattle.action.specs.Sector.{modulus, numerator, trivial, keeps}
use Rattle.action.proofs.Lists.{of_member_below, every-intro, length-le}
use Rattle.action.proofs.Index.{valid_positive, order_of_positive, add-below, add_comm, add-zero, add-redo}
use Rattle.action.proofs.Reach.{reach-length, reach-zero, reach-add, reach-inverse}
use Rattle.action.proofs.Canonical.{orbit_intro, least-in-orbit, least-least, forward_first, forward-below, forward-reaches}
use Rattle.action.proofs.Stabilizer.{fixes_elim, fixing_all, fixing_no_repeats, fixing-positive, count-reaching}
use Rattle.action.proofs.Annihilators.{phases-zeros}
use Rattle.rotation.specs.Rotation.{x_part}

-- ---- letters changed one by one, I kept: before or after a word is moved

module _ (f : Letter → Letter) (blank : f I ≡ I) where
  map-set : (w : Word) (p : ℕ) (a : Letter) → map f (set w p a) ≡ set (map f w) p (f a)
  map-set [] p a = refl
  map-set (b ∷ w) zero a = refl
  map-set (b ∷ w) (suc p) a = ap (λ (t : Word). f b ∷ t) (map-set w p a)

  map-place : (ps : List ℕ) (w out : Word) → map f (place ps w out) ≡ place ps (map f w) (map f out)
  unfolding place
  map-place ps [] out = refl
  map-place [] (a ∷ w) out = refl
  map-place (p ∷ ps) (a ∷ w) out = map-place ps w (set out p a) ∙ ap (place ps (map f w)) (map-set out p a)

  map-replicate : (n : ℕ) → map f (replicate n I) ≡ replicate n I
  map-replicate zero = refl
  map-replicate (suc n) = ap₂ ◌∷◌ blank (map-replicate n)

  map-move : (perm : List ℕ) (w : Word) → map f (move perm w) ≡ move perm (map f w)
  unfolding move
  map-move perm w =
      map-place perm w (replicate (length w) I)
      ∙ ap (place perm (map f w)) (map-replicate (length w) ∙ ap (λ (k : ℕ). replicate k I) (sym (length-map w f)))

  map-moves : (c : ℕ) (perm : List ℕ) (w : Word) → map f (moves c perm w) ≡ moves c perm (map f w)
  unfolding moves
  map-moves zero perm w = refl
  map-moves (suc c) perm w = map-moves c perm (move perm w) ∙ ap (moves c perm) (map-move perm w)

  map-by_digits : (gs : List Generator) (cs : List ℕ) (w : Word) → map f (by_digits gs cs w) ≡ by_digits gs cs (map f w)
  unfolding by_digits
  map-by_digits [] cs w = refl
  map-by_digits (g ∷ gs) [] w = refl
  map-by_digits (g ∷ gs) (c ∷ cs) w = map-by_digits gs cs (moves c g.perm w) ∙ ap (by_digits gs cs) (map-moves c g.perm w)

-- the X bits of what an index reaches are what it reaches from the X bits
pub reach-x_part : (gs : List Generator) (i : ℕ) (w : Word) → x_part (reach gs i w) ≡ reach gs i (x_part w)
unfolding x_part reach
reach-x_part gs i w = map-by_digits (λ a. letter_of (x_bit a) false) refl gs (digits gs i) w

-- a word's X part is as long as the word
pub x_part-length : (w : Word) → length (x_part w) ≡ length w
unfolding x_part
x_part-length w = length-map w (λ a. letter_of (x_bit a) false)

-- ---- the order of words by their X bits first

behind : (b : Bool) {xs ys : List Bool} {P : Type 0} → P ⊎ (xs ≡ ys) → P ⊎ (b ∷ xs ≡ b ∷ ys)
behind b (inl p) = inl p
behind b (inr e) = inr (ap (λ (t : List Bool). b ∷ t) e)

-- lists that are less have lesser first parts, or the same
less_bits_parts :
    (xs ys us vs : List Bool) → length xs ≡ length ys → less_bits (xs ++ us) (ys ++ vs) ≡ true → (less_bits xs ys ≡ true) ⊎ (xs ≡ ys)
unfolding less_bits
less_bits_parts [] [] us vs l h = inr refl
less_bits_parts [] (y ∷ ys) us vs l h = absurd (suc-ne-zero (length ys) (sym l))
less_bits_parts (x ∷ xs) [] us vs l h = absurd (suc-ne-zero (length xs) l)
less_bits_parts (false ∷ xs) (false ∷ ys) us vs l h = behind false (less_bits_parts xs ys us vs (suc_inj l) h)
less_bits_parts (false ∷ xs) (true ∷ ys) us vs l h = inl refl
less_bits_parts (true ∷ xs) (false ∷ ys) us vs l h = absurd (false≢true h)
less_bits_parts (true ∷ xs) (true ∷ ys) us vs l h = behind true (less_bits_parts xs ys us vs (suc_inj l) h)

-- lists with lesser first parts are less
less_bits-front : (xs ys us vs : List Bool) → less_bits xs ys ≡ true → less_bits (xs ++ us) (ys ++ vs) ≡ true
unfolding less_bits
less_bits-front [] ys us vs h = absurd (false≢true h)
less_bits-front (x ∷ xs) [] us vs h = absurd (false≢true h)
less_bits-front (false ∷ xs) (false ∷ ys) us vs h = less_bits-front xs ys us vs h
less_bits-front (false ∷ xs) (true ∷ ys) us vs h = refl
less_bits-front (true ∷ xs) (false ∷ ys) us vs h = absurd (false≢true h)
less_bits-front (true ∷ xs) (true ∷ ys) us vs h = less_bits-front xs ys us vs h

-- a word's X bits and those of its X part are the same
x_bits_x_part : (w : Word) → map x_bit (x_part w) ≡ map x_bit w
unfolding x_part
x_bits_x_part [] = refl
x_bits_x_part (a ∷ w) = ap₂ ◌∷◌ (x_bit-letter_of (x_bit a) false) (x_bits_x_part w)

-- words with the same X bits have the same X part
x_part_of-bits : (w : Word) → map (λ x. letter_of x false) (map x_bit w) ≡ x_part w
unfolding x_part
x_part_of-bits [] = refl
x_part_of-bits (a ∷ w) = ap (λ (t : Word). letter_of (x_bit a) false ∷ t) (x_part_of-bits w)

-- words that are less have lesser X bits, or the same
pub less-x_part : (u v : Word) → length u ≡ length v → less u v ≡ true → (less (x_part u) (x_part v) ≡ true) ⊎ (x_part u ≡ x_part v)
unfolding less bits
less-x_part u v l h =
    go (less_bits_parts (map x_bit u) (map x_bit v) (map z_bit u) (map z_bit v) (length-map u x_bit ∙ l ∙ sym (length-map v x_bit)) h)
  where
    go : (less_bits (map x_bit u) (map x_bit v) ≡ true) ⊎ (map x_bit u ≡ map x_bit v) → (less (x_part u) (x_part v) ≡ true) ⊎ (x_part u ≡ x_part v)
    go (inl k) =
        inl (less_bits-front (map x_bit (x_part u)) (map x_bit (x_part v)) (map z_bit (x_part u)) (map z_bit (x_part v)) (rw (x_bits_x_part u, x_bits_x_part v) k))
    go (inr k) = inr (sym (x_part_of-bits u) ∙ ap (map (λ x. letter_of x false)) k ∙ x_part_of-bits v)

-- ---- which index reaches the least word

module _ {n : ℕ} {gs : List Generator} (v : Valid n gs) (w : Word) (e : length w ≡ n) where
  -- a reached word is the least if no reached word is less
  pub least-is :
      (i : ℕ) → i < order_of gs → ((j : ℕ) → j < order_of gs → less (reach gs j w) (reach gs i w) ≡ false) → least gs w ≡ reach gs i w
  least-is i h none = go (less-total (least gs w) (reach gs i w) (sym (ap length reaches) ∙ reach-length gs k w ∙ sym (reach-length gs i w)))
    where
      k : ℕ
      k = forward gs w

      reaches : reach gs k w ≡ least gs w
      reaches = forward-reaches v w

      go :
          (less (least gs w) (reach gs i w) ≡ true) ⊎ ((least gs w ≡ reach gs i w) ⊎ (less (reach gs i w) (least gs w) ≡ true))
          → least gs w ≡ reach gs i w
      go (inl t) = absurd (false≢true (sym (none k (forward-below v w)) ∙ ap (λ (u : Word). less u (reach gs i w)) reaches ∙ t))
      go (inr (inl t)) = t
      go (inr (inr t)) = absurd (false≢true (sym (least-least v w e (reach gs i w) (orbit_intro gs w i h)) ∙ t))

  -- an index that reaches the least word is the smallest if no smaller one reaches it
  pub forward-is : (i : ℕ) → reach gs i w ≡ least gs w → ((j : ℕ) → j < i → reach gs j w ≡ least gs w → ⊥) → forward gs w ≡ i
  forward-is i reaches first = go (dec_lt (forward gs w) i) (dec_lt i (forward gs w))
    where
      go : Dec (forward gs w < i) → Dec (i < forward gs w) → forward gs w ≡ i
      go (yes h) k = absurd (first (forward gs w) h (forward-reaches v w))
      go (no h) (yes k) = absurd (forward_first gs w i k reaches)
      go (no h) (no k) = omega arith

  -- as many indices reach the least word as fix the word
  pub ties-fixing : count (λ i. same (reach gs i w) (least gs w)) (below (order_of gs)) ≡ length (fixing gs w)
  ties-fixing = count-reaching v w e (least gs w) (least-in-orbit v w)

-- ---- words that one index alone fixes

one_member : {A : Type 0} (a b : A) (xs : List A) → length xs ≡ 1 → Member a xs → Member b xs → a ≡ b
one_member a b [] l h k = absurd h
one_member a b (x ∷ []) l (inl h) (inl k) = h ∙ sym k
one_member a b (x ∷ []) l (inl h) (inr k) = absurd k
one_member a b (x ∷ []) l (inr h) k = absurd h
one_member a b (x ∷ y ∷ xs) l h k = absurd (suc-ne-zero (length xs) (suc_inj l))

-- the character of index 0 is 1
pub trivial-zero : (gs : List Generator) (ks : List ℤ) → trivial gs ks 0 ≡ true
unfolding trivial numerator
trivial-zero gs ks =
    eq-eqb (numerator gs ks (digits gs 0)) 0 (ap (λ (x : ℕ). x % modulus gs) (phases-zeros (modulus gs) gs ks) ∙ zero-mod (modulus gs))

module _ {n : ℕ} {gs : List Generator} (v : Valid n gs) (w : Word) (e : length w ≡ n) (one : length (fixing gs w) ≡ 1) where
  -- only index 0 fixes it
  pub fixing-zero : (i : ℕ) → i < order_of gs → reach gs i w ≡ w → i ≡ 0
  fixing-zero i h k =
      one_member i 0 (fixing gs w) one ((fixing_all gs w i).1 (h, k))
      ((fixing_all gs w 0).1 (order_of_positive gs (valid_positive v), reach-zero gs w))

  -- no two indices reach the same word
  pub reach-apart : (i j : ℕ) → i < order_of gs → j < order_of gs → reach gs i w ≡ reach gs j w → i ≡ j
  reach-apart i j h k same =
      sym (add-redo gs (valid_positive v) i j h)
      ∙ ap (λ (x : ℕ). add gs x j) (fixing-zero (add gs i (inverse gs j)) (add-below gs (valid_positive v) i (inverse gs j)) fixed)
      ∙ add_comm gs 0 j
      ∙ add-zero gs (valid_positive v) j k
    where
      fixed : reach gs (add gs i (inverse gs j)) w ≡ w
      fixed = reach-add v i (inverse gs j) w e ∙ ap (reach gs (inverse gs j)) same ∙ reach-inverse v j w e

  -- every mode list keeps it
  pub one-keeps : (ks : List ℤ) → keeps gs ks w ≡ true
  unfolding keeps
  one-keeps ks = every-intro _ (below (order_of gs)) (λ i m. go i (of_member_below (order_of gs) i m) (fixes gs w i) refl)
    where
      go : (i : ℕ) → i < order_of gs → (b : Bool) → fixes gs w i ≡ b → (not b || trivial gs ks i) ≡ true
      go i h true t = ap (trivial gs ks) (fixing-zero i h (fixes_elim gs w i t)) ∙ trivial-zero gs ks
      go i h false t = refl

  -- its orbit has as many words as the group has indices
  pub one_size : orbit_size gs w ≡ order_of gs
  unfolding orbit_size
  one_size = rw one (div-one (order_of gs))

-- ---- where one index alone fixes the X bits, they decide

module _ {n : ℕ} {gs : List Generator} (v : Valid n gs) (w : Word) (e : length w ≡ n) (one : length (fixing gs (x_part w)) ≡ 1) where
  abbrev x : Word
  x = x_part w

  abbrev f : ℕ
  f = forward gs (x_part w)

  long : length x ≡ n
  long = x_part-length w ∙ e

  -- the index that the X bits take reaches the least word
  pub unique-x-least : least gs w ≡ reach gs (forward gs (x_part w)) w
  unique-x-least = least-is v w e f (forward-below v x) (λ j h. go j h (less (reach gs j w) (reach gs f w)) refl)
    where
      undecided : (j : ℕ) → j < order_of gs → (less (x_part (reach gs j w)) (x_part (reach gs f w)) ≡ true) ⊎ (x_part (reach gs j w) ≡ x_part (reach gs f w)) → j ≡ f
      undecided j h (inl t) =
          absurd (false≢true (sym (least-least v x long (reach gs j x) (orbit_intro gs x j h))
          ∙ ap₂ less (sym (reach-x_part gs j w)) (sym (forward-reaches v x) ∙ sym (reach-x_part gs f w))
          ∙ t))
      undecided j h (inr t) = reach-apart v x long one j f h (forward-below v x) (sym (reach-x_part gs j w) ∙ t ∙ reach-x_part gs f w)

      go : (j : ℕ) → j < order_of gs → (b : Bool) → less (reach gs j w) (reach gs f w) ≡ b → less (reach gs j w) (reach gs f w) ≡ false
      go j h false t = t
      go j h true t =
          let same : j ≡ f = undecided j h (less-x_part (reach gs j w) (reach gs f w) (reach-length gs j w ∙ sym (reach-length gs f w)) t) in
          rw same (less_irrefl (reach gs f w))

  -- and it is the smallest that does
  pub unique-x-forward : forward gs w ≡ forward gs (x_part w)
  unique-x-forward = forward-is v w e f (sym unique-x-least) none
    where
      none : (j : ℕ) → j < f → reach gs j w ≡ least gs w → ⊥
      none j h k =
          forward_first gs x j h (sym (reach-x_part gs j w) ∙ ap x_part (k ∙ unique-x-least) ∙ reach-x_part gs f w ∙ forward-reaches v x)

  -- one index alone fixes the word
  pub unique-x-fixing : length (fixing gs w) ≡ 1
  unique-x-fixing = omega (arith, length-le (fixing gs w) (fixing gs x) (fixing_no_repeats gs w) into, fixing-positive v w, one)
    where
      into : (i : ℕ) → Member i (fixing gs w) → Member i (fixing gs x)
      into i m =
          let (h, k) = (fixing_all gs w i).0 m in
          (fixing_all gs x i).1 (h, sym (reach-x_part gs i w) ∙ ap x_part k)
