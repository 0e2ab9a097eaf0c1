-- What is proved of the definitions: each statement is followed by the law that shows it.
--
-- 1 Words, 2 Permutations, 3 Indices, 4 Canonical, 5 Stabilizer, 6 Characters, 7 Kept lists, and what drops a word, 8 Pairs, 9 Lattices. From 3
-- to 8, gs are valid generators of n sites (`Valid n gs`: each permutes the sites, every two commute, and each order is exact), and n and the number
-- of generators are any.
use Prim.Native.Nat.{ℕ, suc, ◌+◌, ◌*◌, ◌^◌, ◌%◌, ◌<◌, ◌≤◌, ◌∣◌}
use mathlib.Core.Path.{◌≡◌, refl, ◌∙◌}
use mathlib.Core.Logic.{◌⊎◌, ◌↔◌}
use mathlib.Core.Bool.{Bool, true, false}
use mathlib.Core.List.{List}
use lib.IntN.{ℤ, pos, negsuc}
use lib.ListN.{length, get_or}
use Rattle.pauli_word.specs.Word.{I, Word, bits, same, less, weight}
use Rattle.pauli_word.proofs.WordOrder as WordOrder
use Rattle.action.specs.Arithmetic.{product}
use Rattle.action.specs.Lists.{Member, NoRepeats}
use Rattle.action.specs.Support.{support}
use Rattle.action.specs.Permutation.{Generator, target, sends, after, exact_order, Permutes, Valid}
use Rattle.action.specs.Lattice.{shifts, chain, ladder, torus2, torus3}
use Rattle.action.specs.Index.{order_of, digits, Digits, index, add_digits, add, inverse}
use Rattle.action.specs.Orbit.{move, reach, stepped, orbit, is_in, least, forward, index_back, fixes, fixing, orbit_size}
use Rattle.action.specs.Sector.{modulus, reduced, numerator, reduced_modes, reduced_digits, Modes, Character, keeps, dropped_by, Drops}
use Rattle.action.specs.Count.{all_words, all_modes, representatives, kept_lists, kept_pairs}
use Rattle.action.proofs.Support as Support
use Rattle.action.proofs.ExactOrders as Order
use Rattle.action.proofs.Move as Move
use Rattle.action.proofs.Index as Index
use Rattle.action.proofs.Reach as Reach
use Rattle.action.proofs.Canonical as Canonical
use Rattle.action.proofs.Stabilizer as Stabilizer
use Rattle.action.proofs.Characters as Characters
use Rattle.action.proofs.Kept as Kept
use Rattle.action.proofs.Dropped as Dropped
use Rattle.action.proofs.Pairs as Pairs
use Rattle.action.proofs.Lattice as Lattice

-- ---- 1 Words: the order of words of one length is strict and total, `same` is equality, and the weight counts the sites whose letter is other
-- than I

pub less_irrefl : (w : Word) → less w w ≡ false
less_irrefl = WordOrder.less_irrefl

pub less_trans : (u v w : Word) → less u v ≡ true → less v w ≡ true → less u w ≡ true
less_trans = WordOrder.less_trans

pub less-total : (v w : Word) → length v ≡ length w → (less v w ≡ true) ⊎ ((v ≡ w) ⊎ (less w v ≡ true))
less-total = WordOrder.less-total

pub same_equal : (v w : Word) → (same v w ≡ true) ↔ (v ≡ w)
same_equal v w = (WordOrder.same_eq v w, λ e. rw e (WordOrder.same_refl w))

-- the bits determine a word, its length given
pub bits_injective : (v w : Word) → length v ≡ length w → bits v ≡ bits w → v ≡ w
bits_injective = WordOrder.bits_injective

-- the weight is the number of sites of the support, which lists the sites whose letter is other than I, once each
pub weight-support : (w : Word) → weight w ≡ length (support w)
weight-support = Support.weight-support

pub support_all : (w : Word) (q : ℕ) → Member q (support w) ↔ ((q < length w) × (get_or w q I ≡ I → ⊥))
support_all = Support.support_all

pub support-once : (w : Word) → NoRepeats (support w)
support-once = Support.support-once

-- ---- 2 Permutations: a move takes each letter to its site's target. The exact order, the least common multiple of the cycle lengths, is the
-- least positive number of applications that moves every site back

module _ {n : ℕ} {perm : List ℕ} (permutes : Permutes n perm) where
  pub order-returns : (q : ℕ) → q < n → after perm (exact_order perm) q ≡ q
  order-returns = Order.order-returns permutes

  pub order_positive : 0 < exact_order perm
  order_positive = Order.order_positive perm

  pub order_least : (k : ℕ) → 0 < k → ((q : ℕ) → q < n → after perm k q ≡ q) → exact_order perm ≤ k
  order_least = Order.order_least permutes

  -- the letter of site q is found at the target of q
  pub move_at : (w : Word) → length w ≡ n → (q : ℕ) → q < n → get_or (move perm w) (target perm q) I ≡ get_or w q I
  move_at = Move.move_at permutes

module _ {n : ℕ} {gs : List Generator} (valid : Valid n gs) where
  -- ---- 3 Indices: digits and index are inverse; the indices below the order are an abelian group; adding indices is composing what they do;
  -- the walk

  pub index-digits : (i : ℕ) → i < order_of gs → index gs (digits gs i) ≡ i
  index-digits = Index.index-digits gs (Index.valid_positive valid)

  pub digits-index : (cs : List ℕ) → Digits gs cs → digits gs (index gs cs) ≡ cs
  digits-index = Index.digits-index gs (Index.valid_positive valid)

  pub index_below : (cs : List ℕ) → Digits gs cs → index gs cs < order_of gs
  index_below = Index.index_below gs

  pub digits-add : (i j : ℕ) → digits gs (add gs i j) ≡ add_digits gs (digits gs i) (digits gs j)
  digits-add = Index.digits-add gs (Index.valid_positive valid)

  -- the group: `add` is its sum, 0 its neutral index, `inverse` its inverse
  pub add-below : (i j : ℕ) → add gs i j < order_of gs
  add-below = Index.add-below gs (Index.valid_positive valid)

  pub add_comm : (i j : ℕ) → add gs i j ≡ add gs j i
  add_comm = Index.add_comm gs

  pub add_assoc : (i j k : ℕ) → add gs (add gs i j) k ≡ add gs i (add gs j k)
  add_assoc = Index.add_assoc gs (Index.valid_positive valid)

  pub add-zero : (i : ℕ) → i < order_of gs → add gs i 0 ≡ i
  add-zero = Index.add-zero gs (Index.valid_positive valid)

  pub add-inverse : (i : ℕ) → add gs i (inverse gs i) ≡ 0
  add-inverse = Index.add-inverse gs (Index.valid_positive valid)

  pub inverse-below : (i : ℕ) → inverse gs i < order_of gs
  inverse-below = Index.inverse-below gs (Index.valid_positive valid)

  -- reaching by i and then by j is reaching by their sum
  pub reach-add : (i j : ℕ) (w : Word) → length w ≡ n → reach gs (add gs i j) w ≡ reach gs j (reach gs i w)
  reach-add = Reach.reach-add valid

  -- the inverse undoes
  pub reach-inverse : (i : ℕ) (w : Word) → length w ≡ n → reach gs (inverse gs i) (reach gs i w) ≡ w
  reach-inverse = Reach.reach-inverse valid

  pub reach-zero : (w : Word) → reach gs 0 w ≡ w
  reach-zero = Reach.reach-zero gs

  -- the walk: what i + 1 reaches is one step from what i reaches, and after the last index the walk is back at its word
  pub reach_step : (i : ℕ) (w : Word) → length w ≡ n → reach gs (suc i) w ≡ stepped gs (digits gs i) (reach gs i w)
  reach_step = Reach.reach_step valid

  pub reach-order : (w : Word) → reach gs (order_of gs) w ≡ w
  reach-order = Reach.reach-order valid

  module _ (w : Word) (long : length w ≡ n) where
    -- ---- 4 Canonical: the orbit is what the indices reach; the least word, and the index that leads back from it

    pub orbit-reached : (i : ℕ) → i < order_of gs → is_in (reach gs i w) (orbit gs w) ≡ true
    orbit-reached = Canonical.orbit_intro gs w

    pub reached-orbit : (u : Word) → is_in u (orbit gs w) ≡ true → (i : ℕ) × (i < order_of gs) × (u ≡ reach gs i w)
    reached-orbit = Canonical.orbit_elim gs w

    pub least-in-orbit : is_in (least gs w) (orbit gs w) ≡ true
    least-in-orbit = Canonical.least-in-orbit valid w

    pub least-least : (u : Word) → is_in u (orbit gs w) ≡ true → less u (least gs w) ≡ false
    least-least = Canonical.least-least valid w long

    -- the index back is the inverse of `forward`, which reaches the least word, and no earlier index does
    pub back-inverse : index_back gs w ≡ inverse gs (forward gs w)
    unfolding index_back
    back-inverse = refl

    pub forward-below : forward gs w < order_of gs
    forward-below = Canonical.forward-below valid w

    pub forward-reaches : reach gs (forward gs w) w ≡ least gs w
    forward-reaches = Canonical.forward-reaches valid w

    pub forward_first : (i : ℕ) → i < forward gs w → reach gs i w ≡ least gs w → ⊥
    forward_first = Canonical.forward_first gs w

    pub back_below : index_back gs w < order_of gs
    back_below = Canonical.back_below valid w

    pub back-reaches : reach gs (index_back gs w) (least gs w) ≡ w
    back-reaches = Canonical.back-reaches valid w long

    -- every word of an orbit has the same least word, which is its own
    pub least-same : (u : Word) → is_in u (orbit gs w) ≡ true → least gs u ≡ least gs w
    least-same = Canonical.least-same valid w long

    pub least-own : least gs (least gs w) ≡ least gs w
    least-own = Canonical.least-own valid w long

    -- two words have the same least word exactly if one is in the other's orbit
    pub orbit-by-least : (u : Word) → length u ≡ n → (least gs u ≡ least gs w) ↔ (is_in u (orbit gs w) ≡ true)
    orbit-by-least u e = (Canonical.orbit-of-least valid w long u e, Canonical.least-same valid w long u)

    -- ---- 5 Stabilizer: the fixing indices are a subgroup, and the order is the number of different orbit words times theirs

    pub fixes-reach : (i : ℕ) → (fixes gs w i ≡ true) ↔ (reach gs i w ≡ w)
    fixes-reach i = (Stabilizer.fixes_elim gs w i, Stabilizer.fixes_intro gs w i)

    pub fixes-zero : fixes gs w 0 ≡ true
    fixes-zero = Stabilizer.fixes-zero gs w

    pub fixes-add : (i j : ℕ) → fixes gs w i ≡ true → fixes gs w j ≡ true → fixes gs w (add gs i j) ≡ true
    fixes-add = Stabilizer.fixes-add valid w long

    pub fixes-inverse : (i : ℕ) → fixes gs w i ≡ true → fixes gs w (inverse gs i) ≡ true
    fixes-inverse = Stabilizer.fixes-inverse valid w long

    -- `fixing` lists the fixing indices below the order, once each
    pub fixing_all : (i : ℕ) → Member i (fixing gs w) ↔ ((i < order_of gs) × (reach gs i w ≡ w))
    fixing_all = Stabilizer.fixing_all gs w

    pub fixing-once : NoRepeats (fixing gs w)
    fixing-once = Stabilizer.fixing_no_repeats gs w

    -- the orbit lists its words once each
    pub orbit-once : NoRepeats (orbit gs w)
    orbit-once = Stabilizer.orbit_no_repeats gs w

    pub orbit-stabilizer : order_of gs ≡ length (orbit gs w) * length (fixing gs w)
    orbit-stabilizer = Stabilizer.orbit-stabilizer valid w long

    pub orbit_size-orbit : orbit_size gs w ≡ length (orbit gs w)
    orbit_size-orbit = Stabilizer.orbit_size_is valid w long

    pub nothing-left-over : order_of gs % length (fixing gs w) ≡ 0
    nothing-left-over = Stabilizer.fixing-divides valid w long

-- ---- 6 Characters: a mode counts modulo its generator's order. The numerator turns sums of indices into sums modulo the phase modulus, and the
-- mode lists are all the characters

-- a mode is reduced to 0 .. o - 1, by a multiple of the order o
pub reduced-below : (o : ℕ) (k : ℤ) → 0 < o → reduced o k < o
reduced-below = Characters.reduced-below

pub reduced-positive : (o k : ℕ) → reduced o (pos k) ≡ k % o
unfolding reduced
reduced-positive o k = refl

-- negsuc k is - (k + 1)
pub reduced_negative : (o k : ℕ) → 0 < o → (reduced o (negsuc k) + suc k) % o ≡ 0
reduced_negative = Characters.reduced_negative

module _ {n : ℕ} {gs : List Generator} (valid : Valid n gs) where
  -- the phase modulus is the least common multiple of the orders
  pub modulus-multiple : (g : Generator) → Member g gs → g.order ∣ modulus gs
  modulus-multiple = Characters.modulus-multiple gs

  pub modulus-least : (m : ℕ) → ((g : Generator) → Member g gs → g.order ∣ m) → modulus gs ∣ m
  modulus-least = Characters.modulus-least gs

  -- a mode list, reduced, is one of all mode lists
  pub reduced_modes_lem : (ks : List ℤ) → length ks ≡ length gs → Member (reduced_modes gs ks) (all_modes gs)
  reduced_modes_lem = Characters.reduced_modes_lem gs (Index.valid_positive valid)

  -- adding counters digit by digit adds their numerators
  pub numerator-counters : (ks : List ℤ) (cs ds : List ℕ) → length cs ≡ length gs → length ds ≡ length gs
      → numerator gs ks (add_digits gs cs ds) ≡ (numerator gs ks cs + numerator gs ks ds) % modulus gs
  numerator-counters = Characters.numerator-add gs (Index.valid_positive valid)

  pub numerator-add : (ks : List ℤ) (i j : ℕ)
      → numerator gs ks (digits gs (add gs i j)) ≡ (numerator gs ks (digits gs i) + numerator gs ks (digits gs j)) % modulus gs
  numerator-add = Characters.numerator-index-add gs (Index.valid_positive valid)

  -- modes and digits may be reduced first
  pub numerator-reduced : (ks : List ℤ) (cs : List ℕ) → numerator gs (reduced_modes gs ks) (reduced_digits gs cs) ≡ numerator gs ks cs
  numerator-reduced ks cs = Characters.numerator-reduced_modes gs ks (reduced_digits gs cs) ∙ Characters.numerator-reduced-digits gs ks cs

  -- only index 0 has numerator 0 under every mode list
  pub numerator-faithful : (i : ℕ) → i < order_of gs → ((ks : List ℤ) → Member ks (all_modes gs) → numerator gs ks (digits gs i) ≡ 0) → i ≡ 0
  numerator-faithful = Characters.numerator-faithful gs (Index.valid_positive valid)

  pub numerator-character : (ks : List ℤ) → Character gs (λ i. numerator gs ks (digits gs i))
  numerator-character = Characters.numerator-character gs (Index.valid_positive valid)

  -- every character is the numerator of a reduced mode list, and of only one
  pub character-modes : (f : ℕ → ℕ) → Character gs f
      → (ks : List ℤ) × Member ks (all_modes gs) × ((i : ℕ) → i < order_of gs → numerator gs ks (digits gs i) ≡ f i)
  character-modes = Characters.character-modes gs (Index.valid_positive valid)

  pub modes-unique : (ks ls : List ℤ) → Member ks (all_modes gs) → Member ls (all_modes gs)
      → ((i : ℕ) → i < order_of gs → numerator gs ks (digits gs i) ≡ numerator gs ls (digits gs i)) → ks ≡ ls
  modes-unique = Characters.modes-unique gs (Index.valid_positive valid)

  module _ (w : Word) (long : length w ≡ n) where
    -- ---- 7 Kept lists: of all mode lists, exactly as many keep the word as its orbit has different words; by any test that agrees with
    -- `keeps`, and so by `keeps`

    pub kept-lists : (kept : List ℤ → Word → Bool) → ((ks : List ℤ) → Member ks (all_modes gs) → kept ks w ≡ keeps gs ks w)
        → kept_lists kept gs w ≡ length (orbit gs w)
    kept-lists = Kept.kept-lists valid w long

    pub keeps-lists : kept_lists (keeps gs) gs w ≡ length (orbit gs w)
    keeps-lists = Kept.kept-lists valid w long (keeps gs) (λ ks m. refl)

    -- keeping is the same for all words of an orbit
    pub keeps-orbit : (ks : List ℤ) (u : Word) → is_in u (orbit gs w) ≡ true → keeps gs ks u ≡ keeps gs ks w
    keeps-orbit = Kept.keeps-orbit valid w long

    -- modes do not keep the word exactly if some index below the order fixes it and has a numerator other than 0
    pub keeps-unless : (ks : List ℤ)
        → (keeps gs ks w ≡ false) ↔ ((i : ℕ) × (i < order_of gs) × (fixes gs w i ≡ true) × (numerator gs ks (digits gs i) ≡ 0 → ⊥))
    keeps-unless = Dropped.keeps-unless gs w

    -- `droppedBy` is then the smallest such index
    pub drops-exactly : (ks : List ℤ) (i : ℕ) → Drops gs ks w i ↔ ((keeps gs ks w ≡ false) × (dropped_by gs ks w ≡ i))
    drops-exactly = Dropped.drops-exactly gs w

  -- ---- 8 Pairs: nothing is lost. There are 4 ^ n pairs of a representative and a mode list that keeps it; by any test that agrees with
  -- `keeps`, and so by `keeps`. All words of n letters and all reduced mode lists are listed, once each

  pub kept-pairs : (kept : List ℤ → Word → Bool)
      → ((w : Word) (ks : List ℤ) → length w ≡ n → Member ks (all_modes gs) → kept ks w ≡ keeps gs ks w)
      → kept_pairs kept gs n ≡ 4 ^ n
  kept-pairs = Pairs.kept-pairs valid

  pub keeps-pairs : kept_pairs (keeps gs) gs n ≡ 4 ^ n
  keeps-pairs = Pairs.kept-pairs valid (keeps gs) (λ w ks e m. refl)

  -- the representatives are the words of n letters that are the least of their own orbit, listed once each
  pub representatives_all : (w : Word) → Member w (representatives gs n) ↔ ((length w ≡ n) × (least gs w ≡ w))
  representatives_all = Pairs.representatives_all gs n

  pub representatives-once : NoRepeats (representatives gs n)
  representatives-once = Pairs.representatives_no_repeats gs n

  pub words_all : (w : Word) → Member w (all_words n) ↔ (length w ≡ n)
  words_all w = (Pairs.words_long n w, Pairs.words_all n w)

  pub words-once : NoRepeats (all_words n)
  words-once = Pairs.words_no_repeats n

  pub modes-all : (ks : List ℤ) → Member ks (all_modes gs) ↔ Modes gs ks
  modes-all = Characters.modes_reduced gs

  pub modes-once : NoRepeats (all_modes gs)
  modes-once = Pairs.modes_no_repeats gs

-- ---- 9 Lattices: shifts along any axes are valid generators if the sites are a number of rounds of them, and their group order is the
-- product of the sides. Of the four lattices, where each generator sends the site with given coordinates

pub shifts_valid : (n stride : ℕ) (sides : List ℕ) (rounds : ℕ) → 0 < n → stride * product sides * rounds ≡ n → Valid n (shifts n stride sides)
shifts_valid n stride sides rounds some = Lattice.shifts_valid some stride sides rounds

pub shifts_order : (n stride : ℕ) (sides : List ℕ) → order_of (shifts n stride sides) ≡ product sides
shifts_order = Lattice.shifts_order

-- one generator for each axis
pub shifts-length : (n stride : ℕ) (sides : List ℕ) → length (shifts n stride sides) ≡ length sides
shifts-length = Lattice.shifts-length

pub chain_valid : (n : ℕ) → 0 < n → Valid n (chain n)
chain_valid = Lattice.chain_valid

pub ladder_valid : (l legs : ℕ) → 0 < l → 0 < legs → Valid (l * legs) (ladder l legs)
ladder_valid = Lattice.ladder_valid

pub torus2_valid : (lx ly : ℕ) → 0 < lx → 0 < ly → Valid (lx * ly) (torus2 lx ly)
torus2_valid = Lattice.torus2_valid

pub torus3_valid : (lx ly lz : ℕ) → 0 < lx → 0 < ly → 0 < lz → Valid (lx * ly * lz) (torus3 lx ly lz)
torus3_valid = Lattice.torus3_valid

-- a site of a chain moves on by one, the last to site 0
pub chain-sends : (n j : ℕ) → j < n → sends (chain n) 0 j ≡ (j + 1) % n
chain-sends = Lattice.chain-sends

-- a site of a ladder moves on by one along its leg
pub ladder-sends : (l legs j leg : ℕ) → j < l → leg < legs → sends (ladder l legs) 0 (leg * l + j) ≡ leg * l + (j + 1) % l
ladder-sends = Lattice.ladder-sends

-- generator 0 of a torus moves on the first coordinate alone, generator 1 the second, generator 2 the third
module _ (lx ly i j : ℕ) (x : i < lx) (y : j < ly) where
  pub torus2-sends-x : sends (torus2 lx ly) 0 (j * lx + i) ≡ j * lx + (i + 1) % lx
  torus2-sends-x = Lattice.torus2-sends-x lx ly i j x y

  pub torus2-sends-y : sends (torus2 lx ly) 1 (j * lx + i) ≡ (j + 1) % ly * lx + i
  torus2-sends-y = Lattice.torus2-sends-y lx ly i j x y

module _ (lx ly lz i j k : ℕ) (x : i < lx) (y : j < ly) (z : k < lz) where
  pub torus3-sends-x : sends (torus3 lx ly lz) 0 (k * lx * ly + j * lx + i) ≡ k * lx * ly + j * lx + (i + 1) % lx
  torus3-sends-x = Lattice.torus3-sends-x lx ly lz i j k x y z

  pub torus3-sends-y : sends (torus3 lx ly lz) 1 (k * lx * ly + j * lx + i) ≡ k * lx * ly + (j + 1) % ly * lx + i
  torus3-sends-y = Lattice.torus3-sends-y lx ly lz i j k x y z

  pub torus3-sends-z : sends (torus3 lx ly lz) 2 (k * lx * ly + j * lx + i) ≡ (k + 1) % lz * lx * ly + j * lx + i
  torus3-sends-z = Lattice.torus3-sends-z lx ly lz i j k x y z
