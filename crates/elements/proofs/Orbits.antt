-- The walk over an orbit, entry by entry: the bytes at hand are those of the word that index i reaches, and the list holds the bytes of the
-- entries before it. What carries it: the walk's step goes from an index to the next (`reach_step` of the action).
use Prim.Native.Nat.{ℕ, zero, suc, ◌+◌, ◌-◌, ◌*◌, ◌≤◌}
use mathlib.Core.Path.{◌≡◌, refl, sym, ap, ap₂, ◌∙◌}
use mathlib.Core.List.{List, [], ◌∷◌, ◌++◌, map, append_assoc, append-nil}
use native.Mathlib.Nat.{add-zero, zero-add, add-sub_cancel_left}
use native.Mathlib.Numerals.{add-one}
use native.Mathlib.Omega.{arith}
use lib.ListN.{length, take, drop, length-append, length-take, length-drop, length-map, drop_of_length-le}
use lib.Seq.{take_at, drop_at, drop-drop}
use Rattle.pauli_word.specs.Limits.{plane_length, word_length}
use Rattle.pauli_word.specs.Word.{Word}
use Rattle.pauli_word.specs.Bytes.{AcceptedWord, letters_in, bytes_of}
use Rattle.pauli_word.proofs.Words.{map-append, encode-length, encode-decode, encoded-accepted, encoded-decode}
use Rattle.action.specs.Lists.{from, below}
use Rattle.action.specs.Permutation.{Generator}
use Rattle.action.specs.Index.{order_of, digits}
use Rattle.action.specs.Orbit.{reach, stepped, orbit_list}
use Rattle.action.proofs.Lists.{length-below}
use Rattle.action.proofs.Reach.{reach-length, reach-zero, reach_step}
use Rattle.elements.specs.HeldGroup.{generators_in, Tables, encode_all}

-- ---- the entries of the orbit list, one after the other

-- the first i entries
abbrev pub entries : List Generator → Word → ℕ → List Word
entries gs w i = map (λ j. reach gs j w) (below i)

pub entries-length : (gs : List Generator) (w : Word) (i : ℕ) → length (entries gs w i) ≡ i
entries-length gs w i = length-map (below i) (λ j. reach gs j w) ∙ length-below i

from_next : (n a : ℕ) → from a (suc n) ≡ from a n ++ ((a + n) ∷ [])
unfolding from
from_next zero a = rw add-zero
from_next (suc n) a =
    let e : suc a + n ≡ a + suc n = omega arith in
    ap (λ (t : List ℕ). a ∷ t) (from_next n (suc a) ∙ rw e)

pub below_next : (n : ℕ) → below (n + 1) ≡ below n ++ (n ∷ [])
unfolding below
below_next n = ap (from 0) (add-one n) ∙ from_next n 0 ∙ rw zero-add

pub entries_next : (gs : List Generator) (w : Word) (i : ℕ) → entries gs w (i + 1) ≡ entries gs w i ++ (reach gs i w ∷ [])
entries_next gs w i = ap (map (λ j. reach gs j w)) (below_next i) ∙ map-append (λ j. reach gs j w) (below i) (i ∷ [])

pub entries_all : (gs : List Generator) (w : Word) → entries gs w (order_of gs) ≡ orbit_list gs w
unfolding orbit_list
entries_all gs w = refl

-- ---- the bytes at hand

-- the walk starts at the word, which index 0 keeps
pub walk_start : {n : ℕ} {bytes : List ℕ} → AcceptedWord n bytes → (gs : List Generator)
    → bytes ≡ bytes_of (reach gs 0 (letters_in n bytes))
walk_start {n} {bytes} ok gs = sym (ap bytes_of (reach-zero gs (letters_in n bytes)) ∙ encode-decode ok)

module _ {k n : ℕ} {targets orders : List ℕ} (t : Tables k n targets orders) (w : Word) (long : length w ≡ n)
    (i : ℕ) {here : List ℕ} (e : here ≡ bytes_of (reach (generators_in k n targets orders) i w)) where
  reach-long : length (reach (generators_in k n targets orders) i w) ≡ n
  reach-long = reach-length (generators_in k n targets orders) i w ∙ long

  pub walk-accepted : AcceptedWord n here
  walk-accepted = encoded-accepted plane_length (reach (generators_in k n targets orders) i w) reach-long t.sites e

  pub walk_next : {next : List ℕ}
      → next ≡ bytes_of (stepped (generators_in k n targets orders) (digits (generators_in k n targets orders) i) (letters_in n here))
      → next ≡ bytes_of (reach (generators_in k n targets orders) (i + 1) w)
  walk_next a =
      a
      ∙ ap bytes_of
      (ap (stepped (generators_in k n targets orders) (digits (generators_in k n targets orders) i))
      (encoded-decode plane_length (reach (generators_in k n targets orders) i w) reach-long t.sites e)
      ∙ sym (reach_step t.valid i w long)
      ∙ ap (λ (j : ℕ). reach (generators_in k n targets orders) j w) (sym (add-one i)))

-- ---- the list

encode_all-append : (vs ws : List Word) → encode_all (vs ++ ws) ≡ encode_all vs ++ encode_all ws
unfolding encode_all
encode_all-append [] ws = refl
encode_all-append (v ∷ vs) ws =
    ap (λ (l : List ℕ). bytes_of v ++ l) (encode_all-append vs ws) ∙ sym (append_assoc (bytes_of v) (encode_all vs) (encode_all ws))

pub encode_all-length : (ws : List Word) → length (encode_all ws) ≡ word_length * length ws
unfolding encode_all
encode_all-length [] = refl
encode_all-length (w ∷ ws) =
    omega (arith, length-append (bytes_of w) (encode_all ws), encode-length plane_length w, encode_all-length ws)

-- a list with the entries before place i stored, m places each, and the next one stored behind them: of any width m
module _ (m i : ℕ) where
  -- the part of a list that entry i takes
  pub part_length : (list : List ℕ) → m * i + m ≤ length list → length (take (m * i + m - m * i) (drop (m * i) list)) ≡ m
  part_length list h = simp (length-take, length-drop) (omega arith)

  store-next :
      (front list bytes now : List ℕ) → length front ≡ m * i → now ≡ front ++ drop (m * i) list
      → take (m * i) now ++ (bytes ++ drop (m * i + m - m * i) (drop (m * i) now)) ≡ (front ++ bytes) ++ drop (m * (i + 1)) list
  store-next front list bytes now long e =
      let more : m * (i + 1) ≡ m * i + m = omega arith in
      ap₂ (λ (a d : List ℕ). a ++ (bytes ++ drop (m * i + m - m * i) d))
      (ap (take (m * i)) e ∙ take_at front (drop (m * i) list) (m * i) long)
      (ap (drop (m * i)) e ∙ drop_at front (drop (m * i) list) (m * i) long)
      ∙ rw (add-sub_cancel_left (m * i) m, drop-drop, more, append_assoc)

-- the words that f gives below i, and the list as it was behind them
abbrev pub stored : (ℕ → Word) → List ℕ → ℕ → List ℕ
stored f list i = encode_all (map f (below i)) ++ drop (word_length * i) list

module _ (f : ℕ → Word) (list : List ℕ) where
  words-length : (i : ℕ) → length (encode_all (map f (below i))) ≡ word_length * i
  words-length i = encode_all-length (map f (below i)) ∙ ap (λ (j : ℕ). word_length * j) (length-map (below i) f ∙ length-below i)

  pub stored-start : list ≡ stored f list 0
  unfolding encode_all below from
  stored-start = refl

  -- a list of a word for each of o numbers stays that long
  pub stored-length : (i o : ℕ) → length list ≡ word_length * o → i ≤ o → length (stored f list i) ≡ word_length * o
  stored-length i o l h =
      length-append (encode_all (map f (below i))) (drop (word_length * i) list) ∙ omega (arith, words-length i, length-drop (word_length * i) list)

  -- the next word stored behind the first i, in the part of the list that it takes
  pub stored_next : (now bytes : List ℕ) (i : ℕ) → now ≡ stored f list i → bytes ≡ bytes_of (f i)
      → take (word_length * i) now ++ (bytes ++ drop (word_length * i + word_length - word_length * i) (drop (word_length * i) now)) ≡ stored f list (i + 1)
  unfolding encode_all
  stored_next now bytes i e b =
      let more : encode_all (map f (below i)) ++ bytes ≡ encode_all (map f (below (i + 1))) =
      rw (b, below_next, map-append f (below i) (i ∷ []), encode_all-append, append-nil) in
      store-next word_length i (encode_all (map f (below i))) list bytes now (words-length i) e
      ∙ ap (λ (l : List ℕ). l ++ drop (word_length * (i + 1)) list) more

  pub stored-end : (i o : ℕ) → length list ≡ word_length * o → o ≤ i → i ≤ o → stored f list i ≡ encode_all (map f (below o))
  stored-end i o l h k =
      let e : i ≡ o = omega arith in
      rw (drop_of_length-le list {i = word_length * i} (omega arith), append-nil) (ap (λ (j : ℕ). encode_all (map f (below j))) e)
