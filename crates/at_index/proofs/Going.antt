-- A word on its way, on codes: the codes at hand are those of a word of which what is left to do makes what is to be made of the first word. What is
-- left is a number of moves, or an index from one generator on.
use Prim.Native.Nat.{ℕ, ◌+◌, ◌/◌, ◌%◌, ◌≤◌, ◌<◌}
use mathlib.Core.Path.{◌≡◌, refl, sym, ap, ◌∙◌}
use mathlib.Core.List.{List}
use lib.ListN.{length, get_or}
use Rattle.pauli_word.specs.Word.{Word}
use Rattle.action.specs.Permutation.{Generator, Permutes}
use Rattle.action.specs.Index.{digits}
use Rattle.action.specs.Orbit.{moves, by_digits, reach}
use Rattle.permutation.specs.Generators.{row_at}
use Rattle.elements.specs.HeldGroup.{generators_in, Tables}
use Rattle.elements.specs.Letters.{codes}
use Rattle.elements.proofs.Codes.{codes-length}
use Rattle.elements.proofs.TableRows.{rest_at, rest_end}
use Rattle.rotation.proofs.Reached.{rest_of, reached_start}
use Rattle.at_index.specs.Powers.{squared}
use Rattle.at_index.proofs.Squares.{moves-halved}

-- codes at hand, of a word of which `rest` makes what `all` makes of the word with codes `before`
abbrev pub Going : (Word → Word) → List ℕ → (Word → Word) → List ℕ → Type 0
Going all before rest here = (w : Word) → before ≡ codes w → (v : Word) × (here ≡ codes v) × (all w ≡ rest v)

-- codes that are those of what a step makes of a word
abbrev pub Makes : (Word → Word) → List ℕ → List ℕ → Type 0
Makes step here next = (w : Word) → here ≡ codes w → next ≡ codes (step w)

pub going_start : (all : Word → Word) (before : List ℕ) → Going all before all before
going_start all before w e = (w, e, refl)

module _ {all rest : Word → Word} {before here : List ℕ} (going : Going all before rest here) {step : Word → Word} {next : List ℕ} (made : Makes step here next) where
  -- one step of what is left
  pub going_next : (later : Word → Word) → ((v : Word) → here ≡ codes v → rest v ≡ later (step v)) → Going all before later next
  going_next later same w e =
      let (v, ev, es) = going w e in
      (step v, made v ev, es ∙ same v ev)

  -- the last step
  pub going-last : ((v : Word) → rest v ≡ step v) → Makes all before next
  going-last same w e =
      let (v, ev, es) = going w e in
      made v ev ∙ ap codes (sym (es ∙ same v))

word_length_lem : {n : ℕ} {here : List ℕ} → length here ≡ n → (v : Word) → here ≡ codes v → length v ≡ n
word_length_lem long v e = sym (codes-length v) ∙ ap length (sym e) ∙ long

-- the moves of a count's last digit are made, and half of the count is left, by the square
pub halved_next : {n : ℕ} {perm : List ℕ} → Permutes n perm → (left : ℕ) {all : Word → Word} {before here next : List ℕ} → length here ≡ n
    → Going all before (moves left perm) here → Makes (moves (left % 2) perm) here next → Going all before (moves (left / 2) (squared perm)) next
halved_next {perm = perm} permutes left long going made =
    going_next going made (moves (left / 2) (squared perm)) (λ v e. moves-halved permutes left v (word_length_lem long v e))

-- from the first generator on the whole index is left
pub reached_first : (gs : List Generator) (index : ℕ) (before : List ℕ) → Going (reach gs index) before (rest_of gs 0 index) before
reached_first gs index before w e = (w, e, reached_start gs index w)

module _ {k n : ℕ} {targets orders : List ℕ} (t : Tables k n targets orders) (g rest : ℕ) where
  rest-moved : g < k → (w : Word)
      → rest_of (generators_in k n targets orders) g rest w
      ≡ rest_of (generators_in k n targets orders) (g + 1) (rest / get_or orders g 0) (moves (rest % get_or orders g 0) (row_at n targets g) w)
  unfolding by_digits digits
  rest-moved h w = rw (rest_at t g h)

  rest-done : k ≤ g → (w : Word) → rest_of (generators_in k n targets orders) g rest w ≡ w
  unfolding by_digits digits
  rest-done h w = rw (rest_end t g h)

  module _ {all : Word → Word} {before here : List ℕ} (going : Going all before (rest_of (generators_in k n targets orders) g rest) here) where
    -- the moves of generator g are made, and those after it are left
    pub reached-next : g < k → {perm next : List ℕ} → perm ≡ row_at n targets g → Makes (moves (rest % get_or orders g 0) perm) here next
        → Going all before (rest_of (generators_in k n targets orders) (g + 1) (rest / get_or orders g 0)) next
    reached-next h {next = next} row made =
        let moved : Makes (moves (rest % get_or orders g 0) (row_at n targets g)) here next = rw row at made in
        going_next going moved (rest_of (generators_in k n targets orders) (g + 1) (rest / get_or orders g 0)) (λ v e. rest-moved h v)

    -- past the last generator nothing is left
    pub reached-end : k ≤ g → Makes all before here
    reached-end h = going-last going {step = λ w. w} (λ w e. e) (rest-done h)
