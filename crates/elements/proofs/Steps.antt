-- The walk's step, generator by generator: a word is moved by generator g, and on by those after it where the digit rolls over.
use Prim.Native.Nat.{ℕ, suc, ◌+◌, ◌-◌, ◌*◌, ◌/◌, ◌%◌, ◌≤◌, ◌<◌}
use mathlib.Core.Path.{◌≡◌, sym, ap, ◌∙◌}
use mathlib.Core.Bool.{cond}
use mathlib.Core.List.{List}
use native.Mathlib.Nat.{add-sub_cancel_left}
use native.Mathlib.Omega.{arith}
use lib.Dec.{eqb}
use lib.ListN.{length, get_or, take, drop}
use borrow.Author.Tests.{eq-eqb, ne_eqb}
use Rattle.pauli_word.specs.Limits.{plane_length, max_sites}
use Rattle.pauli_word.specs.Word.{Word}
use Rattle.pauli_word.specs.Bytes.{AcceptedWord, letters_in, bytes_of}
use Rattle.pauli_word.proofs.Words.{decode-length, encode-decode, encoded-accepted, encoded-decode}
use Rattle.action.specs.Permutation.{Permutes}
use Rattle.action.specs.Index.{digits}
use Rattle.action.specs.Orbit.{move, stepped}
use Rattle.action.proofs.Move.{move-length}
use Rattle.permutation.specs.Generators.{row_at}
use Rattle.elements.specs.HeldGroup.{generators_in, Tables}
use Rattle.elements.proofs.TableRows.{rest_at, rest_end, permutes-at}

module _ {k n : ℕ} {targets orders : List ℕ} (t : Tables k n targets orders) (g rest : ℕ) (w : Word) where
  stepped-at : g < k
      → stepped (drop g (generators_in k n targets orders)) (digits (drop g (generators_in k n targets orders)) rest) w
      ≡ cond (eqb (suc (rest % get_or orders g 0)) (get_or orders g 0))
      (stepped (drop (g + 1) (generators_in k n targets orders)) (digits (drop (g + 1) (generators_in k n targets orders)) (rest / get_or orders g 0)) (move (row_at n targets g) w))
      (move (row_at n targets g) w)
  unfolding stepped digits
  stepped-at h = rw (rest_at t g h)

  -- a digit that does not roll over: moved by generator g alone
  pub stepped-stays : g < k → (rest % get_or orders g 0 + 1 ≡ get_or orders g 0 → ⊥)
      → stepped (drop g (generators_in k n targets orders)) (digits (drop g (generators_in k n targets orders)) rest) w ≡ move (row_at n targets g) w
  stepped-stays h d = rw (stepped-at h, ne_eqb (suc (rest % get_or orders g 0)) (get_or orders g 0) (λ e. d (omega arith)))

  -- a digit that rolls over: moved by generator g, and on by those after it
  pub stepped-rolls : g < k → rest % get_or orders g 0 + 1 ≡ get_or orders g 0
      → stepped (drop g (generators_in k n targets orders)) (digits (drop g (generators_in k n targets orders)) rest) w
      ≡ stepped (drop (g + 1) (generators_in k n targets orders)) (digits (drop (g + 1) (generators_in k n targets orders)) (rest / get_or orders g 0)) (move (row_at n targets g) w)
  stepped-rolls h d = rw (stepped-at h, eq-eqb (suc (rest % get_or orders g 0)) (get_or orders g 0) (omega arith))

  -- after the last generator nothing is left to move
  pub stepped-end : k ≤ g → stepped (drop g (generators_in k n targets orders)) (digits (drop g (generators_in k n targets orders)) rest) w ≡ w
  unfolding stepped digits
  stepped-end h = rw (rest_end t g h)

-- row g as a part of the targets, from its start to its end
pub row-part : (n g : ℕ) (targets : List ℕ) → take (max_sites * g + n - max_sites * g) (drop (max_sites * g) targets) ≡ row_at n targets g
row-part n g targets = ap (λ (j : ℕ). take j (drop (max_sites * g) targets)) (add-sub_cancel_left (max_sites * g) n)

pub part_permutes : {k n : ℕ} {targets orders : List ℕ} → Tables k n targets orders → (g : ℕ) → g < k
    → Permutes n (take (max_sites * g + n - max_sites * g) (drop (max_sites * g) targets))
part_permutes {n = n} {targets = targets} t g h = rw (row-part n g targets) (permutes-at t g h)

-- the bytes of a word, moved by generator g
module _ {k n : ℕ} {targets orders : List ℕ} (t : Tables k n targets orders) (g rest : ℕ) (h : g < k)
    {bytes moved : List ℕ} (ok : AcceptedWord n bytes)
    (e : moved ≡ bytes_of (move (take (max_sites * g + n - max_sites * g) (drop (max_sites * g) targets)) (letters_in n bytes))) where
  moved-is : moved ≡ bytes_of (move (row_at n targets g) (letters_in n bytes))
  moved-is = e ∙ ap (λ (p : List ℕ). bytes_of (move p (letters_in n bytes))) (row-part n g targets)

  moved-long : length (move (row_at n targets g) (letters_in n bytes)) ≡ n
  moved-long = move-length (row_at n targets g) (letters_in n bytes) ∙ decode-length ok

  pub moved-accepted : AcceptedWord n moved
  moved-accepted = encoded-accepted plane_length (move (row_at n targets g) (letters_in n bytes)) moved-long ok.sites moved-is

  pub moved-last : (rest % get_or orders g 0 + 1 ≡ get_or orders g 0 → ⊥)
      → moved ≡ bytes_of (stepped (drop g (generators_in k n targets orders)) (digits (drop g (generators_in k n targets orders)) rest) (letters_in n bytes))
  moved-last d = moved-is ∙ ap bytes_of (sym (stepped-stays t g rest (letters_in n bytes) h d))

  pub moved_on : rest % get_or orders g 0 + 1 ≡ get_or orders g 0
      → stepped (drop g (generators_in k n targets orders)) (digits (drop g (generators_in k n targets orders)) rest) (letters_in n bytes)
      ≡ stepped (drop (g + 1) (generators_in k n targets orders)) (digits (drop (g + 1) (generators_in k n targets orders)) (rest / get_or orders g 0)) (letters_in n moved)
  moved_on d =
      stepped-rolls t g rest (letters_in n bytes) h d
      ∙ ap (stepped (drop (g + 1) (generators_in k n targets orders)) (digits (drop (g + 1) (generators_in k n targets orders)) (rest / get_or orders g 0)))
      (sym (encoded-decode plane_length (move (row_at n targets g) (letters_in n bytes)) moved-long ok.sites moved-is))

-- after the last generator
pub moved_end : {k n : ℕ} {targets orders : List ℕ} → Tables k n targets orders → (g rest : ℕ) → k ≤ g → {bytes : List ℕ} → AcceptedWord n bytes
    → bytes ≡ bytes_of (stepped (drop g (generators_in k n targets orders)) (digits (drop g (generators_in k n targets orders)) rest) (letters_in n bytes))
moved_end {n = n} t g rest h {bytes} ok = sym (ap bytes_of (stepped-end t g rest (letters_in n bytes) h) ∙ encode-decode ok)
