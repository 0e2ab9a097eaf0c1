-- Letters of a word that are taken out by a table, made least and put back.
use Prim.Native.Nat.{ℕ, ◌-◌, ◌≤◌, ◌<◌}
use mathlib.Core.Path.{◌≡◌, sym, ◌∙◌, ap}
use mathlib.Core.List.{List}
use native.Mathlib.Omega.{arith}
use lib.ListN.{length, get_or, take, replicate, length-replicate}
use lib.Seq.{length-take-le}
use Rattle.pauli_word.specs.Limits.{plane_length, max_sites}
use Rattle.pauli_word.specs.Word.{I, Word}
use Rattle.pauli_word.specs.Bytes.{AcceptedWord, letters_in, bytes_of}
use Rattle.pauli_word.proofs.Words.{encoded-accepted, encoded-decode}
use Rattle.action.specs.Permutation.{Generator, Valid}
use Rattle.action.specs.Orbit.{least}
use Rattle.action.proofs.Canonical.{least-length}
use Rattle.parts.specs.Numbered.{Numbering, read_by}
use Rattle.parts.proofs.Carried.{read_by_length}
use Rattle.parted.specs.Steps.{Placed}

module _ {n m : ℕ} {site : ℕ → ℕ} (σ : Numbering n m site) {codes letters : ℕ} (c : codes ≡ n) (l : letters ≡ m) where
  -- numbers stand for sites of the word
  pub site-inside : (a : ℕ) → a < letters → site a < codes
  site-inside a h = let i = σ.inside a (omega arith) in omega arith

  -- and no two for the same
  pub site-apart : (a b : ℕ) → a < letters → b < letters → site a ≡ site b → a ≡ b
  site-apart a b h k e = σ.apart a b (omega arith) (omega arith) e

-- the letters that are read, as bytes, and the least word that a group makes of them
module _ {m : ℕ} (few : m ≤ max_sites) (site : ℕ → ℕ) (w : Word) {bytes : List ℕ} (e : bytes ≡ bytes_of (read_by m site w)) where
  pub read-accepted : AcceptedWord m bytes
  read-accepted = encoded-accepted plane_length (read_by m site w) (read_by_length m site w) few e

  pub read_letters : letters_in m bytes ≡ read_by m site w
  read_letters = encoded-decode plane_length (read_by m site w) (read_by_length m site w) few e

  module _ {hs : List Generator} (v : Valid m hs) {out : List ℕ} (f : out ≡ bytes_of (least hs (letters_in m bytes))) where
    pub least-bytes : out ≡ bytes_of (least hs (read_by m site w))
    least-bytes = f ∙ ap (λ (x : Word). bytes_of (least hs x)) read_letters

    pub least-long : length (least hs (read_by m site w)) ≡ m
    least-long = least-length v (read_by m site w) ∙ read_by_length m site w

    pub least-accepted : AcceptedWord m out
    least-accepted = encoded-accepted plane_length (least hs (read_by m site w)) least-long few least-bytes

    pub least-letters : letters_in m out ≡ least hs (read_by m site w)
    least-letters = encoded-decode plane_length (least hs (read_by m site w)) least-long few least-bytes

-- a word with letters put back, by the lengths of these and of the word
module _ {n m : ℕ} {site : ℕ → ℕ} {u w y : Word} (p : Placed n m site u w y) (ul : length u ≡ m) (wl : length w ≡ n) where
  pub placed-long : length y ≡ length w
  placed-long = p.long ∙ sym wl

  pub placed-here : (a : ℕ) → a < length u → get_or y (site a) I ≡ get_or u a I
  placed-here a h = p.here a (omega arith)

  pub placed-there : (q : ℕ) → q < length w → ((a : ℕ) → a < length u → site a ≡ q → ⊥) → get_or y q I ≡ get_or w q I
  placed-there q h f = p.there q (omega arith) (λ a k e. f a (omega arith) e)

-- the first k places of room for the codes of a word
pub room-length : (k : ℕ) → k ≤ max_sites → length (take (k - 0) (replicate {A = ℕ} max_sites 0)) ≡ k
room-length k few = length-take-le (k - 0) (replicate max_sites 0) (omega (arith, length-replicate {A = ℕ} max_sites 0)) ∙ omega arith
