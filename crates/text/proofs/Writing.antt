-- Texts written one after the other into a list.
-- What carries it: two writes, each from where the one before ends, write the two texts as one (`writes_then`), so that a chain of them writes a line.
use Prim.Native.Nat.{ℕ, ◌+◌, ◌≤◌}
use mathlib.Core.Path.{◌≡◌, ap, ap₂, ◌∙◌}
use mathlib.Core.List.{List, ◌++◌}
use native.Mathlib.Omega.{arith}
use lib.ListN.{length, length-append}
use Rattle.text.specs.Text.{put}
use Rattle.text.proofs.Puts.{put-length, put-put}

-- a text written into a list from a place on: where it ends, and the list afterwards
pub record Writes (at : ℕ) (text list : List ℕ) (place : ℕ) (next : List ℕ) : Type 0 where
  pub ends : place ≡ at + length text
  pub made : next ≡ put at text list
  pub room : at + length text ≤ length list

-- the list keeps its length
pub writes_length : {at place : ℕ} {text list next : List ℕ} → Writes at text list place next → length next ≡ length list
writes_length {at} {text} {list} w = ap length w.made ∙ put-length at text list w.room

-- what a text of at most m bytes leaves of the room
pub writes_room :
    {at place : ℕ} {text list next : List ℕ} (m n : ℕ) → Writes at text list place next → length text ≤ m → at + (m + n) ≤ length list
    → place + n ≤ length next
writes_room m n w short room = omega (arith, w.ends, writes_length w)

-- two texts
pub writes_then :
    {at p q : ℕ} {s t list mid next : List ℕ} → Writes at s list p mid → Writes p t mid q next → Writes at (s ++ t) list q next
writes_then {at} {p} {q} {s} {t} {list} {mid} {next} v w =
    let long : length mid ≡ length list = writes_length v in
    let e : p ≡ at + length s = v.ends in
    let r : p + length t ≤ length mid = w.room in
    let d : length (s ++ t) ≡ length s + length t = length-append s t in
    let k : q ≡ p + length t = w.ends in
    record {
      ends = omega arith;
      made =
          w.made
          ∙ ap₂ (λ (j : ℕ) (l : List ℕ). put j t l) e v.made
          ∙ put-put at s t list (omega arith);
      room = omega arith;
    }

-- as a function's contract has it
pub text_writes :
    {at place : ℕ} {text list next : List ℕ} → (place ≡ at + length text) × (next ≡ put at text list) → at + length text ≤ length list
    → Writes at text list place next
text_writes e room = record { ends = e.0; made = e.1; room = room }

-- as a contract of a text with another name has it
pub writes_as :
    {at place : ℕ} {s t list next : List ℕ} → Writes at s list place next → s ≡ t → (place ≡ at + length t) × (next ≡ put at t list)
writes_as {at} {list} w e = (w.ends ∙ ap (λ (l : List ℕ). at + length l) e, w.made ∙ ap (λ (l : List ℕ). put at l list) e)
