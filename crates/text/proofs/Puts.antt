-- A text written into a list from a place on: nothing of it changes nothing, one byte more is one place more, and two texts one after the other are
-- the text of both.
use Prim.Native.Nat.{ℕ, suc, ◌+◌, ◌≤◌, ◌<◌}
use mathlib.Core.Path.{◌≡◌, sym, ap, ap₂, ◌∙◌}
use mathlib.Core.List.{List, [], ◌∷◌, ◌++◌, append_assoc}
use native.Mathlib.Nat.{add-zero, add_assoc}
use native.Mathlib.Numerals.{add-one}
use native.Mathlib.Omega.{arith}
use lib.ListN.{length, get_or, set, take, drop, length-append, length-drop, take-append-drop}
use lib.Seq.{length-take-le, take-suc, drop-drop, take_at, drop_at, split_at, set-append_seam}
use Rattle.text.specs.Text.{put}

pub put_nothing : (at : ℕ) (list : List ℕ) → put at [] list ≡ list
unfolding put
put_nothing at list = ap (λ (k : ℕ). take at list ++ drop k list) (add-zero at) ∙ take-append-drop at list

pub put-length : (at : ℕ) (text list : List ℕ) → at + length text ≤ length list → length (put at text list) ≡ length list
unfolding put
put-length at text list h =
    simp (length-append, length-drop, length-take-le at list (omega arith)) (omega arith)

-- what is before the place, and the text
front : ℕ → List ℕ → List ℕ → List ℕ
front at text list = take at list ++ text

module _ (at : ℕ) (text list : List ℕ) where
  put_front : put at text list ≡ front at text list ++ drop (at + length text) list
  unfolding put front
  put_front = sym (append_assoc (take at list) text (drop (at + length text) list))

  front_length : at ≤ length list → length (front at text list) ≡ at + length text
  unfolding front
  front_length h = length-append (take at list) text ∙ ap (λ (k : ℕ). k + length text) (length-take-le at list h)

-- two texts
pub put-put :
    (at : ℕ) (s t list : List ℕ) → at + length s + length t ≤ length list → put (at + length s) t (put at s list) ≡ put at (s ++ t) list
unfolding put front
put-put at s t list room =
    let A : List ℕ = front at s list in
    let R : List ℕ = drop (at + length s) list in
    let long : length A ≡ at + length s = front_length at s list (omega arith) in
    ap (put (at + length s) t) (put_front at s list)
    ∙ ap₂ (λ (x y : List ℕ). x ++ (t ++ y)) (take_at A R (at + length s) long)
    (sym (drop-drop (length t) (at + length s) (A ++ R)) ∙ ap (drop (length t)) (drop_at A R (at + length s) long) ∙ drop-drop (length t) (at + length s) list)
    ∙ append_assoc (take at list) s (t ++ drop (at + length s + length t) list)
    ∙ ap (λ (y : List ℕ). take at list ++ y) (sym (append_assoc s t (drop (at + length s + length t) list)))
    ∙ ap (λ (k : ℕ). take at list ++ ((s ++ t) ++ drop k list)) (add_assoc at (length s) (length t) ∙ ap (λ (k : ℕ). at + k) (sym (length-append s t)))

-- one byte
put_byte : (at b : ℕ) (list : List ℕ) → at < length list → set list at b ≡ put at (b ∷ []) list
unfolding put
put_byte at b list h =
    ap (λ (l : List ℕ). set l at b) (split_at list at 0 h)
    ∙ ap (λ (k : ℕ). set (take at list ++ (get_or list at 0 ∷ drop (suc at) list)) k b) (sym (length-take-le at list (omega arith)))
    ∙ set-append_seam (take at list) (get_or list at 0) (drop (suc at) list) b
    ∙ ap (λ (k : ℕ). take at list ++ (b ∷ drop k list)) (sym (add-one at))

-- one byte more
pub put_next :
    (at i : ℕ) (text list : List ℕ) → i < length text → at + length text ≤ length list
    → set (put at (take i text) list) (at + i) (get_or text i 0) ≡ put at (take (i + 1) text) list
put_next at i text list h room =
    let b : ℕ = get_or text i 0 in
    let short : length (take i text) ≡ i = length-take-le i text (omega arith) in
    let same : length (put at (take i text) list) ≡ length list = put-length at (take i text) list (omega arith) in
    put_byte (at + i) b (put at (take i text) list) (omega arith)
    ∙ ap (λ (k : ℕ). put (at + k) (b ∷ []) (put at (take i text) list)) (sym short)
    ∙ put-put at (take i text) (b ∷ []) list (omega arith)
    ∙ ap (λ (l : List ℕ). put at l list) (sym (ap (λ (k : ℕ). take k text) (add-one i) ∙ take-suc text i 0 h))
