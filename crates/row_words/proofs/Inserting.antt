-- A member put into a list by moving up those behind its place, from the last one on.
use Prim.Native.Nat.{ℕ, zero, suc, ◌+◌, ◌-◌, ◌≤◌, ◌<◌}
use mathlib.Core.Path.{◌≡◌, refl, sym, ap, ap₂, subst, ◌∙◌}
use mathlib.Core.List.{List, ◌∷◌, ◌++◌}
use native.Mathlib.Nat.{sub_self, not-suc-le-zero}
use native.Mathlib.Omega.{arith}
use lib.ListN.{length, get_or, set, take, drop, length-set}
use lib.Seq.{length-take-le, drop-cons, get_or-set_same, take-set-le, drop-set-lt, get_or-take, take-take, take-add, drop_at}
use Rattle.keyed.specs.Keyed.{insert_at}

-- the first i members of xs are as they were, and those from i on, up to place `used`, stand one place further up
pub record Shifted {A : Type 0} (old xs : List A) (used i : ℕ) : Type 0 where
  pub long : length xs ≡ length old
  pub front : take i xs ≡ take i old
  pub behind : take (used - i) (drop (suc i) xs) ≡ take (used - i) (drop i old)

module _ {A : Type 0} (d : A) (old : List A) (used : ℕ) (room : used < length old) where
  pub shift-start : Shifted old old used used
  shift-start = record {
    long = refl;
    front = refl;
    behind = ap₂ take (sub_self used) refl ∙ sym (ap₂ take (sub_self used) refl);
  }

  same-before : (xs : List A) (i j : ℕ) → j < i → take i xs ≡ take i old → get_or xs j d ≡ get_or old j d
  same-before xs i j h e = sym (get_or-take i xs j d h) ∙ ap (λ (l : List A). get_or l j d) e ∙ get_or-take i old j d h

  below-front : (xs : List A) (j : ℕ) → take (suc j) xs ≡ take (suc j) old → take j xs ≡ take j old
  below-front xs j e =
      let le : j ≤ suc j = omega arith in
      sym (take-take j (suc j) xs le) ∙ ap (take j) e ∙ take-take j (suc j) old le

  shift_one : (xs : List A) (j : ℕ) → suc j ≤ used → Shifted old xs used (suc j) → Shifted old (set xs (suc j) (get_or xs j d)) used j
  shift_one xs j h s =
      let in-xs : suc j < length (set xs (suc j) (get_or xs j d)) = omega (arith, length-set xs (suc j) (get_or xs j d), s.long) in
      let more : used - j ≡ suc (used - suc j) = omega arith in
      record {
        long = length-set xs (suc j) (get_or xs j d) ∙ s.long;
        front = take-set-le j xs (suc j) (get_or xs j d) (omega arith) ∙ below-front xs j s.front;
        behind =
            ap₂ take more (drop-cons (set xs (suc j) (get_or xs j d)) (suc j) d in-xs)
            ∙ ap₂ (λ (a : A) (l : List A). a ∷ take (used - suc j) l)
            (get_or-set_same xs (suc j) (get_or xs j d) d (omega (arith, s.long)) ∙ same-before xs (suc j) j (omega arith) s.front)
            (drop-set-lt (suc (suc j)) xs (suc j) (get_or xs j d) (omega arith))
            ∙ ap (λ (l : List A). get_or old j d ∷ l) s.behind
            ∙ sym (ap₂ take more (drop-cons old j d (omega arith)));
      }

  -- one member moved up
  pub shift-next : (xs : List A) (i : ℕ) → 0 < i → i ≤ used → Shifted old xs used i → Shifted old (set xs i (get_or xs (i - 1) d)) used (i - 1)
  shift-next xs zero h k s = absurd (not-suc-le-zero h)
  shift-next xs (suc j) h k s =
      let e : j ≡ suc j - 1 = omega arith in
      subst (λ (m : ℕ). Shifted old (set xs (suc j) (get_or xs m d)) used m) e (shift_one xs j k s)

  -- the member put in at the place that is free then
  pub shift-end : (xs : List A) (k : ℕ) (a : A) → k ≤ used → Shifted old xs used k → take (used + 1) (set xs k a) ≡ insert_at k a (take used old)
  shift-end xs k a h s =
      let parts : used ≡ k + (used - k) = omega arith in
      let one : used + 1 ≡ k + suc (used - k) = omega arith in
      let in-xs : k < length (set xs k a) = omega (arith, length-set xs k a, s.long) in
      let rest : drop k (take used old) ≡ take (used - k) (drop k old) =
      ap (λ (m : ℕ). drop k (take m old)) parts
      ∙ ap (drop k) (take-add k (used - k) old)
      ∙ drop_at (take k old) (take (used - k) (drop k old)) k (length-take-le k old (omega arith)) in
      ap (λ (m : ℕ). take m (set xs k a)) one
      ∙ take-add k (suc (used - k)) (set xs k a)
      ∙ ap₂ ◌++◌
      (take-set-le k xs k a (omega arith) ∙ s.front ∙ sym (take-take k used old h))
      (ap (take (suc (used - k))) (drop-cons (set xs k a) k d in-xs)
      ∙ ap₂ (λ (x : A) (l : List A). x ∷ take (used - k) l) (get_or-set_same xs k a d (omega (arith, s.long))) (drop-set-lt (suc k) xs k a (omega arith))
      ∙ ap (λ (l : List A). a ∷ l) (s.behind ∙ sym rest))
