-- Equal lengths struck out: the marked lengths read off rising, from the shortest to the longest.
-- What carries it: the marked lengths are those read already and then those from this one on.
use Prim.Native.Nat.{ℕ, suc, ◌+◌, ◌-◌, ◌≤◌, ◌<◌}
use mathlib.Core.Path.{◌≡◌, refl, sym, ap, ◌∙◌}
use mathlib.Core.Bool.{Bool, cond}
use mathlib.Core.List.{List, [], ◌∷◌, ◌++◌, append-nil}
use native.Mathlib.Numerals.{add-one}
use native.Mathlib.Omega.{arith}
use lib.Dec.{eqb}
use lib.ListN.{length, get_or, take, set, length-append, length-set}
use lib.Seq.{length-take-le, take-suc-set, append_snoc}
use borrow.Author.Tests.{eq-eqb, ne_eqb, eqb-true}
use Rattle.action.specs.Lists.{from, select, Member}
use Rattle.action.specs.Permutation.{cycle_length}
use Rattle.action.proofs.Lists.{member_from, of_member_from, member-select, of-member-select}
use Rattle.action.proofs.Below.{map-below-at}
use Rattle.permutation.specs.Generators.{among}
use Rattle.permutation.specs.Lengths.{cycle_lengths, length_marks, marked_within}
use Rattle.permutation.proofs.Faults.{mark_told}
use Rattle.permutation.proofs.Lengths.{length-among, among-length}

-- ---- the lengths from this one on

module _ (marks : List ℕ) (l b : ℕ) where
  within_none : b < l → marked_within l b marks ≡ []
  unfolding marked_within select from
  within_none h = let e : suc b - l ≡ 0 = omega arith in rw e

  within-split :
      l ≤ b → marked_within l b marks ≡ cond (eqb (get_or marks (l - 1) 0) 1) (l ∷ marked_within (suc l) b marks) (marked_within (suc l) b marks)
  unfolding marked_within select from
  within-split h = let e : suc b - l ≡ suc (suc b - suc l) = omega arith in rw e refl

  within-marked : l ≤ b → get_or marks (l - 1) 0 ≡ 1 → marked_within l b marks ≡ l ∷ marked_within (suc l) b marks
  within-marked h e = within-split h ∙ simp (eq-eqb (get_or marks (l - 1) 0) 1 e)

  within-past : l ≤ b → (get_or marks (l - 1) 0 ≡ 1 → ⊥) → marked_within l b marks ≡ marked_within (suc l) b marks
  within-past h d = within-split h ∙ simp (ne_eqb (get_or marks (l - 1) 0) 1 d)

-- ---- the loop

-- what holds when the lengths before l are read: the marked ones stand in the first places of left
pub record Struck (a b : ℕ) (marks left : List ℕ) (count l : ℕ) : Type 0 where
  pub room : count ≤ length left
  pub whole : marked_within a b marks ≡ take count left ++ marked_within l b marks

pub struck_none : (a b : ℕ) (marks left : List ℕ) → Struck a b marks left 0 a
struck_none a b marks left = record { room = omega arith; whole = refl }

module _ {a b : ℕ} {marks left : List ℕ} {count l : ℕ} (s : Struck a b marks left count l) where
  pub struck-past : l ≤ b → (get_or marks (l - 1) 0 ≡ 1 → ⊥) → Struck a b marks left count (l + 1)
  struck-past h d =
      record {
        room = s.room;
        whole = s.whole ∙ ap (λ (r : List ℕ). take count left ++ r) (within-past marks l b h d) ∙ rw (add-one l) refl;
      }

  module _ (h : l ≤ b) (e : get_or marks (l - 1) 0 ≡ 1) (fits : length (marked_within a b marks) ≤ length left) where
    -- a marked length more, so there is room for it
    pub struck-room : count < length left
    struck-room =
        let cut : marked_within a b marks ≡ take count left ++ l ∷ marked_within (suc l) b marks =
        s.whole ∙ ap (λ (r : List ℕ). take count left ++ r) (within-marked marks l b h e)
        in
        omega (arith, ap length cut, length-append (take count left) (l ∷ marked_within (suc l) b marks), length-take-le count left s.room, s.room)

    pub struck-next : Struck a b marks (set left count l) (count + 1) (l + 1)
    struck-next =
        record {
          room = omega (arith, struck-room, length-set left count l);
          whole =
              s.whole
              ∙ ap (λ (r : List ℕ). take count left ++ r) (within-marked marks l b h e)
              ∙ sym (append_snoc (take count left) l (marked_within (suc l) b marks))
              ∙ ap (λ (r : List ℕ). r ++ marked_within (suc l) b marks) (sym (take-suc-set left count l struck-room))
              ∙ rw (add-one count, add-one l) refl;
        }

  pub struck-all : b < l → (count ≡ length (marked_within a b marks)) × (take count left ≡ marked_within a b marks)
  struck-all h =
      let same : marked_within a b marks ≡ take count left =
      s.whole ∙ ap (λ (r : List ℕ). take count left ++ r) (within_none marks l b h) ∙ append-nil (take count left)
      in
      (sym (ap length same ∙ length-take-le count left s.room), sym same)

-- ---- the marks of all cycle lengths

mark_at : (perm : List ℕ) (k l : ℕ) → 0 < l → l ≤ k → get_or (length_marks k perm) (l - 1) 0 ≡ cond (among l (cycle_lengths perm)) 1 0
unfolding length_marks
mark_at perm k l positive h =
    map-below-at (λ i. cond (among (suc i) (cycle_lengths perm)) 1 0) k (l - 1) 0 (omega arith)
    ∙ (let e : suc (l - 1) ≡ l = omega arith in ap (λ (x : ℕ). cond (among x (cycle_lengths perm)) 1 0) e)

module _ (perm : List ℕ) (k a b : ℕ) (positive : 0 < a) (fits : b ≤ k) where
  pub marked-some : (l : ℕ) → Member l (marked_within a b (length_marks k perm)) → (q : ℕ) × (q < length perm) × (cycle_length perm q ≡ l)
  unfolding marked_within
  marked-some l m =
      let (there, one) = of-member-select (λ i. eqb (get_or (length_marks k perm) (i - 1) 0) 1) (from a (suc b - a)) l m in
      let (low, high) = of_member_from (suc b - a) a l there in
      let found = (mark_told (get_or (length_marks k perm) (l - 1) 0) (among l (cycle_lengths perm)) (mark_at perm k l (omega arith) (omega arith))).0 in
      among-length perm l (found (eqb-true (get_or (length_marks k perm) (l - 1) 0) 1 one))

  pub marked_all :
      (q : ℕ) → q < length perm → (a ≤ cycle_length perm q) × (cycle_length perm q ≤ b)
      → Member (cycle_length perm q) (marked_within a b (length_marks k perm))
  unfolding marked_within
  marked_all q h (low, high) =
      let l : ℕ = cycle_length perm q in
      let one : get_or (length_marks k perm) (l - 1) 0 ≡ 1 =
      mark_at perm k l (omega arith) (omega arith) ∙ ap (λ (t : Bool). cond t 1 0) (length-among perm q h)
      in
      member-select (λ i. eqb (get_or (length_marks k perm) (i - 1) 0) 1) (from a (suc b - a)) l (member_from (suc b - a) a l low (omega arith))
      (eq-eqb (get_or (length_marks k perm) (l - 1) 0) 1 one)
