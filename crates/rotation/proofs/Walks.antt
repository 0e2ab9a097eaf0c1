-- The walk over an orbit by words in planes: the turn as the generator's permutation, and the best word so far with its place and its count, entry by
-- entry.
use Rattle.std.specs.declared.cmp.Ordering.{Ordering}
use Rattle.std.specs.declared.cmp.Ordering.TheVariants.{Less, Equal, Greater}
use Prim.Native.Nat.{ℕ, ◌+◌, ◌-◌, ◌/◌, ◌%◌, ◌<◌}
use mathlib.Core.Path.{◌≡◌, refl, sym, ap, ap₂, ◌∙◌}
use mathlib.Core.Bool.{false}
use mathlib.Core.List.{List}
use native.Mathlib.Numerals.{add-one}
use native.Mathlib.Omega.{arith}
use lib.ListN.{length, get_or, drop}
use Rattle.pauli_word.specs.Word.{Word, less}
use Rattle.pauli_word.specs.Calls.{order_of_words}
use Rattle.action.specs.Lists.{from, below}
use Rattle.action.specs.Permutation.{Generator, Valid}
use Rattle.action.specs.Index.{digits}
use Rattle.action.specs.Orbit.{move, reach, stepped, least_of, first_at}
use Rattle.action.proofs.Reach.{reach-zero, reach_step}
use Rattle.permutation.specs.Generators.{row_at}
use Rattle.elements.specs.HeldGroup.{generators_in, Tables}
use Rattle.elements.proofs.Orbits.{entries}
use Rattle.elements.proofs.Steps.{stepped-stays, stepped-rolls}
use Rattle.elements.proofs.LeastSoFar.{least_so_far, lead-taken, lead-kept, place-taken, place_kept, place-start, order_less, order_not-less}
use Rattle.packed.specs.Packed.{letters_at}
use Rattle.rotation.specs.Rotation.{rotation, Shapes, Planes, led, tied}
use Rattle.rotation.proofs.Ties.{ties, ties-start, ties-less, ties-same, ties-greater}

-- ---- the step, generator by generator

module _ {k n : ℕ} {targets orders strides rests : List ℕ} (t : Tables k n targets orders) (s : Shapes k n targets strides rests) (g rest : ℕ) (h : g < k)
    (w : Word) {v : Word} (e : v ≡ move (rotation n (get_or strides g 0) (get_or strides g 0 + get_or rests g 0)) w) where
  -- a word turned by generator g's shape is moved by it
  pub turned : v ≡ move (row_at n targets g) w
  turned = e ∙ ap (λ (p : List ℕ). move p w) (sym (s.each g h).turns)

  -- where the digit does not roll over that is what is left of the step
  pub turned-last : (rest % get_or orders g 0 + 1 ≡ get_or orders g 0 → ⊥)
      → v ≡ stepped (drop g (generators_in k n targets orders)) (digits (drop g (generators_in k n targets orders)) rest) w
  turned-last d = turned ∙ sym (stepped-stays t g rest w h d)

  -- where it does the generators after it are left
  pub turned_on : rest % get_or orders g 0 + 1 ≡ get_or orders g 0
      → stepped (drop g (generators_in k n targets orders)) (digits (drop g (generators_in k n targets orders)) rest) w
      ≡ stepped (drop (g + 1) (generators_in k n targets orders)) (digits (drop (g + 1) (generators_in k n targets orders)) (rest / get_or orders g 0)) v
  turned_on d =
      stepped-rolls t g rest w h d
      ∙ ap (stepped (drop (g + 1) (generators_in k n targets orders)) (digits (drop (g + 1) (generators_in k n targets orders)) (rest / get_or orders g 0)))
      (sym turned)

-- ---- the best word so far

-- the letters of the planes that lead are the letters that lead
led-letters : (n : ℕ) (o : Ordering) (x z xs zs : List ℕ) → letters_at n (led o x xs) (led o z zs) ≡ led o (letters_at n x z) (letters_at n xs zs)
led-letters n Less x z xs zs = refl
led-letters n Equal x z xs zs = refl
led-letters n Greater x z xs zs = refl

led_planes : {n m : ℕ} (o : Ordering) {x z xs zs : List ℕ} → Planes n m x z → Planes n m xs zs → Planes n m (led o x xs) (led o z zs)
led_planes Less p q = p
led_planes Equal p q = q
led_planes Greater p q = q

module _ (gs : List Generator) (w : Word) (i : ℕ) where
  not-less : {o : Ordering} → order_of_words (reach gs i w) (least_so_far gs w i) ≡ o → (o ≡ Less → ⊥) → less (reach gs i w) (least_so_far gs w i) ≡ false
  not-less e other = order_not-less (reach gs i w) (least_so_far gs w i) (λ l. other (sym e ∙ l))

  -- the least so far after the next entry
  pub lead-word : (o : Ordering) → order_of_words (reach gs i w) (least_so_far gs w i) ≡ o → led o (reach gs i w) (least_so_far gs w i) ≡ least_so_far gs w (i + 1)
  lead-word Less e = sym (lead-taken gs w i (order_less (reach gs i w) (least_so_far gs w i) e))
  lead-word Equal e = sym (lead-kept gs w i (not-less e (λ l. let z : ◌≡◌ {A = ℕ} 0 1 = cc in omega arith)))
  lead-word Greater e = sym (lead-kept gs w i (not-less e (λ l. let z : ◌≡◌ {A = ℕ} 0 1 = cc in omega arith)))

  -- its first place
  pub lead-index : (o : Ordering) → order_of_words (reach gs i w) (least_so_far gs w i) ≡ o
      → led o i (first_at (least_so_far gs w i) (entries gs w i)) ≡ first_at (least_so_far gs w (i + 1)) (entries gs w (i + 1))
  lead-index Less e = sym (place-taken gs w i (order_less (reach gs i w) (least_so_far gs w i) e))
  lead-index Equal e = sym (place_kept gs w i (not-less e (λ l. let z : ◌≡◌ {A = ℕ} 0 1 = cc in omega arith)))
  lead-index Greater e = sym (place_kept gs w i (not-less e (λ l. let z : ◌≡◌ {A = ℕ} 0 1 = cc in omega arith)))

  -- how many indices reach it
  pub lead-ties : (o : Ordering) → order_of_words (reach gs i w) (least_so_far gs w i) ≡ o → tied o (ties gs w i) ≡ ties gs w (i + 1)
  lead-ties Less e = sym (ties-less gs w i e)
  lead-ties Equal e = sym (ties-same gs w i e)
  lead-ties Greater e = sym (ties-greater gs w i e)

-- ---- the walk, entry by entry

-- the word at hand is what index i reaches from w, and the best so far, with its first place and its count, is the least of the entries before
pub record Walked (n m : ℕ) (gs : List Generator) (w : Word) (x z xs zs : List ℕ) (index count i : ℕ) : Type 0 where
  pub here : Planes n m x z
  pub best : Planes n m xs zs
  pub reached : letters_at n x z ≡ reach gs i w
  pub leads : letters_at n xs zs ≡ least_so_far gs w i
  pub first : index ≡ first_at (least_so_far gs w i) (entries gs w i)
  pub counted : count ≡ ties gs w i

-- the walk starts at the word, which is the best so far
pub walked_start : {n m : ℕ} (gs : List Generator) {x z : List ℕ} → Planes n m x z → Walked n m gs (letters_at n x z) x z x z 0 0 0
unfolding below from least_of
walked_start {n} gs {x} {z} p = record {
  here = p;
  best = p;
  reached = sym (reach-zero gs (letters_at n x z));
  leads = refl;
  first = place-start gs (letters_at n x z);
  counted = ties-start gs (letters_at n x z);
}

-- one entry more: it is taken, counted or left, and the word at hand goes on to the next
pub walked_next : {n m : ℕ} {gs : List Generator} (v : Valid n gs) {w : Word} → length w ≡ n → {x z xs zs : List ℕ} {index count i : ℕ}
    → Walked n m gs w x z xs zs index count i
    → {x' z' xs' zs' : List ℕ} {index' count' : ℕ}
    → Planes n m x' z'
    → letters_at n x' z' ≡ stepped gs (digits gs i) (letters_at n x z)
    → xs' ≡ led (order_of_words (letters_at n x z) (letters_at n xs zs)) x xs
    → zs' ≡ led (order_of_words (letters_at n x z) (letters_at n xs zs)) z zs
    → index' ≡ led (order_of_words (letters_at n x z) (letters_at n xs zs)) i index
    → count' ≡ tied (order_of_words (letters_at n x z) (letters_at n xs zs)) count
    → Walked n m gs w x' z' xs' zs' index' count' (i + 1)
walked_next {n} {m} {gs} v {w} long {x} {z} {xs} {zs} {index} {count} {i} a p step ex ez ei ec =
    let o : Ordering = order_of_words (letters_at n x z) (letters_at n xs zs) in
    let e : order_of_words (reach gs i w) (least_so_far gs w i) ≡ o = sym (ap₂ order_of_words a.reached a.leads) in
    record {
      here = p;
      best = rw (ex, ez) (led_planes o a.here a.best);
      reached =
          step ∙ ap (stepped gs (digits gs i)) a.reached ∙ sym (reach_step v i w long) ∙ ap (λ (j : ℕ). reach gs j w) (sym (add-one i));
      leads = ap₂ (letters_at n) ex ez ∙ led-letters n o x z xs zs ∙ ap₂ (led o) a.reached a.leads ∙ lead-word gs w i o e;
      first = ei ∙ ap (led o i) a.first ∙ lead-index gs w i o e;
      counted = ec ∙ ap (tied o) a.counted ∙ lead-ties gs w i o e;
    }
