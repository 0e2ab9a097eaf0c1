-- Refinement round by round and block by block: what is known of the candidates left after some places of a block, and after some blocks of a plane.
use Prim.Native.Nat.{ℕ, suc, ◌+◌, ◌-◌, ◌*◌, ◌/◌, ◌%◌, ◌≤◌, ◌<◌}
use mathlib.Core.Path.{◌≡◌, refl, sym, ap, ◌∙◌}
use mathlib.Core.Bool.{Bool, false}
use mathlib.Core.List.{List}
use native.Mathlib.Nat.{add-zero, add_assoc, add-mod_right, div-add-mod, lt_of_mul-lt-mul_left, mul-le-mul_left, mul-suc, zero-mod}
use native.Mathlib.Numerals.{add-one}
use native.Mathlib.Omega.{arith}
use lib.Dec.{eqb}
use lib.ListN.{length}
use Rattle.action.specs.Permutation.{Generator, Valid}
use Rattle.action.specs.Index.{order_of, add}
use Rattle.action.proofs.Index as Index
use Rattle.action.proofs.Theorems as Theorems
use Rattle.packed.specs.Packed.{bit_of}
use Rattle.grid.specs.Grid.{Grid, further}
use Rattle.grid.specs.Candidates.{Left}
use Rattle.grid.specs.Stages.{patience, Refined}
use Rattle.grid.specs.declared.refine.Stage.{Stage}
use Rattle.grid.specs.declared.refine.Stage.TheVariants.{Alone, Through, Tired}
use Rattle.grid.proofs.Refining.{left-alike, left_alone}
use Rattle.grid.proofs.Numbers.{further-block}

-- from bit t on, candidate k has at place h of a block the bit that the block has h and k on
abbrev pub Shows : List Generator → ℕ → (ℕ → Bool) → (ℕ → ℕ → Bool) → ℕ → Type 0
Shows gs order b F t = (h k : ℕ) → h < order → k < order → F k (t + h) ≡ b (add gs h k)

-- what a round promises: one bit more is read
abbrev pub Rounds : (ℕ → Bool) → (ℕ → Bool) → (ℕ → Bool) → Type 0
Rounds at S T = (o t : ℕ) (F : ℕ → ℕ → Bool) → Left o F t S → ((k : ℕ) → k < o → at k ≡ F k t) → Left o F (suc t) T

-- h places of a block are read: `at` has the candidates' bits at the next
pub record Along (gs : List Generator) (order : ℕ) (at₀ left₀ at left : ℕ → Bool) (h stale : ℕ) : Type 0 where
  pub inside : h ≤ order
  pub few : stale ≤ patience
  pub clear : (k : ℕ) → order ≤ k → at k ≡ false
  pub bits : (k : ℕ) → k < order → at k ≡ at₀ (add gs h k)
  pub left' : (F : ℕ → ℕ → Bool) (t : ℕ) → Left order F t left₀ → Shows gs order at₀ F t → Left order F (t + h) left

module _ {n : ℕ} {gs : List Generator} (valid : Valid n gs) {order : ℕ} (whole : order ≡ order_of gs) {at₀ left₀ : ℕ → Bool} where
  -- nothing is read at first
  pub along-start : ((k : ℕ) → order ≤ k → at₀ k ≡ false) → Along gs order at₀ left₀ at₀ left₀ 0 0
  along-start clear = record {
    inside = omega arith;
    few = omega arith;
    clear = clear;
    bits = λ k h. ap at₀ (sym (Theorems.add-zero valid k (rw (← whole) h)) ∙ Theorems.add_comm valid k 0);
    left' = λ F t l s. rw add-zero l;
  }

module _ {gs : List Generator} {order : ℕ} {at₀ left₀ at left : ℕ → Bool} {h stale : ℕ} (a : Along gs order at₀ left₀ at left h stale) (more : h < order)
    (left'' : ℕ → Bool) (round : Rounds at left left'') where
  -- a round reads the next place
  pub along-round : (F : ℕ → ℕ → Bool) (t : ℕ) → Left order F t left₀ → Shows gs order at₀ F t → Left order F (suc (t + h)) left''
  along-round F t l s = round order (t + h) F (a.left' F t l s) (λ k m. a.bits k m ∙ sym (s h k more m))

  -- where one is left it is left by the whole block
  pub along-alone : (k : ℕ) → ((j : ℕ) → left'' j ≡ eqb j k) → (F : ℕ → ℕ → Bool) (t : ℕ) → Left order F t left₀ → Shows gs order at₀ F t
      → Refined (Alone k) order F (t + order) left''
  along-alone k one F t l s = (left_alone (along-round F t l s) (omega arith) k one, one)

  -- and refining may stop there
  pub along-tired : (F : ℕ → ℕ → Bool) (t : ℕ) → Left order F t left₀ → Shows gs order at₀ F t → Refined Tired order F (t + order) left''
  along-tired F t l s = (suc (t + h), omega arith, along-round F t l s)

  -- or go on to the next place
  pub along-next : (at' : ℕ → Bool) {stale' : ℕ} → stale' ≤ patience → ((k : ℕ) → order ≤ k → at' k ≡ false)
      → ((f : ℕ → Bool) → ((k : ℕ) → k < order → at k ≡ f (add gs h k)) → (k : ℕ) → k < order → at' k ≡ f (add gs (suc h) k))
      → Along gs order at₀ left₀ at' left'' (h + 1) stale'
  along-next at' few clear steps = record {
    inside = omega arith;
    few = few;
    clear = clear;
    bits = λ k m. steps at₀ a.bits k m ∙ ap (λ (i : ℕ). at₀ (add gs i k)) (sym (add-one h));
    left' = λ F t l s. let e : suc (t + h) ≡ t + (h + 1) = omega arith in rw e at (along-round F t l s);
  }

-- after the last place the block is read
pub along_end : {gs : List Generator} {order : ℕ} {at₀ left₀ at left : ℕ → Bool} {h stale : ℕ} → Along gs order at₀ left₀ at left h stale → order ≤ h
    → (F : ℕ → ℕ → Bool) (t : ℕ) → Left order F t left₀ → Shows gs order at₀ F t → Refined Through order F (t + order) left
along_end {order = order} {h = h} a over F t l s = let e : h ≡ order = omega (arith, a.inside) in rw e at (a.left' F t l s)

-- a block whose bits are all alike changes nothing
pub block_alike : {n : ℕ} {gs : List Generator} → Valid n gs → {order : ℕ} → order ≡ order_of gs → (b : ℕ → Bool)
    → ((j k : ℕ) → j < order → k < order → b j ≡ b k)
    → {S : ℕ → Bool} (F : ℕ → ℕ → Bool) (t : ℕ) → Left order F t S → Shows gs order b F t → Refined Through order F (t + order) S
block_alike {gs = gs} valid {order} whole b same F t l s = left-alike l (omega arith) alike
  where
    inside : (h k : ℕ) → add gs h k < order
    inside h k = rw whole (Theorems.add-below valid h k)

    alike : (p : ℕ) → t ≤ p → p < t + order → (j k : ℕ) → j < order → k < order → F j p ≡ F k p
    alike p low high j k jm km =
        let h : ℕ = p - t in
        let e : t + h ≡ p = omega arith in
        rw (← e) (s h j (omega arith) jm ∙ same (add gs h j) (add gs h k) (inside h j) (inside h k) ∙ sym (s h k (omega arith) km))

-- bits that are copied show the same
pub shows_copied : {n : ℕ} {gs : List Generator} → Valid n gs → {order : ℕ} → order ≡ order_of gs → (b c : ℕ → Bool) → ((k : ℕ) → k < order → c k ≡ b k)
    → (F : ℕ → ℕ → Bool) (t : ℕ) → Shows gs order b F t → Shows gs order c F t
shows_copied {gs = gs} valid whole b c same F t s h k hm km = s h k hm km ∙ sym (same (add gs h k) (rw whole (Theorems.add-below valid h k)))

-- ---- block after block

-- from bit t on, candidate k has at site q the bit that the plane has k further on
abbrev pub Reads : List Generator → ℕ → ℕ → (ℕ → Bool) → (ℕ → ℕ → Bool) → ℕ → Type 0
Reads gs n order b F t = (q k : ℕ) → q < n → k < order → F k (t + q) ≡ b (further gs k q)

-- what a block that begins at a site promises
abbrev pub Blocked : List Generator → ℕ → (ℕ → Bool) → ℕ → Stage → (ℕ → Bool) → (ℕ → Bool) → Type 0
Blocked gs order b base r S T = (F : ℕ → ℕ → Bool) (t : ℕ) → Left order F t S → Shows gs order (λ y. b (base + y)) F t → Refined r order F (t + order) T

-- the sites before base are read
pub record Passed (gs : List Generator) (n order : ℕ) (b : ℕ → Bool) (left₀ left : List ℕ) (base : ℕ) : Type 0 where
  pub inside : base ≤ n
  pub blocks : base % order ≡ 0
  pub long : length left ≡ length left₀
  pub left' : (F : ℕ → ℕ → Bool) (t : ℕ) → Left order F t (bit_of left₀) → Reads gs n order b F t → Left order F (t + base) (bit_of left)

-- no site is read at first
pub passed_start : (gs : List Generator) (n order : ℕ) (b : ℕ → Bool) (left₀ : List ℕ) → Passed gs n order b left₀ left₀ 0
passed_start gs n order b left₀ = record { inside = omega arith; blocks = zero-mod order; long = refl; left' = λ F t l s. rw add-zero l }

-- there is an index
pub order_some : {n : ℕ} {gs : List Generator} → Valid n gs → {order : ℕ} → order ≡ order_of gs → 0 < order
order_some {gs = gs} valid whole = rw whole (Index.order_of_positive gs (Index.valid_positive valid))

module _ {n : ℕ} {gs : List Generator} (valid : Valid n gs) (grid : Grid n gs) {order : ℕ} (whole : order ≡ order_of gs) {b : ℕ → Bool} {left₀ left : List ℕ} {base : ℕ}
    (a : Passed gs n order b left₀ left base) (more : base < n) where
  -- the block that begins there ends within the sites
  pub block_within : base + order ≤ n
  block_within =
      let sites : n % order ≡ 0 = rw whole grid.whole in
      let low : order * (base / order) ≡ base = omega (arith, div-add-mod base order, a.blocks) in
      let high : order * (n / order) ≡ n = omega (arith, div-add-mod n order, sites) in
      let less : base / order < n / order = lt_of_mul-lt-mul_left order (rw (low, high) more) in
      let up : order * suc (base / order) ≤ order * (n / order) = mul-le-mul_left order less in
      omega (arith, up, low, high, mul-suc order (base / order))

  -- from there on the candidates' bits are the block's
  block-shows : (F : ℕ → ℕ → Bool) (t : ℕ) → Reads gs n order b F t → Shows gs order (λ y. b (base + y)) F (t + base)
  block-shows F t s h k hm km =
      ap (F k) (add_assoc t base h)
      ∙ s (base + h) k (omega (arith, block_within)) km
      ∙ ap b (further-block valid grid k base h (rw (← whole) a.blocks) (rw (← whole) hm))

  -- what is left after it, where one is left
  pub passed-alone : (left'' : List ℕ) (k : ℕ) → Blocked gs order b base (Alone k) (bit_of left) (bit_of left'')
      → (F : ℕ → ℕ → Bool) (t : ℕ) → Left order F t (bit_of left₀) → Reads gs n order b F t → Refined (Alone k) order F (t + n) (bit_of left'')
  passed-alone left'' k block F t l s =
      let (m, one) = block F (t + base) (a.left' F t l s) (block-shows F t s) in
      (left_alone m (omega (arith, block_within)) k one, one)

  -- where refining stops
  pub passed-tired : (left'' : List ℕ) → Blocked gs order b base Tired (bit_of left) (bit_of left'')
      → (F : ℕ → ℕ → Bool) (t : ℕ) → Left order F t (bit_of left₀) → Reads gs n order b F t → Refined Tired order F (t + n) (bit_of left'')
  passed-tired left'' block F t l s =
      let (u, low, m) = block F (t + base) (a.left' F t l s) (block-shows F t s) in
      (u, omega (arith, block_within), m)

  -- or goes on to the next block
  pub passed-next : (left'' : List ℕ) → length left'' ≡ length left → Blocked gs order b base Through (bit_of left) (bit_of left'')
      → Passed gs n order b left₀ left'' (base + order)
  passed-next left'' e block = record {
    inside = block_within;
    blocks = add-mod_right base order ∙ a.blocks;
    long = e ∙ a.long;
    left' = λ F t l s. rw add_assoc at (block F (t + base) (a.left' F t l s) (block-shows F t s));
  }

-- after the last block the plane is read
pub passed_end : {gs : List Generator} {n order : ℕ} {b : ℕ → Bool} {left₀ left : List ℕ} {base : ℕ} → Passed gs n order b left₀ left base → n ≤ base
    → (F : ℕ → ℕ → Bool) (t : ℕ) → Left order F t (bit_of left₀) → Reads gs n order b F t → Refined Through order F (t + n) (bit_of left)
passed_end {n = n} {base = base} a over F t l s = let e : base ≡ n = omega (arith, a.inside) in rw e at (a.left' F t l s)
