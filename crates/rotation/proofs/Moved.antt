-- Words in planes of machine words: moved by a rotation plane by plane, compared plane by plane, and the masks of one generator after the other.
use Rattle.std.specs.declared.cmp.Ordering.{Ordering}
use Rattle.std.specs.declared.cmp.Ordering.TheVariants.{Less, Equal, Greater}
use Prim.Native.Nat.{ℕ, ◌+◌, ◌-◌, ◌*◌, ◌≤◌, ◌<◌}
use mathlib.Core.Path.{◌≡◌, sym, ap, ◌∙◌}
use mathlib.Core.Logic.{◌⊎◌, inl, inr, ⊎_elim}
use mathlib.Core.Bool.{Bool, false, false≢true}
use mathlib.Core.List.{List, map, ◌++◌}
use native.Mathlib.Nat.{add-sub_cancel_left, mul-le-mul_left}
use native.Mathlib.Omega.{arith}
use lib.ListN.{length, get_or, take, drop, length-drop, take-append-drop}
use lib.Seq.{take_at, drop_at, length-take-le, take-append-le, drop-append-le}
use borrow.Author.Count.{below_more}
use borrow.Rule.Slice.PartMut.{same_len_mid}
use Rattle.pauli_word.specs.Calls.{order_of_words, order_of_bits}
use Rattle.pauli_word.proofs.WordOrder.{or_else_by}
use Rattle.permutation.specs.Limits.{max_generators}
use Rattle.action.specs.Lists.{below}
use Rattle.action.specs.Orbit.{move}
use Rattle.elements.proofs.Orbits.{part_length}
use Rattle.packed.specs.Packed.{word_bits, bit_of, Clear, letters_at, LessAt, Compared, rotated, keep_at, Mask}
use Rattle.packed.proofs.Packing.{bit_of_past}
use Rattle.packed.proofs.Comparing.{order_listed, order_letters}
use Rattle.rotation.specs.Rotation.{rotation, Blocks, Planes, Masks, part}
use Rattle.rotation.proofs.Rotations.{letters-rotation}
use Rattle.rotation.proofs.Shaping.{below-or-from}

-- ---- a word moved

-- a plane of no machine words has no bit
pub nothing_bit : (zs : List ℕ) → length zs ≡ 0 → (q : ℕ) → bit_of zs q ≡ false
nothing_bit zs e q = bit_of_past zs q (omega (arith, ap (λ (l : ℕ). word_bits * l) e))

-- a Z plane that is there is as long as the X plane
pub z_long_lem : {n m : ℕ} {xs zs : List ℕ} → Planes n m xs zs → 0 < length zs → length zs ≡ m
z_long_lem p some = ⊎_elim (λ e. e) (λ e. absurd (omega arith)) p.z_long

module _ {n s b m : ℕ} (bl : Blocks n s b) {xs zs : List ℕ} (p : Planes n m xs zs) (xs' zs' : List ℕ)
    (same_x : length xs' ≡ length xs) (same_z : length zs' ≡ length zs) where
  -- planes that were turned are planes of as many machine words
  pub turned-planes : Clear n xs' → Clear n zs' → Planes n m xs' zs'
  turned-planes cx cz = record { few = p.few; room = p.room; x_long = same_x ∙ p.x_long; z_long = rw same_z p.z_long; x_clear = cx; z_clear = cz }

  -- and hold the word moved by the rotation
  pub turned-letters : ((q : ℕ) → q < n → bit_of xs' (rotated s b q) ≡ bit_of xs q) → ((q : ℕ) → q < n → bit_of zs' (rotated s b q) ≡ bit_of zs q)
      → letters_at n xs' zs' ≡ move (rotation n s b) (letters_at n xs zs)
  turned-letters hx hz =
      letters-rotation n b (omega (arith, bl.inside)) bl.whole s (bit_of xs) (bit_of zs) (bit_of xs') (bit_of zs') hx hz

-- ---- two words compared

-- bits that both planes lack decide nothing
clear-less : (n k : ℕ) (f g : ℕ → Bool) → ((q : ℕ) → n ≤ q → g q ≡ false) → LessAt k f g → LessAt n f g
clear-less n k f g cg (q, h, same, ff, gt) =
    (q, ⊎_elim (λ l. l) (λ l. absurd (false≢true (sym (cg q l) ∙ gt))) (below-or-from q n), same, ff, gt)

clear-compared : (o : Ordering) (n k : ℕ) (f g : ℕ → Bool) → n ≤ k → ((q : ℕ) → n ≤ q → f q ≡ false) → ((q : ℕ) → n ≤ q → g q ≡ false)
    → Compared o k f g → Compared o n f g
clear-compared Less n k f g h cf cg c = clear-less n k f g cg c
clear-compared Equal n k f g h cf cg c = λ q l. c q (omega arith)
clear-compared Greater n k f g h cf cg c = clear-less n k g f cf c

-- the planes of two words, compared one after the other
module _ {n m : ℕ} {xs zs ys us : List ℕ} (p : Planes n m xs zs) (r : Planes n m ys us) (same_z : length zs ≡ length us) where
  x-order : (o : Ordering) → Compared o (word_bits * length xs) (bit_of xs) (bit_of ys) → order_of_bits (map (bit_of xs) (below n)) (map (bit_of ys) (below n)) ≡ o
  x-order o c =
      order_listed o n (bit_of xs) (bit_of ys)
      (clear-compared o n (word_bits * length xs) (bit_of xs) (bit_of ys) (rw p.x_long p.room) p.x_clear r.x_clear c)

  -- without Z planes there is nothing to compare
  nothing-compared : (o : Ordering) → length zs ≡ 0 → Compared o (word_bits * length zs) (bit_of zs) (bit_of us) → Compared o n (bit_of zs) (bit_of us)
  nothing-compared Less e (q, h, alike, off, on) = absurd (omega (arith, ap (λ (l : ℕ). word_bits * l) e))
  nothing-compared Equal e c = λ q h. nothing_bit zs e q ∙ sym (nothing_bit us (sym same_z ∙ e) q)
  nothing-compared Greater e (q, h, alike, off, on) = absurd (omega (arith, ap (λ (l : ℕ). word_bits * l) e))

  z-order : (o : Ordering) → Compared o (word_bits * length zs) (bit_of zs) (bit_of us) → order_of_bits (map (bit_of zs) (below n)) (map (bit_of us) (below n)) ≡ o
  z-order o c = order_listed o n (bit_of zs) (bit_of us) (go p.z_long)
    where
      go : (length zs ≡ m) ⊎ (length zs ≡ 0) → Compared o n (bit_of zs) (bit_of us)
      go (inl e) = clear-compared o n (word_bits * length zs) (bit_of zs) (bit_of us) (rw e p.room) p.z_clear r.z_clear c
      go (inr e) = nothing-compared o e c

  -- the X planes decide where they differ, else the Z planes
  pub order-by-x : (o : Ordering) → Compared o (word_bits * length xs) (bit_of xs) (bit_of ys)
      → order_of_words (letters_at n xs zs) (letters_at n ys us) ≡ or_else_by o (order_of_bits (map (bit_of zs) (below n)) (map (bit_of us) (below n)))
  order-by-x o c =
      order_letters n (bit_of xs) (bit_of zs) (bit_of ys) (bit_of us)
      ∙ ap (λ (t : Ordering). or_else_by t (order_of_bits (map (bit_of zs) (below n)) (map (bit_of us) (below n)))) (x-order o c)

  -- where the X planes are the same, the Z planes decide
  pub order-by-z : (o : Ordering) → Compared Equal (word_bits * length xs) (bit_of xs) (bit_of ys) → Compared o (word_bits * length zs) (bit_of zs) (bit_of us)
      → order_of_words (letters_at n xs zs) (letters_at n ys us) ≡ o
  order-by-z o c d = order-by-x Equal c ∙ z-order o d

-- ---- masks, one generator after the other

-- a part that lies in front of a seam
part-front : (m h : ℕ) (front rest : List ℕ) → m * h + m ≤ length front → part m h (front ++ rest) ≡ part m h front
part-front m h front rest inside =
    ap (take m) (drop-append-le (m * h) front rest (omega arith))
    ∙ take-append-le m (drop (m * h) front) rest (omega (arith, length-drop (m * h) front))

-- part g of a list as it is lent, from its start to its end
abbrev pub lent : ℕ → ℕ → List ℕ → List ℕ
lent m g ws = take (m * g + m - m * g) (drop (m * g) ws)

-- what is lent is the part
pub lent-part : (m g : ℕ) (ws : List ℕ) → lent m g ws ≡ part m g ws
lent-part m g ws = ap (λ (j : ℕ). take j (drop (m * g) ws)) (add-sub_cancel_left (m * g) m)

-- a generator's part is inside the places of all
pub part-inside : (m g : ℕ) → g < max_generators → m * g + m ≤ max_generators * m
part-inside m g h = omega (arith, mul-le-mul_left m h)

-- part g of a list whose part g was replaced, and the parts before it
module _ (m g : ℕ) (ws new : List ℕ) (long : length new ≡ m) (room : m * g + m ≤ length ws) where
  -- the list with the new part
  abbrev pub replaced : List ℕ
  replaced = take (m * g) ws ++ (new ++ drop (m * g + m - m * g) (drop (m * g) ws))

  front : length (take (m * g) ws) ≡ m * g
  front = length-take-le (m * g) ws (omega arith)

  -- part g is the new one
  pub part-own : part m g replaced ≡ new
  part-own =
      ap (take m) (drop_at (take (m * g) ws) (new ++ drop (m * g + m - m * g) (drop (m * g) ws)) (m * g) front)
      ∙ take_at new (drop (m * g + m - m * g) (drop (m * g) ws)) m long

  -- the parts before it stay
  pub part-before : (h : ℕ) → h < g → part m h replaced ≡ part m h ws
  part-before h l =
      let more : m * (h + 1) ≤ m * g = mul-le-mul_left m (omega arith) in
      let inside : m * h + m ≤ length (take (m * g) ws) = omega (arith, front, more) in
      part-front m h (take (m * g) ws) (new ++ drop (m * g + m - m * g) (drop (m * g) ws)) inside
      ∙ sym (part-front m h (take (m * g) ws) (drop (m * g) ws) inside)
      ∙ ap (part m h) (take-append-drop (m * g) ws)

  -- so does the length
  pub replaced-length : length replaced ≡ length ws
  replaced-length = same_len_mid (m * g) (m * g + m - m * g) ws new (long ∙ sym (part_length m g ws room))

-- the masks before g
abbrev pub MasksTo : ℕ → ℕ → List ℕ → List ℕ → List ℕ → ℕ → Type 0
MasksTo n m strides rests masks g = (h : ℕ) → h < g → Mask (keep_at (get_or strides h 0) (get_or strides h 0 + get_or rests h 0) n) (part m h masks)

-- the mask of generator g put behind those before it
pub masks_next : (n m g : ℕ) (strides rests masks new : List ℕ) → length new ≡ m → m * g + m ≤ length masks → MasksTo n m strides rests masks g
    → Mask (keep_at (get_or strides g 0) (get_or strides g 0 + get_or rests g 0) n) new
    → MasksTo n m strides rests (take (m * g) masks ++ (new ++ drop (m * g + m - m * g) (drop (m * g) masks))) (g + 1)
masks_next n m g strides rests masks new long room before own =
    below_more (λ h. Mask (keep_at (get_or strides h 0) (get_or strides h 0 + get_or rests h 0) n) (part m h (replaced m g masks new long room))) g
    (λ h l. rw (part-before m g masks new long room h l) (before h l))
    (rw (part-own m g masks new long room) own)

-- the masks of all generators: the part that generator g is lent
module _ {k n m : ℕ} {strides rests masks : List ℕ} (few : k ≤ max_generators) (ms : Masks k n m strides rests masks) (g : ℕ) (h : g < k) where
  -- there is room for a generator's part
  pub lent-inside : m * g + m ≤ length masks
  lent-inside = omega (arith, part-inside m g (omega arith), ms.room)

  -- it is m long
  pub lent_length : length (lent m g masks) ≡ m
  lent_length = part_length m g masks lent-inside

  -- it is the mask of the sites that keep their bits in their block
  pub lent-keep : Mask (keep_at (get_or strides g 0) (get_or strides g 0 + get_or rests g 0) n) (lent m g masks)
  lent-keep = rw (lent-part m g masks) (ms.each g h)
