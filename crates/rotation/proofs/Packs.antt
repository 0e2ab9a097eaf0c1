-- Words of bytes and words in planes of machine words: packed into planes, unpacked from them, and the places that planes are lent.
use Prim.Native.Nat.{ℕ, ◌+◌, ◌-◌, ◌*◌, ◌≤◌, ◌<◌}
use mathlib.Core.Path.{◌≡◌, sym, ap, ap₂, ◌∙◌}
use mathlib.Core.Logic.{inl, ⊎_elim}
use mathlib.Core.Bool.{Bool, false}
use mathlib.Core.List.{List, ◌++◌, append-nil}
use native.Mathlib.Omega.{arith}
use lib.ListN.{length, get_or, take, drop, replicate, length-append, length-drop, length-replicate}
use lib.Seq.{take_at, drop_at, drop-length, length-take-le}
use borrow.Rule.Slice.PartMut.{put_mid}
use Rattle.pauli_word.specs.Limits.{plane_length, word_length}
use Rattle.pauli_word.specs.Bytes.{plane_bits, Bytes, AcceptedWord, letters_in, bytes_of}
use Rattle.pauli_word.proofs.Words.{rest_part}
use Rattle.packed.specs.Packed.{word_bits, plane_words, bit_of, letters_at, Mask}
use Rattle.packed.proofs.Packing.{letters-packed, x-packed-clear, z-packed-clear, unpacked-bytes}
use Rattle.rotation.specs.Rotation.{Planes}

-- planes of as many machine words as the X plane has
pub own-length : {n m : ℕ} {xs zs : List ℕ} → Planes n m xs zs → Planes n (length xs) xs zs
own-length p = rw p.x_long p

-- ---- packed

-- the Z plane of a word's bytes, as it is lent
z_lent : (word : List ℕ) → length word ≡ word_length → take plane_length (drop plane_length word) ≡ drop plane_length word
z_lent word long =
    let e : length word - plane_length ≡ plane_length = omega arith in
    ap (λ (j : ℕ). take j (drop plane_length word)) (sym e) ∙ rest_part plane_length word

-- planes of m machine words that were packed from a word's bytes
module _ {n : ℕ} {word : List ℕ} (ok : AcceptedWord n word) (m : ℕ) (few : m ≤ plane_words) (room : n ≤ word_bits * m)
    (xs zs : List ℕ) (x_long : length xs ≡ m) (z_long : length zs ≡ m)
    (hx : (q : ℕ) → q < word_bits * m → bit_of xs q ≡ get_or (plane_bits (take plane_length word)) q false)
    (hz : (q : ℕ) → q < word_bits * m → bit_of zs q ≡ get_or (plane_bits (take plane_length (drop plane_length word))) q false) where
  by_x : (q : ℕ) → q < word_bits * length xs → bit_of xs q ≡ get_or (plane_bits (take plane_length word)) q false
  by_x q h = hx q (rw x_long at h)

  by_z : (q : ℕ) → q < word_bits * length zs → bit_of zs q ≡ get_or (plane_bits (drop plane_length word)) q false
  by_z q h = hz q (rw z_long at h) ∙ ap (λ (p : List ℕ). get_or (plane_bits p) q false) (z_lent word ok.long)

  -- they are planes of its sites
  pub packed-planes : Planes n m xs zs
  packed-planes = record {
    few = few;
    room = room;
    x_long = x_long;
    z_long = inl z_long;
    x_clear = x-packed-clear xs zs ok by_x by_z;
    z_clear = z-packed-clear xs zs ok by_x by_z;
  }

  -- and hold its letters
  pub packed-letters : letters_at n xs zs ≡ letters_in n word
  packed-letters = letters-packed xs zs ok by_x by_z (rw x_long room) (rw z_long room)

-- ---- unpacked

-- a Z plane has no more machine words than a word has room for
pub z_few : {n m : ℕ} {xs zs : List ℕ} → Planes n m xs zs → length zs ≤ plane_words
z_few p = ⊎_elim (λ e. omega (arith, p.few)) (λ e. omega arith) p.z_long

-- a word's bytes whose X plane was replaced
module _ (word front : List ℕ) (long : length word ≡ word_length) (x_long : length front ≡ plane_length) where
  rest-length : length (drop plane_length word) ≡ plane_length
  rest-length = length-drop plane_length word ∙ omega arith

  rest_at : drop plane_length (front ++ drop plane_length word) ≡ drop plane_length word
  rest_at = drop_at front (drop plane_length word) plane_length x_long

  -- the Z plane as it is lent has its length
  pub second-length : length (take plane_length (drop plane_length (front ++ drop plane_length word))) ≡ plane_length
  second-length = rw rest_at (length-take-le plane_length (drop plane_length word) (omega (arith, rest-length)))

  -- and replaced too, it is what stands behind the X plane
  pub second-put : (back : List ℕ) → put_mid plane_length plane_length (front ++ drop plane_length word) back ≡ front ++ back
  second-put back =
      ap₂ (λ (a b : List ℕ). a ++ (back ++ drop plane_length b)) (take_at front (drop plane_length word) plane_length x_long) rest_at
      ∙ ap (λ (k : ℕ). front ++ (back ++ drop k (drop plane_length word))) (sym rest-length)
      ∙ ap (λ (t : List ℕ). front ++ (back ++ t)) (drop-length (drop plane_length word))
      ∙ ap (λ (t : List ℕ). front ++ t) (append-nil back)

-- two planes of bytes, one after the other, that have the bits of planes of machine words
module _ {n m : ℕ} {xs zs : List ℕ} (p : Planes n m xs zs) (front back : List ℕ) (x_long : length front ≡ plane_length) (z_long : length back ≡ plane_length)
    (hx : (q : ℕ) → get_or (plane_bits front) q false ≡ bit_of xs q) (hz : (q : ℕ) → get_or (plane_bits back) q false ≡ bit_of zs q) where
  -- they are the bytes of the word that those hold
  pub unpacked-word : Bytes (front ++ back) → front ++ back ≡ bytes_of (letters_at n xs zs)
  unpacked-word small =
      unpacked-bytes n (front ++ back) xs zs (omega (arith, p.few, p.room)) (length-append front back ∙ ap₂ ◌+◌ x_long z_long) small p.x_clear p.z_clear
      (λ q h. ap (λ (t : List ℕ). get_or (plane_bits t) q false) (take_at front back plane_length x_long) ∙ hx q)
      (λ q h. ap (λ (t : List ℕ). get_or (plane_bits t) q false) (drop_at front back plane_length x_long) ∙ hz q)

-- ---- places for planes

-- the machine words of a plane as they are made
abbrev pub fresh : List ℕ
fresh = replicate plane_words 0

-- the first m of them, as they are lent
pub fresh-length : (m : ℕ) → m ≤ plane_words → length (take (m - 0) fresh) ≡ m
fresh-length m few = length-take-le (m - 0) fresh (omega (arith, length-replicate {A = ℕ} plane_words 0)) ∙ omega arith

-- a front of m of a list, as a call has written it
module _ (m : ℕ) (new rest : List ℕ) (long : length new ≡ m) where
  -- the list has a front of m
  pub front-inside : m ≤ length (new ++ rest)
  front-inside = omega (arith, length-append new rest)

  -- and the front is what is written
  pub front-taken : take (m - 0) (new ++ rest) ≡ new
  front-taken = take_at new rest (m - 0) (omega arith)

  front-count : length (take (m - 0) (new ++ rest)) ≡ m
  front-count = ap length front-taken ∙ long

  -- a mask that is written is the mask of the front
  pub front-mask : {p : ℕ → Bool} → Mask p new → Mask p (take (m - 0) (new ++ rest))
  front-mask has q = ap (λ (ws : List ℕ). bit_of ws q) front-taken ∙ has q

  -- planes of m machine words are as long as the front
  pub front-planes : {n : ℕ} {xs zs : List ℕ} → Planes n m xs zs → Planes n (length (take (m - 0) (new ++ rest))) xs zs
  front-planes p = rw front-count p

  -- and planes as long as the front have m
  pub planes-front : {n : ℕ} {xs zs : List ℕ} → Planes n (length (take (m - 0) (new ++ rest))) xs zs → Planes n m xs zs
  planes-front p = rw (← front-count) p
