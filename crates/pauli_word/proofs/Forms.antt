-- The two forms of a word: what a word of the old form is in full, plane by plane, and what a list of bytes stands for. What carries it: zeros after a
-- plane change none of its bits.
use Prim.Native.Nat.{ℕ, zero, suc, ◌+◌, ◌-◌, ◌*◌, ◌/◌, ◌≤◌}
use mathlib.Core.Path.{◌≡◌, refl, sym, ap, ap₂, ◌∙◌}
use mathlib.Core.Logic.{inl, inr}
use mathlib.Core.Bool.{Bool, true, false, ◌&&◌, not, false≢true}
use mathlib.Core.List.{List, [], ◌∷◌, ◌++◌, append-nil, append_assoc}
use native.Mathlib.Nat.{add-sub_cancel_left, sub-zero, zero-sub, suc-sub-suc}
use native.Mathlib.Decide.{ℕ_discrete}
use native.Mathlib.Omega.{arith}
use lib.ListN.{length, take, drop, replicate, length-append, length-drop, length-replicate, replicate-append-replicate, take-append-drop}
use lib.Seq.{take_at, drop_at, length-take-le, take-append-le}
use borrow.Author.Tests.{eq-eqb, ne_eqb}
use borrow.Rule.Slice.PartMut.{post_of, put_mid}
use Rattle.pauli_word.specs.Limits.{plane_length, word_length, old_plane_length, old_length}
use Rattle.pauli_word.specs.Bytes.{low_bits, plane_bits, clear, clear_from, Bytes, Accepted, AcceptedWord, EitherLength, EitherWord, filled_up, spread, in_full, letters_in, bytes_of, word_in, decode, letters_of}
use Rattle.pauli_word.specs.Calls.{clear_above}
use Rattle.pauli_word.proofs.Planes.{plane_bits-append, plane_bits-length}
use Rattle.pauli_word.proofs.Words.{bytes-append, bytes_take, bytes_drop, encode-length, encode-decode, x_long, z_long}

-- ---- zeros after a plane

clear-drop : (k : ℕ) (bs : List Bool) → clear bs ≡ true → clear (drop k bs) ≡ true
unfolding clear
clear-drop zero bs e = e
clear-drop (suc k) [] e = refl
clear-drop (suc k) (true ∷ bs) e = absurd (false≢true e)
clear-drop (suc k) (false ∷ bs) e = clear-drop k bs e

clear-after : (n : ℕ) (xs bs : List Bool) → clear bs ≡ true → clear (drop n (xs ++ bs)) ≡ clear (drop n xs)
unfolding clear
clear-after zero [] bs e = e
clear-after (suc n) [] bs e = clear-drop (suc n) bs e
clear-after zero (a ∷ xs) bs e = ap (λ (b : Bool). not a && b) (clear-after zero xs bs e)
clear-after (suc n) (a ∷ xs) bs e = clear-after n xs bs e

clear-zeros : (k : ℕ) → clear (plane_bits (replicate k 0)) ≡ true
unfolding plane_bits clear low_bits
clear-zeros zero = refl
clear-zeros (suc k) = clear-zeros k

zero-bytes : (k : ℕ) → Bytes (replicate k 0)
zero-bytes zero = tt
zero-bytes (suc k) = (omega arith, zero-bytes k)

module _ (m : ℕ) (plane : List ℕ) where
  -- as many bytes as a plane has
  pub filled-length : length plane ≤ m → length (filled_up m plane) ≡ m
  filled-length h = simp (length-append, length-replicate) (omega arith)

  -- none at or above n where the plane has none
  pub filled-clear : (n : ℕ) → clear_from n (filled_up m plane) ≡ clear_from n plane
  unfolding clear_from
  filled-clear n =
      ap (λ (t : List Bool). clear (drop n t)) (plane_bits-append plane (replicate (m - length plane) 0))
      ∙ clear-after n (plane_bits plane) (plane_bits (replicate (m - length plane) 0)) (clear-zeros (m - length plane))

  -- and the same first bits
  pub filled-bits : (n : ℕ) → n ≤ 8 * length plane → take n (plane_bits (filled_up m plane)) ≡ take n (plane_bits plane)
  filled-bits n h =
      ap (take n) (plane_bits-append plane (replicate (m - length plane) 0))
      ∙ take-append-le n (plane_bits plane) (plane_bits (replicate (m - length plane) 0)) (rw (plane_bits-length plane) h)

  pub filled-bytes : Bytes plane → Bytes (filled_up m plane)
  filled-bytes b = bytes-append plane (replicate (m - length plane) 0) b (zero-bytes (m - length plane))

-- ---- two planes of h bytes, in full

module _ (h : ℕ) (bytes : List ℕ) (few : h ≤ plane_length) (long : length bytes ≡ h + h) where
  x-long : length (take h bytes) ≡ h
  x-long = length-take-le h bytes (omega arith)

  z_long_lem : length (drop h bytes) ≡ h
  z_long_lem = length-drop h bytes ∙ ap (λ (k : ℕ). k - h) long ∙ add-sub_cancel_left h h

  x-filled : length (filled_up plane_length (take h bytes)) ≡ plane_length
  x-filled = filled-length plane_length (take h bytes) (omega (arith, x-long))

  z-filled : length (filled_up plane_length (drop h bytes)) ≡ plane_length
  z-filled = filled-length plane_length (drop h bytes) (omega (arith, z_long_lem))

  pub spread-x : take plane_length (spread h bytes) ≡ filled_up plane_length (take h bytes)
  spread-x = take_at (filled_up plane_length (take h bytes)) (filled_up plane_length (drop h bytes)) plane_length x-filled

  pub spread-z : drop plane_length (spread h bytes) ≡ filled_up plane_length (drop h bytes)
  spread-z = drop_at (filled_up plane_length (take h bytes)) (filled_up plane_length (drop h bytes)) plane_length x-filled

  pub spread-length : length (spread h bytes) ≡ word_length
  spread-length =
      length-append (filled_up plane_length (take h bytes)) (filled_up plane_length (drop h bytes)) ∙ ap₂ ◌+◌ x-filled z-filled

  pub spread-clear : (n : ℕ) → clear_above n (spread h bytes) ≡ (clear_from n (take h bytes) && clear_from n (drop h bytes))
  spread-clear n =
      ap₂ ◌&&◌
      (ap (clear_from n) spread-x ∙ filled-clear plane_length (take h bytes) n)
      (ap (clear_from n) spread-z ∙ filled-clear plane_length (drop h bytes) n)

-- ---- two planes of h bytes, stored over zeros

-- k zeros
abbrev zeros : ℕ → List ℕ
zeros k = replicate k 0

drop-zeros : (n m : ℕ) → drop n (zeros m) ≡ zeros (m - n)
drop-zeros zero m = ap zeros (sym (sub-zero m))
drop-zeros (suc n) zero = ap zeros (sym (zero-sub (suc n)))
drop-zeros (suc n) (suc m) = drop-zeros n m ∙ ap zeros (sym (suc-sub-suc m n))

module _ (h : ℕ) (x full : List ℕ) (few : h ≤ plane_length) (lx : length x ≡ h) (blank : full ≡ zeros word_length) where
  -- after the first
  one-stored : x ++ post_of 0 (h - 0) full ≡ filled_up plane_length x ++ zeros plane_length
  one-stored =
      let room : word_length - (h - 0) ≡ plane_length - length x + plane_length = omega arith in
      ap (λ (l : List ℕ). x ++ drop (h - 0) l) blank
      ∙ ap (λ (l : List ℕ). x ++ l) (drop-zeros (h - 0) word_length ∙ ap zeros room)
      ∙ ap (λ (l : List ℕ). x ++ l) (sym (replicate-append-replicate {A = ℕ} (plane_length - length x) plane_length 0))
      ∙ sym (append_assoc x (zeros (plane_length - length x)) (zeros plane_length))

  pub one-long : length (x ++ post_of 0 (h - 0) full) ≡ word_length
  one-long =
      ap length one-stored
      ∙ length-append (filled_up plane_length x) (zeros plane_length)
      ∙ ap₂ ◌+◌ (filled-length plane_length x (omega arith)) (length-replicate {A = ℕ} plane_length 0)

  -- after both
  pub both_stored : (z : List ℕ) → length z ≡ h → put_mid plane_length (plane_length + h - plane_length) (x ++ post_of 0 (h - 0) full) z ≡ filled_up plane_length x ++ filled_up plane_length z
  both_stored z lz =
      let first = filled-length plane_length x (omega arith) in
      let room : plane_length - (plane_length + h - plane_length) ≡ plane_length - length z = omega arith in
      ap (λ (l : List ℕ). put_mid plane_length (plane_length + h - plane_length) l z) one-stored
      ∙ ap₂ (λ (a b : List ℕ). a ++ (z ++ drop (plane_length + h - plane_length) b))
      (take_at (filled_up plane_length x) (zeros plane_length) plane_length first)
      (drop_at (filled_up plane_length x) (zeros plane_length) plane_length first)
      ∙ ap (λ (l : List ℕ). filled_up plane_length x ++ (z ++ l)) (drop-zeros (plane_length + h - plane_length) plane_length ∙ ap zeros room)

-- ---- an accepted word in planes of h bytes is one in full, with the same letters
module _ {h n : ℕ} {bytes : List ℕ} (few : h ≤ plane_length) (ok : Accepted h n bytes) where
  pub spread-accepted : AcceptedWord n (spread h bytes)
  spread-accepted = record {
    sites = omega (arith, ok.sites);
    long = spread-length h bytes few ok.long;
    small = bytes-append (filled_up plane_length (take h bytes)) (filled_up plane_length (drop h bytes)) (filled-bytes plane_length (take h bytes) (bytes_take h bytes ok.small)) (filled-bytes plane_length (drop h bytes) (bytes_drop h bytes ok.small));
    x_clear = ap (clear_from n) (spread-x h bytes few ok.long) ∙ filled-clear plane_length (take h bytes) n ∙ ok.x_clear;
    z_clear = ap (clear_from n) (spread-z h bytes few ok.long) ∙ filled-clear plane_length (drop h bytes) n ∙ ok.z_clear;
  }

  pub spread-letters : letters_in n (spread h bytes) ≡ decode h n bytes
  unfolding decode
  spread-letters =
      ap₂ letters_of
      (ap (λ (p : List ℕ). take n (plane_bits p)) (spread-x h bytes few ok.long) ∙ filled-bits plane_length (take h bytes) n (rw (x_long ok) ok.sites))
      (ap (λ (p : List ℕ). take n (plane_bits p)) (spread-z h bytes few ok.long) ∙ filled-bits plane_length (drop h bytes) n (rw (z_long ok) ok.sites))

-- ---- either form in full

-- what is not of the old form stays, and so a word in full
pub full_other : (bytes : List ℕ) → (length bytes ≡ old_length → ⊥) → in_full bytes ≡ bytes
unfolding in_full
full_other bytes d = rw (ne_eqb (length bytes) old_length d)

pub full_same : (bytes : List ℕ) → length bytes ≡ word_length → in_full bytes ≡ bytes
full_same bytes e = full_other bytes (λ old. omega arith)

pub full_old : (bytes : List ℕ) → length bytes ≡ old_length → in_full bytes ≡ spread old_plane_length bytes
unfolding in_full
full_old bytes e = rw (eq-eqb (length bytes) old_length e)

-- planes of full length lack no byte
spread-whole : (bytes : List ℕ) → length bytes ≡ word_length → spread plane_length bytes ≡ bytes
spread-whole bytes e =
    let x : plane_length - length (take plane_length bytes) ≡ 0 = omega (arith, x-long plane_length bytes (omega arith) e) in
    let z : plane_length - length (drop plane_length bytes) ≡ 0 = omega (arith, z_long_lem plane_length bytes (omega arith) e) in
    ap₂ (λ (j k : ℕ). (take plane_length bytes ++ replicate j 0) ++ (drop plane_length bytes ++ replicate k 0)) x z
    ∙ ap₂ ◌++◌ (append-nil (take plane_length bytes)) (append-nil (drop plane_length bytes))
    ∙ take-append-drop plane_length bytes

-- half of the bytes are the X plane, and the others the Z plane
module _ (bytes : List ℕ) (either : EitherLength (length bytes)) where
  abbrev half : ℕ
  half = length bytes / 2

  pub half-few : half ≤ plane_length
  half-few = go either
    where
      go : EitherLength (length bytes) → length bytes / 2 ≤ plane_length
      go (inl e) = omega arith
      go (inr e) = omega arith

  pub half-long : length bytes ≡ half + half
  half-long = go either
    where
      go : EitherLength (length bytes) → length bytes ≡ length bytes / 2 + length bytes / 2
      go (inl e) = omega arith
      go (inr e) = omega arith

  pub full-spread : in_full bytes ≡ spread half bytes
  full-spread = go either
    where
      go : EitherLength (length bytes) → in_full bytes ≡ spread (length bytes / 2) bytes
      go (inl e) =
          let h : plane_length ≡ length bytes / 2 = omega arith in
          full_same bytes e ∙ sym (spread-whole bytes e) ∙ ap (λ (h : ℕ). spread h bytes) h
      go (inr e) =
          let h : old_plane_length ≡ length bytes / 2 = omega arith in
          full_old bytes e ∙ ap (λ (h : ℕ). spread h bytes) h

  pub full-length : length (in_full bytes) ≡ word_length
  full-length = ap length full-spread ∙ spread-length half bytes half-few half-long

  pub full-clear : (n : ℕ) → clear_above n (in_full bytes) ≡ (clear_from n (take half bytes) && clear_from n (drop half bytes))
  full-clear n = ap (clear_above n) full-spread ∙ spread-clear half bytes half-few half-long n

-- a word in full, put in full again, stays
pub full_full : (bytes : List ℕ) → in_full (in_full bytes) ≡ in_full bytes
full_full bytes = go (ℕ_discrete (length bytes) old_length)
  where
    go : Dec (length bytes ≡ old_length) → in_full (in_full bytes) ≡ in_full bytes
    go (yes e) = full_same (in_full bytes) (full-length bytes (inr e))
    go (no d) = ap in_full (full_other bytes d)

-- ---- accepted words

pub either-length : (n : ℕ) (bytes : List ℕ) → EitherWord n bytes → EitherLength (length bytes)
either-length n bytes (inl ok) = inl ok.long
either-length n bytes (inr ok) = inr ok.long

module _ (n : ℕ) (bytes : List ℕ) where
  -- an accepted word of either form is an accepted word in full
  pub either-accepted : EitherWord n bytes → AcceptedWord n (in_full bytes)
  either-accepted (inl ok) = rw (full_same bytes ok.long) ok
  either-accepted (inr ok) = rw (full_old bytes ok.long) (spread-accepted (omega arith) ok)

  -- the letters of a word in full, and of one of the old form
  pub full-letters : AcceptedWord n bytes → word_in n bytes ≡ letters_in n bytes
  full-letters ok = ap (letters_in n) (full_same bytes ok.long)

  pub old-letters : Accepted old_plane_length n bytes → word_in n bytes ≡ decode old_plane_length n bytes
  old-letters ok = ap (letters_in n) (full_old bytes ok.long) ∙ spread-letters (omega arith) ok

  -- a word that is read and written again is the same word, and is then in full
  pub written-full : EitherWord n bytes → bytes_of (word_in n bytes) ≡ in_full bytes
  written-full ok = encode-decode (either-accepted ok)

  pub written_same : EitherWord n bytes → word_in n (bytes_of (word_in n bytes)) ≡ word_in n bytes
  written_same ok = ap (letters_in n) (full_same (bytes_of (word_in n bytes)) (encode-length plane_length (word_in n bytes)) ∙ written-full ok)
