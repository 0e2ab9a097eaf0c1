-- Words as bytes, for a plane of any length m: letters and bytes go into each other without loss, and on accepted words the letters tell
-- the bytes. A plane that is clear from n on is made again from its first n bits (`planeOf-take`): that carries both directions.
use Prim.Native.Nat.{ℕ, zero, suc, ◌+◌, ◌-◌, ◌*◌, ◌<◌, ◌≤◌}
use mathlib.Core.Path.{◌≡◌, refl, sym, ap, ap₂, subst, ◌∙◌}
use mathlib.Core.Bool.{Bool, true, false, false≢true}
use mathlib.Core.List.{List, [], ◌∷◌, ◌++◌, map, append-nil}
use native.Mathlib.Nat.{le_of_suc-le-suc, not-suc-le-zero, suc_inj, suc-ne-zero, le_of_eq, add-sub_cancel_left}
use native.Mathlib.Omega.{arith}
use lib.ListN.{length, get_or, set, take, drop, replicate, length-append, length-drop, length-map, take-append-drop, drop_of_length-le, get_or-map}
use lib.Seq.{take_at, drop_at, length-take-le, get_or-take, take_all}
use Rattle.pauli_word.specs.Word.{Letter, I, X, Y, Z, Word, x_bit, z_bit, letter_of}
use Rattle.pauli_word.specs.Bytes.{plane_bits, plane_of, letters_of, decode, encode, clear, clear_from, Bytes, or_at, with_site, Accepted, byte_values}
use Rattle.pauli_word.proofs.Bits.{pad}
use Rattle.pauli_word.proofs.Planes.{plane_bits-length, plane_bits-plane_of, bytes_of_lem, plane_of-length, plane_of-bytes, plane_of-plane_bits, plane_bits_injective}

pub map-append : {A B : Type 0} (f : A → B) (xs ys : List A) → map f (xs ++ ys) ≡ map f xs ++ map f ys
map-append f [] ys = refl
map-append f (x ∷ xs) ys = ap (λ (t : List _). f x ∷ t) (map-append f xs ys)

pub x_bit-letter_of : (x z : Bool) → x_bit (letter_of x z) ≡ x
x_bit-letter_of false false = refl
x_bit-letter_of false true = refl
x_bit-letter_of true false = refl
x_bit-letter_of true true = refl

pub z_bit-letter_of : (x z : Bool) → z_bit (letter_of x z) ≡ z
z_bit-letter_of false false = refl
z_bit-letter_of false true = refl
z_bit-letter_of true false = refl
z_bit-letter_of true true = refl

letter_of-bits : (a : Letter) → letter_of (x_bit a) (z_bit a) ≡ a
letter_of-bits I = refl
letter_of-bits X = refl
letter_of-bits Y = refl
letter_of-bits Z = refl

-- a word by its X bits and its Z bits
pub letters_of-bits : (w : Word) → letters_of (map x_bit w) (map z_bit w) ≡ w
unfolding letters_of
letters_of-bits [] = refl
letters_of-bits (a ∷ w) = ap₂ ◌∷◌ (letter_of-bits a) (letters_of-bits w)

pub x_bits_letters_of : (xs zs : List Bool) → length xs ≡ length zs → map x_bit (letters_of xs zs) ≡ xs
unfolding letters_of
x_bits_letters_of [] zs e = refl
x_bits_letters_of (x ∷ xs) [] e = absurd (suc-ne-zero (length xs) e)
x_bits_letters_of (x ∷ xs) (z ∷ zs) e = ap₂ ◌∷◌ (x_bit-letter_of x z) (x_bits_letters_of xs zs (suc_inj e))

pub z_bits_letters_of : (xs zs : List Bool) → length xs ≡ length zs → map z_bit (letters_of xs zs) ≡ zs
unfolding letters_of
z_bits_letters_of [] [] e = refl
z_bits_letters_of [] (z ∷ zs) e = absurd (suc-ne-zero (length zs) (sym e))
z_bits_letters_of (x ∷ xs) [] e = absurd (suc-ne-zero (length xs) e)
z_bits_letters_of (x ∷ xs) (z ∷ zs) e = ap₂ ◌∷◌ (z_bit-letter_of x z) (z_bits_letters_of xs zs (suc_inj e))

letters_of-length : (xs zs : List Bool) → length xs ≡ length zs → length (letters_of xs zs) ≡ length xs
unfolding letters_of
letters_of-length [] zs e = refl
letters_of-length (x ∷ xs) [] e = absurd (suc-ne-zero (length xs) e)
letters_of-length (x ∷ xs) (z ∷ zs) e = ap suc (letters_of-length xs zs (suc_inj e))

-- site by site
pub letters_of-at : (xs zs : List Bool) (q : ℕ) → length xs ≡ length zs → get_or (letters_of xs zs) q I ≡ letter_of (get_or xs q false) (get_or zs q false)
unfolding letters_of
letters_of-at [] [] q e = refl
letters_of-at [] (z ∷ zs) q e = absurd (suc-ne-zero (length zs) (sym e))
letters_of-at (x ∷ xs) [] q e = absurd (suc-ne-zero (length xs) e)
letters_of-at (x ∷ xs) (z ∷ zs) zero e = refl
letters_of-at (x ∷ xs) (z ∷ zs) (suc q) e = letters_of-at xs zs q (suc_inj e)

-- ---- filling up with 0

pub pad-take : (k : ℕ) (bs : List Bool) → length bs ≤ k → take (length bs) (pad k bs) ≡ bs
unfolding pad
pad-take k [] h = refl
pad-take zero (b ∷ bs) h = absurd (not-suc-le-zero h)
pad-take (suc k) (b ∷ bs) h = ap (λ (t : List Bool). b ∷ t) (pad-take k bs (le_of_suc-le-suc h))

pad-drop : (k : ℕ) (bs : List Bool) → length bs ≤ k → clear (drop (length bs) (pad k bs)) ≡ true
unfolding pad clear
pad-drop zero [] h = refl
pad-drop (suc k) [] h = pad-drop k [] (omega arith)
pad-drop zero (b ∷ bs) h = absurd (not-suc-le-zero h)
pad-drop (suc k) (b ∷ bs) h = pad-drop k bs (le_of_suc-le-suc h)

-- bits that are clear from n on are their first n bits filled up
pub pad-clear : (n : ℕ) (bs : List Bool) → clear (drop n bs) ≡ true → pad (length bs) (take n bs) ≡ bs
unfolding pad clear
pad-clear zero [] e = refl
pad-clear zero (true ∷ bs) e = absurd (false≢true e)
pad-clear zero (false ∷ bs) e = ap (λ (t : List Bool). false ∷ t) (pad-clear zero bs e)
pad-clear (suc n) [] e = refl
pad-clear (suc n) (b ∷ bs) e = ap (λ (t : List Bool). b ∷ t) (pad-clear n bs e)

pub pad-length : (k : ℕ) (bs : List Bool) → length (pad k bs) ≡ k
unfolding pad
pad-length zero bs = refl
pad-length (suc k) [] = ap suc (pad-length k [])
pad-length (suc k) (b ∷ bs) = ap suc (pad-length k bs)

-- ---- one plane

plane_of-take : (m n : ℕ) (p : List ℕ) → length p ≡ m → Bytes p → clear_from n p ≡ true → plane_of m (take n (plane_bits p)) ≡ p
unfolding clear_from
plane_of-take m n p l b c =
    plane_bits_injective (plane_of m (take n (plane_bits p))) p (plane_of-bytes m (take n (plane_bits p))) b (plane_of-length m (take n (plane_bits p)) ∙ sym l)
    (plane_bits-plane_of m (take n (plane_bits p))
    ∙ ap (λ (k : ℕ). pad k (take n (plane_bits p))) (ap (λ (k : ℕ). 8 * k) (sym l) ∙ sym (plane_bits-length p))
    ∙ pad-clear n (plane_bits p) c)

take-plane_of : (m : ℕ) (bs : List Bool) → length bs ≤ 8 * m → take (length bs) (plane_bits (plane_of m bs)) ≡ bs
take-plane_of m bs h = ap (take (length bs)) (plane_bits-plane_of m bs) ∙ pad-take (8 * m) bs h

clear_from-plane_of : (m : ℕ) (bs : List Bool) → length bs ≤ 8 * m → clear_from (length bs) (plane_of m bs) ≡ true
unfolding clear_from
clear_from-plane_of m bs h = ap (λ (t : List Bool). clear (drop (length bs) t)) (plane_bits-plane_of m bs) ∙ pad-drop (8 * m) bs h

-- ---- the two planes

pub bytes-append : (p r : List ℕ) → Bytes p → Bytes r → Bytes (p ++ r)
bytes-append [] r bp br = br
bytes-append (x ∷ p) r bp br = (bp.0, bytes-append p r bp.1 br)

pub bytes_take : (m : ℕ) (p : List ℕ) → Bytes p → Bytes (take m p)
bytes_take zero p b = tt
bytes_take (suc m) [] b = tt
bytes_take (suc m) (x ∷ p) b = (b.0, bytes_take m p b.1)

pub bytes_drop : (m : ℕ) (p : List ℕ) → Bytes p → Bytes (drop m p)
bytes_drop zero p b = b
bytes_drop (suc m) [] b = tt
bytes_drop (suc m) (x ∷ p) b = bytes_drop m p b.1

-- the Z plane as a part of the word
pub rest_part : (m : ℕ) (bytes : List ℕ) → take (length bytes - m) (drop m bytes) ≡ drop m bytes
rest_part m bytes = take_all (length bytes - m) (drop m bytes) (le_of_eq (length-drop m bytes))

module _ (m : ℕ) (w : Word) where
  xPlane : take m (encode m w) ≡ plane_of m (map x_bit w)
  unfolding encode
  xPlane = take_at (plane_of m (map x_bit w)) (plane_of m (map z_bit w)) m (plane_of-length m (map x_bit w))

  zPlane : drop m (encode m w) ≡ plane_of m (map z_bit w)
  unfolding encode
  zPlane = drop_at (plane_of m (map x_bit w)) (plane_of m (map z_bit w)) m (plane_of-length m (map x_bit w))

  pub encode-length : length (encode m w) ≡ m + m
  unfolding encode
  encode-length =
      length-append (plane_of m (map x_bit w)) (plane_of m (map z_bit w))
      ∙ ap₂ ◌+◌ (plane_of-length m (map x_bit w)) (plane_of-length m (map z_bit w))

  -- the letters come back from the bytes of a word
  pub decode-encode : length w ≤ 8 * m → decode m (length w) (encode m w) ≡ w
  unfolding decode
  decode-encode h =
      ap₂ letters_of
      (ap (λ (p : List ℕ). take (length w) (plane_bits p)) xPlane ∙ plane (map x_bit w) (length-map w x_bit))
      (ap (λ (p : List ℕ). take (length w) (plane_bits p)) zPlane ∙ plane (map z_bit w) (length-map w z_bit))
      ∙ letters_of-bits w
    where
      plane : (bs : List Bool) → length bs ≡ length w → take (length w) (plane_bits (plane_of m bs)) ≡ bs
      plane bs e =
          ap (λ (k : ℕ). take k (plane_bits (plane_of m bs))) (sym e) ∙ take-plane_of m bs (subst (λ (k : ℕ). k ≤ 8 * m) (sym e) h)

  -- the bytes of a word are an accepted word
  pub encode-accepted : length w ≤ 8 * m → Accepted m (length w) (encode m w)
  unfolding encode
  encode-accepted h = record {
    sites = h;
    long = encode-length;
    small = small;
    x_clear = ap (clear_from (length w)) xPlane ∙ plane (map x_bit w) (length-map w x_bit);
    z_clear = ap (clear_from (length w)) zPlane ∙ plane (map z_bit w) (length-map w z_bit);
  }
    where
      plane : (bs : List Bool) → length bs ≡ length w → clear_from (length w) (plane_of m bs) ≡ true
      plane bs e = ap (λ (k : ℕ). clear_from k (plane_of m bs)) (sym e) ∙ clear_from-plane_of m bs (subst (λ (k : ℕ). k ≤ 8 * m) (sym e) h)

      small : Bytes (encode m w)
      small = bytes-append (plane_of m (map x_bit w)) (plane_of m (map z_bit w)) (plane_of-bytes m (map x_bit w)) (plane_of-bytes m (map z_bit w))

module _ {m n : ℕ} {bytes : List ℕ} (ok : Accepted m n bytes) where
  pub x_long : length (take m bytes) ≡ m
  x_long = length-take-le m bytes (subst (λ (k : ℕ). m ≤ k) (sym ok.long) (omega arith))

  pub z_long : length (drop m bytes) ≡ m
  z_long = length-drop m bytes ∙ ap (λ (k : ℕ). k - m) ok.long ∙ add-sub_cancel_left m m

  sites_long : (p : List ℕ) → length p ≡ m → length (take n (plane_bits p)) ≡ n
  sites_long p e = length-take-le n (plane_bits p) (subst (λ (k : ℕ). n ≤ k) (sym (plane_bits-length p ∙ ap (λ (k : ℕ). 8 * k) e)) ok.sites)

  equally-long : length (take n (plane_bits (take m bytes))) ≡ length (take n (plane_bits (drop m bytes)))
  equally-long = sites_long (take m bytes) x_long ∙ sym (sites_long (drop m bytes) z_long)

  pub decode-length : length (decode m n bytes) ≡ n
  unfolding decode
  decode-length =
      letters_of-length (take n (plane_bits (take m bytes))) (take n (plane_bits (drop m bytes))) equally-long ∙ sites_long (take m bytes) x_long

  -- the X bits and the Z bits of the letters
  pub decode_x_bits : map x_bit (decode m n bytes) ≡ take n (plane_bits (take m bytes))
  unfolding decode
  decode_x_bits = x_bits_letters_of (take n (plane_bits (take m bytes))) (take n (plane_bits (drop m bytes))) equally-long

  pub decode_z_bits : map z_bit (decode m n bytes) ≡ take n (plane_bits (drop m bytes))
  unfolding decode
  decode_z_bits = z_bits_letters_of (take n (plane_bits (take m bytes))) (take n (plane_bits (drop m bytes))) equally-long

  -- the letter of site q
  pub decode-at : (q : ℕ) → q < n → get_or (decode m n bytes) q I ≡ letter_of (get_or (plane_bits (take m bytes)) q false) (get_or (plane_bits (drop m bytes)) q false)
  unfolding decode
  decode-at q h =
      letters_of-at (take n (plane_bits (take m bytes))) (take n (plane_bits (drop m bytes))) q equally-long
      ∙ ap₂ letter_of (get_or-take n (plane_bits (take m bytes)) q false h) (get_or-take n (plane_bits (drop m bytes)) q false h)

  -- the bytes of an accepted word come back from its letters
  pub encode-decode : encode m (decode m n bytes) ≡ bytes
  unfolding encode
  encode-decode =
      ap₂ ◌++◌
      (ap (plane_of m) decode_x_bits ∙ plane_of-take m n (take m bytes) x_long (bytes_take m bytes ok.small) ok.x_clear)
      (ap (plane_of m) decode_z_bits ∙ plane_of-take m n (drop m bytes) z_long (bytes_drop m bytes ok.small) ok.z_clear)
      ∙ take-append-drop m bytes

-- ---- one site more

bytes_left : (p r : List ℕ) → Bytes (p ++ r) → Bytes p
bytes_left [] r b = tt
bytes_left (x ∷ p) r b = (b.0, bytes_left p r b.1)

bytes-right : (p r : List ℕ) → Bytes (p ++ r) → Bytes r
bytes-right [] r b = b
bytes-right (x ∷ p) r b = bytes-right p r b.1

-- a plane by its bits
plane_of-bits : (m : ℕ) (p : List ℕ) (bs : List Bool) → length p ≡ m → Bytes p → plane_bits p ≡ bs → p ≡ plane_of m bs
plane_of-bits m p bs l b e = sym (plane_of-plane_bits p b) ∙ ap₂ plane_of l e

-- the X plane stored as p, and then the Z plane as r, in the bytes of a word
module _ (m : ℕ) (bytes p r : List ℕ) (long : length bytes ≡ m + m) (lp : length p ≡ m) where
  abbrev whole : List ℕ
  whole = p ++ drop m bytes

  abbrev part : List ℕ
  part = take (length whole - m) (drop m whole)

  rest : drop m whole ≡ drop m bytes
  rest = drop_at p (drop m bytes) m lp

  part-is : part ≡ drop m bytes
  part-is = rest_part m whole ∙ rest

  stored : take m whole ++ (r ++ drop (length whole - m) (drop m whole)) ≡ p ++ r
  stored =
      ap₂ (λ (a b : List ℕ). a ++ (r ++ b)) (take_at p (drop m bytes) m lp) (drop_of_length-le (drop m whole) (le_of_eq (length-drop m whole)))
      ∙ ap (λ (b : List ℕ). p ++ b) (append-nil r)

  pub site-stored : (q : ℕ) (x z : Bool) → length r ≡ length part → plane_bits p ≡ or_at (plane_bits (take m bytes)) q x → plane_bits r ≡ or_at (plane_bits part) q z
      → ((i : ℕ) → get_or (take m whole ++ (r ++ drop (length whole - m) (drop m whole))) i 0 < byte_values)
      → take m whole ++ (r ++ drop (length whole - m) (drop m whole)) ≡ with_site m bytes q x z
  unfolding with_site
  site-stored q x z lr ep er b =
      let small : Bytes (p ++ r) = subst Bytes stored (bytes_of_lem (take m whole ++ (r ++ drop (length whole - m) (drop m whole))) b) in
      let lz : length r ≡ m = lr ∙ ap length part-is ∙ length-drop m bytes ∙ ap (λ (k : ℕ). k - m) long ∙ add-sub_cancel_left m m in
      stored
      ∙ ap₂ ◌++◌ (plane_of-bits m p (or_at (plane_bits (take m bytes)) q x) lp (bytes_left p r small) ep)
      (plane_of-bits m r (or_at (plane_bits (drop m bytes)) q z) lz (bytes-right p r small) (er ∙ ap (λ (l : List ℕ). or_at (plane_bits l) q z) part-is))

-- setting the next bit of bits that are filled up with 0
or_at-next : (k : ℕ) (bs : List Bool) (b : Bool) → length bs < k → or_at (pad k bs) (length bs) b ≡ pad k (bs ++ (b ∷ []))
unfolding pad
or_at-next zero bs b h = absurd (not-suc-le-zero h)
or_at-next (suc k) [] b h = refl
or_at-next (suc k) (a ∷ bs) b h = ap (λ (t : List Bool). a ∷ t) (or_at-next k bs b (le_of_suc-le-suc h))

pad-pad : (k : ℕ) (bs : List Bool) → pad k (pad k bs) ≡ pad k bs
unfolding pad
pad-pad zero bs = refl
pad-pad (suc k) [] = ap (λ (t : List Bool). false ∷ t) (pad-pad k [])
pad-pad (suc k) (b ∷ bs) = ap (λ (t : List Bool). b ∷ t) (pad-pad k bs)

plane_of-pad : (m : ℕ) (bs : List Bool) → plane_of m (pad (8 * m) bs) ≡ plane_of m bs
plane_of-pad m bs =
    plane_bits_injective (plane_of m (pad (8 * m) bs)) (plane_of m bs) (plane_of-bytes m (pad (8 * m) bs)) (plane_of-bytes m bs)
    (plane_of-length m (pad (8 * m) bs) ∙ sym (plane_of-length m bs))
    (plane_bits-plane_of m (pad (8 * m) bs) ∙ pad-pad (8 * m) bs ∙ sym (plane_bits-plane_of m bs))

-- the plane of one bit more
plane_of-next : (m : ℕ) (bs : List Bool) (b : Bool) → length bs < 8 * m → plane_of m (or_at (plane_bits (plane_of m bs)) (length bs) b) ≡ plane_of m (bs ++ (b ∷ []))
plane_of-next m bs b h =
    ap (λ (t : List Bool). plane_of m (or_at t (length bs) b)) (plane_bits-plane_of m bs)
    ∙ ap (plane_of m) (or_at-next (8 * m) bs b h)
    ∙ plane_of-pad m (bs ++ (b ∷ []))

-- the bytes of a word with one letter more, from those of the word
pub encode-next : (m : ℕ) (w : Word) (a : Letter) → length w < 8 * m → with_site m (encode m w) (length w) (x_bit a) (z_bit a) ≡ encode m (w ++ (a ∷ []))
unfolding with_site encode
encode-next m w a h = ap₂ ◌++◌ (plane x_bit (xPlane m w)) (plane z_bit (zPlane m w))
  where
    plane : (f : Letter → Bool) {p : List ℕ} → p ≡ plane_of m (map f w) → plane_of m (or_at (plane_bits p) (length w) (f a)) ≡ plane_of m (map f (w ++ (a ∷ [])))
    plane f e =
        ap (λ (p : List ℕ). plane_of m (or_at (plane_bits p) (length w) (f a))) e
        ∙ ap (λ (k : ℕ). plane_of m (or_at (plane_bits (plane_of m (map f w))) k (f a))) (sym (length-map w f))
        ∙ plane_of-next m (map f w) (f a) (subst (λ (k : ℕ). k < 8 * m) (sym (length-map w f)) h)
        ∙ ap (plane_of m) (sym (map-append f w (a ∷ [])))

-- ---- one letter set

pub map-set : {A B : Type 0} (f : A → B) (xs : List A) (i : ℕ) (a : A) → map f (set xs i a) ≡ set (map f xs) i (f a)
map-set f [] i a = refl
map-set f (x ∷ xs) zero a = refl
map-set f (x ∷ xs) (suc i) a = ap (λ (t : List _). f x ∷ t) (map-set f xs i a)

-- setting a bit that is 0, of bits that are filled up with 0
or_at-set : (k : ℕ) (bs : List Bool) (q : ℕ) (b : Bool) → q < length bs → length bs ≤ k → get_or bs q false ≡ false → or_at (pad k bs) q b ≡ pad k (set bs q b)
unfolding pad
or_at-set k [] q b h l e = absurd (not-suc-le-zero h)
or_at-set zero (a ∷ bs) q b h l e = absurd (not-suc-le-zero l)
or_at-set (suc k) (a ∷ bs) zero b h l e = rw e
or_at-set (suc k) (a ∷ bs) (suc q) b h l e = ap (λ (t : List Bool). a ∷ t) (or_at-set k bs q b (le_of_suc-le-suc h) (le_of_suc-le-suc l) e)

-- the bytes of a word with a letter in the place of an I, from those of the word
pub encode-set : (m : ℕ) (w : Word) (q : ℕ) (a : Letter) → q < length w → length w ≤ 8 * m → get_or w q I ≡ I
    → with_site m (encode m w) q (x_bit a) (z_bit a) ≡ encode m (set w q a)
unfolding with_site encode
encode-set m w q a h l e = ap₂ ◌++◌ (plane x_bit refl (xPlane m w)) (plane z_bit refl (zPlane m w))
  where
    plane : (f : Letter → Bool) → f I ≡ false → {p : List ℕ} → p ≡ plane_of m (map f w) → plane_of m (or_at (plane_bits p) q (f a)) ≡ plane_of m (map f (set w q a))
    plane f o r =
        let none : get_or (map f w) q false ≡ false = ap (get_or (map f w) q) (sym o) ∙ get_or-map f w q I ∙ ap f e ∙ o in
        ap (λ (p : List ℕ). plane_of m (or_at (plane_bits p) q (f a))) r
        ∙ ap (λ (t : List Bool). plane_of m (or_at t q (f a))) (plane_bits-plane_of m (map f w))
        ∙ ap (plane_of m) (or_at-set (8 * m) (map f w) q (f a) (rw length-map h) (rw length-map l) none)
        ∙ plane_of-pad m (set (map f w) q (f a))
        ∙ ap (plane_of m) (sym (map-set f w q a))

pad-blank : (f : Letter → Bool) → f I ≡ false → (k n : ℕ) → pad k (map f (replicate n I)) ≡ pad k []
unfolding pad
pad-blank f o zero n = refl
pad-blank f o (suc k) zero = refl
pad-blank f o (suc k) (suc n) = ap₂ ◌∷◌ o (pad-blank f o k n)

-- a word of Is has the bytes of the empty word
pub encode-blank : (m n : ℕ) → encode m (replicate n I) ≡ encode m []
unfolding encode
encode-blank m n = ap₂ ◌++◌ (plane x_bit refl) (plane z_bit refl)
  where
    plane : (f : Letter → Bool) → f I ≡ false → plane_of m (map f (replicate n I)) ≡ plane_of m []
    plane f o = cc (plane_of-pad m (map f (replicate n I)), plane_of-pad m [], pad-blank f o (8 * m) n)

-- bytes that are those of a word of n letters
module _ (m : ℕ) {n : ℕ} {bytes : List ℕ} (w : Word) (long : length w ≡ n) (few : n ≤ 8 * m) (e : bytes ≡ encode m w) where
  pub encoded-accepted : Accepted m n bytes
  encoded-accepted = rw (e, ← long) (encode-accepted m w (rw long few))

  pub encoded-decode : decode m n bytes ≡ w
  encoded-decode = rw (e, ← long) (decode-encode m w (rw long few))
