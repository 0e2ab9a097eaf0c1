-- Words as codes, one byte a site: unpacked from the bits of two planes, moved site by site, and packed eight sites a byte. Two bits make a code and
-- are found in it again; no two sites have the same target, so that what is moved stays (`moved-next`); and a plane is made byte by byte (`plane-next`).
use Prim.Native.Nat.{ℕ, zero, suc, ◌+◌, ◌-◌, ◌*◌, ◌/◌, ◌%◌, ◌^◌, ◌≤◌, ◌<◌}
use mathlib.Core.Path.{◌≡◌, refl, sym, ap, ap₂, ◌∙◌}
use mathlib.Core.Logic.{◌⊎◌, inl, inr}
use mathlib.Core.Bool.{Bool, true, false}
use mathlib.Core.List.{List, [], ◌∷◌, ◌++◌, map}
use native.Mathlib.Nat.{le_of_suc-le-suc, not-suc-le-zero, suc-add, zero-add, lt_of_lt_of_le, sub-zero, suc-ne-zero}
use native.Mathlib.Decide.{dec_lt}
use native.Mathlib.Omega.{arith}
use lib.ListN.{length, get_or, set, take, drop, replicate, length-replicate, length-map, length-take, length-drop, length-set, drop_of_length-le, get_or-map}
use lib.Pow.{pow_mono}
use lib.Seq.{length-take-le, get_or-take, get_or-drop, get_or-set_same, get_or-set_other, ext_get_or, take_all, take-add, take-append-le, drop-append-le, drop-cons, set-append_left}
use Rattle.pauli_word.specs.Limits.{plane_length, max_sites}
use Rattle.pauli_word.specs.Word.{Letter, I, X, Y, Z, Word, x_bit, z_bit, letter_of, bit}
use Rattle.pauli_word.specs.Bytes.{odd, number, plane_of, encode, AcceptedWord, letters_in, bytes_of, byte_values}
use Rattle.pauli_word.proofs.Bits.{odd_cases, number-below}
use Rattle.pauli_word.proofs.Planes.{plane_bits-at, plane_of-length}
use Rattle.pauli_word.proofs.Words.{map-append}
use Rattle.pauli_word.proofs.Sites.{letter_at}
use Rattle.action.specs.Permutation.{target, Permutes}
use Rattle.action.specs.Orbit.{move}
use Rattle.action.proofs.Move.{move-length, move_at, source}
use Rattle.elements.specs.Letters.{letter_code, codes}

-- ---- a code and its two bits

-- the X bit of a code, and its Z bit
abbrev pub x_of : ℕ → Bool
x_of c = odd c

abbrev pub z_of : ℕ → Bool
z_of c = odd (c / 2)

-- a number's lowest digit
digit : (x : ℕ) → bit (odd x) ≡ x % 2
digit x = go (odd_cases x)
  where
    go : ((x % 2 ≡ 0) × (odd x ≡ false)) ⊎ ((x % 2 ≡ 1) × (odd x ≡ true)) → bit (odd x) ≡ x % 2
    go (inl h) = rw (h.1, h.0)
    go (inr h) = rw (h.1, h.0)

-- the code with these two bits
code_bits : (x z : Bool) → letter_code (letter_of x z) ≡ bit x + 2 * bit z
code_bits false false = refl
code_bits false true = refl
code_bits true false = refl
code_bits true true = refl

code_x : (a : Letter) → x_of (letter_code a) ≡ x_bit a
code_x I = refl
code_x X = refl
code_x Y = refl
code_x Z = refl

code_z : (a : Letter) → z_of (letter_code a) ≡ z_bit a
code_z I = refl
code_z X = refl
code_z Y = refl
code_z Z = refl

-- the X bits of a word, from its codes
pub codes_x : (w : Word) → map x_of (codes w) ≡ map x_bit w
codes_x [] = refl
codes_x (a ∷ w) = ap₂ ◌∷◌ (code_x a) (codes_x w)

-- and its Z bits
pub codes_z : (w : Word) → map z_of (codes w) ≡ map z_bit w
codes_z [] = refl
codes_z (a ∷ w) = ap₂ ◌∷◌ (code_z a) (codes_z w)

-- a word has as many codes as letters
pub codes-length : (w : Word) → length (codes w) ≡ length w
codes-length w = length-map w letter_code

-- the code at a site is that of its letter
pub codes_at : (w : Word) (q : ℕ) → get_or (codes w) q 0 ≡ letter_code (get_or w q I)
codes_at w q = get_or-map letter_code w q I

-- the first n places of room for every site
pub room : (n : ℕ) → n ≤ max_sites → length (take (n - 0) (replicate {A = ℕ} max_sites 0)) ≡ n
room n h = rw (sub-zero n) (length-take-le n (replicate {A = ℕ} max_sites 0) (rw (length-replicate {A = ℕ} max_sites 0) h))

-- ---- unpacked

-- the code of site q, from its two bits in an accepted word
pub site_code : {n : ℕ} {bytes : List ℕ} → AcceptedWord n bytes → (q : ℕ) → q < n
    → get_or bytes (q / 8) 0 / 2 ^ (q % 8) % 2 + 2 * (get_or bytes (plane_length + q / 8) 0 / 2 ^ (q % 8) % 2) ≡ get_or (codes (letters_in n bytes)) q 0
site_code {n} {bytes} ok q h =
    let xs : List ℕ = take plane_length bytes in
    let zs : List ℕ = drop plane_length bytes in
    let x : get_or xs (q / 8) 0 ≡ get_or bytes (q / 8) 0 = get_or-take plane_length bytes (q / 8) 0 (omega (arith, ok.sites)) in
    let z : get_or zs (q / 8) 0 ≡ get_or bytes (plane_length + q / 8) 0 = get_or-drop plane_length bytes (q / 8) 0 in
    rw (sym x, sym z, sym (digit (get_or xs (q / 8) 0 / 2 ^ (q % 8))), sym (digit (get_or zs (q / 8) 0 / 2 ^ (q % 8))))
    (sym (code_bits (odd (get_or xs (q / 8) 0 / 2 ^ (q % 8))) (odd (get_or zs (q / 8) 0 / 2 ^ (q % 8))))
    ∙ ap letter_code (letter_at ok q h _ _ (sym (plane_bits-at xs q)) (sym (plane_bits-at zs q)))
    ∙ sym (codes_at (letters_in n bytes) q))

-- ---- moved

-- the first q codes stand at their targets
abbrev pub Moved : List ℕ → List ℕ → ℕ → List ℕ → Type 0
Moved perm from q to = (j : ℕ) → j < q → get_or to (target perm j) 0 ≡ get_or from j 0

module _ {n : ℕ} {perm : List ℕ} (permutes : Permutes n perm) (from to : List ℕ) (long : length to ≡ n) (q : ℕ) where
  -- one code more
  pub moved-next : q < n → Moved perm from q to → Moved perm from (q + 1) (set to (target perm q) (get_or from q 0))
  moved-next h before j k = go (dec_lt j q)
    where
      go : Dec (j < q) → get_or (set to (target perm q) (get_or from q 0)) (target perm j) 0 ≡ get_or from j 0
      go (yes l) =
          get_or-set_other to (target perm q) (target perm j) (get_or from q 0) 0
          (λ e. let s : j ≡ q = permutes.apart j q (omega arith) h e in omega arith)
          ∙ before j l
      go (no l) =
          let s : j ≡ q = omega arith in
          rw s (get_or-set_same to (target perm q) (get_or from q 0) 0 (rw long (permutes.inside q h)))

  -- after the last they are the codes of the word, moved
  pub moved_all : n ≤ q → Moved perm from q to → length from ≡ n → (w : Word) → from ≡ codes w → to ≡ codes (move perm w)
  moved_all h all full w e = ext_get_or 0 to (codes (move perm w)) (long ∙ sym (codes-length (move perm w) ∙ move-length perm w ∙ wide)) same
    where
      wide : length w ≡ n
      wide = sym (codes-length w) ∙ ap length (sym e) ∙ full

      same : (r : ℕ) → r < length to → get_or to r 0 ≡ get_or (codes (move perm w)) r 0
      same r l =
          let (p, k, t) = source permutes r (rw long at l) in
          ap (λ (i : ℕ). get_or to i 0) (sym t)
          ∙ all p (omega arith)
          ∙ ap (λ (cs : List ℕ). get_or cs p 0) e
          ∙ codes_at w p
          ∙ ap letter_code (sym (move_at permutes w wide p k) ∙ ap (λ (i : ℕ). get_or (move perm w) i I) t)
          ∙ sym (codes_at (move perm w) r)

-- ---- packed

-- the byte of the digits from k on, and the digit before them
module _ (d : ℕ → ℕ) (l : List ℕ) (k x : ℕ) (e : x ≡ number (map (λ c. odd (d c)) (drop k l))) (h : 0 < k) where
  pub digit-before : k ≤ length l → d (get_or l (k - 1) 0) % 2 + 2 * x ≡ number (map (λ c. odd (d c)) (drop (k - 1) l))
  unfolding number
  digit-before m =
      let s : suc (k - 1) ≡ k = omega arith in
      let cut : drop (k - 1) l ≡ get_or l (k - 1) 0 ∷ drop k l =
      drop-cons l (k - 1) 0 (omega arith) ∙ ap (λ (i : ℕ). get_or l (k - 1) 0 ∷ drop i l) s in
      sym (ap (λ (t : List ℕ). number (map (λ c. odd (d c)) t)) cut ∙ ap₂ (λ (b y : ℕ). b + 2 * y) (digit (d (get_or l (k - 1) 0))) (sym e))

  -- of less than eight, so that one more fits a byte
  pub digit-fits : length l ≤ 8 → 2 * x + 2 ≤ byte_values
  digit-fits m =
      let bs : List Bool = map (λ c. odd (d c)) (drop k l) in
      let short : length bs ≤ 7 = omega (arith, length-map (drop k l) (λ c. odd (d c)), length-drop k l) in
      let b : number bs < 2 ^ 7 = lt_of_lt_of_le (number-below bs) (pow_mono short) in
      omega arith

set_append_right : {A : Type 0} (xs ys : List A) (i : ℕ) (a : A) → set (xs ++ ys) (length xs + i) a ≡ xs ++ set ys i a
set_append_right [] ys i a = ap (λ (k : ℕ). set ys k a) (zero-add i)
set_append_right (x ∷ xs) ys i a =
    ap (λ (k : ℕ). set (x ∷ xs ++ ys) k a) (suc-add (length xs) i) ∙ ap (λ t. x ∷ t) (set_append_right xs ys i a)

-- a plane of whole bytes, one byte more
plane_next : (m j : ℕ) (bs cs : List Bool) → length bs ≡ 8 * j → j < m → length cs ≤ 8 → set (plane_of m bs) j (number cs) ≡ plane_of m (bs ++ cs)
unfolding plane_of
plane_next zero j bs cs e h l = absurd (not-suc-le-zero h)
plane_next (suc m) zero [] cs e h l = rw (take_all 8 cs l, drop_of_length-le cs l)
plane_next (suc m) zero (b ∷ bs) cs e h l = absurd (suc-ne-zero (length bs) e)
plane_next (suc m) (suc j) bs cs e h l =
    rw (take-append-le 8 bs cs (omega arith), drop-append-le 8 bs cs (omega arith))
    (ap (λ (t : List ℕ). number (take 8 bs) ∷ t) (plane_next m j (drop 8 bs) cs (omega (arith, length-drop 8 bs)) (le_of_suc-le-suc h) l))

-- the planes of codes
abbrev pub planes_of : List ℕ → List ℕ
planes_of l = plane_of plane_length (map x_of l) ++ plane_of plane_length (map z_of l)

module _ (l : List ℕ) (j start end : ℕ) (whole : start ≡ 8 * j) (inside : end ≤ length l) (later : start ≤ end) (few : end ≤ start + 8) (small : j < plane_length) where
  bits-next : (f : ℕ → Bool) → set (plane_of plane_length (map f (take start l))) j (number (map f (take (end - start) (drop start l)))) ≡ plane_of plane_length (map f (take end l))
  bits-next f =
      let front : List ℕ = take start l in
      let part : List ℕ = take (end - start) (drop start l) in
      let long : length (map f front) ≡ 8 * j = length-map front f ∙ length-take-le start l (omega arith) ∙ whole in
      let short : length (map f part) ≤ 8 = omega (arith, length-map part f, length-take (end - start) (drop start l)) in
      let all : start + (end - start) ≡ end = omega arith in
      plane_next plane_length j (map f front) (map f part) long small short
      ∙ ap (plane_of plane_length)
      (sym (map-append f front part) ∙ ap (map f) (sym (take-add start (end - start) l) ∙ ap (λ (i : ℕ). take i l) all))

  -- one byte of each plane more
  pub planes-next : set (set (planes_of (take start l)) j (number (map x_of (take (end - start) (drop start l))))) (plane_length + j) (number (map z_of (take (end - start) (drop start l)))) ≡ planes_of (take end l)
  planes-next =
      let part : List ℕ = take (end - start) (drop start l) in
      let xs : List ℕ = plane_of plane_length (map x_of (take start l)) in
      let zs : List ℕ = plane_of plane_length (map z_of (take start l)) in
      let x : ℕ = number (map x_of part) in
      let z : ℕ = number (map z_of part) in
      let long : length xs ≡ plane_length = plane_of-length plane_length (map x_of (take start l)) in
      ap (λ (t : List ℕ). set t (plane_length + j) z) (set-append_left xs zs j x (rw long small))
      ∙ ap (λ (k : ℕ). set (set xs j x ++ zs) (k + j) z) (sym (length-set xs j x ∙ long))
      ∙ set_append_right (set xs j x) zs j z
      ∙ ap₂ ◌++◌ (bits-next x_of) (bits-next z_of)

-- all codes
pub planes_end : (l : List ℕ) (k : ℕ) → length l ≤ k → (w : Word) → l ≡ codes w → planes_of (take k l) ≡ bytes_of w
unfolding encode
planes_end l k h w e = ap planes_of (take_all k l h ∙ e) ∙ ap₂ (λ (xs zs : List Bool). plane_of plane_length xs ++ plane_of plane_length zs) (codes_x w) (codes_z w)
