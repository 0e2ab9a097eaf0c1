-- Sites under the numbers of a table: an index moves numbers as on a grid, so candidate k has at a site the letter of the site whose number is k further on.
use Prim.Native.Nat.{ℕ, ◌+◌, ◌-◌, ◌<◌}
use mathlib.Core.Path.{◌≡◌, sym, ap, ap₂, ◌∙◌}
use mathlib.Core.Bool.{Bool, true, false, false≢true}
use mathlib.Core.List.{List}
use native.Mathlib.Nat.{zero-add, add-sub_cancel_left}
use native.Mathlib.Decide.{dec_lt}
use native.Mathlib.Omega.{arith}
use borrow.Author.Tests.{lt-ltb, le-ltb}
use lib.ListN.{length, get_or}
use Rattle.pauli_word.specs.Word.{I, Word, x_bit, z_bit, letter_of}
use Rattle.pauli_word.proofs.Words.{x_bit-letter_of, z_bit-letter_of}
use Rattle.action.specs.Permutation.{Generator, Valid}
use Rattle.action.specs.Index.{inverse}
use Rattle.action.specs.Orbit.{reach}
use Rattle.action.proofs.Reach.{reach-length}
use Rattle.packed.specs.Packed.{bit_of, letters_by, letters_at}
use Rattle.packed.proofs.Packing.{letters_by-at, letters_by-length, letters_by_of}
use Rattle.parts.specs.Numbered.{Numbering, read_by}
use Rattle.parts.proofs.Carried.{read_by_length, read_by_at, reach-carried, valid-carried}
use Rattle.grid.specs.Grid.{Grid, further}
use Rattle.grid.specs.Candidates.{candidate}
use Rattle.grid.proofs.Numbers.{further-inside, candidate-at}
use Rattle.renumbered.specs.Renumbered.{at, grid_of, Renumbered}
use Rattle.renumbered.proofs.ByBits.{bits_of}
use Rattle.renumbered.proofs.Orders.{orders_of, shifts-long, grid-inverse, grid-further, grid-grid, grid-some}

module _ {n : ℕ} {gs : List Generator} (v : Valid n gs) {site place : List ℕ} (r : Renumbered n gs site place) where
  -- each number stands for a site, and no two for the same
  pub numbering : Numbering n n (at site)
  numbering = record { inside = r.site_inside; apart = λ a b h k e. sym (r.placed a h) ∙ ap (at place) e ∙ r.placed b k }

  -- the generators of the numbers are valid, and a grid
  pub grid-valid : Valid n (grid_of n gs)
  grid-valid = go (dec_lt 0 n)
    where
      go : Dec (0 < n) → Valid n (grid_of n gs)
      go (yes some) = grid-some n gs some r.whole
      go (no none) =
          valid-carried numbering (λ q. true) (λ q h t. (at place q, r.place_inside q h, r.sited q h)) gs (grid_of n gs) v r.carried
          (λ h m. (shifts-long n 1 (orders_of gs) h m, λ a l. absurd (omega arith)))
          (λ g m q l e. absurd (false≢true e))

  pub is-grid : Grid n (grid_of n gs)
  is-grid = grid-grid n gs r.whole

  -- further on from a number is a number
  pub number-inside : (k a : ℕ) → a < n → further gs k a < n
  number-inside k a h = rw (grid-further n gs k a) at (further-inside grid-valid is-grid k a h)

  module _ (w : Word) (long : length w ≡ n) where
    -- what an index makes of a word it makes of the word read by numbers
    pub reach-read : (i : ℕ) → reach (grid_of n gs) i (read_by n (at site) w) ≡ read_by n (at site) (reach gs i w)
    reach-read i = reach-carried numbering gs (grid_of n gs) v grid-valid r.carried i w long

    -- candidate k has at a site the letter that the word has at the site whose number is k further on
    pub candidate-site : (k q : ℕ) → q < n → get_or (candidate gs w k) q I ≡ get_or w (at site (further gs k (at place q))) I
    candidate-site k q h =
        let a : ℕ = at place q in
        let l : a < n = r.place_inside q h in
        let u : Word = read_by n (at site) w in
        ap (λ (p : ℕ). get_or (candidate gs w k) p I) (sym (r.sited q h))
        ∙ sym (read_by_at n (at site) (candidate gs w k) a l)
        ∙ ap (λ (x : Word). get_or x a I) (sym (reach-read (inverse gs k)))
        ∙ ap (λ (i : ℕ). get_or (reach (grid_of n gs) i u) a I) (sym (grid-inverse n gs k))
        ∙ candidate-at grid-valid is-grid k a u (read_by_length n (at site) w) l
        ∙ ap (λ (p : ℕ). get_or u p I) (grid-further n gs k a)
        ∙ read_by_at n (at site) w (further gs k a) (number-inside k a l)

  -- ---- words by the bits of their sites

  module _ (f g : ℕ → Bool) where
    -- so its bits are those of that site
    given-letter : (k q : ℕ) → q < n
        → get_or (candidate gs (letters_by n f g) k) q I ≡ letter_of (f (at site (further gs k (at place q)))) (g (at site (further gs k (at place q))))
    given-letter k q h =
        candidate-site (letters_by n f g) (letters_by-length n f g) k q h
        ∙ letters_by-at n f g (at site (further gs k (at place q))) (r.site_inside (further gs k (at place q)) (number-inside k (at place q) (r.place_inside q h)))

    -- the first n bits of the candidates are those of the X plane read through the table
    pub reads_x : (order : ℕ) (xs : List ℕ) → ((a : ℕ) → a < n → bit_of xs a ≡ f (at site a))
        → (q k : ℕ) → q < n → k < order → bits_of n gs (letters_by n f g) k (0 + q) ≡ bit_of xs (further gs k (at place q))
    reads_x order xs same q k h m =
        let l = number-inside k (at place q) (r.place_inside q h) in
        ap (bits_of n gs (letters_by n f g) k) (zero-add q)
        ∙ rw (lt-ltb q n h) (ap x_bit (given-letter k q h) ∙ x_bit-letter_of (f (at site (further gs k (at place q)))) (g (at site (further gs k (at place q)))) ∙ sym (same (further gs k (at place q)) l))

    -- the next n are those of the Z plane
    pub reads_z : (order : ℕ) (zs : List ℕ) → ((a : ℕ) → a < n → bit_of zs a ≡ g (at site a))
        → (q k : ℕ) → q < n → k < order → bits_of n gs (letters_by n f g) k (0 + n + q) ≡ bit_of zs (further gs k (at place q))
    reads_z order zs same q k h m =
        let l = number-inside k (at place q) (r.place_inside q h) in
        let e : 0 + n + q ≡ n + q = omega arith in
        ap (bits_of n gs (letters_by n f g) k) e
        ∙ rw (le-ltb (n + q) n (omega arith), add-sub_cancel_left n q)
        (ap z_bit (given-letter k q h) ∙ z_bit-letter_of (f (at site (further gs k (at place q)))) (g (at site (further gs k (at place q)))) ∙ sym (same (further gs k (at place q)) l))

    -- planes that are read through the table hold the word read by numbers
    read_letters : (us vs : List ℕ) → ((a : ℕ) → a < n → bit_of us a ≡ f (at site a)) → ((a : ℕ) → a < n → bit_of vs a ≡ g (at site a))
        → letters_at n us vs ≡ read_by n (at site) (letters_by n f g)
    read_letters us vs x z =
        sym (letters_by_of n (bit_of us) (bit_of vs) (read_by n (at site) (letters_by n f g)) (read_by_length n (at site) (letters_by n f g))
        (λ a h. read_by_at n (at site) (letters_by n f g) a h ∙ letters_by-at n f g (at site a) (r.site_inside a h) ∙ sym (ap₂ letter_of (x a h) (z a h))))

    -- what an index makes of them, read back through the table
    pub reach-back : (i : ℕ) (us vs us' vs' xs zs : List ℕ)
        → ((a : ℕ) → a < n → bit_of us a ≡ f (at site a)) → ((a : ℕ) → a < n → bit_of vs a ≡ g (at site a))
        → letters_at n us' vs' ≡ reach (grid_of n gs) i (letters_at n us vs)
        → ((q : ℕ) → q < n → bit_of xs q ≡ bit_of us' (at place q)) → ((q : ℕ) → q < n → bit_of zs q ≡ bit_of vs' (at place q))
        → letters_at n xs zs ≡ reach gs i (letters_by n f g)
    reach-back i us vs us' vs' xs zs x z moved back-x back-z =
        sym (letters_by_of n (bit_of xs) (bit_of zs) (reach gs i w) (reach-length gs i w ∙ letters_by-length n f g) letter)
      where
        w : Word
        w = letters_by n f g

        all : letters_at n us' vs' ≡ read_by n (at site) (reach gs i w)
        all = moved ∙ ap (reach (grid_of n gs) i) (read_letters us vs x z) ∙ reach-read w (letters_by-length n f g) i

        letter : (q : ℕ) → q < n → get_or (reach gs i w) q I ≡ letter_of (bit_of xs q) (bit_of zs q)
        letter q h =
            let a : ℕ = at place q in
            let l : a < n = r.place_inside q h in
            ap (λ (p : ℕ). get_or (reach gs i w) p I) (sym (r.sited q h))
            ∙ sym (read_by_at n (at site) (reach gs i w) a l)
            ∙ ap (λ (y : Word). get_or y a I) (sym all)
            ∙ letters_by-at n (bit_of us') (bit_of vs') a l
            ∙ sym (ap₂ letter_of (back-x q h) (back-z q h))
