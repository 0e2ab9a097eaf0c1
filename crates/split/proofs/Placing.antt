-- Codes at the places of a table: those that are taken out are the codes of the word read by the table, and those that are put back stand where the table says,
-- while the others stay.
use Prim.Native.Nat.{ℕ, zero, suc, ◌+◌, ◌≤◌, ◌<◌}
use mathlib.Core.Path.{◌≡◌, refl, sym, ap, ◌∙◌}
use mathlib.Core.Logic.{◌⊎◌, inl, inr}
use mathlib.Core.List.{List}
use native.Mathlib.Nat.{not-suc-le-zero}
use native.Mathlib.Decide.{dec_lt, ℕ_discrete}
use native.Mathlib.Omega.{arith}
use borrow.Author.Count.{below_more}
use lib.ListN.{length, get_or, set}
use lib.Seq.{ext_get_or, get_or-set_same, get_or-set_other}
use Rattle.pauli_word.specs.Word.{I, Word}
use Rattle.elements.specs.Letters.{letter_code, codes}
use Rattle.elements.proofs.Codes.{codes_at, codes-length}
use Rattle.parts.specs.Numbered.{read_by}
use Rattle.parts.proofs.Carried.{read_by_at, read_by_length}

-- ---- taken out

-- the first a places hold what stands in a list at the places of a function
abbrev pub Taken : (ℕ → ℕ) → ℕ → List ℕ → Type 0
Taken f a out = (b : ℕ) → b < a → get_or out b 0 ≡ f b

pub taken_next : (f : ℕ → ℕ) (a : ℕ) (out : List ℕ) → a < length out → Taken f a out → Taken f (a + 1) (set out a (f a))
taken_next f a out h before =
    below_more (λ b. get_or (set out a (f a)) b 0 ≡ f b) a
    (λ b l. get_or-set_other out a b (f a) 0 (λ e. omega arith) ∙ before b l)
    (get_or-set_same out a (f a) 0 h)

pub taken_all : (from : List ℕ) (site : ℕ → ℕ) (m a : ℕ) (out : List ℕ) → length out ≡ m → m ≤ a → Taken (λ b. get_or from (site b) 0) a out
    → (w : Word) → from ≡ codes w → out ≡ codes (read_by m site w)
taken_all from site m a out long h all w e =
    ext_get_or 0 out (codes (read_by m site w)) (long ∙ sym (codes-length (read_by m site w) ∙ read_by_length m site w))
    (λ b l. let k : b < m = rw long at l in
    all b (omega arith)
    ∙ ap (λ (cs : List ℕ). get_or cs (site b) 0) e
    ∙ codes_at w (site b)
    ∙ ap letter_code (sym (read_by_at m site w b k))
    ∙ sym (codes_at (read_by m site w) b))

-- ---- put back

-- of a list as it was, the first a codes stand at their places, and every other place has what it had
pub record PutBack (part : List ℕ) (site : ℕ → ℕ) (was : List ℕ) (a : ℕ) (now : List ℕ) : Type 0 where
  pub there : (b : ℕ) → b < a → get_or now (site b) 0 ≡ get_or part b 0
  pub kept : (q : ℕ) → ((b : ℕ) → b < a → site b ≡ q → ⊥) → get_or now q 0 ≡ get_or was q 0

module _ (part : List ℕ) (site : ℕ → ℕ) (was : List ℕ) where
  pub put-none : PutBack part site was 0 was
  put-none = record { there = λ b h. absurd (not-suc-le-zero h); kept = λ q h. refl }

  -- one code more
  pub put_next : (a : ℕ) (now : List ℕ) → ((b : ℕ) → b < a → site b ≡ site a → ⊥) → site a < length now → PutBack part site was a now
      → PutBack part site was (a + 1) (set now (site a) (get_or part a 0))
  put_next a now apart h p = record { there = there; kept = kept }
    where
      there : (b : ℕ) → b < a + 1 → get_or (set now (site a) (get_or part a 0)) (site b) 0 ≡ get_or part b 0
      there =
          below_more (λ b. get_or (set now (site a) (get_or part a 0)) (site b) 0 ≡ get_or part b 0) a
          (λ b l. get_or-set_other now (site a) (site b) (get_or part a 0) 0 (apart b l) ∙ p.there b l)
          (get_or-set_same now (site a) (get_or part a 0) 0 h)

      kept : (q : ℕ) → ((b : ℕ) → b < a + 1 → site b ≡ q → ⊥) → get_or (set now (site a) (get_or part a 0)) q 0 ≡ get_or was q 0
      kept q free =
          get_or-set_other now (site a) q (get_or part a 0) 0 (λ e. free a (omega arith) (sym e))
          ∙ p.kept q (λ b k. free b (omega arith))

-- a place is that of a number, or of none
find : (site : ℕ → ℕ) (q m : ℕ) → ((a : ℕ) × (a < m) × (site a ≡ q)) ⊎ ((a : ℕ) → a < m → site a ≡ q → ⊥)
find site q zero = inr (λ a h. absurd (not-suc-le-zero h))
find site q (suc m) = go (ℕ_discrete (site m) q) (find site q m)
  where
    go : Dec (site m ≡ q) → ((a : ℕ) × (a < m) × (site a ≡ q)) ⊎ ((a : ℕ) → a < m → site a ≡ q → ⊥)
        → ((a : ℕ) × (a < suc m) × (site a ≡ q)) ⊎ ((a : ℕ) → a < suc m → site a ≡ q → ⊥)
    go (yes e) r = inl (m, omega arith, e)
    go (no n) (inl (a, h, e)) = inl (a, omega arith, e)
    go (no n) (inr none) = inr (λ a h e. at a h e (dec_lt a m))
      where
        at : (a : ℕ) → a < suc m → site a ≡ q → Dec (a < m) → ⊥
        at a h e (yes l) = none a l e
        at a h e (no l) = let s : a ≡ m = omega arith in n (sym (ap site s) ∙ e)

-- after the last they are the codes of the word with these letters
pub put_all : (part : List ℕ) (site : ℕ → ℕ) (was : List ℕ) (a : ℕ) (now : List ℕ) → PutBack part site was a now → a ≡ length part → length now ≡ length was
    → (u v w : Word) → part ≡ codes u → was ≡ codes v → length w ≡ length v
    → ((b : ℕ) → b < length u → get_or w (site b) I ≡ get_or u b I)
    → ((q : ℕ) → q < length v → ((b : ℕ) → b < length u → site b ≡ q → ⊥) → get_or w q I ≡ get_or v q I)
    → now ≡ codes w
put_all part site was a now p full same u v w eu ev lw own others =
    ext_get_or 0 now (codes w) (long ∙ sym lw ∙ sym (codes-length w)) (λ q l. at q (rw long at l) (find site q (length u)))
  where
    long : length now ≡ length v
    long = same ∙ ap length ev ∙ codes-length v

    end : length u ≡ a
    end = sym (codes-length u) ∙ ap length (sym eu) ∙ sym full

    at : (q : ℕ) → q < length v → ((b : ℕ) × (b < length u) × (site b ≡ q)) ⊎ ((b : ℕ) → b < length u → site b ≡ q → ⊥) → get_or now q 0 ≡ get_or (codes w) q 0
    at q l (inl (b, h, e)) =
        rw (← e)
        (p.there b (omega (arith, end))
        ∙ ap (λ (cs : List ℕ). get_or cs b 0) eu
        ∙ codes_at u b
        ∙ ap letter_code (sym (own b h))
        ∙ sym (codes_at w (site b)))
    at q l (inr none) =
        p.kept q (λ b h. none b (omega (arith, end)))
        ∙ ap (λ (cs : List ℕ). get_or cs q 0) ev
        ∙ codes_at v q
        ∙ ap letter_code (sym (others q l none))
        ∙ sym (codes_at w q)
