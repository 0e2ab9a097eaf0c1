-- The list of the places where an entry stands, one place after the other: a place that has another value changes nothing, and one that has it is the last of
-- the list (`listed_next`).
use Prim.Native.Nat.{ℕ, ◌+◌, ◌<◌}
use mathlib.Core.Path.{◌≡◌, ap, ◌∙◌}
use native.Mathlib.Nat.{not-suc-le-zero}
use mathlib.Core.List.{List}
use native.Mathlib.Omega.{arith}
use borrow.Author.Count.{below_more}
use lib.ListN.{length, get_or, set}
use lib.Seq.{get_or-set_same, get_or-set_other}
use Rattle.split.specs.Places.{Listed}

-- the list and the numbers as they are stored
abbrev pub ListedIn : ℕ → ℕ → List ℕ → ℕ → List ℕ → List ℕ → Type 0
ListedIn n m entries value table number = Listed n m (λ q. get_or entries q 0) value (λ a. get_or table a 0) (λ q. get_or number q 0)

pub listed_none : (entries : List ℕ) (value : ℕ) (table number : List ℕ) → ListedIn 0 0 entries value table number
listed_none entries value table number = record {
  few = omega arith;
  inside = λ a h. absurd (not-suc-le-zero h);
  own = λ a h. absurd (not-suc-le-zero h);
  numbered = λ a h. absurd (not-suc-le-zero h);
  small = λ q h e. absurd (not-suc-le-zero h);
  listed = λ q h e. absurd (not-suc-le-zero h);
  rising = λ a b h k. absurd (not-suc-le-zero k);
}

module _ {q m : ℕ} (entries : List ℕ) {value : ℕ} (table number : List ℕ) (l : ListedIn q m entries value table number) where
  pub listed-skip : (get_or entries q 0 ≡ value → ⊥) → ListedIn (q + 1) m entries value table number
  listed-skip other = record {
    few = omega (arith, l.few);
    inside = λ a h. omega (arith, l.inside a h);
    own = l.own;
    numbered = l.numbered;
    small = below_more (λ r. get_or entries r 0 ≡ value → get_or number r 0 < m) q l.small (λ e. absurd (other e));
    listed = below_more (λ r. get_or entries r 0 ≡ value → get_or table (get_or number r 0) 0 ≡ r) q l.listed (λ e. absurd (other e));
    rising = l.rising;
  }

  -- one place more, number m
  module _ (here : get_or entries q 0 ≡ value) (room : m < length table) (wide : q < length number) where
    abbrev table' : List ℕ
    table' = set table m q

    abbrev number' : List ℕ
    number' = set number q m

    table-new : get_or table' m 0 ≡ q
    table-new = get_or-set_same table m q 0 room

    table-old : (a : ℕ) → a < m → get_or table' a 0 ≡ get_or table a 0
    table-old a h = get_or-set_other table m a q 0 (λ e. omega arith)

    number-new : get_or number' q 0 ≡ m
    number-new = get_or-set_same number q m 0 wide

    number-old : (r : ℕ) → r < q → get_or number' r 0 ≡ get_or number r 0
    number-old r h = get_or-set_other number q r m 0 (λ e. omega arith)

    pub listed_next : ListedIn (q + 1) (m + 1) entries value (set table m q) (set number q m)
    listed_next = record {
      few = omega (arith, l.few);
      inside = below_more (λ a. get_or table' a 0 < q + 1) m (λ a h. omega (arith, table-old a h, l.inside a h)) (omega (arith, table-new));
      own = below_more (λ a. get_or entries (get_or table' a 0) 0 ≡ value) m
          (λ a h. ap (λ (i : ℕ). get_or entries i 0) (table-old a h) ∙ l.own a h) (ap (λ (i : ℕ). get_or entries i 0) table-new ∙ here);
      numbered = below_more (λ a. get_or number' (get_or table' a 0) 0 ≡ a) m
          (λ a h. ap (λ (i : ℕ). get_or number' i 0) (table-old a h) ∙ number-old (get_or table a 0) (l.inside a h) ∙ l.numbered a h)
          (ap (λ (i : ℕ). get_or number' i 0) table-new ∙ number-new);
      small = below_more (λ r. get_or entries r 0 ≡ value → get_or number' r 0 < m + 1) q
          (λ r h e. omega (arith, number-old r h, l.small r h e)) (λ e. omega (arith, number-new));
      listed = below_more (λ r. get_or entries r 0 ≡ value → get_or table' (get_or number' r 0) 0 ≡ r) q
          (λ r h e. ap (λ (i : ℕ). get_or table' i 0) (number-old r h) ∙ table-old (get_or number r 0) (l.small r h e) ∙ l.listed r h e)
          (λ e. ap (λ (i : ℕ). get_or table' i 0) number-new ∙ table-new);
      rising = λ a b g h. below_more (λ c. a < c → get_or table' a 0 < get_or table' c 0) m
          (λ c k g. omega (arith, table-old a (omega arith), table-old c k, l.rising a c g k))
          (λ g. omega (arith, table-old a g, table-new, l.inside a g)) b h g;
    }
