-- Words made least part by part: what is made ready for a part, what one part does to a word, and where all words stand before a part.
use Rattle.std.specs.Prelude.{ℕ, suc, ◌+◌, ◌≤◌, ◌<◌, ◌≡◌, List, eqb, ltb, length, get_or}
use Rattle.pauli_word.specs.Word.{I, Word}
use Rattle.pauli_word.specs.Bytes.{letters_in, bytes_of}
use Rattle.action.specs.Permutation.{Generator}
use Rattle.action.specs.Index.{order_of}
use Rattle.action.specs.Orbit.{least, index_back}
use Rattle.elements.specs.HeldGroup.{generators_in, Tables}
use Rattle.packed.specs.Packed.{plane_words}
use Rattle.parts.specs.Labels.{chosen, spread}
use Rattle.parts.specs.Numbered.{read_by, Carried}
use Rattle.row_lists.specs.Rows.{row_at}
use Rattle.split.specs.Places.{Listed}
use Rattle.ways.specs.Ways.{Found, room_of}
use Rattle.parted.specs.declared.prepared.Part.{Part}

-- the site that number a stands for in a table
abbrev pub site_of : List ℕ → ℕ → ℕ
site_of table a = get_or table a 0

-- what is made ready for a part of the k generators gs on n sites: its generators and its sites are listed, and its tables hold, under the numbers of its
-- sites, a group that does what its generators do, with the order and the way of that group
pub record AtHand (k n : ℕ) (gs : List Generator) (labels owners : List ℕ) (part : ℕ) (table targets orders strides rests masks site place : List ℕ) (r : Part) : Type 0 where
  pub member : ℕ → ℕ
  pub rank : ℕ → ℕ
  pub number : ℕ → ℕ
  pub members : Listed k r.generators (λ g. get_or labels g 0) part member rank
  pub owned : Listed n r.sites (λ q. get_or owners q 0) (suc part) (site_of table) number
  pub tables : Tables r.generators r.sites targets orders
  pub carried : Carried r.sites (site_of table) (chosen (λ l. eqb l part) labels gs) (generators_in r.generators r.sites targets orders)
  pub order : r.order ≡ order_of (generators_in r.generators r.sites targets orders)
  pub found : Found r.way r.generators r.sites r.order targets orders strides rests masks site place
  pub room : room_of r.way ≤ plane_words

-- a word of n sites with the letters of u at the sites of m numbers, and those of w at the others
pub record Placed (n m : ℕ) (site : ℕ → ℕ) (u w y : Word) : Type 0 where
  pub long : length y ≡ n
  pub here : (a : ℕ) → a < m → get_or y (site a) I ≡ get_or u a I
  pub there : (q : ℕ) → q < n → ((a : ℕ) → a < m → site a ≡ q → ⊥) → get_or y q I ≡ get_or w q I

-- the bytes of a word once its letters at the sites of m numbers are the least that a group of these numbers makes of them
abbrev pub PartLeast : ℕ → ℕ → (ℕ → ℕ) → List Generator → Word → List ℕ → Type 0
PartLeast n m site hs w bytes = (y : Word) → Placed n m site (least hs (read_by m site w)) w y → bytes ≡ bytes_of y

-- what a part does to a row and to its index, where the row holds a word: the digits of the part's index back are put to the index
pub record Stepped (n m : ℕ) (site : ℕ → ℕ) (hs gs : List Generator) (labels : List ℕ) (part : ℕ) (row : List ℕ) (i : ℕ) (out : List ℕ) (o : ℕ) : Type 0 where
  pub index : o ≡ i + spread (λ l. eqb l part) labels gs (index_back hs (read_by m site (letters_in n row)))
  pub word : PartLeast n m site hs (letters_in n row) out

-- where a row and its index stand, of a word, before part p: the least word by the parts before, and their index back as one of the whole
pub record Stands (n : ℕ) (gs : List Generator) (labels : List ℕ) (p : ℕ) (w : Word) (row : List ℕ) (i : ℕ) : Type 0 where
  pub long : length w ≡ n
  pub word : row ≡ bytes_of (least (chosen (λ l. ltb l p) labels gs) w)
  pub index : i ≡ spread (λ l. ltb l p) labels gs (index_back (chosen (λ l. ltb l p) labels gs) w)

-- every row and its index, of words by the numbers of the rows
abbrev pub AllStand : ℕ → List Generator → List ℕ → ℕ → (ℕ → Word) → List ℕ → List ℕ → Type 0
AllStand n gs labels p words rows indices = (i : ℕ) → i < length indices → Stands n gs labels p (words i) (row_at rows i) (get_or indices i 0)
