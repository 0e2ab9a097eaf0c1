-- The rules of a phase table of any origin: tests that compute, and what they mean at each entry. Entry j of a table stands for the phase of
-- j steps, its cosine and its sine in units of 2^-30; a turn has 720 steps.
use Rattle.std.specs.Prelude.{ℕ, zero, suc, ◌+◌, ◌*◌, ◌^◌, ◌%◌, ◌≤◌, ◌<◌, ◌≡◌, Bool, true, false, ◌&&◌, List, eqb, leb, ℤ, pos, negsuc, neg_ℤ, nat_abs, ◌+ℤ◌, ◌-ℤ◌, ◌*ℤ◌, get_or, ◌<ℤ◌}
use Rattle.std.specs.Int.Signed.{lt_z}
use Rattle.phases.specs.declared.PhaseTable.{PhaseTable}

-- the steps of a turn
abbrev pub turn : ℕ
turn = 720

-- the steps of a quarter turn
abbrev pub quarter : ℕ
quarter = 180

-- the number that stands for 1
abbrev pub unit : ℕ
unit = 2 ^ 30

-- how far products may be off, in units of 2^-60
abbrev pub slack : ℕ
slack = 2 ^ 31

-- the size of a whole number, without its sign
abbrev pub magnitude : ℤ → ℕ
magnitude = nat_abs

-- the table of two lists
abbrev pub table_of : List ℤ → List ℤ → PhaseTable
table_of cs ss = record { cosines = cs; sines = ss }

-- the cosine of entry j
unfoldable pub cosine : PhaseTable → ℕ → ℤ
cosine t j = get_or t.cosines j (pos 0)

-- the sine of entry j
unfoldable pub sine : PhaseTable → ℕ → ℤ
sine t j = get_or t.sines j (pos 0)

-- the entry a quarter turn after entry j
abbrev pub turned : ℕ → ℕ
turned j = (j + quarter) % turn

-- the cosine and the sine of entry j turned by a quarter: (c, s) becomes (-s, c)
abbrev pub cosine_turned : PhaseTable → ℕ → ℤ
cosine_turned t j = neg_ℤ (sine t j)

abbrev pub sine_turned : PhaseTable → ℕ → ℤ
sine_turned t j = cosine t j

-- the entry after entry j, which after the last is entry 0
abbrev pub next : ℕ → ℕ
next j = (j + 1) % turn

-- the cosine of entry j times entry 1, as complex numbers
abbrev pub product_cosine : PhaseTable → ℕ → ℤ
product_cosine t j = cosine t j *ℤ cosine t 1 -ℤ sine t j *ℤ sine t 1

-- the sine of entry j times entry 1, as complex numbers
abbrev pub product_sine : PhaseTable → ℕ → ℤ
product_sine t j = cosine t j *ℤ sine t 1 +ℤ sine t j *ℤ cosine t 1

-- the squared length of entry j
abbrev pub squared_length : PhaseTable → ℕ → ℤ
squared_length t j = cosine t j *ℤ cosine t j +ℤ sine t j *ℤ sine t j

-- z lies in -bound .. bound
abbrev pub InRange : ℕ → ℤ → Type 0
InRange bound z = magnitude z ≤ bound

-- a and b differ by at most d
abbrev pub Near : ℕ → ℤ → ℤ → Type 0
Near d a b = InRange d (a -ℤ b)

-- every number of a table lies in -unit .. unit
pub record PhaseRange (t : PhaseTable) : Type 0 where
  pub cosines : (j : ℕ) → j < turn → InRange unit (cosine t j)
  pub sines : (j : ℕ) → j < turn → InRange unit (sine t j)

-- the rules of a table
pub record PhaseRules (t : PhaseTable) : Type 0 where
  -- entry 0 is 1
  pub first_cosine : cosine t 0 ≡ pos unit
  pub first_sine : sine t 0 ≡ pos 0
  -- the entry a quarter turn on is the entry turned
  pub turned_cosine : (j : ℕ) → j < turn → cosine t (turned j) ≡ cosine_turned t j
  pub turned_sine : (j : ℕ) → j < turn → sine t (turned j) ≡ sine_turned t j
  -- in the first quarter the cosine falls and the sine rises
  pub falls : (j : ℕ) → j < quarter → cosine t (suc j) <ℤ cosine t j
  pub rises : (j : ℕ) → j < quarter → sine t j <ℤ sine t (suc j)
  -- each entry times entry 1 is the next one
  pub product_cosines : (j : ℕ) → j < turn → Near slack (product_cosine t j) (pos unit *ℤ cosine t (next j))
  pub product_sines : (j : ℕ) → j < turn → Near slack (product_sine t j) (pos unit *ℤ sine t (next j))
  -- each entry has length 1
  pub norm : (j : ℕ) → j < turn → Near slack (squared_length t j) (pos (unit * unit))

-- whether a test passes at every number below n
unfoldable pub each_below : (ℕ → Bool) → ℕ → Bool
each_below p zero = true
each_below p (suc n) = p n && each_below p n

-- whether two whole numbers are the same
unfoldable pub same_integer : ℤ → ℤ → Bool
same_integer (pos a) (pos b) = eqb a b
same_integer (pos a) (negsuc b) = false
same_integer (negsuc a) (pos b) = false
same_integer (negsuc a) (negsuc b) = eqb a b

-- whether z lies in -bound .. bound
abbrev pub in_range : ℕ → ℤ → Bool
in_range bound z = leb (magnitude z) bound

-- whether a and b differ by at most d
abbrev pub near : ℕ → ℤ → ℤ → Bool
near d a b = in_range d (a -ℤ b)

-- whether the numbers of entry j lie in -unit .. unit
abbrev pub entry_in_range : PhaseTable → ℕ → Bool
entry_in_range t j = in_range unit (cosine t j) && in_range unit (sine t j)

-- whether entry 0 is (unit, 0)
abbrev pub first_right : PhaseTable → Bool
first_right t = same_integer (cosine t 0) (pos unit) && same_integer (sine t 0) (pos 0)

-- whether the entry a quarter turn after entry j is entry j turned
abbrev pub turned_right : PhaseTable → ℕ → Bool
turned_right t j = same_integer (cosine t (turned j)) (cosine_turned t j) && same_integer (sine t (turned j)) (sine_turned t j)

-- whether from entry j to the next the cosine falls and the sine rises
abbrev pub order_right : PhaseTable → ℕ → Bool
order_right t j = lt_z (cosine t (suc j)) (cosine t j) && lt_z (sine t j) (sine t (suc j))

-- whether entry j times entry 1 is near unit times the next entry
abbrev pub product_right : PhaseTable → ℕ → Bool
product_right t j =
    near slack (product_cosine t j) (pos unit *ℤ cosine t (next j)) && near slack (product_sine t j) (pos unit *ℤ sine t (next j))

-- whether the squared length of entry j is near unit squared
abbrev pub norm_right : PhaseTable → ℕ → Bool
norm_right t j = near slack (squared_length t j) (pos (unit * unit))

-- whether every number of a table lies in -unit .. unit
unfoldable pub range_test : PhaseTable → Bool
range_test t = each_below (entry_in_range t) turn

-- whether a table has the rules
unfoldable pub rules_test : PhaseTable → Bool
rules_test t =
    first_right t
    && each_below (turned_right t) turn
    && each_below (order_right t) quarter
    && each_below (product_right t) turn
    && each_below (norm_right t) turn

-- whether a table passes: its range first, and then its rules
unfoldable pub passes : PhaseTable → Bool
passes t = range_test t && rules_test t
