-- What the rows of a sum hold, and the front of a list, as a call on rows takes it.
use Rattle.std.specs.Prelude.{ℕ, ◌-◌, ℤ, List, ◌++◌, length, take, replicate, Float}
use Rattle.case_text.specs.declared.rows.Rows.{Rows}

-- the bytes of the words, with what stands after the last of them
abbrev pub words_held : Rows → List ℕ
words_held rows = rows.words.items

-- the coefficients as floats, one a row
abbrev pub floats_held : Rows → List Float
floats_held rows = rows.floats.items

-- the coefficients as whole numbers, one a row
abbrev pub wholes_held : Rows → List ℤ
wholes_held rows = rows.wholes.items

-- the first n members; where there are fewer, all of them, and up to n then what stands for none
abbrev pub front : {T : Type 0} → T → ℕ → List T → List T
front none n list = take n list ++ replicate (n - length list) none
