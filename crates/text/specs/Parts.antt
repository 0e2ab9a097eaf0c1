-- What the functions of this crate come to.
use Rattle.std.specs.Prelude.{ℕ, ◌+◌, ◌-◌, ◌^◌, min, Bool, ◌&&◌, not, cond, List, [], eqb, ℤ, pos, negsuc, length, get_or, drop, Option, Some, None}
use Rattle.action.specs.Lists.{every}
use Rattle.text.specs.declared.read.Field.{Field}
use Rattle.text.specs.declared.read.Field.TheVariants as Field
use Rattle.text.specs.Text.{space, before, pieces, is_signed, signed_of, in_modes, is_mode}

-- the largest value that is told apart: a number above it is read as it
abbrev pub cap : ℕ
cap = 2 ^ 32

-- a number no further from 0 than the cap
abbrev pub clamped : ℤ → ℤ
clamped (pos n) = pos (min n cap)
clamped (negsuc n) = negsuc (min n (cap - 1))

-- a text read as a signed number
abbrev pub signed_read : List ℕ → Option ℤ
signed_read text = cond (is_signed text) (Some (clamped (signed_of text))) None

-- a number as a mode, if it is one
abbrev pub mode_in : ℤ → Option ℤ
mode_in z = cond (in_modes z) (Some z) None

-- a text read as a mode
abbrev pub mode_read : List ℕ → Option ℤ
mode_read text = cond (is_mode text) (Some (signed_of text)) None

-- the field of a line that begins at a place, by where it ends
abbrev pub field_from : List ℕ → ℕ → Field
field_from line start =
    let text = drop start line in
    let k = length (before space text) in
    cond (eqb k 0) Field.Empty (cond (eqb k (length text)) Field.Last (Field.Ends (start + k)))

-- four fields, none of them empty
unfoldable pub four_fields : List ℕ → Bool
unfolding pieces every
four_fields line = eqb (length (pieces space line)) 4 && every (λ f. not (eqb (length f) 0)) (pieces space line)

-- the length of field i
abbrev pub field_length : List ℕ → ℕ → ℕ
field_length line i = length (get_or (pieces space line) i [])

-- four fields by where the first three end
abbrev pub fields_read : List ℕ → Option (ℕ × ℕ × ℕ)
fields_read line =
    let a = field_length line 0 in
    let b = a + 1 + field_length line 1 in
    let c = b + 1 + field_length line 2 in
    cond (four_fields line) (Some (a, b, c)) None
