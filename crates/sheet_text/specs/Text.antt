-- What the statements about a sheet say of texts and lines.
use Rattle.std.specs.Prelude.{ℕ, ◌≡◌, Bool, true, not, List, [], ◌∷◌, ◌++◌, eqb, drop}
use Rattle.action.specs.Lists.{every}
use Rattle.text.specs.Text.{line_end, pieces}

-- a text without a line end
abbrev pub no_end : List ℕ → Bool
no_end text = every (λ b. not (eqb b line_end)) text

-- a text whose only line end is its last byte
pub record OneLine (text : List ℕ) : Type 0 where
  pub line : List ℕ
  pub ended : text ≡ line ++ (line_end ∷ [])
  pub whole : no_end line ≡ true

-- all but the last
abbrev pub front : List (List ℕ) → List (List ℕ)
front [] = []
front (p ∷ []) = []
front (p ∷ q ∷ ps) = p ∷ front (q ∷ ps)

-- the lines of a sheet after the third
abbrev pub value_lines : List ℕ → List (List ℕ)
value_lines input = front (drop 3 (pieces line_end input))

-- texts one after the other
abbrev pub together : List (List ℕ) → List ℕ
together [] = []
together (t ∷ ts) = t ++ together ts
