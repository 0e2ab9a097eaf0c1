-- Powers of a permutation.
use Rattle.std.specs.Prelude.{ℕ, List, map}
use Rattle.action.specs.Permutation.{target}

-- the square: where two moves send each site
unfoldable pub squared : List ℕ → List ℕ
squared perm = map (target perm) perm
