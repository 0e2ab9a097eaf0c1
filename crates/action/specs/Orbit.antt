-- What an index makes of a word; orbits, least words, representatives, and the indices that fix a word.
use Rattle.std.specs.Prelude.{ℕ, zero, suc, ◌/◌, Bool, false, ◌||◌, cond, List, [], ◌∷◌, map, eqb, length, set, replicate}
use Rattle.pauli_word.specs.Word.{I, Word, same, less}
use Rattle.action.specs.Lists.{below, select}
use Rattle.action.specs.Permutation.{Generator}
use Rattle.action.specs.Index.{order_of, digits, inverse}

-- write the letters of w, from its first on, into `out` at the targets
unfoldable pub place : List ℕ → Word → Word → Word
place ps [] out = out
place [] (a ∷ w) out = out
place (p ∷ ps) (a ∷ w) out = place ps w (set out p a)

-- site q's letter goes to site perm[q]
unfoldable pub move : List ℕ → Word → Word
unfolding place
move perm w = place perm w (replicate (length w) I)

-- moved c times
unfoldable pub moves : ℕ → List ℕ → Word → Word
unfolding move
moves zero perm w = w
moves (suc c) perm w = moves c perm (move perm w)

-- moved by each generator as often as its digit says
unfoldable pub by_digits : List Generator → List ℕ → Word → Word
unfolding moves
by_digits [] cs w = w
by_digits (g ∷ gs) [] w = w
by_digits (g ∷ gs) (c ∷ cs) w = by_digits gs cs (moves c g.perm w)

-- the word that index i reaches from w
unfoldable pub reach : List Generator → ℕ → Word → Word
unfolding digits by_digits
reach gs i w = by_digits gs (digits gs i) w

-- the walk's step from an entry with these digits to the next: moved by generator 0, and by each next one while the digits below roll over
unfoldable pub stepped : List Generator → List ℕ → Word → Word
unfolding move
stepped [] cs w = w
stepped (g ∷ gs) [] w = w
stepped (g ∷ gs) (c ∷ cs) w = let v = move g.perm w in let u = stepped gs cs v in cond (eqb (suc c) g.order) u v

-- the orbit list: what the walk gives, one entry for each index below the order, repeats included
unfoldable pub orbit_list : List Generator → Word → List Word
unfolding reach order_of below
orbit_list gs w = map (λ i. reach gs i w) (below (order_of gs))

-- whether a word is among those of a list
unfoldable pub is_in : Word → List Word → Bool
unfolding same
is_in v [] = false
is_in v (w ∷ ws) = same v w || is_in v ws

-- the different words of a list, each once
unfoldable pub once : List Word → List Word
unfolding is_in
once [] = []
once (w ∷ ws) = let t = once ws in cond (is_in w ws) t (w ∷ t)

-- the orbit of a word, a set: the words that some index reaches, each once
unfoldable pub orbit : List Generator → Word → List Word
unfolding once orbit_list
orbit gs w = once (orbit_list gs w)

-- the least of v and the words of a list
unfoldable pub least_of : Word → List Word → Word
unfolding less
least_of v [] = v
least_of v (w ∷ ws) = least_of (cond (less w v) w v) ws

-- the least word of the orbit
unfoldable pub least : List Generator → Word → Word
unfolding least_of orbit_list
least gs w = least_of w (orbit_list gs w)

-- the place of the first word that is v
unfoldable pub first_at : Word → List Word → ℕ
unfolding same
first_at v [] = 0
first_at v (w ∷ ws) = let r = suc (first_at v ws) in cond (same v w) 0 r

-- the smallest index that reaches the least word from w
unfoldable pub forward : List Generator → Word → ℕ
unfolding first_at least orbit_list
forward gs w = first_at (least gs w) (orbit_list gs w)

-- the index that leads from the least word back to w: the inverse of the smallest one that reaches it
unfoldable pub index_back : List Generator → Word → ℕ
unfolding inverse forward
index_back gs w = inverse gs (forward gs w)

-- whether a word is the least of its own orbit
unfoldable pub is_representative : List Generator → Word → Bool
unfolding same least
is_representative gs w = same (least gs w) w

-- whether index i fixes w
unfoldable pub fixes : List Generator → Word → ℕ → Bool
unfolding same reach
fixes gs w i = same (reach gs i w) w

-- the indices that fix w: its stabilizer
unfoldable pub fixing : List Generator → Word → List ℕ
unfolding select fixes below order_of
fixing gs w = select (fixes gs w) (below (order_of gs))

-- the orbit size: the group order divided by the number of fixing indices
unfoldable pub orbit_size : List Generator → Word → ℕ
unfolding order_of fixing
orbit_size gs w = order_of gs / length (fixing gs w)
