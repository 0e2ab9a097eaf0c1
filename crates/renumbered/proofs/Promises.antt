-- For a reader: what a table of other numbers says of a group, and what candidates are under it. Each statement is followed by the law that shows it.
use Prim.Native.Nat.{ℕ, ◌+◌, ◌<◌}
use mathlib.Core.Path.{◌≡◌, sym, ap, ◌∙◌}
use mathlib.Core.Bool.{Bool}
use mathlib.Core.List.{List}
use lib.ListN.{length, get_or}
use Rattle.pauli_word.specs.Word.{I, Word}
use Rattle.action.specs.Permutation.{Generator, Valid}
use Rattle.action.specs.Index.{order_of}
use Rattle.action.specs.Orbit.{reach}
use Rattle.parts.specs.Numbered.{Carried}
use Rattle.parts.proofs.Bitwise.{word_bit}
use Rattle.grid.specs.Grid.{Grid, further}
use Rattle.grid.specs.Candidates.{candidate, Left, Leading}
use Rattle.renumbered.specs.Renumbered.{at, grid_of, Renumbered, sent, Free}
use Rattle.renumbered.proofs.ByBits.{left-leading}
use Rattle.renumbered.proofs.Numbers.{grid-valid, is-grid, candidate-site}
use Rattle.renumbered.proofs.Sent.{reach-sent, sent-further, sent-apart}

-- `sent` says where an index takes letters: what stands at a site stands, in the word that the index reaches, where it sends the site.
pub sent_takes : {n : ℕ} {gs : List Generator} → Valid n gs → (i q : ℕ) (w : Word) → length w ≡ n → q < n → get_or (reach gs i w) (sent gs i q) I ≡ get_or w q I
sent_takes {gs = gs} v i q w long h = reach-sent gs v i q w long h

module _ {n : ℕ} {gs : List Generator} (v : Valid n gs) {site place : List ℕ} (r : Renumbered n gs site place) where
  -- A group with such a table acts freely.
  pub table-free : Free n gs
  table-free = sent-apart v r

  -- Its numbers are a grid's: shifts along axes with the same orders, which are valid generators of a grid, do to the numbers what the generators do to the sites.
  pub table-grid : Valid n (grid_of n gs) × Grid n (grid_of n gs) × Carried n (at site) gs (grid_of n gs)
  table-grid = (grid-valid v r, is-grid v r, r.carried)

  -- An index sends a site to the one whose number is that much further on in its block.
  pub table-sent : (i q : ℕ) → q < n → sent gs i q ≡ at site (further gs i (at place q))
  table-sent = sent-further v r

  -- A candidate gives the word that has at a site the letter that stands where the candidate sends the site.
  pub table-candidate : (w : Word) → length w ≡ n → (k q : ℕ) → q < n → get_or (candidate gs w k) q I ≡ get_or w (sent gs k q) I
  table-candidate w long k q h = candidate-site v r w long k q h ∙ ap (λ (p : ℕ). get_or w p I) (sym (sent-further v r k q h))

-- Of any group: the candidates whose bits are the least, in the order of the sites, give the least word, and no others do.
pub least-bits : {n : ℕ} (gs : List Generator) (w : Word) → length w ≡ n → {S : ℕ → Bool} → Left (order_of gs) (λ k. word_bit n (candidate gs w k)) (n + n) S
    → Leading gs w S
least-bits gs w long l = left-leading gs w long l
