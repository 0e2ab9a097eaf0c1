-- Mode lists and digit lists, reduced: their lengths, that reduced modes are listed, and that reducing changes neither numerators nor what is kept.
use Prim.Native.Nat.{ℕ, suc, ◌<◌}
use native.Mathlib.Nat.{suc_inj, suc-ne-zero, lt_of_lt_of_le, le-mul_of_pos_right, mul_comm}
use mathlib.Core.Path.{◌≡◌, refl, sym, ap, fun_ext}
use mathlib.Core.Logic.{inl, inr}
use mathlib.Core.Bool.{◌||◌, ◌&&◌, not}
use mathlib.Core.List.{List, [], ◌∷◌}
use lib.Dec.{eqb}
use lib.IntN.{ℤ, pos, negsuc}
use lib.ListN.{length}
use Rattle.pauli_word.specs.Word.{Word}
use Rattle.action.specs.Lists.{below, Member, every, first_of}
use Rattle.action.specs.Permutation.{Generator}
use Rattle.action.specs.Index.{order_of, digits}
use Rattle.action.specs.Orbit.{fixes}
use Rattle.action.specs.Sector.{reduced_modes, reduced_digits, Modes, trivial, keeps, breaks, dropped_by}
use Rattle.action.specs.Count.{all_modes}
use Rattle.action.proofs.Index.{Positive, order_of_positive}
use Rattle.action.proofs.Characters.{modes_reduced, numerator-reduced_modes}
use Rattle.decisions.proofs.Remainders.{reduced-below}

modes_proper_length : (gs : List Generator) (ks : List ℤ) → Modes gs ks → length ks ≡ length gs
modes_proper_length [] [] h = refl
modes_proper_length [] (k ∷ ks) h = absurd h
modes_proper_length (g ∷ gs) [] h = absurd h
modes_proper_length (g ∷ gs) (pos k ∷ ks) h = ap suc (modes_proper_length gs ks h.1)
modes_proper_length (g ∷ gs) (negsuc k ∷ ks) h = absurd h

pub modes_length : (gs : List Generator) (ks : List ℤ) → Member ks (all_modes gs) → length ks ≡ length gs
modes_length gs ks m = modes_proper_length gs ks ((modes_reduced gs ks).0 m)

-- a listed mode is below the group order
modes_below : (gs : List Generator) → Positive gs → (ks : List ℤ) → Modes gs ks → (k : ℤ) → Member k ks → (j : ℕ) × (k ≡ pos j) × (j < order_of gs)
unfolding order_of
modes_below [] p [] h k m = absurd m
modes_below [] p (l ∷ ks) h k m = absurd h
modes_below (g ∷ gs) p [] h k m = absurd h
modes_below (g ∷ gs) p (negsuc a ∷ ks) h k m = absurd h
modes_below (g ∷ gs) p (pos a ∷ ks) h k (inl e) =
    (a, e, lt_of_lt_of_le h.0 (le-mul_of_pos_right g.order (order_of_positive gs p.1)))
modes_below (g ∷ gs) p (pos a ∷ ks) h k (inr m) =
    let (j, e, l) = modes_below gs p.1 ks h.1 k m in
    (j, e, lt_of_lt_of_le l (rw (mul_comm g.order (order_of gs)) (le-mul_of_pos_right (order_of gs) p.0)))

pub listed_below : (gs : List Generator) → Positive gs → (ks : List ℤ) → Member ks (all_modes gs) → (k : ℤ) → Member k ks
    → (j : ℕ) × (k ≡ pos j) × (j < order_of gs)
listed_below gs p ks m = modes_below gs p ks ((modes_reduced gs ks).0 m)

pub reduced_modes-length : (gs : List Generator) (ks : List ℤ) → length ks ≡ length gs → length (reduced_modes gs ks) ≡ length gs
unfolding reduced_modes
reduced_modes-length [] ks e = refl
reduced_modes-length (g ∷ gs) [] e = absurd (suc-ne-zero (length gs) (sym e))
reduced_modes-length (g ∷ gs) (k ∷ ks) e = ap suc (reduced_modes-length gs ks (suc_inj e))

pub reduced_digits-length : (gs : List Generator) (cs : List ℕ) → length cs ≡ length gs → length (reduced_digits gs cs) ≡ length gs
unfolding reduced_digits
reduced_digits-length [] cs e = refl
reduced_digits-length (g ∷ gs) [] e = absurd (suc-ne-zero (length gs) (sym e))
reduced_digits-length (g ∷ gs) (c ∷ cs) e = ap suc (reduced_digits-length gs cs (suc_inj e))

reduced_proper : (gs : List Generator) (ks : List ℤ) → Positive gs → length ks ≡ length gs → Modes gs (reduced_modes gs ks)
unfolding reduced_modes
reduced_proper [] ks p e = tt
reduced_proper (g ∷ gs) [] p e = absurd (suc-ne-zero (length gs) (sym e))
reduced_proper (g ∷ gs) (k ∷ ks) p e = (reduced-below g.order k p.0, reduced_proper gs ks p.1 (suc_inj e))

pub reduced_listed : (gs : List Generator) (ks : List ℤ) → Positive gs → length ks ≡ length gs → Member (reduced_modes gs ks) (all_modes gs)
reduced_listed gs ks p e = (modes_reduced gs (reduced_modes gs ks)).1 (reduced_proper gs ks p e)

pub keeps-reduced : (gs : List Generator) (ks : List ℤ) (w : Word) → keeps gs (reduced_modes gs ks) w ≡ keeps gs ks w
unfolding keeps trivial
keeps-reduced gs ks w =
    ap (λ (f : ℕ → ℕ). every (λ i. not (fixes gs w i) || eqb (f i) 0) (below (order_of gs)))
    (fun_ext (λ i. numerator-reduced_modes gs ks (digits gs i)))

pub dropped_reduced : (gs : List Generator) (ks : List ℤ) (w : Word) → dropped_by gs (reduced_modes gs ks) w ≡ dropped_by gs ks w
unfolding dropped_by breaks trivial
dropped_reduced gs ks w =
    ap (λ (f : ℕ → ℕ). first_of 0 (λ i. fixes gs w i && not (eqb (f i) 0)) (below (order_of gs)))
    (fun_ext (λ i. numerator-reduced_modes gs ks (digits gs i)))
