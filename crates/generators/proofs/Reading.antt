-- A generator list read generator by generator.
-- What carries it: the permutations of the list are those that were read and those that what is left of it writes.
use Prim.Native.Nat.{ℕ, suc, ◌+◌, ◌-◌, ◌*◌, ◌≤◌, ◌<◌}
use mathlib.Core.Path.{◌≡◌, refl, sym, ap, ◌∙◌}
use mathlib.Core.Bool.{true, false}
use mathlib.Core.List.{List, [], ◌∷◌, ◌++◌, append_assoc, append-nil}
use native.Mathlib.Nat.{add-sub_cancel_left}
use native.Mathlib.Numerals.{add-one}
use native.Mathlib.Omega.{arith}
use lib.ListN.{length, get_or, take, drop, replicate, length-append}
use Rattle.pauli_word.specs.Limits.{max_sites}
use Rattle.permutation.specs.Limits.{max_generators, target_places}
use Rattle.permutation.specs.Generators.{ends_inside, perms_of, fine, perm_check, perms_check}
use Rattle.permutation.proofs.Rules.{perm_fine, or_next-fine}
use Rattle.generators.specs.Tables.{placed, placed_all, passing}
use Rattle.generators.proofs.Written.{ends_next, ends-fits, perms-none, perms-next}
use Rattle.generators.proofs.Placed.{filled-length, placed-next, placed-next-length}

-- the first g permutations of a list are read, up to place `at`: they break no rule, and are placed in targets
pub record Read (list : List ℕ) (sites : ℕ) (targets : List ℕ) (at g : ℕ) : Type 0 where
  pub perms : List (List ℕ)
  pub whole : perms_of list ≡ perms ++ perms_of (drop at list)
  pub many : length perms ≡ g
  pub long : length (placed perms) ≡ max_sites * g
  pub stored : targets ≡ placed_all perms
  pub ends : ends_inside (drop at list) ≡ false
  pub check : perms_check sites 0 (perms_of list) ≡ perms_check sites g (perms_of (drop at list))
  pub passed : passing sites 0 (perms_of list) ≡ perms ++ passing sites g (perms_of (drop at list))

-- where no rule is broken, all permutations pass
pub passing_all : (n i : ℕ) (perms : List (List ℕ)) → (perms_check n i perms).broken ≡ false → passing n i perms ≡ perms
unfolding perms_check passing
passing_all n i [] h = refl
passing_all n i (p ∷ perms) h =
    let (one, rest) = or_next-fine (perm_check n i p) (perms_check n (suc i) perms) h in
    rw one (ap (λ (ps : List (List ℕ)). p ∷ ps) (passing_all n (suc i) perms rest))

-- the targets of the generator that begins at a place
abbrev pub perm_at : List ℕ → ℕ → List ℕ
perm_at list at = take (at + 1 + get_or list at 0 - (at + 1)) (drop (at + 1) list)

pub read_none :
    (list : List ℕ) (sites : ℕ) (targets : List ℕ) → ends_inside list ≡ false → targets ≡ replicate target_places 0
    → Read list sites targets 0 0
unfolding placed placed_all
read_none list sites targets e z =
    record {
      perms = [];
      whole = refl;
      many = refl;
      long = refl;
      stored = z;
      ends = e;
      check = refl;
      passed = refl;
    }

module _ {list : List ℕ} {sites : ℕ} {targets : List ℕ} {at g : ℕ} (r : Read list sites targets at g) (few : length (perms_of list) ≤ max_generators) where
  counted : g + length (perms_of (drop at list)) ≤ max_generators
  counted = omega (arith, few, ap length r.whole, length-append r.perms (perms_of (drop at list)), r.many)

  pub targets-long : length targets ≡ target_places
  unfolding placed_all
  targets-long = ap length r.stored ∙ filled-length target_places (placed r.perms) (omega (arith, counted, r.long))

  -- nothing more passes: what is placed is what passes
  ended : passing sites g (perms_of (drop at list)) ≡ [] → targets ≡ placed_all (passing sites 0 (perms_of list))
  ended e = r.stored ∙ ap placed_all (sym (r.passed ∙ ap (λ (ps : List (List ℕ)). r.perms ++ ps) e ∙ append-nil r.perms))

  pub read_all : length list ≤ at → (perms_check sites 0 (perms_of list) ≡ fine) × (targets ≡ placed_all (passing sites 0 (perms_of list)))
  unfolding perms_check passing
  read_all h =
      let none = perms-none list at h in
      (r.check ∙ ap (perms_check sites g) none, ended (ap (passing sites g) none))

  module _ (more : at < length list) where
    pub generator-fits : at + 1 + get_or list at 0 ≤ length list
    generator-fits = omega (arith, ends-fits list at more r.ends)

    next : perms_of (drop at list) ≡ perm_at list at ∷ perms_of (drop (at + 1 + get_or list at 0) list)
    next =
        perms-next list at more
        ∙ ap (λ (k : ℕ). take k (drop (at + 1) list) ∷ perms_of (drop (at + 1 + get_or list at 0) list)) (sym (add-sub_cancel_left (at + 1) (get_or list at 0)))

    pub generator-room : g < max_generators
    generator-room = omega (arith, counted, ap length next)

    checked : perms_check sites 0 (perms_of list) ≡ perms_check sites g (perm_at list at ∷ perms_of (drop (at + 1 + get_or list at 0) list))
    checked = r.check ∙ ap (perms_check sites g) next

    pub read-broken :
        (perm_check sites g (perm_at list at)).broken ≡ true
        → (perms_check sites 0 (perms_of list) ≡ perm_check sites g (perm_at list at)) × (targets ≡ placed_all (passing sites 0 (perms_of list)))
    unfolding perms_check passing
    read-broken e = (checked ∙ rw e, ended (ap (passing sites g) next ∙ rw e))

    module _ (small : sites ≤ max_sites) (ok : (perm_check sites g (perm_at list at)).broken ≡ false) where
      pub generator-long : length (perm_at list at) ≡ sites
      generator-long = (perm_fine sites g (perm_at list at) ok).long

      -- its targets are sites
      pub generator-inside : (q : ℕ) → q < length (perm_at list at) → get_or (perm_at list at) q 0 ≤ max_sites
      generator-inside q h =
          let inside = (perm_fine sites g (perm_at list at) ok).inside q (omega (arith, h, generator-long)) in
          omega (arith, inside, small)

      pub read_next :
          Read list sites (take (max_sites * g) targets ++ (perm_at list at ++ drop (max_sites * g + sites - max_sites * g) (drop (max_sites * g) targets)))
          (at + 1 + get_or list at 0) (g + 1)
      unfolding perms_check passing
      read_next =
          record {
            perms = r.perms ++ (perm_at list at ∷ []);
            whole = r.whole
                ∙ ap (λ (ps : List (List ℕ)). r.perms ++ ps) next
                ∙ sym (append_assoc r.perms (perm_at list at ∷ []) (perms_of (drop (at + 1 + get_or list at 0) list)));
            many = length-append r.perms (perm_at list at ∷ []) ∙ ap (λ (k : ℕ). k + 1) r.many;
            long = placed-next-length r.perms (perm_at list at) g r.long generator-room (omega (arith, generator-long));
            stored = ap (λ (k : ℕ). take (max_sites * g) targets ++ (perm_at list at ++ drop k (drop (max_sites * g) targets)))
                (add-sub_cancel_left (max_sites * g) sites ∙ sym generator-long)
                ∙ ap (λ (l : List ℕ). take (max_sites * g) l ++ (perm_at list at ++ drop (length (perm_at list at)) (drop (max_sites * g) l))) r.stored
                ∙ placed-next r.perms (perm_at list at) g r.long generator-room (omega (arith, generator-long));
            ends = sym (ends_next list at more (ends-fits list at more r.ends)) ∙ r.ends;
            check = rw (add-one g) (checked ∙ rw ok);
            passed = rw (add-one g)
                (r.passed
                ∙ ap (λ (ps : List (List ℕ)). r.perms ++ ps) (ap (passing sites g) next ∙ rw ok)
                ∙ sym (append_assoc r.perms (perm_at list at ∷ []) (passing sites (suc g) (perms_of (drop (at + 1 + get_or list at 0) list)))));
          }
