-- What the checks of a walk come to, rule by rule, and what checks that pass have shown.
-- What carries it: a walk's group is looked at first, so a group that is refused decides.
use Prim.Native.Nat.{ℕ, ◌<◌, ◌≤◌}
use mathlib.Core.Path.{◌≡◌, sym, ap, ap₂, ◌∙◌}
use mathlib.Core.Bool.{Bool, true, false, not, cond, ◌&&◌, and-eq-true_iff}
use mathlib.Core.List.{List, [], ◌∷◌}
use lib.Dec.{ltb, leb}
use lib.ListN.{length, take, drop}
use borrow.Author.Tests.{le-ltb, ltb-false, le-leb, lt-leb, leb-true, not-false}
use Rattle.outcome.specs.declared.Refusal.{Refusal}
use Rattle.outcome.specs.declared.Refusal.TheVariants as Refusal
use Rattle.outcome.specs.Outcome.{Outcome, answer, refusal_of, verdict}
use Rattle.outcome.proofs.Outcomes.{refused_apart, verdict-fine}
use Rattle.pauli_word.specs.Limits.{max_sites, plane_length, word_length}
use Rattle.pauli_word.specs.Bytes.{clear_from, Bytes, AcceptedWord}
use Rattle.pauli_word.specs.Calls.{site_count, clear_above}
use Rattle.action.specs.Index.{order_of}
use Rattle.permutation.specs.Limits.{max_generators, target_places}
use Rattle.group.specs.declared.Group.{Group}
use Rattle.group.specs.Value.{generators_of, is_group, AcceptedGroup}
use Rattle.group.specs.Calls.{value_checks}
use Rattle.group.proofs.Accepted.{value_fine}
use Rattle.orbit.specs.declared.Walk.{Walk}
use Rattle.orbit.specs.Calls.{walk_in, is_walk, notAWalk, walk_checks}

-- walks of a group with the same word and index are the same
pub same_walk : (g : Group) {u v : List ℕ} {i j : ℕ} → u ≡ v → i ≡ j → walk_in g u i ≡ walk_in g v j
same_walk g p q = ap₂ (walk_in g) p q

-- what 1 and 14 come to, by whether each is broken
abbrev outcome_by : Bool → Bool → Outcome (Unit {0})
outcome_by many one = cond many (refusal_of Refusal.TooManySites) (cond (not one) (refusal_of Refusal.InvalidValue) (answer tt))

module _ (w : Walk) where
  pub walk_refused : (why : Refusal) → verdict (value_checks w.group) ≡ refusal_of why → verdict (walk_checks w) ≡ refusal_of why
  unfolding is_walk
  walk_refused why e =
      go (ltb max_sites w.group.sites) (is_group w.group) (clear_above w.group.sites w.word)
      (leb w.index (order_of (generators_of w.group))) e
    where
      go : (many one clear inside : Bool) → outcome_by many one ≡ refusal_of why → outcome_by many (one && clear && inside) ≡ refusal_of why
      go true one clear inside k = k
      go false true clear inside k = absurd (refused_apart _ _ tt (sym k))
      go false false clear inside k = k

  module _ (ok : verdict (value_checks w.group) ≡ answer tt) where
    walk-decides :
        verdict (walk_checks w)
        ≡ outcome_by false (true && clear_above w.group.sites w.word && leb w.index (order_of (generators_of w.group)))
    unfolding is_walk
    walk-decides = let (few, one) = value_fine w.group ok in rw (le-ltb max_sites w.group.sites few, one)

    pub other_word : clear_above w.group.sites w.word ≡ false → verdict (walk_checks w) ≡ refusal_of Refusal.InvalidValue
    other_word e = walk-decides ∙ ap (λ (b : Bool). outcome_by false (true && b && leb w.index (order_of (generators_of w.group)))) e

    module _ (clear : clear_above w.group.sites w.word ≡ true) where
      index-decides : verdict (walk_checks w) ≡ outcome_by false (leb w.index (order_of (generators_of w.group)))
      index-decides = walk-decides ∙ ap (λ (b : Bool). outcome_by false (true && b && leb w.index (order_of (generators_of w.group)))) clear

      pub past-order : order_of (generators_of w.group) < w.index → verdict (walk_checks w) ≡ refusal_of Refusal.InvalidValue
      past-order h = index-decides ∙ ap (outcome_by false) (lt-leb w.index (order_of (generators_of w.group)) h)

      pub walk-passes : w.index ≤ order_of (generators_of w.group) → verdict (walk_checks w) ≡ answer tt
      walk-passes h = index-decides ∙ ap (outcome_by false) (le-leb w.index (order_of (generators_of w.group)) h)

-- ---- a walk that passes its checks

module _ (w : Walk) (ok : verdict (walk_checks w) ≡ answer tt) where
  one : (ltb max_sites w.group.sites ≡ false) × (verdict (notAWalk w ∷ []) ≡ answer tt)
  one = verdict-fine (site_count w.group.sites) (notAWalk w ∷ []) ok

  few : w.group.sites ≤ max_sites
  few = ltb-false max_sites w.group.sites one.0

  -- its group is one, its word is clear above the sites, and its index is at most the order
  parts :
      (is_group w.group ≡ true)
      × (clear_from w.group.sites (take plane_length w.word) ≡ true)
      × (clear_from w.group.sites (drop plane_length w.word) ≡ true)
      × (leb w.index (order_of (generators_of w.group)) ≡ true)
  unfolding is_walk
  parts =
      let all = not-false (is_walk w) (verdict-fine (notAWalk w) [] one.1).0 in
      let (front, last) =
      (and-eq-true_iff (is_group w.group && clear_above w.group.sites w.word) (leb w.index (order_of (generators_of w.group)))).0 all
      in
      let (group, word) = (and-eq-true_iff (is_group w.group) (clear_above w.group.sites w.word)).0 front in
      let (x, z) =
      (and-eq-true_iff (clear_from w.group.sites (take plane_length w.word)) (clear_from w.group.sites (drop plane_length w.word))).0 word
      in
      (group, x, z, last)

  pub walk-group : length w.group.targets ≡ target_places → length w.group.orders ≡ max_generators → AcceptedGroup w.group
  walk-group targets orders = record { few = few; is_one = parts.0; targets = targets; orders = orders }

  pub walk-word : length w.word ≡ word_length → Bytes w.word → AcceptedWord w.group.sites w.word
  walk-word long small = record { sites = few; long = long; small = small; x_clear = parts.1; z_clear = parts.2 }

  pub walk-index : w.index ≤ order_of (generators_of w.group)
  walk-index = leb-true w.index (order_of (generators_of w.group)) parts.3
