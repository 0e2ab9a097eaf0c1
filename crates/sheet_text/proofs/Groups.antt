-- The group of a line of values that breaks no rule: it is accepted, it stands for the generators of its shape, and it has as many as there are modes.
-- What carries it: sides that break no rule make the lattice, and its generators give the group (`chain-generators` and the others).
use Prim.Native.Nat.{ℕ, ◌*◌, ◌≤◌, ◌<◌}
use mathlib.Core.Path.{◌≡◌, refl, sym, ap, ◌∙◌}
use mathlib.Core.Bool.{Bool, true, false, ◌&&◌, not, and-eq-true_iff, false≢true}
use mathlib.Core.List.{List, [], ◌∷◌, map}
use native.Mathlib.Nat.{mul-one, mul_assoc, mul-pos}
use native.Mathlib.Omega.{arith}
use lib.Dec.{eqb, ltb}
use lib.ListN.{drop}
use borrow.Author.Tests.{lt-ltb, le-ltb, ltb-false, eqb-false, not-false}
use Rattle.outcome.specs.declared.Refusal.TheVariants as Refusal
use Rattle.pauli_word.specs.Limits.{max_sites}
use Rattle.outcome.specs.Outcome.{answer, verdict}
use Rattle.action.specs.Lists.{every}
use Rattle.action.specs.Permutation.{Generator}
use Rattle.action.specs.Lattice.{chain, ladder, torus2, torus3}
use Rattle.outcome.proofs.Outcomes.{verdict-fine}
use Rattle.generators.specs.Parts.{any_zero}
use Rattle.generators.proofs.Groups.{written_perms}
use Rattle.permutation.specs.Generators.{declared, written}
use Rattle.group.specs.declared.Group.{Group}
use Rattle.group.specs.Value.{group_of, generators_of, AcceptedGroup, GivenAs}
use Rattle.group.specs.Calls.{lattice_outcome, chain_outcome, ladder_outcome, torus2_outcome, torus3_outcome}
use Rattle.group.proofs.MadeGroups.{declared_parts, made-accepted, made-means}
use Rattle.group.proofs.Promises.{chain-generators, ladder-generators, torus2-generators, torus3-generators}
use Rattle.text.specs.Text.{is_number, number_of}
use Rattle.text.specs.Parts.{four_fields}
use Rattle.text.proofs.Pieces.{four_parts}
use Rattle.sheet_lines.specs.declared.line.Kind.{Kind}
use Rattle.sheet_lines.specs.declared.line.Kind.TheVariants as Kind
use Rattle.sheet_lines.specs.Lines.{sides_of, modes_of, is_shape, generators_for, fields, field, first_pass, line_shape, sides_used, side_checks, line_sites, shape_checks, rule_at}
use Rattle.action.specs.Arithmetic.{product}
use Rattle.sheet_text.specs.Sheet.{line_generators}
use Rattle.sheet_lines.specs.Parts.{sides_group, line_group}

-- what generators give stands for them
given_means : (n : ℕ) (gs : List Generator) (g : Group) → GivenAs n gs g → AcceptedGroup g × (generators_of g ≡ gs)
given_means n gs g made =
    let list = written (map (λ x. x.perm) gs) in
    let orders = map (λ x. x.order) gs in (
      made-accepted n list orders g made,
      (made-means n list orders g made).1 ∙ ap (λ (ps : List (List ℕ)). declared ps orders) (written_perms (map (λ x. x.perm) gs)) ∙ declared_parts gs,
    )

-- sides that are not 0
product-positive : (xs : List ℕ) → every (λ side. not (eqb side 0)) xs ≡ true → 0 < product xs
unfolding every product
product-positive [] e = omega arith
product-positive (x ∷ xs) e =
    let both = (and-eq-true_iff (not (eqb x 0)) (every (λ side. not (eqb side 0)) xs)).0 e in
    let some : 0 < x = go (eqb x 0) refl both.0 in
    mul-pos some (product-positive xs both.1)
  where
    go : (b : Bool) → eqb x 0 ≡ b → not b ≡ true → 0 < x
    go true t h = absurd (false≢true h)
    go false t h = let n = eqb-false x 0 t in omega arith

lattice_answers : (a b c n : ℕ) (gs : List Generator) → a * b * c ≡ n → 0 < n → n ≤ max_sites → lattice_outcome (any_zero a b c) n gs ≡ answer (group_of n gs)
unfolding lattice_outcome
lattice_answers a b c n gs e some few =
    let positive : ltb 0 (a * b * c) ≡ true = lt-ltb 0 (a * b * c) (omega arith) in
    rw (positive, le-ltb max_sites n few)

-- what holds of a shape's group
abbrev Stands : Kind → ℕ → ℕ → ℕ → Group → Type 0
Stands kind a b c g = AcceptedGroup g × (generators_of g ≡ generators_for kind a b c) × (g.generators ≡ modes_of kind)

module _ (p q r : ℕ) where
  chain-stands : 0 < p * 1 → p * 1 ≤ max_sites → Stands Kind.Chain p q r (group_of (p * 1) (chain p))
  unfolding chain_outcome generators_for group_of chain
  chain-stands some few =
      let e : p * 1 ≡ p = mul-one p in
      rw e (
      let m = given_means p (chain p) (group_of p (chain p)) (chain-generators (group_of p (chain p)) p (lattice_answers p 1 1 p (chain p) (omega arith) (omega arith) (omega arith))) in
      (m.0, m.1, refl)
      )

  ladder-stands : 0 < p * (q * 1) → p * (q * 1) ≤ max_sites → Stands Kind.Ladder p q r (group_of (p * (q * 1)) (ladder p q))
  unfolding ladder_outcome generators_for group_of ladder
  ladder-stands some few =
      let e : p * (q * 1) ≡ p * q = ap (λ (k : ℕ). p * k) (mul-one q) in
      let g : Group = group_of (p * q) (ladder p q) in
      let m =
      given_means (p * q) (ladder p q) g
      (ladder-generators g p q (lattice_answers p q 1 (p * q) (ladder p q) (mul-one (p * q)) (omega arith) (omega arith)))
      in
      rw e (m.0, m.1, refl)

  torus2-stands : 0 < p * (q * 1) → p * (q * 1) ≤ max_sites → Stands Kind.Torus2 p q r (group_of (p * (q * 1)) (torus2 p q))
  unfolding torus2_outcome generators_for group_of torus2
  torus2-stands some few =
      let e : p * (q * 1) ≡ p * q = ap (λ (k : ℕ). p * k) (mul-one q) in
      let g : Group = group_of (p * q) (torus2 p q) in
      let m =
      given_means (p * q) (torus2 p q) g
      (torus2-generators g p q (lattice_answers p q 1 (p * q) (torus2 p q) (mul-one (p * q)) (omega arith) (omega arith)))
      in
      rw e (m.0, m.1, refl)

  torus3-stands : 0 < p * (q * (r * 1)) → p * (q * (r * 1)) ≤ max_sites → Stands Kind.Torus3 p q r (group_of (p * (q * (r * 1))) (torus3 p q r))
  unfolding torus3_outcome generators_for group_of torus3
  torus3-stands some few =
      let e : p * (q * (r * 1)) ≡ p * q * r = ap (λ (k : ℕ). p * (q * k)) (mul-one r) ∙ sym (mul_assoc p q r) in
      let g : Group = group_of (p * q * r) (torus3 p q r) in
      let m =
      given_means (p * q * r) (torus3 p q r) g
      (torus3-generators g p q r (lattice_answers p q r (p * q * r) (torus3 p q r) refl (omega arith) (omega arith)))
      in
      rw e (m.0, m.1, refl)

-- sides that break no rule
module _ (kind : Kind) (a b c : List ℕ) (k : ℕ) (fine : verdict (side_checks kind (a ∷ b ∷ c ∷ []) k) ≡ answer tt) where
  passed : (not (is_shape kind && first_pass is_number (sides_of kind) (a ∷ b ∷ c ∷ [])) ≡ false)
      × (0 < product (sides_used kind (a ∷ b ∷ c ∷ [])))
      × (product (sides_used kind (a ∷ b ∷ c ∷ [])) ≤ max_sites)
  unfolding side_checks
  passed =
      let sides : List ℕ = sides_used kind (a ∷ b ∷ c ∷ []) in
      let zero = rule_at Refusal.ZeroSide (not (every (λ side. not (eqb side 0)) sides)) k in
      let large = rule_at Refusal.SidesTooLarge (ltb max_sites (product sides)) k in
      let one = verdict-fine (rule_at Refusal.LineForm (not (is_shape kind && first_pass is_number (sides_of kind) (a ∷ b ∷ c ∷ []))) k) (zero ∷ large ∷ []) fine in
      let two = verdict-fine zero (large ∷ []) one.1 in
      let three = verdict-fine large [] two.1 in
      (one.0, product-positive sides (not-false _ two.0), ltb-false max_sites (product sides) three.0)

pub sides_stand :
    (kind : Kind) (a b c : List ℕ) (k : ℕ) → verdict (side_checks kind (a ∷ b ∷ c ∷ []) k) ≡ answer tt
    → Stands kind (number_of a) (number_of b) (number_of c) (sides_group kind a b c)
unfolding product generators_for
sides_stand Kind.Chain a b c k fine = let p = passed Kind.Chain a b c k fine in chain-stands (number_of a) (number_of b) (number_of c) p.1 p.2
sides_stand Kind.Ladder a b c k fine = let p = passed Kind.Ladder a b c k fine in ladder-stands (number_of a) (number_of b) (number_of c) p.1 p.2
sides_stand Kind.Torus2 a b c k fine = let p = passed Kind.Torus2 a b c k fine in torus2-stands (number_of a) (number_of b) (number_of c) p.1 p.2
sides_stand Kind.Torus3 a b c k fine = let p = passed Kind.Torus3 a b c k fine in torus3-stands (number_of a) (number_of b) (number_of c) p.1 p.2
sides_stand Kind.Other a b c k fine = let p = passed Kind.Other a b c k fine in absurd (false≢true (sym p.0))

-- a line of values that breaks no rule
module _ (line : List ℕ) (k : ℕ) (fine : verdict (shape_checks line k) ≡ answer tt) where
  both : (four_fields line ≡ true) × (verdict (side_checks (line_shape line) (drop 1 (fields line)) k) ≡ answer tt)
  both =
      let one = verdict-fine (rule_at Refusal.LineForm (not (four_fields line)) k) (side_checks (line_shape line) (drop 1 (fields line)) k) fine in
      (not-false (four_fields line) one.0, one.1)

  three : drop 1 (fields line) ≡ field 1 line ∷ field 2 line ∷ field 3 line ∷ []
  three = let e = (four_parts line both.0).parts in rw e

  pub line-stands : AcceptedGroup (line_group line) × (generators_of (line_group line) ≡ line_generators line) × ((line_group line).generators ≡ modes_of (line_shape line))
  line-stands =
      sides_stand (line_shape line) (field 1 line) (field 2 line) (field 3 line) k
      (ap (λ (ts : List (List ℕ)). verdict (side_checks (line_shape line) ts k)) (sym three) ∙ both.1)

  pub line-sites : (line_group line).sites ≡ line_sites line
  unfolding group_of
  line-sites = ap (λ (ts : List (List ℕ)). product (sides_used (line_shape line) ts)) (sym three)

pub modes_few : (kind : Kind) → modes_of kind ≤ 3
modes_few Kind.Chain = omega arith
modes_few Kind.Ladder = omega arith
modes_few Kind.Torus2 = omega arith
modes_few Kind.Torus3 = omega arith
modes_few Kind.Other = omega arith
