-- The checks of one line: its shape and sides, its word and modes; and the lattice of sides that are read up to a cap.
-- What carries it: sides of few sites are below the cap, so that their lattice is that of the numbers; and where one is 0 or their product is too
-- large, the same holds of the numbers (`large-same`).
use Rattle.std.specs.Prelude.{Option, Some, None, is_some, Result, Ok, Err, IfOk}
use Prim.Native.Nat.{ℕ, zero, suc, ◌+◌, ◌-◌, ◌*◌, ◌≤◌, ◌<◌, min}
use mathlib.Core.Path.{◌≡◌, refl, sym, ap, ap₂, subst, ◌∙◌}
use mathlib.Core.Bool.{Bool, true, false, ◌&&◌, not, cond, false≢true, true≢false, and-eq-true_iff}
use mathlib.Core.List.{List, [], ◌∷◌}
use native.Mathlib.Nat.{mul-one, mul_assoc}
use native.Mathlib.Omega.{arith}
use lib.Dec.{eqb, ltb}
use lib.IntN.{ℤ, pos}
use lib.ListN.{length, get_or, take, drop, length-map}
use mir.Syntax.{w32}
use mir.Val.{of_z, to_z}
use mir.ValLaws.{to_z-of_z}
use borrow.Author.Tests.{eqb-true, eqb-false, eq-eqb, ne_eqb, ltb-true, ltb-false, not-false}
use Rattle.pauli_word.specs.Limits.{max_sites}
use Rattle.outcome.specs.declared.Refusal.{Refusal}
use Rattle.outcome.specs.declared.Refusal.TheVariants as Refusal
use Rattle.outcome.specs.Outcome.{Outcome, refused, answer, verdict, given, on_answer, outcome_of, refusal_of, rule, unless}
use Rattle.pauli_word.specs.Word.{Word}
use Rattle.pauli_word.specs.Text.{letter, letters_alone, first_other, read_text}
use Rattle.pauli_word.specs.declared.TextWord.{TextWord}
use Rattle.pauli_word.specs.Calls.{from_text_outcome, text_word}
use Rattle.action.specs.Lists.{every, same_numbers}
use Rattle.action.specs.Permutation.{Generator}
use Rattle.action.specs.Lattice.{chain, ladder, torus2, torus3}
use Rattle.generators.specs.Parts.{any_zero}
use Rattle.group.specs.declared.Group.{Group}
use Rattle.group.specs.Value.{group_of}
use Rattle.group.specs.Calls.{lattice_outcome, chain_outcome, ladder_outcome, torus2_outcome, torus3_outcome}
use Rattle.generators.proofs.Axes.{side-small}
use Rattle.text.specs.Text.{is_number, number_of, is_signed, in_modes, is_mode, signed_of}
use Rattle.text.specs.Parts.{cap, mode_read, four_fields, field_length, fields_read}
use Rattle.text.proofs.Pieces.{part, FourParts, parts-four}
use Rattle.text.proofs.Numbers.{capped_zero, zero_capped, modes_fit_lem}
use Rattle.sheet_lines.specs.declared.line.Kind.{Kind}
use Rattle.sheet_lines.specs.declared.line.Kind.TheVariants as Kind
use Rattle.sheet_lines.specs.declared.line.Shape.{Shape}
use Rattle.action.specs.Arithmetic.{product}
use Rattle.sheet_lines.specs.Lines.{zero_text, shape_of, is_shape, sides_of, generators_for, first_pass, line_shape, sides_used, side_checks, shape_checks, letter_checks, value_checks, rule_at}
use Rattle.sheet_lines.specs.Parts.{fits_where, mode_or_zero, lattice_for, sides_group, line_group, refused_at, at_line}
use Rattle.outcome.proofs.Outcomes.{refused_apart}
use Rattle.group.proofs.LatticeCalls.{any_zero_lem}

-- ---- shapes by their names

module _ (name : List ℕ) where
  pub name-chain : same_numbers name (99 ∷ 104 ∷ 97 ∷ 105 ∷ 110 ∷ []) ≡ true → Kind.Chain ≡ shape_of name
  unfolding shape_of
  name-chain a = simp a

  module _ (a : same_numbers name (99 ∷ 104 ∷ 97 ∷ 105 ∷ 110 ∷ []) ≡ false) where
    pub name-ladder : same_numbers name (108 ∷ 97 ∷ 100 ∷ 100 ∷ 101 ∷ 114 ∷ []) ≡ true → Kind.Ladder ≡ shape_of name
    unfolding shape_of
    name-ladder b = simp (a, b)

    module _ (b : same_numbers name (108 ∷ 97 ∷ 100 ∷ 100 ∷ 101 ∷ 114 ∷ []) ≡ false) where
      pub name-torus2 : same_numbers name (116 ∷ 111 ∷ 114 ∷ 117 ∷ 115 ∷ 50 ∷ []) ≡ true → Kind.Torus2 ≡ shape_of name
      unfolding shape_of
      name-torus2 c = simp (a, b, c)

      module _ (c : same_numbers name (116 ∷ 111 ∷ 114 ∷ 117 ∷ 115 ∷ 50 ∷ []) ≡ false) where
        pub name-torus3 : same_numbers name (116 ∷ 111 ∷ 114 ∷ 117 ∷ 115 ∷ 51 ∷ []) ≡ true → Kind.Torus3 ≡ shape_of name
        unfolding shape_of
        name-torus3 d = simp (a, b, c, d)

        pub name-other : same_numbers name (116 ∷ 111 ∷ 114 ∷ 117 ∷ 115 ∷ 51 ∷ []) ≡ false → Kind.Other ≡ shape_of name
        unfolding shape_of
        name-other d = simp (a, b, c, d)

pub sides_few : (kind : Kind) → sides_of kind ≤ 3
sides_few Kind.Chain = omega arith
sides_few Kind.Ladder = omega arith
sides_few Kind.Torus2 = omega arith
sides_few Kind.Torus3 = omega arith
sides_few Kind.Other = omega arith

-- ---- texts that are used, and 0 for the others

pub fits_used : (test : List ℕ → Bool) (used : Bool) (text : List ℕ) → used ≡ true → fits_where test used text ≡ test text
fits_used test used text e = simp e

pub fits_unused : (test : List ℕ → Bool) (used : Bool) (text : List ℕ) → used ≡ false → fits_where test used text ≡ same_numbers zero_text text
fits_unused test used text e = simp e

none_used : (a b c : Bool) → (true && (a && (b && (c && true)))) ≡ (a && (b && c))
none_used false b c = refl
none_used true false c = refl
none_used true true true = refl
none_used true true false = refl

one_used : (a b c : Bool) → ((a && true) && (b && (c && true))) ≡ (a && (b && c))
one_used false b c = refl
one_used true false c = refl
one_used true true true = refl
one_used true true false = refl

two_used : (a b c : Bool) → ((a && (b && true)) && (c && true)) ≡ (a && (b && c))
two_used false b c = refl
two_used true false c = refl
two_used true true true = refl
two_used true true false = refl

three_used : (a b c : Bool) → ((a && (b && (c && true))) && true) ≡ (a && (b && c))
three_used false b c = refl
three_used true false c = refl
three_used true true true = refl
three_used true true false = refl

pub fits_three : (test : List ℕ → Bool) (used : ℕ) (x y z : List ℕ) → used ≤ 3
    → first_pass test used (x ∷ y ∷ z ∷ []) ≡ (fits_where test (ltb 0 used) x && (fits_where test (ltb 1 used) y && fits_where test (ltb 2 used) z))
unfolding first_pass every
fits_three test zero x y z h = none_used (same_numbers zero_text x) (same_numbers zero_text y) (same_numbers zero_text z)
fits_three test (suc zero) x y z h = one_used (test x) (same_numbers zero_text y) (same_numbers zero_text z)
fits_three test (suc (suc zero)) x y z h = two_used (test x) (test y) (same_numbers zero_text z)
fits_three test (suc (suc (suc zero))) x y z h = three_used (test x) (test y) (test z)
fits_three test (suc (suc (suc (suc k)))) x y z h = absurd (omega arith)

-- ---- modes

module _ (text : List ℕ) where
  pub mode-some : is_some (mode_read text) ≡ is_mode text
  mode-some = go (is_mode text)
    where
      go : (b : Bool) → is_some (cond b (Some (signed_of text)) None) ≡ b
      go true = refl
      go false = refl

  pub mode-value : (k : ℤ) → mode_read text ≡ Some k → to_z w32 (of_z w32 k) ≡ mode_or_zero text
  unfolding is_mode
  mode-value k e = go (is_mode text) refl e
    where
      go : (b : Bool) → is_mode text ≡ b → cond b (Some (signed_of text)) None ≡ Some k → to_z w32 (of_z w32 k) ≡ cond b (signed_of text) (pos 0)
      go true f g =
          let same : signed_of text ≡ k = cc in
          let fits = modes_fit_lem (signed_of text) ((and-eq-true_iff (is_signed text) (in_modes (signed_of text))).0 f).1 in
          ap (λ (z : ℤ). to_z w32 (of_z w32 z)) (sym same) ∙ to_z-of_z w32 (signed_of text) fits
      go false f g = let z : ◌≡◌ {A = ℕ} 0 1 = cc in absurd (omega arith)

  pub mode-zero : mode_read text ≡ None → pos 0 ≡ mode_or_zero text
  mode-zero e = go (is_mode text) e
    where
      go : (b : Bool) → cond b (Some (signed_of text)) None ≡ None → pos 0 ≡ cond b (signed_of text) (pos 0)
      go true f = let z : ◌≡◌ {A = ℕ} 0 1 = cc in absurd (omega arith)
      go false f = refl

-- ---- sides that are read up to the cap

eqb_capped : (p x : ℕ) → x ≡ min p cap → eqb x 0 ≡ eqb p 0
eqb_capped p x e = go (eqb p 0) refl
  where
    go : (t : Bool) → eqb p 0 ≡ t → eqb x 0 ≡ eqb p 0
    go true f = eq-eqb x 0 (zero_capped p x e (eqb-true p 0 f)) ∙ sym f
    go false f = ne_eqb x 0 (λ z. eqb-false p 0 f (capped_zero p x e z)) ∙ sym f

-- a side is at most the product, where that is not 0
sides_small : (x y z : ℕ) → 0 < x * y * z → (x ≤ x * y * z) × (y ≤ x * y * z) × (z ≤ x * y * z)
unfolding product
sides_small x y z some =
    let sides : List ℕ = x ∷ y ∷ z ∷ [] in
    let positive : 0 < product sides = omega arith in (
      omega (arith, side-small sides positive 0 (omega arith)),
      omega (arith, side-small sides positive 1 (omega arith)),
      omega (arith, side-small sides positive 2 (omega arith)),
    )

-- three numbers, and the same up to the cap
module _ (p q r x y z : ℕ) (ex : x ≡ min p cap) (ey : y ≡ min q cap) (ez : z ≡ min r cap) where
  zero_same : any_zero x y z ≡ any_zero p q r
  zero_same = any_zero_lem x y z ∙ simp (eqb_capped p x ex, eqb_capped q y ey, eqb_capped r z ez) (sym (any_zero_lem p q r))

  few-same : 0 < x * y * z → x * y * z ≤ max_sites → (x ≡ p) × (y ≡ q) × (z ≡ r)
  few-same some few = let (a, b, c) = sides_small x y z some in (omega arith, omega arith, omega arith)

  few-numbers : 0 < p * q * r → p * q * r ≤ max_sites → (x ≡ p) × (y ≡ q) × (z ≡ r)
  few-numbers some few = let (a, b, c) = sides_small p q r some in (omega arith, omega arith, omega arith)

  products : (x ≡ p) × (y ≡ q) × (z ≡ r) → x * y * z ≡ p * q * r
  products (a, b, c) = cc

  -- none of them is 0
  module _ (fine : any_zero p q r ≡ false) where
    some-numbers : 0 < p * q * r
    some-numbers = ltb-true 0 (p * q * r) (not-false (ltb 0 (p * q * r)) fine)

    some-capped : 0 < x * y * z
    some-capped = ltb-true 0 (x * y * z) (not-false (ltb 0 (x * y * z)) (zero_same ∙ fine))

    large-same : ltb max_sites (x * y * z) ≡ ltb max_sites (p * q * r)
    large-same = go (ltb max_sites (x * y * z)) refl (ltb max_sites (p * q * r)) refl
      where
        go : (s : Bool) → ltb max_sites (x * y * z) ≡ s → (t : Bool) → ltb max_sites (p * q * r) ≡ t → s ≡ t
        go true e true f = refl
        go false e false f = refl
        go false e true f =
            let same = products (few-same some-capped (ltb-false max_sites (x * y * z) e)) in
            let large = ltb-true max_sites (p * q * r) f in
            let small = ltb-false max_sites (x * y * z) e in
            absurd (omega arith)
        go true e false f =
            let same = products (few-numbers some-numbers (ltb-false max_sites (p * q * r) f)) in
            let large = ltb-true max_sites (x * y * z) e in
            let small = ltb-false max_sites (p * q * r) f in
            absurd (omega arith)

    small_same : ltb max_sites (p * q * r) ≡ false → (x ≡ p) × (y ≡ q) × (z ≡ r)
    small_same f = few-numbers some-numbers (ltb-false max_sites (p * q * r) f)

-- 26, 27 at line k, by whether they are broken
abbrev two_rules : Bool → Bool → ℕ → Outcome (Unit {0})
two_rules none large k = verdict (rule_at Refusal.ZeroSide none k ∷ rule_at Refusal.SidesTooLarge large k ∷ [])

-- an outcome has the verdict of the two rules, and where it is an answer, it is this group
abbrev Agrees : Outcome Group → Bool → Bool → Group → Type 0
Agrees o none large g = ((k : ℕ) → at_line k o ≡ two_rules none large k) × ((h : Group) → answer h ≡ o → h ≡ g)

agrees : (n : ℕ) (gs : List Generator) (none large : Bool) (g : Group)
    → (none ≡ false → ltb max_sites n ≡ large) → (none ≡ false → large ≡ false → group_of n gs ≡ g) → Agrees (lattice_outcome none n gs) none large g
unfolding lattice_outcome
agrees n gs none large g h i = go (ltb max_sites n) none large h i
  where
    go : (l z m : Bool) → (z ≡ false → l ≡ m) → (z ≡ false → m ≡ false → group_of n gs ≡ g)
        → Agrees (given (cond z (refusal_of Refusal.ZeroSide) (cond l (refusal_of Refusal.SidesTooLarge) (answer (tt {0})))) (answer (group_of n gs))) z m g
    go l true m h i = ((λ k. refl), λ h e. absurd (refused_apart _ _ h (sym e)))
    go true false true h i = ((λ k. refl), λ h e. absurd (refused_apart _ _ h (sym e)))
    go true false false h i = absurd (true≢false (h refl))
    go false false true h i = absurd (false≢true (h refl))
    go false false false h i = ((λ k. refl), λ h e. let same : h ≡ group_of n gs = cc in same ∙ i refl refl)

-- a lattice of n sites with these sides; N and GS are those of the numbers
module _ (p q r x y z : ℕ) (ex : x ≡ min p cap) (ey : y ≡ min q cap) (ez : z ≡ min r cap) where
  capped-lattice : (n N : ℕ) (gs GS : List Generator) → n ≡ x * y * z → N ≡ p * q * r → ((x ≡ p) × (y ≡ q) × (z ≡ r) → gs ≡ GS)
      → Agrees (lattice_outcome (any_zero x y z) n gs) (any_zero p q r) (ltb max_sites N) (group_of N GS)
  capped-lattice n N gs GS en eN same =
      subst (λ (b : Bool). Agrees (lattice_outcome b n gs) (any_zero p q r) (ltb max_sites N) (group_of N GS)) (sym (zero_same p q r x y z ex ey ez))
      (agrees n gs (any_zero p q r) (ltb max_sites N) (group_of N GS)
      (λ f. ap (ltb max_sites) en ∙ large-same p q r x y z ex ey ez f ∙ ap (ltb max_sites) (sym eN))
      (λ f l.
      let s = small_same p q r x y z ex ey ez f (ap (ltb max_sites) (sym eN) ∙ l) in
      ap₂ group_of (en ∙ products p q r x y z ex ey ez s ∙ sym eN) (same s)))

-- the two rules of sides, and the group of a shape, met by what its lattice comes to
abbrev Met : Kind → List ℕ → List ℕ → List ℕ → Outcome Group → Type 0
Met kind a b c o =
    ((k : ℕ) → at_line k o ≡ verdict (side_checks kind (a ∷ b ∷ c ∷ []) k)) × ((g : Group) → answer g ≡ o → g ≡ sides_group kind a b c)

-- sides that fit: 26, 27
sides_decide : (kind : Kind) (texts : List (List ℕ)) (k : ℕ) → is_shape kind ≡ true → first_pass is_number (sides_of kind) texts ≡ true
    → verdict (side_checks kind texts k)
    ≡ two_rules (not (every (λ side. not (eqb side 0)) (sides_used kind texts))) (ltb max_sites (product (sides_used kind texts))) k
unfolding side_checks
sides_decide kind texts k s f = simp (s, f)

met_by : (kind : Kind) (a b c : List ℕ) (o : Outcome Group) (p q r : ℕ)
    → is_shape kind ≡ true → first_pass is_number (sides_of kind) (a ∷ b ∷ c ∷ []) ≡ true
    → not (every (λ side. not (eqb side 0)) (sides_used kind (a ∷ b ∷ c ∷ []))) ≡ any_zero p q r
    → Agrees o (any_zero p q r) (ltb max_sites (product (sides_used kind (a ∷ b ∷ c ∷ [])))) (sides_group kind a b c) → Met kind a b c o
met_by kind a b c o p q r s f e (x, y) =
    let texts : List (List ℕ) = a ∷ b ∷ c ∷ [] in
    ((λ k. x k ∙ ap (λ (z : Bool). two_rules z (ltb max_sites (product (sides_used kind texts))) k) (sym e) ∙ sym (sides_decide kind texts k s f)), y)

one_capped : 1 ≡ min 1 cap
one_capped = omega arith

module _ (a b c : List ℕ) (x y z : ℕ) (ex : x ≡ min (number_of a) cap) (ey : y ≡ min (number_of b) cap) (ez : z ≡ min (number_of c) cap) where
  chain-met : first_pass is_number 1 (a ∷ b ∷ c ∷ []) ≡ true → Met Kind.Chain a b c (chain_outcome x)
  unfolding chain_outcome every product generators_for
  chain-met f =
      let p = number_of a in
      met_by Kind.Chain a b c (chain_outcome x) p 1 1 refl f (sym (any_zero_lem p 1 1))
      (capped-lattice p 1 1 x 1 1 ex one_capped one_capped x (p * 1) (chain x) (chain p) (omega arith) (omega arith) (λ s. ap chain s.0))

  ladder-met : first_pass is_number 2 (a ∷ b ∷ c ∷ []) ≡ true → Met Kind.Ladder a b c (ladder_outcome x y)
  unfolding ladder_outcome every product generators_for
  ladder-met f =
      let p = number_of a in
      let q = number_of b in
      met_by Kind.Ladder a b c (ladder_outcome x y) p q 1 refl f (sym (any_zero_lem p q 1))
      (capped-lattice p q 1 x y 1 ex ey one_capped (x * y) (p * (q * 1)) (ladder x y) (ladder p q) (sym (mul-one (x * y))) (sym (mul_assoc p q 1))
      (λ s. ap₂ ladder s.0 s.1))

  torus2-met : first_pass is_number 2 (a ∷ b ∷ c ∷ []) ≡ true → Met Kind.Torus2 a b c (torus2_outcome x y)
  unfolding torus2_outcome every product generators_for
  torus2-met f =
      let p = number_of a in
      let q = number_of b in
      met_by Kind.Torus2 a b c (torus2_outcome x y) p q 1 refl f (sym (any_zero_lem p q 1))
      (capped-lattice p q 1 x y 1 ex ey one_capped (x * y) (p * (q * 1)) (torus2 x y) (torus2 p q) (sym (mul-one (x * y))) (sym (mul_assoc p q 1))
      (λ s. ap₂ torus2 s.0 s.1))

  torus3-met : first_pass is_number 3 (a ∷ b ∷ c ∷ []) ≡ true → Met Kind.Torus3 a b c (torus3_outcome x y z)
  unfolding torus3_outcome every product generators_for
  torus3-met f =
      let p = number_of a in
      let q = number_of b in
      let r = number_of c in
      met_by Kind.Torus3 a b c (torus3_outcome x y z) p q r refl f (sym (any_zero_lem p q r))
      (capped-lattice p q r x y z ex ey ez (x * y * z) (p * (q * (r * 1))) (torus3 x y z) (torus3 p q r) refl
      (ap (λ (i : ℕ). p * (q * i)) (mul-one r) ∙ sym (mul_assoc p q r))
      (λ s. ap₂ (λ (f : ℕ → List Generator) (k : ℕ). f k) (ap₂ torus3 s.0 s.1) s.2))

  other-met : Met Kind.Other a b c (refusal_of Refusal.LineForm)
  unfolding side_checks
  other-met = ((λ k. refl), λ g e. absurd (refused_apart _ _ g (sym e)))

  -- the lattice of capped sides that fit
  sides-met : (kind : Kind) → first_pass is_number (sides_of kind) (a ∷ b ∷ c ∷ []) ≡ true → Met kind a b c (lattice_for kind x y z)
  sides-met Kind.Chain f = chain-met f
  sides-met Kind.Ladder f = ladder-met f
  sides-met Kind.Torus2 f = torus2-met f
  sides-met Kind.Torus3 f = torus3-met f
  sides-met Kind.Other f = other-met

  module _ (kind : Kind) (fit : first_pass is_number (sides_of kind) (a ∷ b ∷ c ∷ []) ≡ true) where
    pub sides-refused : (why : Refusal) → refusal_of why ≡ lattice_for kind x y z
        → (k : ℕ) → refused_at why k ≡ verdict (side_checks kind (a ∷ b ∷ c ∷ []) k)
    sides-refused why e k = ap (at_line k) e ∙ (sides-met kind fit).0 k

    pub sides-made : (g : Group) → answer g ≡ lattice_for kind x y z
        → ((k : ℕ) → answer tt ≡ verdict (side_checks kind (a ∷ b ∷ c ∷ []) k)) × (g ≡ sides_group kind a b c)
    sides-made g e = let m = sides-met kind fit in ((λ k. ap (at_line k) e ∙ m.0 k), m.1 g e)

-- sides that do not fit: 31
pub sides_unfit : (kind : Kind) (texts : List (List ℕ)) → first_pass is_number (sides_of kind) texts ≡ false
    → (k : ℕ) → refused_at Refusal.LineForm k ≡ verdict (side_checks kind texts k)
unfolding side_checks
sides_unfit kind texts f k = go (is_shape kind)
  where
    go : (s : Bool) → refused_at Refusal.LineForm k
        ≡ cond (not (s && first_pass is_number (sides_of kind) texts)) (refused_at Refusal.LineForm k)
        (two_rules (not (every (λ side. not (eqb side 0)) (sides_used kind texts))) (ltb max_sites (product (sides_used kind texts))) k)
    go true = simp f
    go false = refl

-- ---- words

module _ (sites : ℕ) (word : List ℕ) where
  -- what reading a word comes to, and its checks, by whether it is too long and by whether it holds letters alone
  abbrev read_as : Bool → Bool → Outcome Word
  read_as large alone = unless (rule Refusal.TooManyLetters large ∷ rule (Refusal.NotALetter (first_other word)) (not alone) ∷ []) (answer (read_text word))

  abbrev word_rules : Bool → Bool → ℕ → Outcome (Unit {0})
  word_rules large alone k =
      verdict
      (rule_at Refusal.TooManyLetters large k
      ∷ rule_at (Refusal.NotALetter (first_other word)) (not alone) k
      ∷ rule_at Refusal.OtherSites (not (eqb (length word) sites)) k
      ∷ [])

  pub word-refused : (why : Refusal) → refusal_of why ≡ on_answer text_word (from_text_outcome word)
      → (k : ℕ) → refused_at why k ≡ verdict (letter_checks sites word k)
  unfolding from_text_outcome
  word-refused why e k = go (ltb max_sites (length word)) (letters_alone word) e
    where
      go : (l t : Bool) → refusal_of why ≡ on_answer text_word (read_as l t) → refused_at why k ≡ word_rules l t k
      go true t f = ap (at_line k) f
      go false true f = absurd (refused_apart _ _ _ f)
      go false false f = ap (at_line k) f

  -- letters alone, and as many as were read
  word_read : (n : TextWord) → answer n ≡ on_answer text_word (from_text_outcome word)
      → (n.sites ≡ length word) × ((k : ℕ) → verdict (letter_checks sites word k) ≡ word_rules false true k)
  unfolding from_text_outcome
  word_read n e = go (ltb max_sites (length word)) (letters_alone word) e
    where
      go : (l t : Bool) → answer n ≡ on_answer text_word (read_as l t) → (n.sites ≡ length word) × ((k : ℕ) → word_rules l t k ≡ word_rules false true k)
      go true t f = absurd (refused_apart _ _ n (sym f))
      go false false f = absurd (refused_apart _ _ n (sym f))
      go false true f = let z : n ≡ text_word (read_text word) = cc in (ap (λ (w : TextWord). w.sites) z ∙ length-map word letter, λ k. refl)

  pub word_same : (n : TextWord) → answer n ≡ on_answer text_word (from_text_outcome word) → n.sites ≡ sites → (k : ℕ) → answer tt ≡ verdict (letter_checks sites word k)
  word_same n e h k =
      let r = word_read n e in
      sym (r.1 k ∙ ap (λ (t : Bool). cond (not t) (refused_at Refusal.OtherSites k) (answer tt)) (eq-eqb (length word) sites (sym r.0 ∙ h)))

  pub word-sites : (n : TextWord) → answer n ≡ on_answer text_word (from_text_outcome word) → (n.sites ≡ sites → ⊥)
      → (k : ℕ) → refused_at Refusal.OtherSites k ≡ verdict (letter_checks sites word k)
  word-sites n e h k =
      let r = word_read n e in
      sym (r.1 k ∙ ap (λ (t : Bool). cond (not t) (refused_at Refusal.OtherSites k) (answer tt)) (ne_eqb (length word) sites (λ f. h (r.0 ∙ f))))

-- ---- the fields of a line

pub fields-other : (line : List ℕ) → fields_read line ≡ None → four_fields line ≡ false
fields-other line e = go (four_fields line) e
  where
    go : (t : Bool)
        → cond {A = Option (ℕ × ℕ × ℕ)} t (Some (
          field_length line 0,
          field_length line 0 + 1 + field_length line 1,
          field_length line 0 + 1 + field_length line 1 + 1 + field_length line 2,
        )) None
        ≡ None
        → t ≡ false
    go true g = let no : ◌≡◌ {A = ℕ} 0 1 = cc in absurd (omega arith)
    go false g = refl

-- ---- a line with a word and its modes, and one with a shape and its sides

pub value_other : (used sites : ℕ) (line : List ℕ) → four_fields line ≡ false → (k : ℕ) → refused_at Refusal.LineForm k ≡ verdict (value_checks used sites line k)
value_other used sites line f k = simp f

pub shape_other : (line : List ℕ) → four_fields line ≡ false → (k : ℕ) → refused_at Refusal.LineForm k ≡ verdict (shape_checks line k)
shape_other line f k = simp f

-- the three fields after the first
abbrev pub three_parts : List ℕ → ℕ → ℕ → ℕ → List (List ℕ)
three_parts line a b c = part (a + 1) b line ∷ part (b + 1) c line ∷ part (c + 1) (length line) line ∷ []

module _ (line : List ℕ) (a b c : ℕ) (four : FourParts line a b c) where
  is-four : four_fields line ≡ true
  is-four = parts-four line a b c four

  value-decides : (used sites k : ℕ)
      → verdict (value_checks used sites line k)
      ≡ cond (not (first_pass is_mode used (three_parts line a b c))) (refused_at Refusal.LineForm k) (verdict (letter_checks sites (take a line) k))
  value-decides used sites k =
      λ i. cond (not (is-four i && first_pass is_mode used (drop 1 (four.parts i)))) (refused_at Refusal.LineForm k)
      (verdict (letter_checks sites (get_or (four.parts i) 0 []) k))

  pub value-unfit : (used sites : ℕ) → first_pass is_mode used (three_parts line a b c) ≡ false
      → (k : ℕ) → refused_at Refusal.LineForm k ≡ verdict (value_checks used sites line k)
  value-unfit used sites f k =
      sym (value-decides used sites k
      ∙ ap (λ (t : Bool). cond (not t) (refused_at Refusal.LineForm k) (verdict (letter_checks sites (take a line) k))) f)

  pub value-fits : (used sites : ℕ) → first_pass is_mode used (three_parts line a b c) ≡ true
      → (k : ℕ) → verdict (letter_checks sites (take a line) k) ≡ verdict (value_checks used sites line k)
  value-fits used sites f k =
      sym (value-decides used sites k
      ∙ ap (λ (t : Bool). cond (not t) (refused_at Refusal.LineForm k) (verdict (letter_checks sites (take a line) k))) f)

  pub shape-fields : (kind : Kind) (r : Result Shape Refusal) → kind ≡ shape_of (take a line)
      → ((k : ℕ) → at_line k (outcome_of r) ≡ verdict (side_checks kind (three_parts line a b c) k))
      → IfOk r (λ s. (s.kind ≡ kind) × (s.group ≡ sides_group kind (part (a + 1) b line) (part (b + 1) c line) (part (c + 1) (length line) line)))
      → ((k : ℕ) → at_line k (outcome_of r) ≡ verdict (shape_checks line k)) × IfOk r (λ s. (s.kind ≡ line_shape line) × (s.group ≡ line_group line))
  shape-fields kind r e x y =
      let s : line_shape line ≡ kind = ap (λ (ps : List (List ℕ)). shape_of (get_or ps 0 [])) four.parts ∙ sym e in
      let checks : (k : ℕ) → verdict (shape_checks line k) ≡ verdict (side_checks kind (three_parts line a b c) k) =
      λ k i. cond (not (is-four i)) (refused_at Refusal.LineForm k) (verdict (side_checks (s i) (drop 1 (four.parts i)) k))
      in
      let group : line_group line ≡ sides_group kind (part (a + 1) b line) (part (b + 1) c line) (part (c + 1) (length line) line) =
      λ i. sides_group (s i) (get_or (four.parts i) 1 []) (get_or (four.parts i) 2 []) (get_or (four.parts i) 3 [])
      in
      ((λ k. x k ∙ sym (checks k)), go r s group y)
    where
      go : (r : Result Shape Refusal) {m n : Kind} {g h : Group} → m ≡ n → g ≡ h
          → IfOk r (λ s. (s.kind ≡ n) × (s.group ≡ h)) → IfOk r (λ s. (s.kind ≡ m) × (s.group ≡ g))
      go (Ok shape) e f (p, q) = (p ∙ sym e, q ∙ sym f)
      go (Err why) e f t = tt
