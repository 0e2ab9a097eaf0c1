-- What a sheet prints: the line of its first broken rule, or its table.
-- What carries it: the checks of a sheet come to those of its first three lines, and then to those of its value lines.
use Rattle.std.specs.Prelude.{Result, Ok, Err}
use Prim.Native.Nat.{ℕ, ◌-◌, ◌≤◌, ◌<◌}
use mathlib.Core.Path.{◌≡◌, refl, sym, ap, ap₂, subst, ◌∙◌}
use mathlib.Core.Bool.{Bool, cond}
use mathlib.Core.List.{List, [], ◌∷◌, ◌++◌}
use native.Mathlib.Nat.{sub-zero}
use native.Mathlib.Omega.{arith}
use lib.ListN.{length, get_or, take, drop, length-drop}
use lib.Seq.{take_at}
use borrow.Author.Tests.{lt-ltb, le-ltb, ltb-false}
use Rattle.outcome.specs.Outcome.{Outcome, refused, answer, verdict, given, on_answer, done, rule_number, rule_values, refusal_of}
use Rattle.outcome.specs.declared.Refusal.{Refusal}
use Rattle.outcome.specs.declared.Refusal.TheVariants as Refusal
use Rattle.sheet_lines.specs.declared.LineFault.{LineFault}
use Rattle.pauli_word.proofs.Words.{rest_part}
use Rattle.action.specs.Permutation.{Generator}
use Rattle.elements.specs.HeldGroup.{generators_in, Tables}
use Rattle.group.specs.declared.Group.{Group}
use Rattle.group.specs.Value.{generators_of, AcceptedGroup}
use Rattle.group.proofs.Accepted.{accepted_tables}
use Rattle.text.specs.Text.{line_end, pieces, put}
use Rattle.sheet_lines.specs.Lines.{modes_of, line_shape, line_sites, body_checks, line_checks}
use Rattle.sheet_text.specs.Sheet.{table_names, sheet_size, max_sheet, sheet_checks, rows, line_generators, table, sheet_outcome, printed, sheet, written_outcome, page_of, table_page, refusal_page}
use Rattle.sheet_lines.specs.Parts.{line_group, Ready, outcome_of_lines, refused_at}
use Rattle.sheet_lines.specs.declared.head.Head.{Head}
use Rattle.sheet_text.proofs.Groups.{line-stands, line-sites, modes_few}
use Rattle.sheet_rows.specs.Rows.{refusal_line}
use Rattle.outcome.proofs.Outcomes.{refused_apart, verdict-fine}

-- what goes with what the checks of a sheet come to
abbrev pub Prints : List ℕ → Result (Unit {0}) LineFault → List ℕ → Type 0
Prints input v text = (outcome_of_lines v ≡ on_answer done (sheet_outcome input)) × (sheet input ≡ text)

module _ (input : List ℕ) where
  prints-by : (v : Outcome (Unit {0})) → verdict (sheet_checks input) ≡ v → sheet_outcome input ≡ given v (answer (table (pieces line_end input)))
  unfolding sheet_outcome
  prints-by v e = ap (λ (u : Outcome (Unit {0})). given u (answer (table (pieces line_end input)))) e

  -- a rule is broken
  pub sheet-broken : (fault : LineFault) → refused_at fault.why fault.line ≡ verdict (sheet_checks input)
      → Prints input (Err fault) (refusal_line (rule_number fault.why) fault.line)
  unfolding sheet
  sheet-broken fault e =
      let o = prints-by (refused_at fault.why fault.line) (sym e) in
      (sym (ap (on_answer done) o), ap printed o)

  -- none is
  pub sheet-fine : verdict (sheet_checks input) ≡ answer tt → Prints input (Ok tt) (table (pieces line_end input))
  unfolding sheet
  sheet-fine f =
      let o = prints-by (answer tt) f in
      (sym (ap (on_answer done) o), ap printed o)

  -- 30
  pub size-broken : max_sheet < length input → refused_at Refusal.SheetLength 0 ≡ verdict (sheet_checks input)
  size-broken h =
      sym
      (ap (λ (b : Bool). cond b (refused_at Refusal.SheetLength 0) (verdict (line_checks (pieces line_end input)))) (lt-ltb max_sheet (length input) h))

  -- else the lines decide
  pub lines-decide : length input ≤ max_sheet → verdict (sheet_checks input) ≡ verdict (line_checks (pieces line_end input))
  lines-decide short =
      ap (λ (b : Bool). cond b (refused_at Refusal.SheetLength 0) (verdict (line_checks (pieces line_end input)))) (le-ltb max_sheet (length input) short)

  pub sheet-passes : verdict (sheet_checks input) ≡ answer tt → (length input ≤ max_sheet) × (verdict (line_checks (pieces line_end input)) ≡ answer tt)
  sheet-passes e =
      let (size, fine) = verdict-fine (sheet_size input) (line_checks (pieces line_end input)) e in
      (ltb-false max_sheet (length input) size, fine)

-- the table, by its second line and the lines after the third
pub table-rows : (ls ps : List (List ℕ)) (line : List ℕ) → get_or ls 1 [] ≡ line → drop 3 ls ≡ ps
    → table ls ≡ (table_names ++ (line_end ∷ [])) ++ rows (modes_of (line_shape line)) (line_generators line) ps
unfolding table
table-rows ls ps line second more = rw (second, more)

-- after the first three lines
module _ (input : List ℕ) (short : length input ≤ max_sheet) (h : Head) (ready : Ready input h) where
  -- the value lines, as a slice
  abbrev pub body : List ℕ
  body = take (length input - h.body) (drop h.body input)

  body_is : body ≡ drop h.body input
  body_is = rest_part h.body input

  stands : AcceptedGroup (line_group ready.line) × (generators_of (line_group ready.line) ≡ line_generators ready.line) × ((line_group ready.line).generators ≡ modes_of (line_shape ready.line))
  stands = line-stands ready.line 2 ready.fine

  pub ready-few : h.used ≤ 3
  ready-few = rw ready.used (modes_few (line_shape ready.line))

  ready-accepted : AcceptedGroup h.group
  ready-accepted = rw ready.group stands.0

  ready-count : h.used ≡ h.group.generators
  ready-count = ready.used ∙ sym stands.2 ∙ ap (λ (g : Group). g.generators) (sym ready.group)

  pub ready-short : length body ≤ max_sheet
  ready-short = omega (arith, ap length body_is, length-drop h.body input)

  same-sites : h.group.sites ≡ line_sites ready.line
  same-sites = ap (λ (g : Group). g.sites) ready.group ∙ line-sites ready.line 2 ready.fine

  pub ready-checks : verdict (line_checks (pieces line_end input)) ≡ verdict (body_checks h.used h.group.sites (pieces line_end body) 4)
  ready-checks =
      ready.checks
      ∙ ap₂ (λ (n : ℕ) (t : List ℕ). verdict (body_checks h.used n (pieces line_end t) 4)) (sym same-sites) (sym body_is)

  -- what its group prints
  pub ready-prints : verdict (sheet_checks input) ≡ answer tt
      → Prints input (Ok tt) ((table_names ++ (line_end ∷ [])) ++ rows h.group.generators (generators_in h.group.generators h.group.sites h.group.targets h.group.orders) (pieces line_end body))
  unfolding generators_of
  ready-prints fine =
      let gens : generators_in h.group.generators h.group.sites h.group.targets h.group.orders ≡ line_generators ready.line =
      ap generators_of ready.group ∙ stands.1
      in
      let (answers, text) = sheet-fine input fine in (
        answers,
        text
            ∙ table-rows (pieces line_end input) (pieces line_end body) ready.line ready.second (ready.lines ∙ ap (pieces line_end) (sym body_is))
            ∙ rw (gens, sym ready-count, ready.used),
      )

  -- and the same group lent
  module _ (g : Group) (same : g ≡ h.group) where
    pub lent-tables : Tables g.generators g.sites g.targets g.orders
    lent-tables = accepted_tables g (rw same ready-accepted)

    pub lent-few : g.generators ≤ 3
    lent-few = omega (arith, ap (λ (g : Group). g.generators) same, ready-count, ready-few)

    pub lent-checks : verdict (line_checks (pieces line_end input)) ≡ answer tt → verdict (body_checks g.generators g.sites (pieces line_end body) 4) ≡ answer tt
    lent-checks fine =
        ap₂ (λ (m n : ℕ). verdict (body_checks m n (pieces line_end body) 4)) (ap (λ (g : Group). g.generators) same ∙ sym ready-count) (ap (λ (g : Group). g.sites) same)
        ∙ sym ready-checks
        ∙ fine

    pub lent-prints : verdict (sheet_checks input) ≡ answer tt
        → Prints input (Ok tt) ((table_names ++ (line_end ∷ [])) ++ rows g.generators (generators_in g.generators g.sites g.targets g.orders) (pieces line_end body))
    lent-prints fine =
        subst
        (λ (g : Group). Prints input (Ok tt) ((table_names ++ (line_end ∷ [])) ++ rows g.generators (generators_in g.generators g.sites g.targets g.orders) (pieces line_end body)))
        (sym same) (ready-prints fine)

-- ---- the call

module _ (input : List ℕ) (k : ℕ) where
  pub list-short : k < length (sheet input) → written_outcome input k ≡ refusal_of Refusal.ListLength
  unfolding written_outcome
  list-short h = rw (lt-ltb k (length (sheet input)) h)

  pub list-long : length (sheet input) ≤ k → written_outcome input k ≡ answer (page_of (sheet_outcome input))
  unfolding written_outcome
  list-long h = rw (le-ltb k (length (sheet input)) h)

  -- what is told of a page: a table, or a refusal at a line
  pub page-table : length (sheet input) ≤ k → answer tt ≡ on_answer done (sheet_outcome input)
      → answer (table_page (length (sheet input))) ≡ written_outcome input k
  unfolding sheet
  page-table h e = go (sheet_outcome input) e ∙ sym (list-long h)
    where
      go : (o : Outcome (List ℕ)) → answer tt ≡ on_answer done o → answer (table_page (length (printed o))) ≡ answer (page_of o)
      go (refused j vs) f = absurd (refused_apart j vs tt (sym f))
      go (answer text) f = refl

  pub page-refused : length (sheet input) ≤ k → (why : Refusal) (line : ℕ) → refused_at why line ≡ on_answer done (sheet_outcome input)
      → answer (refusal_page (rule_number why) line (rule_values why) (length (sheet input))) ≡ written_outcome input k
  unfolding sheet
  page-refused h why line e = go (sheet_outcome input) e ∙ sym (list-long h)
    where
      go : (o : Outcome (List ℕ)) → refused_at why line ≡ on_answer done o → answer (refusal_page (rule_number why) line (rule_values why) (length (printed o))) ≡ answer (page_of o)
      go (refused j []) f = let z : ◌≡◌ {A = ℕ} 0 1 = cc in absurd (omega arith)
      go (refused j (l ∷ vs)) f =
          let x : rule_number why ≡ j = cc in
          let y : line ≡ l = cc in
          let z : rule_values why ≡ vs = cc in
          rw (x, y, z)
      go (answer text) f = absurd (refused_apart _ _ tt f)

-- what is written at the front of a list
pub printed-front : (text list : List ℕ) (r : ℕ) → r ≡ length text → take (r - 0) (put 0 text list) ≡ text
unfolding put
printed-front text list r e = ap (λ (k : ℕ). take k (put 0 text list)) (sub-zero r) ∙ take_at text _ r (sym e)
