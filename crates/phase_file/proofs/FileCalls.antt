-- The call as its parts give it: refused by its length or its form, or decided by the tests of the table that is read.
-- What carries it: the table as it is read passes exactly if the file's table does, and is then the same (`read-passes`, `read_same`).
use Prim.Native.Nat.{ℕ, ◌≤◌, ◌<◌}
use mathlib.Core.Path.{◌≡◌, refl, sym, ap, ◌∙◌}
use mathlib.Core.Bool.{Bool, true, false, cond}
use mathlib.Core.List.{List, [], ◌∷◌}
use Rattle.std.specs.Prelude.{Result, Err}
use lib.Dec.{ltb}
use lib.ListN.{length}
use borrow.Author.Tests.{lt-ltb, le-ltb}
use Rattle.outcome.specs.declared.Refusal.{Refusal}
use Rattle.outcome.specs.Outcome.{Outcome, answer, refusal_of, unless}
use Rattle.text.specs.Text.{line_end, pieces}
use Rattle.phases.specs.declared.PhaseTable.{PhaseTable}
use Rattle.phases.specs.Table.{phase_table}
use Rattle.phases.specs.Rules.{passes}
use Rattle.phases.specs.Checks.{broken_table}
use Rattle.phase_file.specs.declared.RefusedFile.{RefusedFile}
use Rattle.phase_file.specs.File.{max_file, is_file, table_in, file_outcome, table_after}
use Rattle.phase_file.specs.Calls.{outcome_of_file, table_handed}
use Rattle.phase_file.specs.Read.{table_read}
use Rattle.phase_file.proofs.Tables.{read-passes, read_same}

-- what is handed back is what an outcome says
abbrev pub HandedBack : Result PhaseTable RefusedFile → Outcome PhaseTable → Type 0
HandedBack r o = (outcome_of_file r ≡ o) × (table_handed r ≡ table_after o)

-- a refusal, beside the constant table
refused_back : (r : RefusedFile) (why : Refusal) → (r.why ≡ why) × (r.table ≡ phase_table)
    → (o : Outcome PhaseTable) → o ≡ refusal_of why → HandedBack (Err r) o
refused_back r why told o e = rw (e, told.0, told.1) (refl, refl)

module _ (file : List ℕ) where
  abbrev lines : List (List ℕ)
  lines = pieces line_end file

  pub file-long : max_file < length file → file_outcome file ≡ refusal_of Refusal.PhaseForm
  unfolding file_outcome
  file-long h = simp (lt-ltb max_file (length file) h)

  pub file-formless : is_file lines ≡ false → file_outcome file ≡ refusal_of Refusal.PhaseForm
  unfolding file_outcome
  file-formless e = go (ltb max_file (length file)) refl
    where
      go : (b : Bool) → ltb max_file (length file) ≡ b → file_outcome file ≡ refusal_of Refusal.PhaseForm
      go true p = simp p
      go false p = simp (p, e)

  module _ (r : RefusedFile) (told : (r.why ≡ Refusal.PhaseForm) × (r.table ≡ phase_table)) where
    pub long-back : max_file < length file → HandedBack (Err r) (file_outcome file)
    long-back h = refused_back r Refusal.PhaseForm told (file_outcome file) (file-long h)

    pub formless-back : false ≡ is_file lines → HandedBack (Err r) (file_outcome file)
    formless-back e = refused_back r Refusal.PhaseForm told (file_outcome file) (file-formless (sym e))

  module _ (h : length file ≤ max_file) (form : true ≡ is_file lines) where
    pub file-answers : passes (table_in lines) ≡ true → file_outcome file ≡ answer (table_in lines)
    unfolding file_outcome
    file-answers p = simp (le-ltb max_file (length file) h, sym form, p)

    pub file-breaks : passes (table_in lines) ≡ false → file_outcome file ≡ refusal_of Refusal.PhaseRule
    unfolding file_outcome
    file-breaks p = simp (le-ltb max_file (length file) h, sym form, p)

    -- the tests of the table that is read decide
    pub tested-table : (table : PhaseTable) → table ≡ table_read lines → unless (broken_table table ∷ []) (answer table) ≡ file_outcome file
    tested-table table e = go (passes (table_in lines)) refl
      where
        go : (b : Bool) → passes (table_in lines) ≡ b → unless (broken_table table ∷ []) (answer table) ≡ file_outcome file
        go true p =
            let same = e ∙ read_same lines p in
            let fine = ap passes same ∙ p in
            rw (file-answers p) (simp fine (ap answer same))
        go false p =
            let broken = ap passes e ∙ read-passes lines ∙ p in
            rw (file-breaks p) (simp broken)

    -- and so it is with the table that is handed back
    pub tested-back : (r : Result PhaseTable RefusedFile) (table : PhaseTable) → table ≡ table_read lines
        → outcome_of_file r ≡ unless (broken_table table ∷ []) (answer table) → table_handed r ≡ cond (passes table) table phase_table
        → HandedBack r (file_outcome file)
    tested-back r table e a t = (a ∙ tested-table table e, go (passes (table_in lines)) refl)
      where
        go : (b : Bool) → passes (table_in lines) ≡ b → table_handed r ≡ table_after (file_outcome file)
        go true p =
            let same = e ∙ read_same lines p in
            let fine = ap passes same ∙ p in
            rw (file-answers p) (t ∙ ap (λ (b : Bool). cond b table phase_table) fine ∙ same)
        go false p =
            let broken = ap passes e ∙ read-passes lines ∙ p in
            rw (file-breaks p) (t ∙ ap (λ (b : Bool). cond b table phase_table) broken)
