-- `canonicalize_with_index` meets its contract: the checks pass or refuse, and what `least_of` finds of the word in full is what it answers.
use Prim.Native.Nat.{ℕ}
use mathlib.Core.Path.{sym, ap, ap₂, ◌∙◌}
use mathlib.Core.List.{List}
use Rattle.outcome.specs.Outcome.{Outcome, answer, on_answer, outcome_of}
use Rattle.outcome.proofs.Outcomes.{told-passes, told-refused, call-answers, handed_on}
use Rattle.pauli_word.specs.Word.{Word}
use Rattle.pauli_word.specs.Bytes.{letters_in, bytes_of, word_in}
use Rattle.pauli_word.proofs.Planes.{bytes_of_lem}
use Rattle.group.specs.declared.Group.{Group}
use Rattle.group.specs.Value.{group_in, generators_of}
use Rattle.action.specs.Orbit.{least, index_back}
use Rattle.group.proofs.Accepted.{accepted_tables}
use Rattle.orbit.specs.Calls.{word_call_checks, with_index_outcome, canonical_index}
use Rattle.orbit.specs.declared.CanonicalIndex.{CanonicalIndex}
use Rattle.orbit.proofs.WordCalls.{call-group, call-sites, call_long, full-word}
use borrow.Author.Rules.{rules}
use Rattle.orbit.proofs.canonicalize_with_index.Goals as goal

-- the answer for a word that passes
abbrev found : Group → ℕ → List ℕ → Word × ℕ
found g n bytes = (least (generators_of g) (word_in n bytes), index_back (generators_of g) (word_in n bytes))

-- as the call hands it back
abbrev by_parts : List ℕ → ℕ → Outcome CanonicalIndex
by_parts word index = answer (record { word = word; index = index })

pub in_full-full-requires : goal.in_full-full-requires
in_full-full-requires c = call_long (group_in c.args.group.now.sites c.args.group.now.generators c.args.group.now.orders.now c.args.group.now.targets.now) c.args.n c.args.word.now (told-passes (word_call_checks (group_in c.args.group.now.sites c.args.group.now.generators c.args.group.now.orders.now c.args.group.now.targets.now) c.args.n c.args.word.now) _ c.word_call_checked.ensures c.in_ok-word_call_checked.was)

pub least_of-least-requires : goal.least_of-least-requires
least_of-least-requires c =
    let bytes = c.args.word.now in record {
      tables = accepted_tables (group_in c.args.group.now.sites c.args.group.now.generators c.args.group.now.orders.now c.args.group.now.targets.now) (call-group (group_in c.args.group.now.sites c.args.group.now.generators c.args.group.now.orders.now c.args.group.now.targets.now) c.args.n bytes (told-passes (word_call_checks (group_in c.args.group.now.sites c.args.group.now.generators c.args.group.now.orders.now c.args.group.now.targets.now) c.args.n c.args.word.now) _ c.word_call_checked.ensures c.in_ok-word_call_checked.was) (search rules) (search rules));
      accepted_word = rw c.in_full-full.ensures
          (full-word (group_in c.args.group.now.sites c.args.group.now.generators c.args.group.now.orders.now c.args.group.now.targets.now) c.args.n bytes (told-passes (word_call_checks (group_in c.args.group.now.sites c.args.group.now.generators c.args.group.now.orders.now c.args.group.now.targets.now) c.args.n c.args.word.now) _ c.word_call_checked.ensures c.in_ok-word_call_checked.was) (bytes_of_lem bytes (λ i. (c.shared_slice_known-1.given i).fits)));
    }

pub returns-in_err-word_call_checked : goal.returns-in_err-word_call_checked
unfolding with_index_outcome
returns-in_err-word_call_checked c =
    let g = group_in c.args.group.now.sites c.args.group.now.generators c.args.group.now.orders.now c.args.group.now.targets.now in
    let bytes = c.args.word.now in
    let e = told-refused (word_call_checks g c.args.n bytes) _ c.word_call_checked.ensures (answer (found g c.args.n bytes)) c.in_err-word_call_checked.was in
    ap outcome_of (handed_on c.from_residual.result c.from_residual.ensures.1)
    ∙ sym (ap (on_answer canonical_index) e)

pub returns : goal.returns
unfolding with_index_outcome generators_of
returns c =
    let g = group_in c.args.group.now.sites c.args.group.now.generators c.args.group.now.orders.now c.args.group.now.targets.now in
    let n = c.args.n in
    let bytes = c.args.word.now in
    let e = call-answers (word_call_checks g n bytes) (answer (found g n bytes)) (told-passes (word_call_checks (group_in c.args.group.now.sites c.args.group.now.generators c.args.group.now.orders.now c.args.group.now.targets.now) c.args.n c.args.word.now) _ c.word_call_checked.ensures c.in_ok-word_call_checked.was) in
    let letters = ap (letters_in c.args.group.now.sites) c.in_full-full.ensures ∙ ap (λ (k : ℕ). word_in k bytes) (sym (call-sites g n bytes (told-passes (word_call_checks (group_in c.args.group.now.sites c.args.group.now.generators c.args.group.now.orders.now c.args.group.now.targets.now) c.args.n c.args.word.now) _ c.word_call_checked.ensures c.in_ok-word_call_checked.was))) in
    let word = c.least_of-least.ensures.word ∙ ap (λ (w : Word). bytes_of (least (generators_of g) w)) letters in
    let index = c.least_of-least.ensures.index ∙ ap (index_back (generators_of g)) letters in
    ap₂ by_parts word index ∙ sym (ap (on_answer canonical_index) e)
