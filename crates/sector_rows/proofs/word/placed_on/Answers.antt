-- `word::placed_on` meets its contract: the parts have answered, or the path of the group is taken.
use Prim.Native.Nat.{ℕ}
use mathlib.Core.Path.{refl, ap₂, ◌∙◌}
use mathlib.Core.Bool.{cond}
use native.Mathlib.Omega.{arith}
use lib.Dec.{eqb}
use Rattle.pauli_word.specs.Bytes.{letters_in}
use Rattle.pauli_word.proofs.Words.{decode-length}
use Rattle.rotation.proofs.Packs.{fresh-length}
use Rattle.decisions.specs.declared.placement.Placement.TheVariants as Placement
use Rattle.sector_rows.proofs.Written.{decided_told}
use Rattle.sector_rows.proofs.word.placed_on.Goals as goal

pub word_taken-requires : goal.word_taken-requires
word_taken-requires c = record {
  tables = c.requires.tables;
  modes_len = c.requires.modes_len;
  accepted_word = c.requires.accepted_word.0;
  out_len = (c.requires.accepted_word.1, refl, refl);
}

pub returns-then-word_taken : goal.returns-then-word_taken
returns-then-word_taken c =
    let a = c.args in
    let yes' = c.if-word_taken.true in record {
      answer = c.told.ensures
          ∙ ap₂ (λ (i n : ℕ). cond (eqb n 0) (Placement.Dropped i) (Placement.Kept i n)) (c.word_taken.ensures.index yes') (c.word_taken.ensures.size yes')
          ∙ decided_told c.requires.tables.valid a.modes.now (letters_in a.group.now.sites a.word.now) (decode-length c.requires.accepted_word.0);
      word = c.word_taken.ensures.word yes';
    }

pub placed_into-requires : goal.placed_into-requires
placed_into-requires c =
    let left = fresh-length c.words-room.result (omega (arith, c.words-room.ensures, c.requires.taken.1)) ∙ c.words-room.ensures in
    let long = c.word_taken.auto.out ∙ c.requires.accepted_word.1 in record {
      tables = c.requires.tables;
      taken = c.requires.taken.0;
      order_value = c.requires.order_value;
      m_value = c.phase_modulus-modulus.ensures;
      modes_len = c.requires.modes_len;
      accepted_word = c.requires.accepted_word.0;
      left_len = (left, long);
    }
