-- `letters::moved` meets its contract: the codes of the word, moved, are those of the moved word.
use Prim.Native.Nat.{ℕ}
use mathlib.Core.Path.{sym, ap, subst, ◌∙◌}
use lib.ListN.{length}
use Rattle.pauli_word.specs.Bytes.{letters_in}
use Rattle.pauli_word.proofs.Words.{decode-length}
use Rattle.action.specs.Permutation.{Permutes}
use Rattle.action.specs.Orbit.{move}
use Rattle.elements.proofs.Codes.{codes-length}
use Rattle.elements.proofs.letters.moved.Goals as goal

pub move_letters-requires : goal.move_letters-requires
move_letters-requires c =
    let w = letters_in c.args.sites c.args.word.now in
    let long = ap length c.unpack.ensures ∙ codes-length w ∙ decode-length c.requires.accepted_word in record {
      permutes = subst (λ (k : ℕ). Permutes k c.args.perm.now) (sym long) c.requires.permutes;
      to_len = c.requires.to_len ∙ sym long;
    }

pub returns : goal.returns
returns c =
    let w = letters_in c.args.sites c.args.word.now in
    c.pack.ensures (move c.args.perm.now w)
    (c.move_letters.ensures w c.unpack.ensures)
