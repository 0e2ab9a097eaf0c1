-- `inner::in_full` meets its contract: half of the bytes are one plane, and the others the other (`full-spread`).
use mathlib.Core.Path.{refl, sym, ◌∙◌}
use Rattle.pauli_word.proofs.Forms.{half-few, half-long, full-spread}
use Rattle.pauli_word.proofs.inner.in_full.Goals as goal

pub spread-requires : goal.spread-requires
spread-requires c =
    let word = c.args.word.now in record {
      word_len = (half-long word c.requires, half-few word c.requires);
      full_value = refl;
    }

pub returns : goal.returns
returns c =
    c.spread.ensures ∙ sym (full-spread c.args.word.now c.requires)
