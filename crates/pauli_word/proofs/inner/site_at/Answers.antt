-- `inner::site_at` meets its contract: each plane is a part of the word.
use mathlib.Core.Path.{sym, ◌∙◌, ap}
use mathlib.Core.Bool.{false}
use Prim.Native.Nat.{ℕ}
use native.Mathlib.Omega.{arith}
use lib.ListN.{get_or}
use lib.Seq.{length-take-le}
use mathlib.Core.List.{List}
use Rattle.pauli_word.specs.Bytes.{plane_bits}
use Rattle.pauli_word.proofs.Words.{rest_part}
use Rattle.pauli_word.specs.Limits.{plane_length}
use Rattle.pauli_word.proofs.inner.site_at.Goals as goal

pub slice_bounds-bit_at-end : goal.slice_bounds-bit_at-end
slice_bounds-bit_at-end c = sym (length-take-le plane_length c.args.word.now (omega arith))

pub returns : goal.returns
returns c = let a = c.args in record {
  x = c.bit_at-x.ensures;
  z = c.bit_at-z.ensures ∙ ap (λ (l : List ℕ). get_or (plane_bits l) a.q false) (rest_part plane_length a.word.now);
}
