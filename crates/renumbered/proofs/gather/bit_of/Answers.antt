-- `gather::bit_of` meets its contract.
use Prim.Native.Nat.{◌/◌, ◌%◌, ◌^◌}
use native.Mathlib.Omega.{arith}
use lib.Bits.{and_le_r}
use lib.ListN.{get_or}
use Rattle.packed.specs.Packed.{word_bits, bit_of}
use Rattle.renumbered.proofs.Gathered.{lowest_bit}
use Rattle.renumbered.proofs.gather.bit_of.Goals as goal

pub returns : goal.returns
unfolding bit_of
returns c =
    let a = c.args in record {
      small = omega (arith, and_le_r (c.word_or_zero.result / 2 ^ (a.q % word_bits)) 1);
      bit = rw c.word_or_zero.ensures (lowest_bit (get_or a.plane.now (a.q / word_bits) 0) (a.q % word_bits));
    }
