-- `words::word_from` meets its contract: byte by byte, what is joined holds the bits of one byte more.
use Prim.Native.Nat.{ℕ, ◌+◌, ◌<◌}
use native.Mathlib.Omega.{arith}
use lib.ListN.{get_or}
use Rattle.pauli_word.specs.Bytes.{byte_values}
use Rattle.packed.proofs.Packing.{holding_one, holding-next}
use Rattle.packed.proofs.words.word_from.Goals as goal

pub returns : goal.returns
returns c =
    let a = c.args in
    let byte : (i : ℕ) → get_or a.bytes.now i 0 < byte_values = λ i. (c.shared_slice_known-8-1.given i).fits in
    let one = holding_one a.bytes.now a.at (byte a.at) in
    let two = holding-next {j = 1} (omega arith) (byte (a.at + 1)) one in
    let three = holding-next {j = 2} (omega arith) (byte (a.at + 2)) two in
    let four = holding-next {j = 3} (omega arith) (byte (a.at + 3)) three in
    let five = holding-next {j = 4} (omega arith) (byte (a.at + 4)) four in
    let six = holding-next {j = 5} (omega arith) (byte (a.at + 5)) five in
    let seven = holding-next {j = 6} (omega arith) (byte (a.at + 6)) six in
    (holding-next {j = 7} (omega arith) (byte (a.at + 7)) seven).held
