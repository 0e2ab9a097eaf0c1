-- `planes::put_planes` meets its contract: the bytes of the X plane, and then those of the Z plane, have the bits of the planes of machine words.
use mathlib.Core.Path.{◌≡◌, ◌∙◌}
use mathlib.Core.List.{◌++◌}
use native.Mathlib.Omega.{arith}
use borrow.Rule.Slice.PartMut.{put_mid}
use lib.ListN.{length, drop}
use lib.Seq.{length-take-le}
use Rattle.pauli_word.specs.Limits.{plane_length}
use Rattle.pauli_word.proofs.Planes.{bytes_of_lem}
use Rattle.rotation.proofs.Packs.{z_few, second-length, second-put, unpacked-word}
use Rattle.rotation.proofs.planes.put_planes.Goals as goal

pub unpack-requires-2 : goal.unpack-requires-2
unpack-requires-2 c =
    let word = c.args.word.now in
    let long = c.requires.word_len in
    let x_long : length c.unpack.new.plane ≡ plane_length = c.unpack.auto.plane ∙ length-take-le plane_length word (omega arith) in
    rw (second-length word c.unpack.new.plane long x_long) (omega (arith, z_few c.requires.planes))

pub returns : goal.returns
returns c =
    let word = c.args.word.now in
    let long = c.requires.word_len in
    let front = c.unpack.new.plane in
    let back = c.unpack-2.new.plane in
    let x_long : length front ≡ plane_length = c.unpack.auto.plane ∙ length-take-le plane_length word (omega arith) in
    let z_long : length back ≡ plane_length = c.unpack-2.auto.plane ∙ second-length word front long x_long in
    let put = second-put word front long x_long back in
    let small = bytes_of_lem (put_mid plane_length plane_length (front ++ drop plane_length word) back) (λ i. (c.slice_known-3-1.given i).fits) in
    put ∙ unpacked-word c.requires.planes front back x_long z_long c.unpack.ensures c.unpack-2.ensures (rw put at small)
