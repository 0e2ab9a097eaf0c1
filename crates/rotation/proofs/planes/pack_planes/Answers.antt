-- `planes::pack_planes` meets its contract: each plane has the bits of its part of the bytes.
use mathlib.Core.Path.{◌≡◌, ◌∙◌}
use lib.ListN.{length}
use Rattle.rotation.proofs.Packs.{packed-planes, packed-letters}
use Rattle.rotation.proofs.planes.pack_planes.Goals as goal

pub returns : goal.returns
returns c =
    let m = length c.args.x.now in
    let x = c.pack.new.words in
    let z = c.pack-2.new.words in
    let x_long = c.pack.auto.words in
    let z_long : length z ≡ m = c.pack-2.auto.words ∙ c.requires.x_len_bound.2 in
    let hz = rw c.requires.x_len_bound.2 at c.pack-2.ensures in record {
      planes = packed-planes c.requires.accepted_word m c.requires.x_len_bound.0 c.requires.x_len_bound.1 x z x_long z_long c.pack.ensures hz;
      letters = packed-letters c.requires.accepted_word m c.requires.x_len_bound.0 c.requires.x_len_bound.1 x z x_long z_long c.pack.ensures hz;
    }
