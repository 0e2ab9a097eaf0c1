-- `words::put_word` meets its contract: byte by byte, the plane has the bits of one byte more.
use mathlib.Core.Path.{refl}
use native.Mathlib.Omega.{arith}
use lib.ListN.{length, length-set}
use Rattle.packed.proofs.Packing.{put_first, put_next}
use Rattle.packed.proofs.words.put_word.Goals as goal

pub bounds-plane-at-2 : goal.bounds-plane-at-2
bounds-plane-at-2 c = simp length-set (omega arith)

pub bounds-plane-at-3 : goal.bounds-plane-at-3
bounds-plane-at-3 c = simp length-set (omega arith)

pub bounds-plane-at-4 : goal.bounds-plane-at-4
bounds-plane-at-4 c = simp length-set (omega arith)

pub bounds-plane-at-5 : goal.bounds-plane-at-5
bounds-plane-at-5 c = simp length-set (omega arith)

pub bounds-plane-at-6 : goal.bounds-plane-at-6
bounds-plane-at-6 c = simp length-set (omega arith)

pub bounds-plane-at-7 : goal.bounds-plane-at-7
bounds-plane-at-7 c = simp length-set (omega arith)

pub bounds-plane-at-8 : goal.bounds-plane-at-8
bounds-plane-at-8 c = simp length-set (omega arith)

pub returns : goal.returns
returns c =
    λ f bits old.
    let a = c.args in
    let one = put_first a.x {n = length a.plane.now} c.requires bits a.plane.now refl old in
    let two = put_next a.x c.requires bits 1 (omega arith) one in
    let three = put_next a.x c.requires bits 2 (omega arith) two in
    let four = put_next a.x c.requires bits 3 (omega arith) three in
    let five = put_next a.x c.requires bits 4 (omega arith) four in
    let six = put_next a.x c.requires bits 5 (omega arith) five in
    let seven = put_next a.x c.requires bits 6 (omega arith) six in
    (put_next a.x c.requires bits 7 (omega arith) seven).held
