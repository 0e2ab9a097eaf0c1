-- `shape::shape_of` meets its contract.
use native.Mathlib.Omega.{arith}
use Rattle.rotation.proofs.shape.shape_of.Goals as goal

pub returns-then-rotates : goal.returns-then-rotates
returns-then-rotates c = record {
  blocks = record { inside = omega arith; whole = c.if-sites-stride-ne0.false; small = omega (arith, c.if-rest-gt-MAX_SITES.false, c.if-stride-gt-MAX_SITES.false) };
  turns = c.rotates.ensures c.if-rotates.true;
}
