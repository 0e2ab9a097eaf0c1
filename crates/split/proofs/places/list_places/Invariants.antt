-- `places::list_places` meets its contract: the places before the one at hand are listed.
use mathlib.Core.Path.{◌≡◌}
use lib.ListN.{length}
use Rattle.split.proofs.Listing.{ListedIn}
use Prim.Native.Nat.{◌≤◌}
use Rattle.split.proofs.places.list_places.Given as goal

abbrev pub invariant-loop-q : goal.invariant-loop-q
invariant-loop-q l = (l.q ≤ l.n) × (length l.table ≡ length l.initial.table) × (length l.number ≡ length l.initial.number) × ListedIn l.q l.m l.entries l.value l.table l.number
