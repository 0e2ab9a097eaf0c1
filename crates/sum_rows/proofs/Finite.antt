-- A float that lies between the infinities is finite, and no other is.
use mathlib.Core.Path.{◌≡◌, refl, sym}
use mathlib.Core.Bool.{true, false, false≢true}
use lib.Ieee.{Float, nan, inf, fin, lt}
use Rattle.sum_rows.specs.Sums.{finite}

pub between : (x : Float) → lt (inf true) x ≡ true → lt x (inf false) ≡ finite x
unfolding lt
between nan h = refl
between (inf true) h = absurd (false≢true h)
between (inf false) h = refl
between (fin s m e) h = refl

pub not_above : (x : Float) → lt (inf true) x ≡ false → false ≡ finite x
unfolding lt
not_above nan h = refl
not_above (inf true) h = refl
not_above (inf false) h = absurd (false≢true (sym h))
not_above (fin s m e) h = absurd (false≢true (sym h))
