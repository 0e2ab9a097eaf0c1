-- The numbers of a table are the nearest whole numbers to unit times the cosine and the sine. This is computed in whole numbers: n stands for
-- n / scale, and a division is rounded down for a lower bound and up for an upper bound.
-- The cosine at x is 1 - x²/2! + x⁴/4! - ..: a partial sum that ends with a subtracted term is at most the cosine, and one that ends with an
-- added term at least. The cosine falls from 0 to a half turn, so its lower bound is taken at the upper bound of the angle, and its upper bound
-- at the lower one. The sine of an angle is the cosine of what is left to a quarter turn.
use Rattle.std.specs.Prelude.{ℕ, zero, suc, ◌+◌, ◌*◌, ◌-◌, ◌/◌, ◌^◌, ◌≤◌, Bool, ◌&&◌, ℤ, pos, ◌+ℤ◌, ◌-ℤ◌, ◌*ℤ◌, ◌<ℤ◌}
use Rattle.std.specs.Int.Signed.{lt_z}
use Rattle.phases.specs.declared.PhaseTable.{PhaseTable}
use Rattle.phases.specs.Rules.{quarter, unit, cosine, sine, each_below}

-- what stands for 1
abbrev pub scale : ℕ
scale = 10 ^ 25

-- pi is between these two: 3.141592653589793 and 3.141592653589794
abbrev pub pi_low : ℕ
pi_low = 3141592653589793 * 10 ^ 10

abbrev pub pi_high : ℕ
pi_high = 3141592653589794 * 10 ^ 10

-- a / b rounded down
abbrev pub down : ℕ → ℕ → ℕ
down a b = a / b

-- above a / b, by at most 1
abbrev pub up : ℕ → ℕ → ℕ
up a b = suc (a / b)

-- the terms of the series at x: after v, the term of power k, comes v x² / ((k + 1) (k + 2)), rounded down and rounded up
abbrev pub term_low : ℕ → ℕ → ℕ → ℕ
term_low x k v = down (v * (x * x)) (scale * scale * ((k + 1) * (k + 2)))

abbrev pub term_high : ℕ → ℕ → ℕ → ℕ
term_high x k v = up (v * (x * x)) (scale * scale * ((k + 1) * (k + 2)))

-- the alternating sum of n terms at x, from the term of power k on, which lies between v and w: the term less the sum of the terms after it,
-- so a lower bound takes the term's lower bound and an upper bound of the rest
unfoldable mutual
  pub sum_low : ℕ → ℕ → ℕ → ℕ → ℕ → ℤ
  sum_low x k v w zero = pos 0
  sum_low x k v w (suc n) = pos v -ℤ sum_high x (k + 2) (term_low x k v) (term_high x k w) n

  pub sum_high : ℕ → ℕ → ℕ → ℕ → ℕ → ℤ
  sum_high x k v w zero = pos 0
  sum_high x k v w (suc n) = pos w -ℤ sum_low x (k + 2) (term_low x k v) (term_high x k w) n

-- the terms up to that of power 22, which is subtracted
abbrev pub even_count : ℕ
even_count = 12

-- a lower bound of the cosine at x: a partial sum that ends with a subtracted term
unfoldable pub cosine_low : ℕ → ℤ
unfolding sum_low
cosine_low x = sum_low x 0 scale scale even_count

-- an upper bound of the cosine at x: one term more, which is added
unfoldable pub cosine_high : ℕ → ℤ
unfolding sum_high
cosine_high x = sum_high x 0 scale scale (suc even_count)

-- the angle of j steps lies between these two: a half turn, two quarters, is pi
abbrev pub angle_low : ℕ → ℕ
angle_low j = down (j * pi_low) (2 * quarter)

abbrev pub angle_high : ℕ → ℕ
angle_high j = up (j * pi_high) (2 * quarter)

-- The bounds of pi: half of the lower one is an angle with a positive cosine, and half of the upper one an angle with a negative cosine. The
-- cosine falls from 0 to 2, and pi / 2 is its zero there.
pub record PiBetween : Type 0 where
  pub low : pos 0 <ℤ cosine_low (up pi_low 2)
  pub high : cosine_high (down pi_high 2) <ℤ pos 0

-- z is the nearest whole number to unit times the cosine of j steps: that lies between z - 1/2 and z + 1/2 (both sides times 2 and the scale)
pub record NearestCosine (j : ℕ) (z : ℤ) : Type 0 where
  pub low : ((pos 2 *ℤ z -ℤ pos 1) *ℤ pos scale) <ℤ (pos (2 * unit) *ℤ cosine_low (angle_high j))
  pub high : (pos (2 * unit) *ℤ cosine_high (angle_low j)) <ℤ ((pos 2 *ℤ z +ℤ pos 1) *ℤ pos scale)

-- The numbers of the first quarter are the nearest whole numbers. The other quarters follow: by its rules a table takes (c, s) to (-s, c) from
-- quarter to quarter, and so do the cosine and the sine.
pub record PhaseNearest (t : PhaseTable) : Type 0 where
  pub cosines : (j : ℕ) → j ≤ quarter → NearestCosine j (cosine t j)
  pub sines : (j : ℕ) → j ≤ quarter → NearestCosine (quarter - j) (sine t j)

-- whether z is the nearest whole number to unit times the cosine of j steps
abbrev pub is_nearest : ℕ → ℤ → Bool
is_nearest j z =
    lt_z ((pos 2 *ℤ z -ℤ pos 1) *ℤ pos scale) (pos (2 * unit) *ℤ cosine_low (angle_high j))
    && lt_z (pos (2 * unit) *ℤ cosine_high (angle_low j)) ((pos 2 *ℤ z +ℤ pos 1) *ℤ pos scale)

-- whether the cosine and the sine of entry j are the nearest whole numbers
abbrev pub entry_nearest : PhaseTable → ℕ → Bool
entry_nearest t j = is_nearest j (cosine t j) && is_nearest (quarter - j) (sine t j)

-- whether the numbers of the first quarter are the nearest whole numbers
unfoldable pub nearest_test : PhaseTable → Bool
nearest_test t = each_below (entry_nearest t) (suc quarter)
