-- A list copied over another from the front.
use Prim.Native.Nat.{ℕ, ◌+◌, ◌≤◌, ◌<◌}
use mathlib.Core.Path.{◌≡◌, sym, ◌∙◌}
use mathlib.Core.List.{List}
use native.Mathlib.Numerals.{add-one}
use native.Mathlib.Omega.{arith}
use lib.ListN.{length, get_or, set, take}
use lib.Seq.{take-suc, take-suc-set, take_all}

pub copy_next : (src dst : List ℕ) (i : ℕ) → i < length src → length src ≡ length dst → take i dst ≡ take i src
    → take (i + 1) (set dst i (get_or src i 0)) ≡ take (i + 1) src
copy_next src dst i h l e =
    rw (add-one i, take-suc-set dst i (get_or src i 0) (omega arith), take-suc src i 0 h, e)

pub copy_end : (src dst : List ℕ) (i : ℕ) → length src ≤ i → length src ≡ length dst → take i dst ≡ take i src → dst ≡ src
copy_end src dst i h l e = sym (take_all i dst (omega arith)) ∙ e ∙ take_all i src h
