-- Turns told apart by bits: the scan over one block of a plane, step by step, and the turns that bits in blocks leave of others.
use Rattle.std.specs.declared.cmp.Ordering.{Ordering}
use Rattle.std.specs.declared.cmp.Ordering.TheVariants.{Less, Equal, Greater}
use Rattle.std.specs.Prelude.{ℕ, ◌+◌, ◌*◌, ◌-◌, ◌%◌, ◌<◌, min, max, ◌≡◌, Bool, cond, List, ltb, eqb}
use Rattle.packed.specs.Packed.{bit_of, LessAt, rotated}
use Rattle.cyclic.specs.declared.scan.Scan.{Scan}

-- bit p of the block of b bits at base, read round
abbrev pub round_at : List ℕ → ℕ → ℕ → ℕ → Bool
round_at ws base b p = bit_of ws (base + p % b)

-- bit y of symbol a of such a block: symbols are runs of step bits, from start on
abbrev pub symbol_at : List ℕ → ℕ → ℕ → ℕ → ℕ → ℕ → ℕ → Bool
symbol_at ws base b start step a y = round_at ws base b (start + a * step + y)

-- bits in blocks of b, each block turned round by r
abbrev pub around : (ℕ → Bool) → ℕ → ℕ → ℕ → Bool
around h b r t = h (rotated r b t)

-- a scan that starts anew at i and j, or past j where the two met
abbrev pub parted : ℕ → ℕ → Scan
parted i j = record { i = i; j = cond (eqb i j) (j + 1) j; k = 0 }

-- the scan after the symbols k on from i and j were compared
abbrev pub next_scan : Ordering → Scan → Scan
next_scan Less s = parted s.i (s.j + s.k + 1)
next_scan Equal s = record { i = s.i; j = s.j; k = s.k + 1 }
next_scan Greater s = parted (s.i + s.k + 1) s.j

-- the period that a scan of m symbols came to: the distance of its places if they agree all round, or else all
abbrev pub period_of : ℕ → Scan → ℕ
period_of m s = cond (ltb s.k m) m (max s.i s.j - min s.i s.j)

-- of the turns by start and every step after it, those by first and every next after it give the least of n bits, turned inside blocks of b
pub record Narrowed (n b : ℕ) (h : ℕ → Bool) (start step first next : ℕ) : Type 0 where
  pub inside : first < next
  pub divides : b % next ≡ 0
  pub among : (r : ℕ) → r % next ≡ first → r % step ≡ start
  pub ties : (r u : ℕ) → r % next ≡ first → u % next ≡ first → (t : ℕ) → t < n → around h b r t ≡ around h b u t
  pub rest : (r u : ℕ) → r % next ≡ first → u % step ≡ start → (u % next ≡ first → ⊥) → LessAt n (around h b r) (around h b u)
