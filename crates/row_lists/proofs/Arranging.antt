-- Rows on their way into their places: what a place's position and owner are once the row at k has gone to where the row for k stood, and
-- that the rows that have arrived and those still waited for are the ones asked for.
use Prim.Native.Nat.{ℕ, zero, suc, ◌+◌, ◌≤◌, ◌<◌}
use mathlib.Core.Path.{◌≡◌, refl, sym, ap, ◌∙◌}
use mathlib.Core.Logic.{◌≢◌}
use mathlib.Core.List.{List, [], ◌∷◌}
use native.Mathlib.Decide.{ℕ_discrete}
use native.Mathlib.Omega.{arith}
use borrow.Author.Tests.{eq-eqb, ne_eqb}
use lib.ListN.{length, get_or, set, take, replicate, length-set}
use lib.Seq.{get_or-set_same, get_or-set_other, get_or-take, length-take-le}
use Rattle.row_lists.specs.Rows.{max_rows}
use Rattle.row_lists.specs.Arranging.{Positions, Owned, told_positions, told_owners}
use Rattle.row_lists.proofs.Rows.{Exchanged}

-- ---- told or not

module _ (positions owners : List ℕ) (k from : ℕ) where
  module _ (e : get_or positions (get_or owners k 0) 0 ≡ k) where
    pub told-positions : set positions (get_or owners k 0) from ≡ told_positions positions owners k from
    unfolding told_positions
    told-positions = rw (eq-eqb (get_or positions (get_or owners k 0) 0) k e)

    pub told-owners : set owners from (get_or owners k 0) ≡ told_owners positions owners k from
    unfolding told_owners
    told-owners = rw (eq-eqb (get_or positions (get_or owners k 0) 0) k e)

  module _ (n : get_or positions (get_or owners k 0) 0 ≢ k) where
    pub kept-positions : positions ≡ told_positions positions owners k from
    unfolding told_positions
    kept-positions = rw (ne_eqb (get_or positions (get_or owners k 0) 0) k n)

    pub kept-owners : owners ≡ told_owners positions owners k from
    unfolding told_owners
    kept-owners = rw (ne_eqb (get_or positions (get_or owners k 0) 0) k n)

-- ---- owners written down, place by place

-- zeros are small owners
pub zeros_small : (n p : ℕ) → get_or (replicate n 0) p 0 < max_rows
zeros_small zero p = omega arith
zeros_small (suc n) zero = omega arith
zeros_small (suc n) (suc p) = zeros_small n p

-- rows of the first are rows of all
pub positions_all : {positions : List ℕ} {used rows : ℕ} → Positions positions used rows → Positions positions used max_rows
positions_all ok =
    record {
      places = ok.places;
      few = omega arith;
      enough = omega (arith, ok.few, ok.enough);
      inside = λ k h. omega (arith, ok.inside k h, ok.few);
      apart = ok.apart;
    }

-- the positions of the places before k have their owners
pub record Owning (positions owners : List ℕ) (k : ℕ) : Type 0 where
  pub places : length owners ≡ max_rows
  pub small : (p : ℕ) → get_or owners p 0 < max_rows
  pub owner : (j : ℕ) → j < k → get_or owners (get_or positions j 0) 0 ≡ j

pub owning_start : {positions owners : List ℕ} → length owners ≡ max_rows → ((p : ℕ) → get_or owners p 0 < max_rows) → Owning positions owners 0
owning_start long small = record { places = long; small = small; owner = λ j h. omega arith }

-- small members stay small when a small one is stored
set_small : (xs : List ℕ) {m : ℕ} → ((p : ℕ) → get_or xs p 0 < m) → (at v : ℕ) → v < m → (p : ℕ) → get_or (set xs at v) p 0 < m
set_small [] small at v h p = small p
set_small (x ∷ xs) small zero v h zero = h
set_small (x ∷ xs) small zero v h (suc p) = small (suc p)
set_small (x ∷ xs) small (suc at) v h zero = small 0
set_small (x ∷ xs) small (suc at) v h (suc p) = set_small xs (λ q. small (suc q)) at v h p

pub owning_next : {positions owners : List ℕ} {used k : ℕ} → Positions positions used max_rows → k < used → Owning positions owners k
    → Owning positions (set owners (get_or positions k 0) k) (k + 1)
owning_next {positions} {owners} {used} {k} ok h w =
    record {
      places = length-set owners (get_or positions k 0) k ∙ w.places;
      small = set_small owners w.small (get_or positions k 0) k (omega (arith, ok.enough));
      owner = λ j l. step j l (ℕ_discrete j k);
    }
  where
    step : (j : ℕ) → j < k + 1 → Dec (j ≡ k) → get_or (set owners (get_or positions k 0) k) (get_or positions j 0) 0 ≡ j
    step j l (yes e) =
        ap (λ (i : ℕ). get_or (set owners (get_or positions k 0) k) (get_or positions i 0) 0) e
        ∙ get_or-set_same owners (get_or positions k 0) k 0 (omega (arith, ok.inside k h, w.places))
        ∙ sym e
    step j l (no n) =
        get_or-set_other owners (get_or positions k 0) (get_or positions j 0) k 0 (λ e. n (ok.apart j k (omega arith) h e))
        ∙ w.owner j (omega arith)

pub owning_end : {positions owners : List ℕ} {k used : ℕ} → used ≤ k → Owning positions owners k → Owned positions owners 0 used
owning_end h w = record { places = w.places; small = w.small; owner = λ j l m. w.owner j (omega arith) }

-- ---- the rows asked for: any function of a row's number, before and now

-- the rows asked for stand in the places before k, and at the positions of the places from k on
pub record Brought {A : Type 0} (before now : ℕ → A) (asked positions : List ℕ) (k used : ℕ) : Type 0 where
  pub arrived : (j : ℕ) → j < k → now j ≡ before (get_or asked j 0)
  pub coming : (j : ℕ) → k ≤ j → j < used → now (get_or positions j 0) ≡ before (get_or asked j 0)

pub brought_start : {A : Type 0} (before : ℕ → A) (asked : List ℕ) (used : ℕ) → Brought before before asked asked 0 used
brought_start before asked used = record { arrived = λ j h. absurd (omega arith); coming = λ j h l. refl }

pub brought_end :
    {A : Type 0} {before now : ℕ → A} {asked positions : List ℕ} {k used : ℕ} → used ≤ k → used ≤ length asked → Brought before now asked positions k used
    → (j : ℕ) → j < length (take used asked) → now j ≡ before (get_or (take used asked) j 0)
brought_end {A} {before} {now} {asked} {positions} {k} {used} h l b j i =
    let inside : j < used = omega (arith, length-take-le used asked l) in
    rw (get_or-take used asked j 0 inside) (b.arrived j (omega arith))

-- ---- the row for place k exchanged with the one that stands there

-- the places from k on wait for rows at k or after it
pub record Waiting (positions owners : List ℕ) (k used rows : ℕ) : Type 0 where
  pub places : length positions ≡ max_rows
  pub few : rows ≤ max_rows
  pub enough : used ≤ rows
  pub later : (j : ℕ) → k ≤ j → j < used → k ≤ get_or positions j 0
  pub inside : (j : ℕ) → k ≤ j → j < used → get_or positions j 0 < rows
  pub owned : Owned positions owners k used

pub waiting_start : {positions owners : List ℕ} {used rows : ℕ} → Positions positions used rows → Owned positions owners 0 used → Waiting positions owners 0 used rows
waiting_start ok o =
    record {
      places = ok.places;
      few = ok.few;
      enough = ok.enough;
      later = λ j h l. omega arith;
      inside = λ j h l. ok.inside j l;
      owned = o;
    }

-- what a place j after k waits for then: the row that stood at k and is at `from` now, or the row that it waited for, which has not moved
data Told (positions positions' owners' : List ℕ) (k from j : ℕ) : Type 0 where
  moved : get_or positions j 0 ≡ k → k < from → get_or positions' j 0 ≡ from → get_or owners' from 0 ≡ j → Told positions positions' owners' k from j
  stays : k < get_or positions j 0 → get_or positions j 0 ≢ from → get_or positions' j 0 ≡ get_or positions j 0 → get_or owners' (get_or positions j 0) 0 ≡ j
      → Told positions positions' owners' k from j

module _ {positions owners : List ℕ} {k used rows : ℕ} (w : Waiting positions owners k used rows) (h : k < used) where
  abbrev from : ℕ
  from = get_or positions k 0

  abbrev owner : ℕ
  owner = get_or owners k 0

  abbrev positions' : List ℕ
  positions' = told_positions positions owners k from

  abbrev owners' : List ℕ
  owners' = told_owners positions owners k from

  from-later : k ≤ from
  from-later = w.later k (omega arith) h

  from-inside : from < rows
  from-inside = w.inside k (omega arith) h

  from-owner : get_or owners from 0 ≡ k
  from-owner = w.owned.owner k (omega arith) h

  told : (j : ℕ) → k < j → j < used → Told positions positions' owners' k from j
  told j g l = go (ℕ_discrete (get_or positions j 0) k) (ℕ_discrete (get_or positions owner 0) k)
    where
      mine : get_or owners (get_or positions j 0) 0 ≡ j
      mine = w.owned.owner j (omega arith) l

      apart : get_or positions j 0 ≢ from
      apart e = omega (arith, ap (λ (p : ℕ). get_or owners p 0) e, mine, from-owner)

      go : Dec (get_or positions j 0 ≡ k) → Dec (get_or positions owner 0 ≡ k) → Told positions positions' owners' k from j
      go (yes e) _ =
          let o : owner ≡ j = ap (λ (p : ℕ). get_or owners p 0) (sym e) ∙ mine in
          let t : get_or positions owner 0 ≡ k = ap (λ (i : ℕ). get_or positions i 0) o ∙ e in
          moved e (omega (arith, from-later, apart))
          (ap (λ (ps : List ℕ). get_or ps j 0) (sym (told-positions positions owners k from t))
          ∙ ap (λ (i : ℕ). get_or (set positions i from) j 0) o
          ∙ get_or-set_same positions j from 0 (omega (arith, w.places, w.few, w.enough)))
          (ap (λ (os : List ℕ). get_or os from 0) (sym (told-owners positions owners k from t))
          ∙ get_or-set_same owners from owner 0 (omega (arith, from-inside, w.few, w.owned.places))
          ∙ o)
      go (no n) (yes t) =
          stays (omega (arith, w.later j (omega arith) l)) apart
          (ap (λ (ps : List ℕ). get_or ps j 0) (sym (told-positions positions owners k from t))
          ∙ get_or-set_other positions owner j from 0 (λ e. n (ap (λ (i : ℕ). get_or positions i 0) e ∙ t)))
          (ap (λ (os : List ℕ). get_or os (get_or positions j 0) 0) (sym (told-owners positions owners k from t))
          ∙ get_or-set_other owners from (get_or positions j 0) owner 0 apart
          ∙ mine)
      go (no n) (no t) =
          stays (omega (arith, w.later j (omega arith) l)) apart
          (ap (λ (ps : List ℕ). get_or ps j 0) (sym (kept-positions positions owners k from t)))
          (ap (λ (os : List ℕ). get_or os (get_or positions j 0) 0) (sym (kept-owners positions owners k from t)) ∙ mine)

  -- what holds of the lists with one member stored, and of the lists as they were, holds of them now
  either : (P : List ℕ → List ℕ → Type 0) → P (set positions owner from) (set owners from owner) → P positions owners → P positions' owners'
  either P stored kept = go (ℕ_discrete (get_or positions owner 0) k)
    where
      go : Dec (get_or positions owner 0 ≡ k) → P positions' owners'
      go (yes t) = rw (← told-positions positions owners k from t, ← told-owners positions owners k from t) stored
      go (no t) = rw (← kept-positions positions owners k from t, ← kept-owners positions owners k from t) kept

  pub waiting-next : Waiting positions' owners' (k + 1) used rows
  waiting-next =
      record {
        places = either (λ ps os. length ps ≡ max_rows) (length-set positions owner from ∙ w.places) w.places;
        few = w.few;
        enough = w.enough;
        later = λ j g l. later j (told j (omega arith) l);
        inside = λ j g l. inside j (omega arith) l (told j (omega arith) l);
        owned =
            record {
              places = either (λ ps os. length os ≡ max_rows) (length-set owners from owner ∙ w.owned.places) w.owned.places;
              small =
                  either (λ ps os. (p : ℕ) → get_or os p 0 < max_rows) (set_small owners w.owned.small from owner (w.owned.small k)) w.owned.small;
              owner = λ j g l. own j (told j (omega arith) l);
            };
      }
    where
      later : (j : ℕ) → Told positions positions' owners' k from j → k + 1 ≤ get_or positions' j 0
      later j (moved e f p o) = omega arith
      later j (stays f n p o) = omega arith

      inside : (j : ℕ) → k < j → j < used → Told positions positions' owners' k from j → get_or positions' j 0 < rows
      inside j g l (moved e f p o) = omega (arith, from-inside)
      inside j g l (stays f n p o) = omega (arith, w.inside j (omega arith) l)

      own : (j : ℕ) → Told positions positions' owners' k from j → get_or owners' (get_or positions' j 0) 0 ≡ j
      own j (moved e f p o) = rw p o
      own j (stays f n p o) = rw p o

  pub brought-next :
      {A : Type 0} {before now next : ℕ → A} {asked : List ℕ} → Exchanged now next k from → Brought before now asked positions k used
      → Brought before next asked positions' (k + 1) used
  brought-next {A} {before} {now} {next} {asked} x b =
      record { arrived = λ j l. arrived j l (ℕ_discrete j k); coming = λ j g l. coming j (omega arith) l (told j (omega arith) l) }
    where
      arrived : (j : ℕ) → j < k + 1 → Dec (j ≡ k) → next j ≡ before (get_or asked j 0)
      arrived j l (yes e) = rw e (x.here ∙ b.coming k (omega arith) h)
      arrived j l (no n) = x.others j n (λ e. omega (arith, from-later)) ∙ b.arrived j (omega arith)

      coming : (j : ℕ) → k ≤ j → j < used → Told positions positions' owners' k from j → next (get_or positions' j 0) ≡ before (get_or asked j 0)
      coming j g l (moved e f p o) = rw p (x.there ∙ ap now (sym e) ∙ b.coming j g l)
      coming j g l (stays f n p o) = rw p (x.others (get_or positions j 0) (λ e. omega arith) n ∙ b.coming j g l)
