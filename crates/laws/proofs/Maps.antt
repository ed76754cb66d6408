-- The map, sample by sample: cleared where a cycle begins, one bit settled elsewhere in a cycle, left as it is in M and E.
-- Assumes nothing.
use mathlib.Core.Bool.{Bool, true, false, cond, ◌&&◌, and-false}
use mathlib.Core.Logic.{⊎_elim}
use mathlib.Core.Path.{◌≡◌, refl, ap, ◌∙◌}
use Prim.Native.Nat.{ℕ, zero, suc, ◌+◌, ◌≤◌, ◌<◌}
use native.Mathlib.Decide.{le_ind}
use native.Mathlib.Nat.{add-zero, le_refl, le_step, eq-or-lt_of_le}
use native.Mathlib.Omega.{arith}
use borrow.Author.Tests.{lt-ltb, le-ltb, ltb-true, eq-eqb, ne_eqb}
use lib.Dec.{ltb, eqb, lit<}
use Rattle.rules.specs.Words.{fold, gather}
use Rattle.numbers.proofs.Order.{side}
use Rattle.rules.specs.declared.Moment.{Moment}
use Rattle.rules.specs.Bench.{most_cycles}
use Rattle.rules.specs.Course.{Layout, Course, out, outside}
use Rattle.rules.specs.Shown.{shown_row, marked}
use Rattle.laws.proofs.Facts.{Orderly}

module _ (l : Layout) (m : ℕ) where
  pub shown_cycle : l.row m < most_cycles → shown_row l (suc m) ≡ l.row m
  unfolding fold shown_row
  shown_cycle h = rw (lt-ltb (l.row m) most_cycles h)

  pub shown_beside : most_cycles ≤ l.row m → shown_row l (suc m) ≡ shown_row l m
  unfolding fold shown_row
  shown_beside h = rw (le-ltb (l.row m) most_cycles h)

module _ (l : Layout) where
  -- past samples that stand beside the ledger it stays
  pub shown_stays : (a m : ℕ) → a ≤ m → ((j : ℕ) → a ≤ j → j < m → most_cycles ≤ l.row j) → shown_row l m ≡ shown_row l a
  shown_stays a =
      le_ind (λ m. ((j : ℕ) → a ≤ j → j < m → most_cycles ≤ l.row j) → shown_row l m ≡ shown_row l a) (λ f. refl)
      (λ k h ih f. shown_beside l k (f k h (le_refl (suc k))) ∙ ih (λ j g i. f j g (le_step i)))

-- it is one of the ledger's rows
pub shown_ledger : (l : Layout) (m : ℕ) → shown_row l m < most_cycles
unfolding fold shown_row
shown_ledger l zero = lit< tt
shown_ledger l (suc m) = go (ltb (l.row m) most_cycles) refl (shown_ledger l m)
  where
    go : (x : Bool) → ltb (l.row m) most_cycles ≡ x → shown_row l m < most_cycles → cond x (l.row m) (shown_row l m) < most_cycles
    go true e h = ltb-true (l.row m) most_cycles e
    go false e h = h

module _ (c : Course) (s : ℕ → Moment) (m : ℕ) (h : most_cycles ≤ c.layout.row m) where
  -- sample i of a ledger's row r: whether it is among the first m, or m + 1, and outside
  one_more_lem : (r i : ℕ) → r < most_cycles → (eqb (c.layout.row i) r && ltb i (suc m) && out c s i) ≡ (eqb (c.layout.row i) r && ltb i m && out c s i)
  one_more_lem r i g =
      ⊎_elim (λ (l : i ≤ m). ⊎_elim
      (λ (e : i ≡ m).
      let d : c.layout.row i ≡ c.layout.row m = ap c.layout.row e in
      rw (ne_eqb (c.layout.row i) r (λ (q : c.layout.row i ≡ r). omega arith)))
      (λ (k : i < m). rw (lt-ltb i (suc m) (omega arith), lt-ltb i m k))
      (eq-or-lt_of_le l))
      (λ (l : m < i). rw (le-ltb i (suc m) l, le-ltb i m (omega arith)))
      (side i m)

  -- in M and E the map stays
  pub map_beside : (p : ℕ) → marked c s (suc m) p ≡ marked c s m p
  unfolding marked
  map_beside p = rw (shown_beside c.layout m h) (one_more_lem (shown_row c.layout m) _ (shown_ledger c.layout m))

module _ (c : Course) (s : ℕ → Moment) (p : ℕ) where
  -- sample i of a row r that has sample m: it is m, or it was among the first m already, or comes after
  at_row : (r i m : ℕ) → c.layout.row m ≡ r
      → (eqb (c.layout.row i) r && ltb i (suc m) && out c s i) ≡ cond (eqb i m) (out c s m) (eqb (c.layout.row i) r && ltb i m && out c s i)
  at_row r i m e =
      ⊎_elim (λ (l : i ≤ m). ⊎_elim
      (λ (d : i ≡ m). rw (d, eq-eqb m m refl, eq-eqb (c.layout.row m) r e, lt-ltb m (suc m) (le_refl (suc m))))
      (λ (k : i < m). rw (lt-ltb i (suc m) (omega arith), lt-ltb i m k, ne_eqb i m (λ (q : i ≡ m). omega arith)))
      (eq-or-lt_of_le l))
      (λ (l : m < i). rw (le-ltb i (suc m) l, le-ltb i m (omega arith), ne_eqb i m (λ (q : i ≡ m). omega arith)))
      (side i m)

  -- "It is cleared by the first judged sample of the next cycle.": where a cycle begins, no bit is set but the first, if that sample is outside
  pub map_cleared : (m : ℕ) → c.layout.row m < most_cycles → c.layout.begin (c.layout.row m) ≡ m → marked c s (suc m) p ≡ cond (eqb p 0) (out c s m) false
  unfolding marked
  map_cleared m h b =
      rw (shown_cycle c.layout m h)
      (⊎_elim
      (λ (z : p ≤ 0).
      let i : c.layout.begin (c.layout.row m) + p ≡ m = omega arith in
      rw (i, eq-eqb p 0 (omega arith), eq-eqb (c.layout.row m) (c.layout.row m) refl, lt-ltb m (suc m) (le_refl (suc m))))
      (λ (z : 0 < p).
      rw (le-ltb (c.layout.begin (c.layout.row m) + p) (suc m) (omega arith), ne_eqb p 0 (λ (q : p ≡ 0). omega arith), and-false))
      (side p 0))

  -- elsewhere in a cycle the sample's own bit is set to whether it is outside, and the others stay
  pub map_goes_on : Orderly c.layout → (k : ℕ) → c.layout.row (suc k) < most_cycles → c.layout.begin (c.layout.row (suc k)) ≤ k
      → marked c s (suc (suc k)) p ≡ cond (eqb (c.layout.begin (c.layout.row (suc k)) + p) (suc k)) (out c s (suc k)) (marked c s (suc k) p)
  unfolding marked
  map_goes_on f k h b =
      let r = f.joined k b in
      rw (shown_cycle c.layout (suc k) h, shown_cycle c.layout k (rw r h), r) (at_row (c.layout.row (suc k)) _ (suc k) refl)

-- a sample that stands in no row of the ledger raises no row's outside count
pub outside_beside : (c : Course) (s : ℕ → Moment) (m r : ℕ) → most_cycles ≤ c.layout.row m → r < most_cycles → outside c s r (suc m) ≡ outside c s r m
unfolding fold gather
outside_beside c s m r h g = rw (ne_eqb (c.layout.row m) r (λ (e : c.layout.row m ≡ r). omega arith)) (add-zero (outside c s r m))
