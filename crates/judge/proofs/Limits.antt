-- What a run brings stays within the state's limits: its progress is such as its end says, what it holds of the open interval is within a sample's limits,
-- and its phase ends are at most 2400.
-- Assumes nothing.
use mathlib.Core.Bool.{Bool, true, false, cond}
use mathlib.Core.List.{List}
use mathlib.Core.Path.{◌≡◌, refl}
use Prim.Native.Nat.{ℕ, zero, suc, ◌-◌, ◌≤◌, ◌<◌, zero-le}
use native.Mathlib.Decide.{le_ind}
use native.Mathlib.Nat.{le_refl, le_trans}
use native.Mathlib.Omega.{arith}
use lib.Dec.{ltb}
use borrow.Author.Tests.{ltb-true, ltb-false, lt-ltb, le-leb, eq-eqb, ne_eqb}
use Rattle.rules.specs.declared.End.{End}
use Rattle.rules.specs.declared.End.TheVariants.{None as none, Stop as stop, Limit as limit}
use Rattle.rules.specs.Cycle.{phases, phase_end}
use Rattle.rules.specs.declared.Moment.{Moment}
use Rattle.rules.specs.Course.{Course, stops_at, counted, closed, ending}
use Rattle.laws.specs.Beside.{is_moment, is_open, stopped}
use Rattle.rules.specs.Tally.{room}
use Rattle.laws.proofs.Tally.{counted_le}
use Rattle.laws.proofs.Sound.{Sound, rising}
use Rattle.rules.specs.Bench.{no_moment, most_seconds}
use Rattle.state.specs.State.{end_or_zero, ends_of, is_progress, is_held}
use Rattle.state.proofs.Checked.{open_progress}
use Rattle.step.specs.Step.{last_of, held_of}

-- what is held where an interval is open, and where none is
begun : (m : ℕ) (x : Moment) → 0 < m → is_moment x ≡ true → is_held none m x ≡ true
unfolding is_held
begun m x h e = rw (ne_eqb m 0 (λ q. omega arith)) e

none_begun : (m : ℕ) → m ≡ 0 → is_held none m no_moment ≡ true
unfolding is_held
none_begun m e = rw (eq-eqb m 0 e)

ended_held : (m : ℕ) → (is_held stop m no_moment ≡ true) × (is_held limit m no_moment ≡ true)
unfolding is_held
ended_held m = (refl, refl)

-- where the next sample closes a share
module _ (c : Course) (s : ℕ → Moment) (one : c.share.ahead ≡ 1) (some : 0 < c.layout.most) (n : ℕ) where
  abbrev m : ℕ
  m = counted c s n

  abbrev most : ℕ
  most = c.layout.most

  pub progress_is : is_progress (ending c s n) c.layout.most n (counted c s n) ≡ true
  unfolding is_progress
  progress_is = go (stopped c s n) (ltb (closed c s n) most) refl refl
    where
      go : (x y : Bool) → stopped c s n ≡ x → ltb (closed c s n) most ≡ y → is_progress (cond x stop (cond y none limit)) most n m ≡ true
      go true y e f =
          let h = ltb-true m (room most n) e in
          simp (lt-ltb m n (omega arith), lt-ltb m most (omega arith))
      go false true e f =
          let h = ltb-false m (room most n) e in
          let g = ltb-true (closed c s n) most f in
          let all = counted_le (stops_at c s) most n in
          simp (eq-eqb m n (omega (arith, one)), le-leb m most (omega arith))
      go false false e f =
          let h = ltb-false m (room most n) e in
          let g = ltb-false (closed c s n) most f in
          let all = counted_le (stops_at c s) most n in
          simp (eq-eqb m most (omega (arith, one)), lt-ltb most n (omega (arith, one, some)))

  -- what is held of the open interval is within its limits, where every sample is
  pub held_is : ((j : ℕ) → j < n → is_moment (s j) ≡ true) → is_held (ending c s n) (counted c s n) (held_of c s n) ≡ true
  held_is limits = go (ending c s n) (λ o. (open_progress (ending c s n) most n m progress_is o).0)
    where
      last : (k : ℕ) → counted c s n ≡ k → ((j : ℕ) → j < k → is_moment (s j) ≡ true) → is_held none (counted c s n) (last_of s k) ≡ true
      last zero e h = none_begun m e
      last (suc k) e h = begun m (s k) (omega arith) (h k (le_refl (suc k)))

      go : (e : End) → (is_open e ≡ true → counted c s n ≡ n) → is_held e (counted c s n) (cond (is_open e) (last_of s n) no_moment) ≡ true
      go none h = last n (h refl) limits
      go stop h = (ended_held m).0
      go limit h = (ended_held m).1

-- the ends of a cycle's phases
pub record Low (b : List ℕ) : Type 0 where
  pub first : (ends_of b).first ≤ most_seconds
  pub second : (ends_of b).second ≤ most_seconds
  pub third : (ends_of b).third ≤ most_seconds
  pub fourth : (ends_of b).fourth ≤ most_seconds

module _ (b : List ℕ) (o : Sound b) where
  end_rises : (k j : ℕ) → k ≤ j → j < phases b → phase_end b k ≤ phase_end b j
  end_rises k j h = le_ind (λ i. i < phases b → phase_end b k ≤ phase_end b i) (λ l. le_refl (phase_end b k)) (λ i g ih l. le_trans (ih (omega arith)) (omega (arith, rising o (suc i) l))) j h

  end_most : (k : ℕ) → end_or_zero b k ≤ most_seconds
  end_most k = go (ltb k (phases b)) refl
    where
      go : (x : Bool) → ltb k (phases b) ≡ x → cond x (phase_end b k) 0 ≤ most_seconds
      go true e = let l = ltb-true k (phases b) e in omega (arith, end_rises k (phases b - 1) (omega arith) (omega arith), o.short)
      go false e = zero-le

  pub ends_most : Low b
  unfolding ends_of
  ends_most = record { first = end_most 0; second = end_most 1; third = end_most 2; fourth = end_most 3 }
