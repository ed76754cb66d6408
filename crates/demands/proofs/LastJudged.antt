-- The cycle that a run last judged: as its state has it, it is the rules'; the ledger has its outside count, as it has every cycle's.
-- Assumes nothing.
use mathlib.Core.Bool.{Bool, true, false, cond}
use mathlib.Core.List.{List}
use mathlib.Core.Path.{◌≡◌, sym, ap, ap₂, ◌∙◌}
use Prim.Native.Nat.{ℕ, zero, suc, ◌+◌, ◌-◌, ◌*◌, ◌≤◌, ◌<◌}
use native.Mathlib.Nat.{add-zero}
use native.Mathlib.Numerals.{add-one}
use native.Mathlib.Omega.{arith}
use borrow.Author.Tests.{lt-ltb}
use lib.Dec.{ltb}
use lib.IntN.{ℤ, pos}
use lib.ListN.{length}
use Rattle.numbers.proofs.Order.{digits}
use Rattle.rules.specs.Words.{fold, bit}
use Rattle.rules.specs.declared.Moment.{Moment}
use Rattle.rules.specs.declared.End.TheVariants.{None as none, Stop as stop, Limit as limit}
use Rattle.rules.specs.declared.Method.{Method}
use Rattle.rules.specs.declared.Method.TheVariants.{Regular as by_cycles, Shortened as with_stretches}
use Rattle.rules.specs.Bench.{most_cycles}
use Rattle.rules.specs.Cycle.{positions}
use Rattle.rules.specs.Course.{Course, stops_at, outside, counted, judged, closed}
use Rattle.laws.specs.Beside.{stopped}
use Rattle.rules.specs.Regular.{moment_in}
use Rattle.rules.specs.Plan.{Plan, layout_of, course_of}
use Rattle.rules.specs.Shown.{shown_row}
use Rattle.laws.proofs.NineNumbers.{outside_figure}
use Rattle.laws.proofs.Maps.{shown_ledger}
use Rattle.laws.proofs.Regular.{shown_last}
use Rattle.laws.proofs.ShortenedRun.{shown_shortened}
use Rattle.laws.proofs.Sound.{Sound, real}
use Rattle.laws.proofs.Tally.{judged_le}
use Rattle.ledger.specs.Row.{outside_in}
use Rattle.state.specs.declared.Run.{Run}
use Rattle.state.specs.Refusals.{judged_by, last_for, last_cycle}
use Rattle.judge.proofs.Runs.{Reached, in_order, good, run_shows}

-- of j samples judged, by the method
last_for_lem : (b : List ℕ) → Sound b → (y : Method) (j : ℕ) → j ≤ (layout_of b y).most → last_for y (positions b) (j - 1) ≡ shown_row (layout_of b y) j
unfolding fold shown_row
last_for_lem b o by_cycles j h = sym (shown_last b o j h)
last_for_lem b o (with_stretches x) zero h = rw (lt-ltb 0 (2 * positions b) (omega (arith, real o))) (sym (digits 0 (positions b) 0 0 (real o) (omega arith)).1)
last_for_lem b o (with_stretches x) (suc j) h =
    let e : suc j - 1 ≡ j = omega arith in
    rw e (sym (shown_shortened b x.length o j))

module _ (p : Plan) (l₀ : List ℤ) (m₀ : List ℕ) {xs : List Moment} {r : Run} {l : List ℤ} {m : List ℕ} (h : Reached p l₀ m₀ xs r l m) where
  abbrev s : ℕ → Moment
  s = moment_in xs

  abbrev n : ℕ
  n = length xs

  abbrev c : Course
  c = course_of p

  -- how many samples the state says were judged
  judged_are : judged_by r.progress.end r.progress.counted ≡ judged c s n
  judged_are =
      let shown = run_shows p l₀ m₀ h in
      (λ i. judged_by (shown.end_is i) (shown.counted_is i)) ∙ go (stopped c s n) (ltb (closed c s n) c.layout.most) (counted c s n)
    where
      go : (x y : Bool) (k : ℕ) → judged_by (cond x stop (cond y none limit)) k ≡ k + bit x
      go true y k = sym (add-one k)
      go false true k = sym (add-zero k)
      go false false k = sym (add-zero k)

  judged_most : judged c s n ≤ c.layout.most
  judged_most = (judged_le (stops_at c s) c.layout.most n).1

  method_is : r.track.method ≡ p.method
  method_is = ap (λ (x : Run). x.track.method) (in_order p l₀ m₀ h).run

  pub last_cycle_is : last_cycle r p.cycle ≡ shown_row c.layout (judged c s n)
  last_cycle_is =
      ap₂ (λ (y : Method) (j : ℕ). last_for y (positions p.cycle) (j - 1)) method_is judged_are
      ∙ last_for_lem p.cycle (good p l₀ m₀ h) p.method (judged c s n) judged_most

  pub last_cycle_most : last_cycle r p.cycle < most_cycles
  last_cycle_most = rw last_cycle_is (shown_ledger c.layout (judged c s n))

  -- the ledger's outside count of a cycle
  pub outsides_are : (k : ℕ) → k < most_cycles → outside_in l k ≡ pos (outside c s k (judged c s n))
  outsides_are k g = (run_shows p l₀ m₀ h).ledger_shows (9 * k + 8) (omega arith) ∙ outside_figure c s n k
