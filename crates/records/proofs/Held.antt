-- What the code's state holds of what a record has told.
-- Assumes nothing.
use mathlib.Core.Bool.{true}
use mathlib.Core.List.{List, []}
use mathlib.Core.Path.{◌≡◌, sym, ap, ◌∙◌}
use Prim.Native.Nat.{ℕ, ◌≤◌}
use native.Mathlib.Omega.{arith}
use lib.IntN.{ℤ}
use lib.ListN.{length}
use borrow.Author.Tests.{le-leb}
use Rattle.rules.specs.declared.Method.TheVariants.{Regular as by_cycles}
use Rattle.rules.specs.Shown.{ledger_numbers, map_words}
use Rattle.rules.specs.Table.{behind_tolerances, behind_before}
use Rattle.rules.specs.Record.{Told}
use Rattle.laws.proofs.Places.{early_or_late}
use Rattle.state.specs.declared.Run.{Run}
use Rattle.state.specs.State.{lent}
use Rattle.state.specs.Refusals.{not_begun, not_stretched, started}
use Rattle.step.specs.Step.{State, start_of, run_to}
use Rattle.judge.proofs.Runs.{Reached, run_shows}
use Rattle.records.specs.Stage.{Stage, plan_on, is_long}

-- ledger and map that are long enough for a start
pub record Long (l₀ : List ℤ) (m₀ : List ℕ) : Type 0 where
  pub ledger : ledger_numbers ≤ length l₀
  pub map : map_words ≤ length m₀

pub long_is : {l₀ : List ℤ} {m₀ : List ℕ} → Long l₀ m₀ → is_long (lent l₀ m₀) ≡ true
long_is h = rw (le-leb _ _ h.ledger, le-leb _ _ h.map)

-- the run of a state that has started
abbrev pub run_at : Stage → Run
run_at x = run_to (started x.cycle x.tolerances x.method) x.run.progress x.run.stretched

module _ (l₀ : List ℤ) (m₀ : List ℕ) (long : Long l₀ m₀) where
  -- what the state x holds of what is told by s
  pub record Holds (s : Told) (x : Stage) : Type 0 where
    pub place : s.place ≡ x.place
    pub passed : s.passed ≡ x.passed
    pub vehicle : s.holding.vehicle ≡ x.vehicle
    pub cycle : s.holding.cycle ≡ x.cycle
    pub tolerances : s.holding.tolerances ≡ x.tolerances
    pub method : s.holding.method ≡ x.method
    pub amounts : s.holding.amounts ≡ x.amounts
    -- until an own block nothing is offered; until the start the memory is as it was lent, and behind it as the start left it
    pub empty : x.place ≤ behind_before → s.holding.samples ≡ []
    pub waits : x.place ≤ 3 → (x.run ≡ record { progress = not_begun; stretched = not_stretched; memory = lent l₀ m₀ }) × (x.method ≡ by_cycles)
    pub begun : behind_tolerances ≤ x.place → x.place ≤ behind_before → x.run ≡ start_of l₀ m₀
    -- after it the run is that of the samples
    pub reached : behind_tolerances ≤ x.place
        → Reached (plan_on x) l₀ m₀ s.holding.samples (run_at x) x.run.memory.ledger x.run.memory.map

  -- as many samples are offered as the record has
  pub offered_is : (s : Told) (x : Stage) → Holds s x → length s.holding.samples ≡ x.run.progress.offered
  offered_is s x h =
      early_or_late x.place
      (λ e. ap length (h.empty (omega arith)) ∙ sym (ap (λ (a : State). a.progress.offered) (h.waits e).0))
      (λ e. sym (run_shows (plan_on x) l₀ m₀ (h.reached e)).offered)
