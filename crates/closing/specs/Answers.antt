-- The closing of a started run, read off its ledger.
-- Assumes nothing.
use Rattle.std.specs.Prelude.{List, ℕ, ℤ, ◌+ℤ◌}
use Rattle.rules.specs.Words.{unless}
use Rattle.rules.specs.declared.Amounts.{Amounts}
use Rattle.rules.specs.declared.Closing.{Closing}
use Rattle.rules.specs.Closing.{least_finished, closing_refusal, closing_figures}
use Rattle.values.specs.Limits.{are_amounts}
use Rattle.laws.specs.Answers.{Said, gives, or_refused, Figured, figured_said}
use Rattle.ledger.specs.Row.{energy_in, distance_in, energy_all}
use Rattle.state.specs.declared.Run.{Run}
use Rattle.state.specs.State.{run_ground}
use Rattle.state.specs.Refusals.{beside_by, cycles_by}

module _ (r : Run) (a : Amounts) (b : List ℕ) (l : List ℤ) (m : List ℕ) where
  -- "In a started run 1 and 2 come before all others": the amounts are numbers of the state
  abbrev pub grounds : ℕ → ℕ
  grounds others = unless 1 (are_amounts a) (run_ground r b l m others)

  -- E
  abbrev pub whole : ℤ
  whole = a.before +ℤ (energy_all l +ℤ beside_by r)

  -- 1, 2, 10, 11, 12, 13, or 0
  unfoldable pub refusal_of : ℕ
  refusal_of = grounds (closing_refusal whole (cycles_by r) (energy_in l) (distance_in l) (least_finished r.track.method))

  -- the figures of its finished cycles
  abbrev pub closed_figures : Closing
  closed_figures = closing_figures whole (cycles_by r) (energy_in l) (distance_in l) a.after a.charge

  abbrev pub closing_answer : Said Figured
  closing_answer = or_refused refusal_of (gives (figured_said closed_figures))
