-- The figures that the report prints, read off a reading and its ledger.
-- Assumes nothing.
use Rattle.std.specs.Prelude.{true, List, ◌≡◌, ℕ, ℤ, ◌+ℤ◌}
use Rattle.laws.specs.Answers.{Said, gives, or_refused}
use Rattle.rules.specs.declared.Figures.{Figures}
use Rattle.rules.specs.Closing.{least_finished}
use Rattle.values.specs.Limits.{are_amounts}
use Rattle.ledger.specs.Row.{bounded, outside_all, energy_all}
use Rattle.state.specs.State.{is_run}
use Rattle.state.specs.Refusals.{beside_by, cycles_by}
use Rattle.consumption.specs.Figures.{closing_on}
use Rattle.reading.specs.declared.Reading.{Reading}
use Rattle.reading.specs.Answers.{read_ground}

-- what "In a started run 1 and 2 come before all others" leaves of them
pub record Figurable (r : Reading) (l : List ℤ) : Type 0 where
  pub amounts : are_amounts r.amounts ≡ true
  pub is_run_lem : is_run r.run ≡ true
  pub bounded : bounded l ≡ true

-- the sums of the run, and its closing
abbrev pub figures_of : Reading → List ℤ → Figures
figures_of r l = record {
  vehicle = r.vehicle;
  end = r.run.progress.end;
  counted = r.run.progress.counted;
  cycles = cycles_by r.run;
  outside = outside_all l;
  passed = r.passed;
  drawn = energy_all l +ℤ beside_by r.run;
  closing = closing_on l (beside_by r.run) (least_finished r.run.track.method) (cycles_by r.run) r.amounts;
}

-- "In a started run 1 and 2 come before all others": vehicle, place, passed-over count and amounts are numbers of the state
abbrev pub found_of : Reading → List ℕ → List ℤ → List ℕ → Said Figures
found_of r b l m = or_refused (read_ground r b l m) (gives (figures_of r l))
