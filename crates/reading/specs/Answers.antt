-- A reading on its lent memory: what is tested before all else, and its answers by the machine over the record's state.
-- Assumes nothing.
use Rattle.std.specs.Prelude.{Bool, true, cond, ◌&&◌, List, ℕ, ◌+◌, ◌-◌, leb, eqb, ℤ, Result, Ok, Err}
use Rattle.rules.specs.Numbered.{number}
use Rattle.rules.specs.declared.Refusal.{Refusal}
use Rattle.rules.specs.Words.{unless}
use Rattle.rules.specs.Bench.{most_passed}
use Rattle.values.specs.Limits.{are_amounts}
use Rattle.rules.specs.Table.{behind_tolerances}
use Rattle.rules.specs.Machine.{Reply, to_field, not_yet, no_field, taken, passed, refused}
use Rattle.rules.specs.Values.{is_number}
use Rattle.rules.specs.Record.{no_amounts}
use Rattle.laws.specs.Answers.{Said, gives, refuses}
use Rattle.state.specs.declared.Run.{Run}
use Rattle.state.specs.State.{run_ground}
use Rattle.state.specs.Refusals.{with_method}
use Rattle.step.specs.Step.{state_of, run_to}
use Rattle.records.specs.Stage.{Stage}
pub use Rattle.reading.specs.declared.Step.{Step}
use Rattle.reading.specs.declared.Step.TheVariants.{Taken, Passed, Incomplete}
use Rattle.reading.specs.declared.Reading.{Reading}

-- the reading that starts, for this vehicle and run
abbrev pub started_reading : List ℕ → Run → Reading
started_reading v r = record { vehicle = v; place = 0; passed = 0; amounts = no_amounts; run = r }

-- ---- as what has been read

-- a reading on the cycle b, ledger and map; and the reading that is left: its place is counted from the start
abbrev pub stage_at : Reading → List ℕ → List ℤ → List ℕ → Stage
stage_at r b l m = record {
  place = behind_tolerances + r.place;
  passed = r.passed;
  vehicle = r.vehicle;
  cycle = b;
  tolerances = r.run.track.tolerances;
  method = r.run.track.method;
  amounts = r.amounts;
  run = state_of r.run l m;
}

abbrev pub reading_of : Reading → Stage → Reading
reading_of r x = record {
  vehicle = r.vehicle;
  place = x.place - behind_tolerances;
  passed = x.passed;
  amounts = x.amounts;
  run = run_to (with_method r.run x.method) x.run.progress x.run.stretched;
}

-- ---- what the answers say

-- a field is taken, or "passed over", of so many bytes; or "incomplete"
pub data FieldRead : Type 0 where
  reads : ℕ → FieldRead
  passes : ℕ → FieldRead
  unfinished : FieldRead

-- what the cases say
abbrev pub step_said : Result Step Refusal → Said FieldRead
step_said (Ok (Taken n)) = gives (reads n)
step_said (Ok (Passed n)) = gives (passes n)
step_said (Ok Incomplete) = gives unfinished
step_said (Err e) = refuses (number e)

-- what the machine says of the field at the front
abbrev pub reply_said : Reply Stage → Said FieldRead
reply_said (to_field (taken x) n) = gives (reads n)
reply_said (to_field (passed x) n) = gives (passes n)
reply_said (to_field (refused k) n) = refuses k
reply_said not_yet = gives unfinished
reply_said no_field = refuses 8

-- how many bytes an accepted field has; 0 where the answer accepts none
abbrev pub bytes_of : Said FieldRead → ℕ
bytes_of (gives (reads n)) = n
bytes_of (gives (passes n)) = n
bytes_of (gives unfinished) = 0
bytes_of (refuses n) = 0

-- with what is left of a state: of one field, and of all, how many they are, how many bytes they have, and what is said after the last of them
pub record ReadSaid (S : Type 0) : Type 0 where
  pub says : Said FieldRead
  pub state : S

pub record AllSaid (S : Type 0) : Type 0 where
  pub state : S
  pub fields : ℕ
  pub used : ℕ
  pub last : Said FieldRead

-- ---- before all else

-- before an own block no sample is offered
abbrev pub is_fresh : ℕ → ℕ → Bool
is_fresh place offered = cond (leb place 2) (eqb offered 0) true

-- no number of the reader's own is beyond its limits (the run's are tested with its memory)
unfoldable pub is_reading : Reading → Bool
is_reading r =
    leb r.place 5
    && is_fresh r.place r.run.progress.offered
    && leb r.passed most_passed
    && are_amounts r.amounts
    && is_number r.vehicle

-- "In a started run 1 and 2 come before all others"
unfoldable pub read_ground : Reading → List ℕ → List ℤ → List ℕ → ℕ
read_ground r b l m = unless 1 (is_reading r) (run_ground r.run b l m 0)
