-- A call of `open`: what is tested before all else, and what is left of the state and every lent buffer, by the machine over the record's state.
-- Assumes nothing.
use Rattle.std.specs.Prelude.{Bool, cond, ◌&&◌, List, ℕ, leb, eqb, ℤ, length, take, replicate, Result, Ok, Err}
use Rattle.rules.specs.Numbered.{number}
use Rattle.rules.specs.declared.Refusal.{Refusal}
use Rattle.rules.specs.Words.{unless, settled}
use Rattle.rules.specs.declared.Tolerances.{Tolerances}
use Rattle.rules.specs.Cycle.{most_bytes}
use Rattle.rules.specs.Table.{behind_tolerances}
use Rattle.rules.specs.Front.{Field, bytes_of}
use Rattle.rules.specs.Machine.{Reply, to_field, not_yet, no_field, taken, passed, refused}
use Rattle.rules.specs.Values.{is_number}
use Rattle.rules.specs.Record.{no_amounts}
use Rattle.laws.specs.Answers.{Said, gives, refuses}
use Rattle.state.specs.declared.Run.{Run}
use Rattle.state.specs.State.{Memory, lent}
use Rattle.rules.specs.declared.Method.TheVariants.{Regular as by_cycles}
use Rattle.state.specs.Refusals.{not_begun, not_stretched, started}
use Rattle.records.specs.Stage.{Stage, take_on, reply_on, room_after}
use Rattle.opening.specs.declared.OpenStep.{OpenStep}
use Rattle.opening.specs.declared.OpenStep.TheVariants.{Taken, Started, Incomplete}
use Rattle.opening.specs.declared.OpenAnswer.{OpenAnswer}
use Rattle.opening.specs.declared.Opening.{Opening}

-- before the first field: until field 2 the vehicle is seventeen times the character 0
abbrev pub unopened : Opening
unopened = record { fields = 0; vehicle = replicate 17 48; cycle = 0 }

-- ---- as what has been read

abbrev pub no_tolerances : Tolerances
no_tolerances = record { speed = 0; time = 0; allowance = 0 }

-- an opening on its lent room, with ledger and map: the cycle is the first of the room's bytes; and the opening that is left
abbrev pub stage_of : Opening → List ℕ → List ℤ → List ℕ → Stage
stage_of o room l m = record {
  place = o.fields;
  passed = 0;
  vehicle = o.vehicle;
  cycle = take o.cycle room;
  tolerances = no_tolerances;
  method = by_cycles;
  amounts = no_amounts;
  run = record { progress = not_begun; stretched = not_stretched; memory = lent l m };
}

abbrev pub opening_of : Stage → Opening
opening_of x = record { fields = x.place; vehicle = x.vehicle; cycle = length x.cycle }

-- ---- what the answer says

-- a field is taken, of so many bytes; the run starts with it; "incomplete"
pub data Opened : Type 0 where
  opens : ℕ → Opened
  starts : ℕ → Run → Opened
  unfinished : Opened

-- what the cases say, of a refusal by what its reason says
abbrev pub open_step_said_by : {R : Type 0} → (R → ℕ) → Result OpenStep R → Said Opened
open_step_said_by said (Ok (Taken n)) = gives (opens n)
open_step_said_by said (Ok (Started n r)) = gives (starts n r)
open_step_said_by said (Ok Incomplete) = gives unfinished
open_step_said_by said (Err e) = refuses (said e)

abbrev pub open_step_said : Result OpenStep Refusal → Said Opened
open_step_said = open_step_said_by number

-- with the opening that is left
pub record OpenSaid : Type 0 where
  pub says : Said Opened
  pub opening : Opening

abbrev pub open_said_by : {R : Type 0} → (R → ℕ) → OpenAnswer R → OpenSaid
open_said_by said a = record { says = open_step_said_by said a.step; opening = a.opening }

abbrev pub open_said : OpenAnswer Refusal → OpenSaid
open_said = open_said_by number

-- ---- the answer

-- the run that has started
abbrev pub run_of : Stage → Run
run_of x = started x.cycle x.tolerances by_cycles

-- a field was taken, of n bytes: the fourth starts the run
abbrev pub open_taken : Stage → ℕ → Opened
open_taken x n = cond (eqb x.place behind_tolerances) (starts n (run_of x)) (opens n)

-- what a call until the start leaves: its answer, the room, and ledger and map
pub record OpenLeft : Type 0 where
  pub answer : OpenSaid
  pub room : List ℕ
  pub memory : Memory

abbrev pub open_left : OpenAnswer Refusal → List ℕ → List ℤ → List ℕ → OpenLeft
open_left a room l m = record { answer = open_said a; room = room; memory = lent l m }

abbrev pub not_opened : Opening → List ℕ → Stage → Said Opened → OpenLeft
not_opened o room x s = record { answer = record { says = s; opening = o }; room = room; memory = x.run.memory }

-- no block may stand before the start, so none is passed over; where no field is accepted, nothing changes
abbrev pub opened_by : Opening → List ℕ → Stage → Reply Stage → OpenLeft
opened_by o room x (to_field (taken y) n) = record {
  answer = record { says = gives (open_taken y n); opening = opening_of y };
  room = room_after x y room;
  memory = y.run.memory;
}
opened_by o room x (to_field (passed y) n) = record { answer = record { says = gives (opens n); opening = opening_of y }; room = room; memory = y.run.memory }
opened_by o room x (to_field (refused k) n) = not_opened o room x (refuses k)
opened_by o room x not_yet = not_opened o room x (gives unfinished)
opened_by o room x no_field = not_opened o room x (refuses 8)

-- ---- before all else

-- no number of the state is beyond its limits
unfoldable pub is_opening : Opening → Bool
is_opening o = leb o.fields 3 && leb o.cycle most_bytes && is_number o.vehicle

-- "shorter room is refused 1 before all else"
unfoldable pub open_ground : Opening → List ℕ → ℕ
open_ground o room = unless 1 (leb most_bytes (length room)) (unless 1 (is_opening o) 0)

-- ---- what a whole field leaves, and a call of `open`

abbrev pub field_opened : Opening → List ℕ → List ℤ → List ℕ → Field → OpenLeft
field_opened o room l m f = let x = stage_of o room l m in opened_by o room x (to_field (take_on x f) (bytes_of f))

unfoldable pub front_opened : Opening → List ℕ → List ℤ → List ℕ → List ℕ → OpenLeft
front_opened o room l m i =
    let n = open_ground o room in
    let x = stage_of o room l m in
    settled n (opened_by o room x (reply_on x i)) (not_opened o room x (refuses n))
