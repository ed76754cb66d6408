-- A record's bytes as they arrive: a desk on its lent memory, and what feeding it takes of the input, by the machine over the record's state.
-- Assumes nothing.
use Rattle.std.specs.Prelude.{true, false, cond, List, ◌≡◌, ℕ, ◌+◌, ◌-◌, ◌≤◌, leb, ℤ, length, take}
use Rattle.rules.specs.Words.{unless, settled}
use Rattle.rules.specs.Bench.{most_offered, most_passed}
use Rattle.rules.specs.Cycle.{most_bytes}
use Rattle.rules.specs.Shown.{ledger_numbers, map_words}
use Rattle.rules.specs.Table.{behind_tolerances, behind_recharge, tags}
use Rattle.rules.specs.Machine.{Ran, upto}
use Rattle.laws.specs.Answers.{Said, gives, refuses, answer_said, end_said}
use Rattle.state.specs.declared.Run.{Run}
use Rattle.state.specs.State.{Memory, lent}
use Rattle.rules.specs.declared.Method.TheVariants.{Regular as by_cycles}
use Rattle.state.specs.Refusals.{not_begun, not_stretched}
use Rattle.records.specs.Stage.{Stage, take_on, run_on, room_after}
use Rattle.opening.specs.declared.Opening.{Opening}
use Rattle.opening.specs.Answers.{Opened, opens, starts, unfinished, unopened, no_tolerances, stage_of, opening_of, run_of, OpenLeft, open_ground, front_opened}
use Rattle.reading.specs.Answers.{FieldRead, started_reading, stage_at, reading_of, read_ground}
pub use Rattle.desk.specs.declared.Desk.{Desk}
use Rattle.desk.specs.declared.Fed.{Fed}

-- ---- what the answer says

-- all whole fields are taken, and more bytes are wanted
abbrev pub wanted : Said (Unit {0})
wanted = gives tt

-- with how many bytes were taken, and the desk that is left
pub record FedSaid : Type 0 where
  pub outcome : Said (Unit {0})
  pub used : ℕ
  pub desk : Desk

abbrev pub fed_said : Fed → FedSaid
fed_said f = record { outcome = answer_said f.outcome; used = f.used; desk = f.desk }

-- ---- a desk and its memory

-- a desk on its lent room, ledger and map
pub record Laid : Type 0 where
  pub desk : Desk
  pub room : List ℕ
  pub memory : Memory

-- what was taken of the input: what is left of desk and memory, how many bytes, and what became of them
pub record Consumed : Type 0 where
  pub laid : Laid
  pub used : ℕ
  pub outcome : Said (Unit {0})

abbrev pub laid_of : Desk → List ℕ → List ℤ → List ℕ → Laid
laid_of d room l m = record { desk = d; room = room; memory = lent l m }

-- as a call leaves it: its answer, and the room, ledger and map
abbrev pub fed_on : FedSaid → List ℕ → List ℤ → List ℕ → Consumed
fed_on f room l m = record { laid = laid_of f.desk room l m; used = f.used; outcome = f.outcome }

abbrev pub fed_left : Fed → List ℕ → List ℤ → List ℕ → Consumed
fed_left f = fed_on (fed_said f)

-- memory that is long enough for any record
pub record Lent : Type 0 where
  pub room₀ : List ℕ
  pub l₀ : List ℤ
  pub m₀ : List ℕ
  pub long_room : most_bytes ≤ length room₀
  pub long_ledger : ledger_numbers ≤ length l₀
  pub long_map : map_words ≤ length m₀

-- ---- before the first byte

-- no run: until the start the reading holds it
abbrev pub no_run : Run
no_run = record {
  track = record { seconds = 0; ends = record { first = 0; second = 0; third = 0; fourth = 0 }; tolerances = no_tolerances; method = by_cycles };
  progress = not_begun;
  stretched = not_stretched;
}

abbrev pub empty_desk : Desk
empty_desk = record { started = false; opening = unopened; reading = started_reading unopened.vehicle no_run; fields = 0 }

-- ---- as what has been read

-- the cycle in the room
abbrev pub lent_cycle : Laid → List ℕ
lent_cycle x = take x.desk.opening.cycle x.room

-- until the start by the opening, after it by the reading
abbrev pub stage_on : Laid → Stage
stage_on x =
    cond x.desk.started (stage_at x.desk.reading (lent_cycle x) x.memory.ledger x.memory.map)
    (stage_of x.desk.opening x.room x.memory.ledger x.memory.map)

-- the opening as the start leaves it
abbrev pub started_opening : Stage → Opening
started_opening z = record { fields = behind_tolerances; vehicle = z.vehicle; cycle = length z.cycle }

-- the desk d, with n fields more, which led to z
abbrev pub desk_begun : Desk → Stage → ℕ → Desk
desk_begun d z n =
    cond (leb behind_tolerances z.place)
    (record { started = true; opening = started_opening z; reading = reading_of (started_reading z.vehicle (run_of z)) z; fields = d.fields + n })
    (record { started = false; opening = opening_of z; reading = d.reading; fields = d.fields + n })

abbrev pub desk_after : Desk → Stage → ℕ → Desk
desk_after d z n =
    cond d.started (record { started = true; opening = d.opening; reading = reading_of d.reading z; fields = d.fields + n }) (desk_begun d z n)

abbrev pub laid_after : Laid → Ran Stage → Laid
laid_after x y = record {
  desk = desk_after x.desk y.state y.fields;
  room = cond x.desk.started x.room (room_after (stage_on x) y.state x.room);
  memory = y.state.run.memory;
}

-- ---- what is taken

-- nothing
abbrev pub stops : Laid → Said (Unit {0}) → Consumed
stops x o = record { laid = x; used = 0; outcome = o }

-- n bytes more, before those of y
abbrev pub behind : ℕ → Consumed → Consumed
behind n y = record { laid = y.laid; used = n + y.used; outcome = y.outcome }

abbrev pub fed_by : Laid → Ran Stage → Consumed
fed_by x y = record { laid = laid_after x y; used = y.used; outcome = end_said tt y.end }

-- ---- before all else

-- no record has more fields: each moves the place in the order on, offers a sample or is passed over
abbrev pub most_fields : ℕ
most_fields = most_offered + most_passed + behind_recharge

-- 1 where the room is too short for the cycle; "In a started run 1 and 2 come before all others"
abbrev pub started_ground : Laid → ℕ
started_ground x = unless 1 (leb x.desk.opening.cycle (length x.room)) (read_ground x.desk.reading (lent_cycle x) x.memory.ledger x.memory.map)

-- the 1 or 2 of a desk, 0 where it has none: of its number of fields, then until the start of the opening, after it of the reading
unfoldable pub desk_ground : Laid → ℕ
desk_ground x = unless 1 (leb x.desk.fields most_fields) (cond x.desk.started (started_ground x) (open_ground x.desk.opening x.room))

-- a desk as a call of its record left it: no more fields than a record can have, and no 1 or 2 where its run has started
pub record Steady (x : Laid) : Type 0 where
  pub few : x.desk.fields ≤ most_fields
  pub run_ground : x.desk.started ≡ true → started_ground x ≡ 0

-- ---- feeding

-- the input is worked through field by field
unfoldable pub feed_of : Laid → List ℕ → Consumed
feed_of x i = let n = desk_ground x in settled n (fed_by x (run_on (stage_on x) i)) (stops x (refuses n))

-- how many bytes the longest field has: tag, length and the longest cycle
abbrev pub longest : ℕ
longest = 3 + most_bytes

-- ---- in parts

-- the answer s to a field until the start, which left the opening o
abbrev pub opens_as : Desk → Said Opened → Opening → FedSaid
opens_as d (gives (opens n)) o = record {
  outcome = wanted;
  used = n;
  desk = record { started = false; opening = o; reading = d.reading; fields = d.fields + 1 };
}
opens_as d (gives (starts n r)) o = record {
  outcome = wanted;
  used = n;
  desk = record { started = true; opening = o; reading = started_reading o.vehicle r; fields = d.fields + 1 };
}
opens_as d (gives unfinished) o = record { outcome = wanted; used = 0; desk = d }
opens_as d (refuses k) o = record { outcome = refuses k; used = 0; desk = d }

abbrev pub opens_to : Laid → OpenLeft → Consumed
opens_to x y =
    let z = opens_as x.desk y.answer.says y.answer.opening in
    record { laid = record { desk = z.desk; room = y.room; memory = y.memory }; used = z.used; outcome = z.outcome }

-- the field at the front of the input, until the start
abbrev pub open_one : Laid → List ℕ → Consumed
open_one x i = opens_to x (front_opened x.desk.opening x.room x.memory.ledger x.memory.map i)

-- the fields until the start: as many as the table has before it
abbrev pub open_rest : Laid → List ℕ → Consumed
open_rest x i =
    let n = open_ground x.desk.opening x.room in
    settled n (fed_by x (upto tags take_on (behind_tolerances - x.desk.opening.fields) (stage_on x) i)) (stops x (refuses n))

abbrev pub open_all : Laid → List ℕ → Consumed
open_all x i = cond x.desk.started (stops x wanted) (open_rest x i)

-- what the answer after the last accepted field says of the bytes
abbrev pub outcome_by : Said FieldRead → Said (Unit {0})
outcome_by (gives x) = wanted
outcome_by (refuses k) = refuses k
