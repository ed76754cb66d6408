-- The answers of `read`, `read_all` and `ended`.
-- Assumes nothing.
use Rattle.std.specs.Prelude.{Bool, List, ℕ, eqb, ℤ}
use Rattle.rules.specs.Words.{unless, settled}
use Rattle.rules.specs.Machine.{Reply, Ran}
use Rattle.laws.specs.Answers.{Said, gives, refuses, end_said}
use Rattle.state.specs.State.{Left, left}
use Rattle.records.specs.Stage.{Stage, reply_on, run_on, stage_after}
use Rattle.reading.specs.declared.Reading.{Reading}
use Rattle.reading.specs.Answers.{unfinished, step_said, reply_said, ReadSaid, AllSaid, stage_at, reading_of, read_ground}
use Rattle.reader.specs.declared.AllAnswer.{AllAnswer}
use Rattle.reader.specs.declared.ReadAnswer.{ReadAnswer}

-- ---- what the answers say

abbrev pub read_said : ReadAnswer → ReadSaid Reading
read_said a = record { says = step_said a.step; state = a.reading }

abbrev pub all_said : AllAnswer → AllSaid Reading
all_said a = record { state = a.reading; fields = a.fields; used = a.used; last = step_said a.last }

-- the input may end
abbrev pub may_end : Said (Unit {0})
may_end = gives tt

-- ---- the answers

-- what the answer y to a field leaves of the reading r, which is the state x; and what all fields do
abbrev pub read_by : Reading → Stage → Reply Stage → Left (ReadSaid Reading)
read_by r x y = let z = stage_after x y in record { answer = record { says = reply_said y; state = reading_of r z }; memory = z.run.memory }

abbrev pub all_by : Reading → Ran Stage → Left (AllSaid Reading)
all_by r y = record {
  answer = record { state = reading_of r y.state; fields = y.fields; used = y.used; last = end_said unfinished y.end };
  memory = y.state.run.memory;
}

-- what a call of `read` leaves, and of `read_all`: "In a started run 1 and 2 come before all others"
unfoldable pub read_left : Reading → List ℕ → List ℤ → List ℕ → List ℕ → Left (ReadSaid Reading)
read_left r b l m i =
    let n = read_ground r b l m in
    let x = stage_at r b l m in
    settled n (read_by r x (reply_on x i)) (left (record { says = refuses n; state = r }) l m)

unfoldable pub all_left : Reading → List ℕ → List ℤ → List ℕ → List ℕ → Left (AllSaid Reading)
all_left r b l m i =
    let n = read_ground r b l m in
    settled n (all_by r (run_on (stage_at r b l m) i)) (left (record { state = r; fields = 0; used = 0; last = refuses n }) l m)

-- 15: "input ends inside a field, or before field 4 was accepted"; left is how many bytes of a field that is not finished are left
unfoldable pub ending_of : Bool → ℕ → Said (Unit {0})
ending_of started left = unless (refuses 15) started (unless (refuses 15) (eqb left 0) may_end)
