-- A record as the code keeps it while it reads: the machine of rules/specs/Machine over a state with ledger and map.
-- Assumes nothing.
use Rattle.std.specs.Prelude.{Bool, true, false, cond, ◌&&◌, List, ◌++◌, ℕ, ◌+◌, leb, length, drop}
use Rattle.rules.specs.Words.{unless}
use Rattle.rules.specs.declared.Amounts.{Amounts}
use Rattle.rules.specs.declared.Moment.{Moment}
use Rattle.rules.specs.declared.Tolerances.{Tolerances}
use Rattle.rules.specs.declared.Method.{Method}
use Rattle.rules.specs.declared.Method.TheVariants.{Shortened as with_stretches}
use Rattle.rules.specs.Regular.{moment_in}
use Rattle.rules.specs.Plan.{Plan, plan}
use Rattle.rules.specs.Shown.{ledger_numbers, map_words}
use Rattle.rules.specs.Table.{Matter, mark, number, cycle, tolerances, stretches, block, energy_before, energy_after, recharge, behind_number, behind_cycle, tags}
use Rattle.rules.specs.Front.{Field}
use Rattle.rules.specs.Machine.{Answer, taken, passed, refused, Reply, to_field, not_yet, no_field, Ran, reply_at, run}
use Rattle.rules.specs.Record.{Bring, nothing, a_number, a_cycle, the_tolerances, the_stretches, own_samples, before, after, charged}
use Rattle.rules.specs.Record.{Content, wrong, content_of, field_answer}
use Rattle.rules.specs.Record.{with_before, with_after, with_charge}
use Rattle.state.specs.State.{Memory}
use Rattle.step.specs.Step.{State, samples_taken, start_of}

-- ---- what has been read

-- the place in the order, from 0; the blocks passed over; what the fields have brought; the run's progress with ledger and map
pub record Stage : Type 0 where
  pub place : ℕ
  pub passed : ℕ
  pub vehicle : List ℕ
  pub cycle : List ℕ
  pub tolerances : Tolerances
  pub method : Method
  pub amounts : Amounts
  pub run : State

-- the plan of its run
abbrev pub plan_on : Stage → Plan
plan_on x = plan x.cycle x.tolerances x.method

-- ---- a field

-- "at a start 1 is for lengths only": ledger and map are long enough
abbrev pub is_long : Memory → Bool
is_long m = leb ledger_numbers (length m.ledger) && leb map_words (length m.map)

-- whether what is held starts the run
abbrev pub starts : Matter → Bool
starts mark = false
starts number = false
starts cycle = false
starts tolerances = true
starts stretches = false
starts block = false
starts energy_before = false
starts energy_after = false
starts recharge = false

-- what the value v brings; "For starting a run, as field 4 does: 1, 2, 3."
abbrev pub content_on : Stage → Matter → List ℕ → Content
content_on x m v =
    unless (wrong 1) (cond (starts m) (is_long x.run.memory) true)
    (content_of x.passed x.vehicle x.cycle x.run.progress.offered m v)

-- x at the place m, with this vehicle, cycle, tolerances, method, amounts and run
abbrev pub stage_as : Stage → ℕ → List ℕ → List ℕ → Tolerances → Method → Amounts → State → Stage
stage_as x m v b t y a r = record { place = m; passed = x.passed; vehicle = v; cycle = b; tolerances = t; method = y; amounts = a; run = r }

-- an amount is brought
abbrev pub with_amounts : Stage → ℕ → Amounts → Stage
with_amounts x m a = stage_as x m x.vehicle x.cycle x.tolerances x.method a x.run

-- samples are taken by the judge
abbrev pub taken_on : Stage → List Moment → State
taken_on x xs = samples_taken (plan_on x) x.run (moment_in xs) (length xs)

-- with what a field brings, at the place m that it moves to: a start sets ledger and map to zero
abbrev pub bring_on : Stage → ℕ → Bring → Stage
bring_on x m nothing = stage_as x m x.vehicle x.cycle x.tolerances x.method x.amounts x.run
bring_on x m (a_number v) = stage_as x m v x.cycle x.tolerances x.method x.amounts x.run
bring_on x m (a_cycle v) = stage_as x m x.vehicle v x.tolerances x.method x.amounts x.run
bring_on x m (the_tolerances t) = stage_as x m x.vehicle x.cycle t x.method x.amounts (start_of x.run.memory.ledger x.run.memory.map)
bring_on x m (the_stretches y) = stage_as x m x.vehicle x.cycle x.tolerances (with_stretches y) x.amounts x.run
bring_on x m (own_samples xs) = stage_as x m x.vehicle x.cycle x.tolerances x.method x.amounts (taken_on x xs)
bring_on x m (before e) = with_amounts x m (with_before x.amounts e)
bring_on x m (after e) = with_amounts x m (with_after x.amounts e)
bring_on x m (charged w) = with_amounts x m (with_charge x.amounts w)

-- "only the passed-over count rises"
abbrev pub pass_on : Stage → Stage
pass_on x = record {
  place = x.place;
  passed = x.passed + 1;
  vehicle = x.vehicle;
  cycle = x.cycle;
  tolerances = x.tolerances;
  method = x.method;
  amounts = x.amounts;
  run = x.run;
}

-- a whole field: taken, passed over or refused
abbrev pub take_on : Stage → Field → Answer Stage
take_on x f = field_answer x.place (content_on x) (bring_on x) (pass_on x) f

-- ---- the bytes

-- the answer to the field at their front, and all whole fields of them
abbrev pub reply_on : Stage → List ℕ → Reply Stage
reply_on = reply_at tags take_on

abbrev pub run_on : Stage → List ℕ → Ran Stage
run_on = run tags take_on

-- what is left after an answer: "That answer changes nothing." where no field is accepted
abbrev pub stage_after : Stage → Reply Stage → Stage
stage_after x (to_field (taken y) n) = y
stage_after x (to_field (passed y) n) = y
stage_after x (to_field (refused k) n) = x
stage_after x not_yet = x
stage_after x no_field = x

-- ---- the cycle in the lent room

-- "An accepted field 3 writes its cycle at the front and nothing beyond."
unfoldable pub written : List ℕ → List ℕ → List ℕ
written room v = v ++ drop (length v) room

-- the room, after fields that led from x to y: the cycle is in it from its field on
abbrev pub room_after : Stage → Stage → List ℕ → List ℕ
room_after x y room = cond (leb x.place behind_number && leb behind_cycle y.place) (written room y.cycle) room
