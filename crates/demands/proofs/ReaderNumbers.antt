-- The number of what a call of the reader leaves is document 01's order of refusals for that call.
-- Assumes nothing.
use mathlib.Core.Bool.{Bool, true, false, cond, false≢true}
use mathlib.Core.List.{List}
use mathlib.Core.Path.{◌≡◌, refl, sym, ap, ◌∙◌}
use Prim.Native.Nat.{ℕ, ◌+◌, ◌-◌, ◌≤◌}
use native.Mathlib.Omega.{arith}
use lib.Dec.{eqb}
use lib.IntN.{ℤ}
use lib.ListN.{length, drop}
use Rattle.rules.specs.Table.{behind_tolerances, tags}
use Rattle.rules.specs.Machine.{Reply, to_field, not_yet, no_field, taken, passed, refused, End, waiting, broken, stopped, off, move_of}
use Rattle.laws.specs.Answers.{gives, refuses, number_of, end_said}
use Rattle.laws.proofs.Prefixes.{run_stops}
use Rattle.state.specs.State.{Left, left}
use Rattle.records.specs.Stage.{Stage, take_on, reply_on, run_on}
use Rattle.records.proofs.After.{After, after_upto}
use Rattle.opening.specs.declared.Opening.{Opening}
use Rattle.opening.specs.Answers.{opens, starts, stage_of, run_of, open_ground, not_opened, opened_by, front_opened}
use Rattle.reading.specs.declared.Reading.{Reading}
use Rattle.reading.specs.Answers.{unfinished, reply_said, ReadSaid, AllSaid, stage_at, reading_of, read_ground}
use Rattle.reader.specs.Answers.{read_by, all_by, read_left, all_left}
use Rattle.demands.specs.Cases.{or_else, reply_number, opening_number, next_number, reading_number}

-- ---- until the start

module _ (o : Opening) (room : List ℕ) (l : List ℤ) (m i : List ℕ) where
  abbrev begun : Stage
  begun = stage_of o room l m

  opened_number : (y : Reply Stage) → number_of (opened_by o room begun y).answer.says ≡ reply_number y
  opened_number (to_field (taken z) n) = go (eqb z.place behind_tolerances)
    where
      go : (t : Bool) → number_of (gives (cond t (starts n (run_of z)) (opens n))) ≡ 0
      go true = refl
      go false = refl
  opened_number (to_field (passed z) n) = refl
  opened_number (to_field (refused k) n) = refl
  opened_number not_yet = refl
  opened_number no_field = refl

  pub open_of_number : number_of (front_opened o room l m i).answer.says ≡ opening_number o room l m i
  unfolding front_opened
  open_of_number = go (eqb (open_ground o room) 0)
    where
      go : (t : Bool) → number_of (cond t (opened_by o room begun (reply_on begun i)) (not_opened o room begun (refuses (open_ground o room)))).answer.says
          ≡ cond t (reply_number (reply_on begun i)) (open_ground o room)
      go true = opened_number (reply_on begun i)
      go false = refl

-- ---- after it

step_number : (y : Reply Stage) → number_of (reply_said y) ≡ reply_number y
step_number (to_field (taken z) n) = refl
step_number (to_field (passed z) n) = refl
step_number (to_field (refused k) n) = refl
step_number not_yet = refl
step_number no_field = refl

-- what ended the fields is the answer to the bytes that they leave
last_number : (y : Reply Stage) (e : End) → move_of y ≡ off e → number_of (end_said unfinished e) ≡ reply_number y
last_number (to_field (taken z) n) e q = absurd (false≢true cc)
last_number (to_field (passed z) n) e q = absurd (false≢true cc)
last_number (to_field (refused k) n) waiting q = absurd (false≢true cc)
last_number (to_field (refused k) n) broken q = absurd (false≢true cc)
last_number (to_field (refused k) n) (stopped j) q = cc q
last_number not_yet waiting q = refl
last_number not_yet broken q = absurd (false≢true cc)
last_number not_yet (stopped j) q = absurd (false≢true cc)
last_number no_field waiting q = absurd (false≢true cc)
last_number no_field broken q = refl
last_number no_field (stopped j) q = absurd (false≢true cc)

-- a reading with its memory, as what has been read
module _ (r : Reading) (b : List ℕ) (l : List ℤ) (m i : List ℕ) where
  abbrev x : Stage
  x = stage_at r b l m

  pub read_of_number : number_of (read_left r b l m i).answer.says ≡ reading_number r b l m i
  unfolding read_left
  read_of_number = go (eqb (read_ground r b l m) 0)
    where
      go : (t : Bool) → number_of (cond t (read_by r x (reply_on x i)) (left {A = ReadSaid Reading} (record { says = refuses (read_ground r b l m); state = r }) l m)).answer.says
          ≡ cond t (reply_number (reply_on x i)) (read_ground r b l m)
      go true = step_number (reply_on x i)
      go false = refl

  -- the reading that is left, on the memory that is left, is where the machine stands
  left_is : (z : Stage) → After x z → stage_at (reading_of r z) b z.run.memory.ledger z.run.memory.map ≡ z
  left_is z a =
      let p : behind_tolerances + (z.place - behind_tolerances) ≡ z.place = omega (arith, a.place) in
      let late : behind_tolerances ≤ x.place = omega arith in
      λ j. record {
        place = p j;
        passed = z.passed;
        vehicle = sym (a.vehicle late) j;
        cycle = sym (a.cycle (omega arith)) j;
        tolerances = sym (a.tolerances late) j;
        method = z.method;
        amounts = z.amounts;
        run = z.run;
      }

  pub read_all_of_number : (let y = all_left r b l m i in
      number_of y.answer.last ≡ or_else (read_ground r b l m) (next_number y.answer.state b y.memory.ledger y.memory.map (drop y.answer.used i)))
  unfolding all_left
  read_all_of_number = go (eqb (read_ground r b l m) 0)
    where
      call : Bool → Left (AllSaid Reading)
      call t = cond t (all_by r (run_on x i)) (left (record { state = r; fields = 0; used = 0; last = refuses (read_ground r b l m) }) l m)

      go : (t : Bool) → number_of (call t).answer.last
          ≡ cond t (next_number (call t).answer.state b (call t).memory.ledger (call t).memory.map (drop (call t).answer.used i)) (read_ground r b l m)
      go true =
          let y = run_on x i in
          last_number (reply_on y.state (drop y.used i)) y.end (run_stops tags take_on x i)
          ∙ ap (λ (z : Stage). reply_number (reply_on z (drop y.used i))) (sym (left_is y.state (after_upto (length i) x i)))
      go false = refl
