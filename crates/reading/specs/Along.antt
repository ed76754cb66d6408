-- A reading while fields are taken: its own numbers and where its run stands, beside the lent memory.
-- Assumes nothing.
use Rattle.std.specs.Prelude.{true, List, [], ◌≡◌, ℕ, ◌+◌, ◌-◌, ◌≤◌, ℤ, length, Option, Some, None, Result, Ok, Err}
use Rattle.rules.specs.declared.Amounts.{Amounts}
use Rattle.rules.specs.declared.Tolerances.{Tolerances}
use Rattle.rules.specs.declared.Stretches.{Stretches}
use Rattle.rules.specs.declared.Method.TheVariants.{Shortened}
use Rattle.rules.specs.Bench.{most_offered, most_passed, are_stretches}
use Rattle.rules.specs.Plan.{Plan}
use Rattle.rules.specs.Table.{behind_tolerances}
use Rattle.rules.specs.Front.{Field}
use Rattle.rules.specs.Front as front
use Rattle.rules.specs.Machine.{Reply, to_field, Ran}
use Rattle.rules.specs.Values.{is_number, samples_of, count_in, are_samples}
use Rattle.rules.specs.Record.{answer_by}
use Rattle.state.specs.State.{Left, left}
use Rattle.state.specs.Refusals.{with_method}
use Rattle.step.specs.Step.{run_to}
use Rattle.step.specs.Where.{Kept, with_memory, standing, taking, taken_at}
use Rattle.records.specs.Stage.{Stage, plan_on, bring_on, pass_on, take_on, reply_on, run_on, stage_after}
use Rattle.rules.specs.declared.Refusal.{Refusal}
use Rattle.contents.specs.declared.Bring.{Bring}
use Rattle.contents.specs.declared.Bring.TheVariants.{Stretch, Samples, Before, After, Recharge}
use Rattle.contents.specs.Content.{bring_said, content_said}
use Rattle.reading.specs.declared.Reading.{Reading}
use Rattle.laws.specs.Answers.{end_said}
use Rattle.reading.specs.Answers.{unfinished, step_said, reply_said, ReadSaid, AllSaid}
pub use Rattle.reading.specs.declared.Along.{Along}
pub use Rattle.reading.specs.declared.Stepped.{Stepped}
pub use Rattle.reading.specs.declared.Passage.{Passage}

-- where a reading of the cycle b stands, and the reading taken on to where it stands now
abbrev pub along_at : Reading → List ℕ → Along
along_at r b = record {
  place = r.place;
  passed = r.passed;
  amounts = r.amounts;
  method = r.run.track.method;
  taken = taking (standing b r.run.track.tolerances.time r.run.track.method r.run.progress) r.run.stretched;
}

abbrev pub with_along : Reading → Along → Reading
with_along r k = record {
  vehicle = r.vehicle;
  place = k.place;
  passed = k.passed;
  amounts = k.amounts;
  run = run_to (with_method r.run k.method) k.taken.going.progress k.taken.stretched;
}

-- as what has been read of the vehicle me, on the cycle b and the memory l and m; and back
abbrev pub stage_along : List ℕ → List ℕ → Tolerances → Along → List ℤ → List ℕ → Stage
stage_along me b t k l m = record {
  place = behind_tolerances + k.place;
  passed = k.passed;
  vehicle = me;
  cycle = b;
  tolerances = t;
  method = k.method;
  amounts = k.amounts;
  run = with_memory k.taken l m;
}

abbrev pub along_of : Stage → Along
along_of x = record {
  place = x.place - behind_tolerances;
  passed = x.passed;
  amounts = x.amounts;
  method = x.method;
  taken = taken_at (plan_on x) x.run;
}

-- what the answers say
abbrev pub stepped_said : Stepped → ReadSaid Along
stepped_said x = record { says = step_said x.step; state = x.along }

abbrev pub passage_said : Passage → AllSaid Along
passage_said x = record { state = x.along; fields = x.fields; used = x.used; last = step_said x.last }

-- with the memory that is left: of a state, of the answer y to a field, of all
abbrev pub along_left : Stage → Left Along
along_left x = record { answer = along_of x; memory = x.run.memory }

abbrev pub stepped_left : Stage → Reply Stage → Left (ReadSaid Along)
stepped_left x y = let z = stage_after x y in record { answer = record { says = reply_said y; state = along_of z }; memory = z.run.memory }

abbrev pub passage_left : Ran Stage → Left (AllSaid Along)
passage_left y = record {
  answer = record { state = along_of y.state; fields = y.fields; used = y.used; last = end_said unfinished y.end };
  memory = y.state.run.memory;
}

-- a block is passed over; an amount is brought, and moves the place in the order
abbrev pub with_passed : Along → Along
with_passed k = record { place = k.place; passed = k.passed + 1; amounts = k.amounts; method = k.method; taken = k.taken }

abbrev pub with_amounts : Along → ℕ → Amounts → Along
with_amounts k place a = record { place = place; passed = k.passed; amounts = a; method = k.method; taken = k.taken }

-- stretches are brought, behind the tolerances
abbrev pub with_stretches : Along → Stretches → Along
with_stretches k x = record { place = 1; passed = k.passed; amounts = k.amounts; method = Shortened x; taken = k.taken }

-- the place to which each moves, counted from the start
abbrev pub place_of : Bring → ℕ
place_of (Stretch x) = 1
place_of Samples = 3
place_of (Before e) = 2
place_of (After e) = 4
place_of (Recharge w) = 5

abbrev pub place_by : Result (Option Bring) Refusal → ℕ
place_by (Ok (Some b)) = place_of b
place_by (Ok None) = 0
place_by (Err e) = 0

module _ (b : List ℕ) (t : Tolerances) (k : Along) (l : List ℤ) (m : List ℕ) where
  -- the vehicle has no part in what is brought
  abbrev pub stage_here : Stage
  stage_here = stage_along [] b t k l m

  abbrev pub bring_taken : List ℕ → Bring → Left Along
  bring_taken v c = along_left (bring_on stage_here (behind_tolerances + place_of c) (bring_said v c))

  -- the content c of the value v, in a field of n bytes
  abbrev pub content_taken : List ℕ → Result (Option Bring) Refusal → ℕ → Left (ReadSaid Along)
  content_taken v c n = stepped_left stage_here (to_field (answer_by (bring_on stage_here (behind_tolerances + place_by c)) (pass_on stage_here) (content_said v c)) n)

  module _ (me : List ℕ) where
    -- a whole field, the field at the front of the input, and all of its whole fields
    abbrev pub whole_taken : Field → Left (ReadSaid Along)
    whole_taken f = let x = stage_along me b t k l m in stepped_left x (to_field (take_on x f) (front.bytes_of f))

    abbrev pub front_taken : List ℕ → Left (ReadSaid Along)
    front_taken i = let x = stage_along me b t k l m in stepped_left x (reply_on x i)

    abbrev pub all_taken : List ℕ → Left (AllSaid Along)
    all_taken i = passage_left (run_on (stage_along me b t k l m) i)

-- what a value v brings may be taken
pub record Brings (p : Plan) (y : Left Along) (v : List ℕ) (b : Bring) : Type 0 where
  pub kept : Kept p (left y.answer.taken y.memory.ledger y.memory.map)
  pub fresh : (x : Stretches) → b ≡ Stretch x → y.answer.taken.going.progress.counted ≡ 0
  pub fits : (x : Stretches) → b ≡ Stretch x → are_stretches x ≡ true
  pub long : b ≡ Samples → 21 ≤ length v
  pub room : b ≡ Samples → y.answer.taken.going.progress.offered + count_in (samples_of v) ≤ most_offered
  pub samples : b ≡ Samples → are_samples (samples_of v) (count_in (samples_of v)) ≡ true

-- and the content of a field with it
pub record Takes (p : Plan) (y : Left Along) (v : List ℕ) (c : Result (Option Bring) Refusal) : Type 0 where
  pub kept : Kept p (left y.answer.taken y.memory.ledger y.memory.map)
  pub brings : (b : Bring) → c ≡ Ok (Some b) → Brings p y v b
  pub count : c ≡ Ok None → y.answer.passed + 1 ≤ most_passed

-- what holds of a reading while fields are taken
pub record Ready (me : List ℕ) (p : Plan) (y : Left Along) : Type 0 where
  pub number : 17 ≤ length me
  pub valid : is_number me ≡ true
  pub kept : Kept p (left y.answer.taken y.memory.ledger y.memory.map)
  pub few : y.answer.taken.going.progress.offered ≤ most_offered
  pub fresh : y.answer.place ≤ 2 → y.answer.taken.going.progress.offered ≡ 0
