-- "Demand 2 shuts out a judge that ..": the judges that document 01 names, each of which breaks a contract; claims of demand 2.
-- Assumes nothing.
use Rattle.std.specs.Prelude.{Bool, true, List, ◌++◌, ◌≡◌, ℕ, suc, ◌+◌, ◌≤◌, ◌<◌, ℤ, pos, length, Ok, Err}
use Rattle.rules.specs.declared.End.TheVariants.{Stop as stop}
use Rattle.rules.specs.declared.Method.{Method}
use Rattle.rules.specs.declared.Method.TheVariants.{Regular as by_cycles}
use Rattle.rules.specs.declared.Moment.{Moment}
use Rattle.rules.specs.declared.Tolerances.{Tolerances}
use Rattle.rules.specs.Bench.{is_sample, tolerable, most_speed, most_cycles, most_offered}
use Rattle.rules.specs.Cycle.{valid, positions}
use Rattle.rules.specs.Course.{Course, outside, judged}
use Rattle.rules.specs.Regular.{moment_in}
use Rattle.rules.specs.Plan.{Plan, plan, course_of}
use Rattle.rules.specs.Shown.{ledger_numbers, map_words, figure, shown_row}
use Rattle.rules.specs.Values.{count_in, are_samples, moments_in}
use Rattle.laws.specs.Beside.{is_block, stopped}
use Rattle.values.specs.Limits.{is_method}
use Rattle.ledger.specs.Row.{at, outside_in}
use Rattle.map.specs.Map.{is_set, ones_of}
use Rattle.state.specs.declared.Run.{Run}
use Rattle.state.specs.State.{lent}
use Rattle.step.specs.Step.{run_to}
use Rattle.rules.specs.declared.Refusal.{Refusal}
use Rattle.judge.specs.Answers.{after_block}
use Rattle.demands.specs.Calls.{StartCall, SampleCall, BlockCall, VerdictCall}
use Rattle.demands.specs.Runs.{StartOn, SampleOn, BlockOn, sample_in, bytes_in, Driven}
use Rattle.demands.specs.Rows.{risen, no_time, eleven, level, allows_three, four_fast, moments_of}

-- ---- a whole run of the samples xs by the plan p, with the state r, the ledger l and the map m

module _ (p : Plan) (xs : List Moment) (r : Run) (l : List ℤ) (m : List ℕ) where
  abbrev s : ℕ → Moment
  s = moment_in xs

  abbrev n : ℕ
  n = length xs

  abbrev y : Course
  y = course_of p

  pub record ShutsOut : Type 0 where
    -- "a judge that refuses everything": a sample within its limits, and a block of such, in a run that has room for them
    pub sample_not_refused : (c : SampleCall) → SampleOn r p.cycle l m c → is_sample (sample_in c) ≡ true → r.progress.offered < most_offered
        → (k : Refusal) → c.answer ≡ Err k → ⊥
    pub block_not_refused : (c : BlockCall) → BlockOn r p.cycle l m c → (let q = bytes_in c in
        is_block (length q) ≡ true → c.args.1.1.1.1.0 ≡ r.progress.offered → r.progress.offered + count_in q ≤ most_offered
        → are_samples q (count_in q) ≡ true → (k : Refusal) → c.answer ≡ Err k → ⊥)
    -- "one that works through the first block and lets later ones slide by": after a later block the ledger shows its samples behind those before
    pub later_block_shows : (c : BlockCall) → BlockOn r p.cycle l m c → {r' : Run} → c.answer ≡ Ok r'
        → (let ys = xs ++ moments_in (bytes_in c) in
        (i : ℕ) → i < ledger_numbers → at c.lasts.1.1.0 i ≡ figure y (moment_in ys) (length ys) i)
    -- "and one whose outside count is invented: count and map are both tied to the band": of the samples judged, those of cycle c that the band has outside;
    -- the count in the ledger is no other number, nor are the ones in the map for the cycle last judged
    pub no_invented_count : (c : ℕ) → c < most_cycles → (k : ℕ) → (k ≡ outside y s c (judged y s n) → ⊥) → outside_in l c ≡ pos k → ⊥
    pub no_invented_map : (k : ℕ) → (k ≡ outside y s (shown_row y.layout (judged y s n)) (judged y s n) → ⊥) → ones_of m ≡ k → ⊥
    -- and one that never stops: "Demand 3 alone would admit a judge that never stops, so it is stated over demand 2's definition."
    pub stops_by_the_rules : stopped y s n ≡ true → r.progress.end ≡ stop
    pub stops_only_by_the_rules : r.progress.end ≡ stop → stopped y s n ≡ true

-- ---- calls, and runs of rows of the test card

-- a question that breaks no rule
pub record Asks (c : VerdictCall) : Type 0 where
  pub cycle : valid c.args.0.now ≡ true
  pub tolerated : tolerable (record { speed = c.args.1.0; time = c.args.1.1.0; allowance = c.args.1.1.1.0 }) ≡ true
  pub position : c.args.1.1.1.1.0 < positions c.args.0.now
  pub speed : c.args.1.1.1.1.1.0 ≤ most_speed

-- a block that is taken, first or later, has samples, and each of them is taken by the rules
pub record WorkedThrough (r : Run) (b : List ℕ) (l : List ℤ) (m q : List ℕ) (r' : Run) (l' : List ℤ) (m' : List ℕ) : Type 0 where
  pub some : 1 ≤ count_in q
  pub offered : r'.progress.offered ≡ r.progress.offered + count_in q
  pub run : r' ≡ run_to r (after_block r b l m q).progress (after_block r b l m q).stretched
  pub memory : lent l' m' ≡ (after_block r b l m q).memory

pub record ShutsOutAlways : Type 0 where
  -- a start on memory that is long enough, with a cycle, tolerances and a method that break no rule, is not refused
  pub start_not_refused : {b : List ℕ} {t : Tolerances} {y : Method} {l : List ℤ} {m : List ℕ} (c : StartCall) → StartOn b t y l m c
      → ledger_numbers ≤ length l → map_words ≤ length m → valid b ≡ true → tolerable t ≡ true → is_method y ≡ true
      → (k : Refusal) → c.answer ≡ Err k → ⊥
  -- "one with a constant verdict": no number is the answer to every question that breaks no rule; nor is the mark that the judge leaves constant, after
  -- eleven samples of which the last has the speed 20 or 19
  pub no_constant_verdict : (v : ℤ) → ((c : VerdictCall) → Asks c → c.answer ≡ v) → ⊥
  pub no_constant_mark : (l₀ : List ℤ) (m₀ : List ℕ) → ledger_numbers ≤ length l₀ → map_words ≤ length m₀ → (y : Bool)
      → ((v : ℕ) (r : Run) (l : List ℤ) (m : List ℕ) → Driven (plan risen no_time by_cycles) l₀ m₀ (moments_of (eleven v)) r l m
      → is_set m 10 ≡ y) → ⊥
  -- "one that does nothing": a sample that is taken raises the number offered
  pub sample_is_offered : (c : SampleCall) {r' : Run} → c.answer ≡ Ok r' → r'.progress.offered ≡ suc c.args.0.progress.offered
  pub every_block_is_worked_through : {r : Run} {b : List ℕ} {l : List ℤ} {m : List ℕ} (c : BlockCall) → BlockOn r b l m c
      → {r' : Run} → c.answer ≡ Ok r' → WorkedThrough r b l m (bytes_in c) r' c.lasts.1.1.0 c.lasts.1.1.1.0
  -- the row of the test card: a run of its four samples that goes on is no run of a judge that keeps its promises
  pub no_judge_that_never_stops : {l₀ : List ℤ} {m₀ : List ℕ} {r : Run} {l : List ℤ} {m : List ℕ}
      → Driven (plan level allows_three by_cycles) l₀ m₀ (moments_of four_fast) r l m → (r.progress.end ≡ stop → ⊥) → ⊥
