-- Where a run of the cycle b and the method y stands, w the time tolerance; and what holds of it while samples are taken.
-- Assumes nothing.
use Rattle.std.specs.Prelude.{true, List, [], ◌≡◌, ℕ, ◌+◌, ◌*◌, ◌≤◌, ◌<◌, min, ℤ, length}
use Rattle.numbers.specs.Whole.{Sized}
use Rattle.laws.specs.Beside.{is_moment, stand_of, place_of}
use Rattle.rules.specs.declared.Method.{Method}
use Rattle.rules.specs.Bench.{most_time_tolerance, most_offered, most_share_energy, most_share_distance}
use Rattle.rules.specs.Cycle.{valid, phase_end, phase_at}
use Rattle.rules.specs.Shortened.{Stand, row_of, phase_of, most_below}
use Rattle.rules.specs.Plan.{Plan, plan, layout_of}
use Rattle.rules.specs.Shown.{ledger_numbers, map_words, most_energy, most_stretch_energy, most_stretch_distance}
use Rattle.values.specs.Limits.{is_method}
use Rattle.window.specs.Moving.{window_of}
use Rattle.ledger.specs.Row.{at, most_step}
use Rattle.rules.specs.declared.Moment.{Moment}
use Rattle.rules.specs.declared.Tolerances.{Tolerances}
use Rattle.state.specs.Refusals.{not_stretched}
use Rattle.state.specs.declared.Progress.{Progress}
use Rattle.state.specs.declared.Stretch.{Stretch}
use Rattle.state.specs.declared.Stretched.{Stretched}
use Rattle.state.specs.State.{lent, Left}
use Rattle.step.specs.Step.{State, open_row, open_phase, counted_one, judge, judge_or_limit, open_taken_by, sample_taken}
pub use Rattle.step.specs.declared.Going.{Going}
pub use Rattle.step.specs.declared.Taken.{Taken}
pub use Rattle.step.specs.declared.Next.{Next}

-- up to which position phase and window stay what they are at position p, but for the window's ends
abbrev pub until_at : List ℕ → ℕ → ℕ → ℕ
until_at b w p = min (window_of b w p).until (20 * phase_end b (phase_at b p))

-- row, position and phase of a place; and of sample n
abbrev pub next_at : List ℕ → Stand → Next
next_at b x = record { row = row_of b x; position = place_of b x; phase = phase_of b x }

abbrev pub next_of : List ℕ → Method → ℕ → Next
next_of b y n = next_at b (stand_of b y n)

-- at the row, position and phase of its next sample, in the window of that position; the open interval is of the sample before
abbrev pub standing : List ℕ → ℕ → Method → Progress → Going
standing b w y p = record {
  progress = p;
  row = (next_of b y p.counted).row;
  phase = (next_of b y p.counted).phase;
  window = window_of b w (next_of b y p.counted).position;
  open_row = open_row (layout_of b y) p.counted;
  open_phase = open_phase (layout_of b y) p.counted;
  position = (next_of b y p.counted).position;
  until = until_at b w (next_of b y p.counted).position;
}

-- where it stood, with other progress
abbrev pub progressed : Going → Progress → Going
progressed g p = record {
  progress = p;
  row = g.row;
  phase = g.phase;
  window = g.window;
  open_row = g.open_row;
  open_phase = g.open_phase;
  position = g.position;
  until = g.until;
}

-- with a sample more that counts: the next stands in the same stretch; it is the first of cycle 3
abbrev pub moved_on : Going → Moment → Going
moved_on g x = record {
  progress = counted_one g.progress x;
  row = g.row;
  phase = g.phase;
  window = g.window;
  open_row = g.row;
  open_phase = g.phase;
  position = g.position;
  until = g.until;
}

abbrev pub resumed_on : List ℕ → ℕ → Going → Moment → Going
resumed_on b w g x = record {
  progress = counted_one g.progress x;
  row = 2;
  phase = 0;
  window = window_of b w 0;
  open_row = g.row;
  open_phase = g.phase;
  position = 0;
  until = until_at b w 0;
}

-- what is asked where a sample is counted
pub record Counts (b : List ℕ) (w : ℕ) (y : Method) (g : Going) : Type 0 where
  pub sound : valid b ≡ true
  pub time : w ≤ most_time_tolerance
  pub method : is_method y ≡ true
  pub stands : g ≡ standing b w y g.progress
  pub few : g.progress.offered < most_offered
  pub counted : g.progress.counted ≤ g.progress.offered

-- a going run with its memory, as a state; and what is left of it
abbrev pub with_memory : Taken → List ℤ → List ℕ → State
with_memory x l m = record { progress = x.going.progress; stretched = x.stretched; memory = lent l m }

abbrev pub taken_at : Plan → State → Taken
taken_at p a = record { going = standing p.cycle p.tolerances.time p.method a.progress; stretched = a.stretched }

abbrev pub left_at : Plan → State → Left Taken
left_at p a = record { answer = taken_at p a; memory = a.memory }

-- with what a run has of its stretches
abbrev pub taking : Going → Stretched → Taken
taking g z = record { going = g; stretched = z }

-- what a judged sample of a cycle leaves, whatever the run has of its stretches; one that stands in no cycle, whatever the memory; one of an open run,
-- and an accepted one
abbrev pub one_judged : List ℕ → Tolerances → Method → Going → List ℤ → List ℕ → Moment → Left Going
one_judged b t y g l m x =
    let a = judge (plan b t y) (with_memory (taking g not_stretched) l m) x in
    record { answer = standing b t.time y a.progress; memory = a.memory }

abbrev pub one_beside : List ℕ → Tolerances → Method → Taken → Moment → Taken
one_beside b t y k x = taken_at (plan b t y) (judge_or_limit (plan b t y) (with_memory k [] []) x)

abbrev pub open_taken : List ℕ → Tolerances → Method → Taken → List ℤ → List ℕ → Moment → Left Taken
open_taken b t y k l m x = left_at (plan b t y) (open_taken_by (plan b t y) (with_memory k l m) x)

abbrev pub one_taken : List ℕ → Tolerances → Method → Taken → List ℤ → List ℕ → Moment → Left Taken
one_taken b t y k l m x = left_at (plan b t y) (sample_taken (plan b t y) (with_memory k l m) x)

-- a stretch can have this at most where n samples are offered
pub record StretchFits (z : Stretch) (n : ℕ) : Type 0 where
  pub energy : Sized (most_stretch_energy + most_share_energy * n) z.energy
  pub distance : z.distance ≤ most_stretch_distance + most_share_distance * n

-- what holds of a run while samples are taken: what the tests have shown, and what every sample keeps
pub record Kept (p : Plan) (y : Left Taken) : Type 0 where
  pub sound : valid p.cycle ≡ true
  pub time : p.tolerances.time ≤ most_time_tolerance
  pub method : is_method p.method ≡ true
  pub stands : y.answer.going ≡ standing p.cycle p.tolerances.time p.method y.answer.going.progress
  pub counted : y.answer.going.progress.counted ≤ y.answer.going.progress.offered
  pub interval : is_moment y.answer.going.progress.held ≡ true
  pub watched : y.answer.stretched.watch ≤ most_below
  pub in_m : StretchFits y.answer.stretched.in_m y.answer.going.progress.offered
  pub in_e : StretchFits y.answer.stretched.in_e y.answer.going.progress.offered
  pub long_ledger : ledger_numbers ≤ length y.memory.ledger
  pub long_map : map_words ≤ length y.memory.map
  pub small : (i : ℕ) → i < ledger_numbers → Sized (most_energy + most_step * y.answer.going.progress.offered) (at y.memory.ledger i)
