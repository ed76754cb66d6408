-- The regular method, "continuous cycles", as a course; and the samples of a list.
-- Assumes nothing.
use Rattle.std.specs.Prelude.{false, not, cond, List, ℕ, suc, ◌+◌, ◌*◌, ◌/◌, ◌%◌, ltb, ◌+ℤ◌, get_or}
use Rattle.rules.specs.Bench.{Moment, Tolerances, no_moment, most_cycles}
use Rattle.rules.specs.Cycle.{phases, phase_end, positions, phase_at}
use Rattle.rules.specs.Band.{inside}
use Rattle.rules.specs.Course.{never, after, Layout, Rule, Share, Course, course}

-- document 02, L2: "Energy and distance of an interval are from now on the sums of both ends' products and speeds, in units of 0.25 mJ and 1/1440 m.
-- A sample's interval is closed by the next accepted sample and belongs to the earlier one's phase"
abbrev pub interval : Share
interval = record {
  ahead = 1;
  energy = λ s j. (s j).energy +ℤ (s (suc j)).energy;
  distance = λ s j. (s j).speed + (s (suc j)).speed;
}

-- where sample j stands: position j mod N of cycle j div N
module _ (b : List ℕ) where
  abbrev pub cycle_of : ℕ → ℕ
  cycle_of j = j / positions b

  abbrev pub position_of : ℕ → ℕ
  position_of j = j % positions b

  -- "A run has at most 64 cycles": as many samples can count
  abbrev pub most : ℕ
  most = most_cycles * positions b

  -- a phase that does not exist is never finished
  abbrev pub regular_layout : Layout
  regular_layout = record {
    row = cycle_of;
    phase = λ j. phase_at b (position_of j);
    begin = λ c. c * positions b;
    row_end = λ c. after (suc c * positions b);
    phase_end = λ c k. cond (ltb k (phases b)) (after (c * positions b + 20 * phase_end b k)) never;
    most = most;
  }

-- outside by the band, at every position
abbrev pub regular_rule : List ℕ → Tolerances → Rule
regular_rule b t = record { outside = λ j v. not (inside b t (position_of b j) v); allowance = t.allowance; halts = λ v j. false }

abbrev pub regular : List ℕ → Tolerances → Course
regular b t = course (regular_layout b) (regular_rule b t) interval

-- sample j of a list; past its end, nothing of one
abbrev pub moment_in : List Moment → ℕ → Moment
moment_in xs j = get_or xs j no_moment
