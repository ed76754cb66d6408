-- Document 02, L5, the shortened method, as a course: "Two cycles, a constant-speed stretch M, two cycles, a constant-speed stretch E, by 000 clauses
-- 5.3.3, 5.5.3 and 6.3.2."
-- Assumes nothing.
use Rattle.std.specs.Prelude.{Bool, false, not, cond, ◌&&◌, List, ℕ, suc, ◌+◌, ◌-◌, ◌*◌, ltb, eqb}
use Rattle.rules.specs.Words.{all_below}
use Rattle.rules.specs.Bench.{Tolerances, Stretches, most_offered}
use Rattle.rules.specs.Cycle.{phases, phase_end, positions, phase_at}
use Rattle.rules.specs.Band.{inside}
use Rattle.rules.specs.Course.{Bound, never, after, Layout, Rule, row_m, row_e}
use Rattle.rules.specs.Regular.{cycle_of, position_of}

-- where a sample stands: at place i of the cycles, laid end to end, or in a stretch, which is row c
pub data Stand : Type 0 where
  ride : ℕ → Stand
  beside : ℕ → Stand

module _ (b : List ℕ) where
  -- row and phase there; "M and E .. count as phases": each is one
  abbrev pub row_of : Stand → ℕ
  row_of (ride i) = cycle_of b i
  row_of (beside c) = c

  abbrev pub phase_of : Stand → ℕ
  phase_of (ride i) = phase_at b (position_of b i)
  phase_of (beside c) = 0

  -- "The cycles are judged as now; M is recorded and not judged", and in E nothing is outside
  abbrev pub outside_at : Tolerances → Stand → ℕ → Bool
  outside_at t (ride i) v = not (inside b t (position_of b i) v)
  outside_at t (beside c) v = false

-- m is "M's length in samples"
module _ (b : List ℕ) (m : ℕ) where
  -- the first sample behind k cycles and M
  abbrev pub joint : ℕ → ℕ
  joint k = k * positions b + m

  abbrev pub stand : ℕ → Stand
  stand j = cond (ltb j (2 * positions b)) (ride j) (cond (ltb j (joint 2)) (beside row_m) (cond (ltb j (joint 4)) (ride (j - m)) (beside row_e)))

  -- how many samples of M stand before cycle c
  abbrev pub shift : ℕ → ℕ
  shift c = cond (ltb c 2) 0 m

  -- the first sample of cycles 1 to 4, of M, of E
  abbrev pub begin_of : ℕ → ℕ
  begin_of c = cond (ltb c 4) (shift c + c * positions b) (cond (eqb c row_m) (2 * positions b) (joint 4))

  -- behind the last; M and E are finished as phases are, "E never as a finished one"
  abbrev pub end_of : ℕ → Bound
  end_of c = cond (ltb c 4) (after (shift c + suc c * positions b)) (cond (eqb c row_m) (after (joint 2)) never)

  -- behind phase k of cycle c
  abbrev pub behind_phase : ℕ → ℕ → Bound
  behind_phase c k = cond (ltb k (phases b)) (after (shift c + (c * positions b + 20 * phase_end b k))) never

  abbrev pub shortened_layout : Layout
  shortened_layout = record {
    row = λ j. row_of b (stand j);
    phase = λ j. phase_of b (stand j);
    begin = begin_of;
    row_end = end_of;
    phase_end = λ c k. cond (ltb c 4) (behind_phase c k) (cond (eqb k 0) (end_of c) never);
    -- a shortened run has no limit but that of the samples offered
    most = most_offered;
  }

-- ---- the stop in E, which begins with sample e: by its set speed u, the speed tolerance s and the speeds v

-- "until a sample has reached the set speed": one of E's, up to sample j, is not below it
abbrev pub has_reached : ℕ → ℕ → (ℕ → ℕ) → ℕ → Bool
has_reached e u v j = not (all_below (suc j - e) (λ i. ltb (v (e + i)) u))

-- "below the set speed less the speed tolerance"
abbrev pub is_below : ℕ → ℕ → ℕ → Bool
is_below u s speed = ltb (speed + s) u

-- "from there the run stops at the 80th consecutive sample below": so is sample j, and so are the 79 before it. The one that has reached u is not,
-- so it comes before them, and all 80 are of E
abbrev pub most_below : ℕ
most_below = 80

unfoldable pub stops_in_e : ℕ → ℕ → ℕ → (ℕ → ℕ) → ℕ → Bool
stops_in_e e u s v j = has_reached e u v j && all_below most_below (λ i. is_below u s (v (j - i)))

-- "in stretch E time tolerance and allowance have no part"
abbrev pub shortened_rule : List ℕ → Tolerances → Stretches → Rule
shortened_rule b t x = record {
  outside = λ j v. outside_at b t (stand b x.length j) v;
  allowance = t.allowance;
  halts = stops_in_e (joint b x.length 4) x.speed t.speed;
}
