-- Demand 3 over runs of any samples: by wider tolerances, with samples added at the end, and of E.
-- Assumes nothing.
use mathlib.Core.Bool.{true, false}
use mathlib.Core.List.{List}
use mathlib.Core.Path.{◌≡◌}
use Prim.Native.Nat.{ℕ, ◌≤◌, ◌<◌}
use Rattle.rules.specs.declared.Method.{Method}
use Rattle.rules.specs.declared.Moment.{Moment}
use Rattle.rules.specs.declared.Tolerances.{Tolerances}
use Rattle.rules.specs.Cycle.{valid}
use Rattle.rules.specs.Course.{closed, row_e}
use Rattle.rules.specs.Parts.{row_part, finished}
use Rattle.rules.specs.Regular.{interval}
use Rattle.rules.specs.Plan.{Plan, plan, layout_of, course_of}
use Rattle.laws.proofs.Sound.{sound}
use Rattle.laws.specs.Claims.{Widened}
use Rattle.laws.proofs.Gathered.{row_ends, phase_ends}
use Rattle.laws.proofs.Plans as plans
use Rattle.laws.proofs.Plans.{planned_orderly, planned_lawful, planned_phase_ends, planned_wider}
use Rattle.laws.proofs.Wider.{counted_wider, closed_wider, stopped_wider, part_wider, outside_finished}
use Rattle.laws.proofs.Longer.{stop_longer, closed_longer, part_longer, outside_longer}
use Rattle.demands.specs.Demand3.{WiderRun, LongerRun}

pub wider_run : (b : List ℕ) (y : Method) (t t' : Tolerances) (s : ℕ → Moment) (n : ℕ) → valid b ≡ true → Widened t t' → WiderRun b y t t' s n
wider_run b y t t' s n good wide =
    let layout = layout_of b y in
    let orderly = planned_orderly b (sound b good) y in
    let wider = planned_wider b (sound b good) y t t' wide in
    record {
      wider_never_stops_earlier = (counted_wider layout _ _ interval wider s n, stopped_wider layout _ _ interval wider s n);
      wider_closes_no_less = closed_wider layout _ _ interval wider s n;
      wider_finishes_phases = λ c k. part_wider layout _ _ interval wider s n (phase_ends orderly c k);
      wider_finishes_cycles = λ c d. (part_wider layout _ _ interval wider s n (row_ends orderly c) d, outside_finished layout _ _ interval wider s n orderly c d);
    }

pub longer_run : (b : List ℕ) (y : Method) (t : Tolerances) (s s' : ℕ → Moment) (n n' : ℕ) → n ≤ n' → ((j : ℕ) → j < n → s' j ≡ s j)
    → LongerRun b y t s s' n n'
longer_run b y t s s' n n' more same =
    let course = course_of (plan b t y) in
    let lawful = planned_lawful (plan b t y) in
    record {
      longer_moves_no_stop = stop_longer course lawful s s' n n' more same;
      longer_closes_no_less = closed_longer course lawful s s' n n' more same;
      finished_phase_stays = λ c k. part_longer course lawful s s' n n' more same (planned_phase_ends b y c k);
      finished_stays = λ good c d.
          let orderly = planned_orderly b (sound b good) y in
          (part_longer course lawful s s' n n' more same (row_ends orderly c) d, outside_longer course lawful s s' n n' more same orderly c d);
    }

pub e_never_finished : (p : Plan) (s : ℕ → Moment) (n : ℕ) → valid p.cycle ≡ true
    → finished (row_part (layout_of p.cycle p.method) row_e) (closed (course_of p) s n) ≡ false
e_never_finished p s n good = plans.e_never_finished p (sound p.cycle good) s n
