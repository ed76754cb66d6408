-- What the code finds of a sample, from where the run stands, is what the rules say.
-- Assumes nothing.
use mathlib.Core.Bool.{Bool, not, cond}
use mathlib.Core.List.{List}
use mathlib.Core.Path.{◌≡◌, sym, ap, ap₂, ◌∙◌}
use Prim.Native.Nat.{ℕ, ◌*◌, ◌≤◌, ◌<◌}
use native.Mathlib.Omega.{arith}
use lib.IntN.{ℤ}
use Rattle.rules.specs.declared.Moment.{Moment}
use Rattle.rules.specs.declared.Tolerances.{Tolerances}
use Rattle.rules.specs.declared.Method.{Method}
use Rattle.rules.specs.declared.End.TheVariants.{Stop as stop}
use Rattle.laws.specs.Beside.{stand_of, place_of}
use Rattle.rules.specs.Bench.{most_cycles, most_offered}
use Rattle.rules.specs.Band.{inside_of, inside}
use Rattle.rules.specs.Shortened.{Stand, outside_at, most_below}
use Rattle.rules.specs.Plan.{Plan, plan, course_of}
use Rattle.laws.proofs.Sound.{Sound, sound}
use Rattle.window.specs.Moving.{least_in, greatest_in}
use Rattle.window.proofs.Fewer.{least_in_lem, greatest_in_lem}
use Rattle.ledger.specs.Row.{outside_added, is_over}
use Rattle.map.specs.Map.{opened, marked_if}
use Rattle.state.specs.declared.Stretched.{Stretched}
use Rattle.state.specs.State.{lent, Left, left}
use Rattle.state.specs.Refusals.{not_stretched}
use Rattle.step.specs.Step.{State, ended_by, counted_one, interval_closed, stretch_closed, row_now, out_now, judge, closed_with, judge_or_limit}
use Rattle.step.specs.Where.{Going, standing, Counts, with_memory, taking, left_at, one_judged}
use Rattle.step.proofs.Standing.{place_small, row_in, position_in, window_is, open_row_is, open_phase_is, rides}
use Rattle.step.proofs.Steps.{planned_out, planned_allowance, can_count, inside_is, judged_here, judges}

module _ (b : List ℕ) (t : Tolerances) (y : Method) (g : Going) (z : Stretched) (l : List ℤ) (m : List ℕ) (x : Moment) where
  abbrev p : Plan
  p = plan b t y

  abbrev a : State
  a = with_memory (taking g z) l m

  -- a sample that is judged in a cycle
  module _ (k : Counts b t.time y g) (h : g.row < most_cycles) (w : z.watch ≤ most_below) where
    good : Sound b
    good = sound b k.sound

    row_now_lem : g.row ≡ row_now p a x
    row_now_lem = row_in b good t.time y g k.stands

    in_cycle_lem : row_now p a x < most_cycles
    in_cycle_lem = rw (← row_now_lem) h

    -- the sample is outside, as the code finds it: as the window of its position has it
    pub out_in : not (inside_of (least_in g.window) (greatest_in g.window) t.speed x.speed) ≡ out_now p a x
    out_in =
        let r = rides b good t.time y g k.stands h in
        let q = place_of b (stand_of b y g.progress.counted) in
        let small = place_small b good (stand_of b y g.progress.counted) in
        let here = window_is b good t.time y g k.stands in
        ap not
        (ap₂ (λ (lo hi : ℕ). inside_of lo hi t.speed x.speed)
        (ap least_in here ∙ least_in_lem b k.sound t.time q small)
        (ap greatest_in here ∙ greatest_in_lem b k.sound t.time q small)
        ∙ inside_is b t q x.speed
        ∙ ap (λ (s : Stand). inside b t (place_of b s) x.speed) r.is)
        ∙ sym (planned_out b t y g.progress.counted x.speed ∙ ap (λ (s : Stand). outside_at b t s x.speed) r.is)

    -- whether it stops the run, and the state after it, where o says whether it is outside
    module _ (o : Bool) (e : o ≡ out_now p a x) where
      over_is : is_over (9 * g.row) l o t.allowance ≡ is_over (9 * row_now p a x) l (out_now p a x) (course_of p).rule.allowance
      over_is = λ i. is_over (9 * row_now_lem i) l (e i) (sym (planned_allowance b t y) i)

      pub judged_as : (v : Bool) → is_over (9 * g.row) l o t.allowance ≡ v → judge p a x ≡ record {
        progress = cond v (ended_by g.progress stop) (counted_one g.progress x);
        stretched = z;
        memory = lent (outside_added (9 * g.row) l o) (marked_if (opened m g.position) g.position o);
      }
      judged_as v q =
          let r = sym row_now_lem in
          let s = sym (position_in b good t.time y g k.stands h) in
          let u = sym over_is ∙ q in
          let d = sym e in
          judged_here p a x in_cycle_lem w
          ∙ (λ i. record {
            progress = cond (u i) (ended_by g.progress stop) (counted_one g.progress x);
            stretched = z;
            memory = lent (outside_added (9 * r i) l (d i)) (marked_if (opened m (s i)) (s i) (d i));
          })

    -- what it leaves of ledger, map and place, it leaves whatever the run has of its stretches
    pub cycle_left : {r : Going} {l' : List ℤ} {m' : List ℕ} → left r l' m' ≡ one_judged b t y g l m x → left (taking r z) l' m' ≡ left_at p (judge_or_limit p a x)
    cycle_left e =
        let a₀ = with_memory (taking g not_stretched) l m in
        let few : g.progress.counted < most_offered = omega (arith, k.few, k.counted) in
        ap (λ (q : Left Going). left (taking q.answer z) q.memory.ledger q.memory.map) e
        ∙ ap (λ (q : State). left (taking (standing b t.time y q.progress) z) q.memory.ledger q.memory.map) (judged_here p a₀ x in_cycle_lem (omega arith))
        ∙ sym (ap (left_at p) (judges p a x (can_count b good y g.progress.counted in_cycle_lem few) ∙ judged_here p a x in_cycle_lem w))

  -- a sample of an open run: the ledger and the stretches once it has closed the open interval
  module _ (o : Sound b) (stands : g ≡ standing b t.time y g.progress) {l' : List ℤ} {z' : Stretched}
      (e : l' ≡ interval_closed g.open_row g.open_phase l g.progress.held x) (f : z' ≡ stretch_closed g.open_row z g.progress.held x) where
    pub closed_is : with_memory (taking g z') l' m ≡ closed_with p a x
    closed_is =
        let r = open_row_is b o t.time y g stands in
        let k = open_phase_is b o t.time y g stands in
        (λ i. with_memory (taking g (f i)) (e i) m)
        ∙ (λ i. with_memory (taking g (stretch_closed (r i) z g.progress.held x)) (interval_closed (r i) (k i) l g.progress.held x) m)
