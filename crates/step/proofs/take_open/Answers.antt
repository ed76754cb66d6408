-- `step::take_open` meets its contract: the row of the next sample says whether it stands in a cycle.
use mathlib.Core.List.{List}
use mathlib.Core.Path.{◌≡◌, refl, ap, subst⁻¹, ◌∙◌}
use Prim.Native.Nat.{ℕ, ◌≤◌, ◌<◌}
use native.Mathlib.Omega.{arith}
use lib.IntN.{ℤ}
use lib.ListN.{length}
use Rattle.numbers.specs.Whole.{Sized}
use Rattle.rules.specs.declared.Moment.{Moment}
use Rattle.rules.specs.Bench.{most_phases}
use Rattle.rules.specs.Shortened.{most_below}
use Rattle.rules.specs.Plan.{Plan, plan}
use Rattle.rules.specs.Shown.{ledger_numbers}
use Rattle.laws.proofs.Sound.{Sound, sound}
use Rattle.ledger.specs.Row.{at, most_held}
use Rattle.state.specs.declared.Stretched.{Stretched}
use Rattle.state.specs.State.{left}
use Rattle.step.specs.Step.{State, stretch_closed, closed_with, judge_or_limit}
use Rattle.step.specs.Where.{Counts, Kept, with_memory, taking, left_at}
use Rattle.step.proofs.Standing.{row_in, open_phase_small}
use Rattle.step.proofs.Steps.{beside_left}
use Rattle.step.proofs.Judging.{cycle_left, closed_is}
use Rattle.step.proofs.Growing.{length_closed, fits_more}
use Rattle.step.proofs.Keeping.{number_small, closed_small}
use Rattle.step.proofs.take_open.Goals as goal
use Rattle.step.proofs.take_open.Goals.{After-close_interval-closed, Start}

-- closing an interval leaves the watch
same_watch : (r : ℕ) (z : Stretched) (x y : Moment) → (stretch_closed r z x y).watch ≡ z.watch
unfolding stretch_closed
same_watch r z x y = refl

-- what holds at the entry
module _ (s : Start) where
  abbrev b : List ℕ
  b = s.args.cycle.now

  abbrev p : Plan
  p = plan b s.args.t s.args.y

  kept : Kept p (left (taking s.args.g s.args.z) s.args.ledger.now s.args.map.now)
  kept = s.requires.kept

  good : Sound b
  good = sound b kept.sound

  open_phase_lem : s.args.g.open_phase < most_phases
  open_phase_lem = open_phase_small b good s.args.t.time s.args.y s.args.g kept.stands

  counts : Counts b s.args.t.time s.args.y s.args.g
  counts = record { sound = kept.sound; time = kept.time; method = kept.method; stands = kept.stands; few = s.requires.offered_lt_most_offered.0; counted = kept.counted }

-- after the interval is closed
module _ (e : After-close_interval-closed) where
  abbrev entry : Start
  entry = e.before.before.before.before.before

  -- what is closed, as the rules have it
  closed : with_memory (taking entry.args.g e.close_interval-closed.result) e.close_interval-closed.new.ledger entry.args.map.now
      ≡ closed_with (p entry) (with_memory (taking entry.args.g entry.args.z) entry.args.ledger.now entry.args.map.now) entry.args.x
  closed =
      closed_is (b entry) entry.args.t entry.args.y entry.args.g entry.args.z entry.args.ledger.now entry.args.map.now entry.args.x
      (good entry) (kept entry).stands e.close_interval-closed.ensures.ledger_after e.close_interval-closed.ensures.value

  watched : e.close_interval-closed.result.watch ≤ most_below
  watched =
      let w = ap (λ (z : Stretched). z.watch) e.close_interval-closed.ensures.value ∙ same_watch entry.args.g.open_row entry.args.z entry.args.g.progress.held entry.args.x in
      omega (arith, w, (kept entry).watched)

pub close_interval-closed-requires : goal.close_interval-closed-requires
close_interval-closed-requires c =
    let s = c in
    let k = kept (goal.at.close_interval-closed-requires c).Start in
    let few = s.requires.offered_lt_most_offered.0 in
    record { ledger_numbers_in_bounds = (k.long_ledger, open_phase_lem (goal.at.close_interval-closed-requires c).Start, k.interval, s.requires.offered_lt_most_offered.1, fits_more (omega arith) k.in_m, fits_more (omega arith) k.in_e); by_index = number_small k few }

pub take_beside-requires : goal.take_beside-requires
take_beside-requires c =
    let e = c in
    (counts (goal.at.take_beside-requires c).Start, c.if-g-ge-MOST_CYCLES.true, (entry (goal.at.take_beside-requires c).After-close_interval-closed).requires.offered_lt_most_offered.1, watched (goal.at.take_beside-requires c).After-close_interval-closed)

pub returns-then-g-ge-MOST_CYCLES : goal.returns-then-g-ge-MOST_CYCLES
returns-then-g-ge-MOST_CYCLES c =
    let e = c in
    let s = entry (goal.at.returns-then-g-ge-MOST_CYCLES c).After-close_interval-closed in
    let row = row_in (b (goal.at.returns-then-g-ge-MOST_CYCLES c).Start) (good (goal.at.returns-then-g-ge-MOST_CYCLES c).Start) s.args.t.time s.args.y s.args.g (kept (goal.at.returns-then-g-ge-MOST_CYCLES c).Start).stands in
    ap (λ k. left k e.close_interval-closed.new.ledger s.args.map.now) c.take_beside.ensures
    ∙ beside_left (b (goal.at.returns-then-g-ge-MOST_CYCLES c).Start) (good (goal.at.returns-then-g-ge-MOST_CYCLES c).Start) s.args.t s.args.y (taking s.args.g e.close_interval-closed.result) e.close_interval-closed.new.ledger s.args.map.now s.args.x
    (rw (← row) c.if-g-ge-MOST_CYCLES.true)
    ∙ ap (λ (a : State). left_at (p (goal.at.returns-then-g-ge-MOST_CYCLES c).Start) (judge_or_limit (p (goal.at.returns-then-g-ge-MOST_CYCLES c).Start) a s.args.x)) (closed (goal.at.returns-then-g-ge-MOST_CYCLES c).After-close_interval-closed)

pub judge_one-requires : goal.judge_one-requires
judge_one-requires c =
    let e = c in
    let s = entry (goal.at.judge_one-requires c).After-close_interval-closed in
    let k = kept (goal.at.judge_one-requires c).Start in
    let g = s.args.g in
    let ledger = e.close_interval-closed.ensures.ledger_after in record {
      counts = (
        counts (goal.at.judge_one-requires c).Start,
        c.if-g-ge-MOST_CYCLES.false,
        s.requires.offered_lt_most_offered.1,
        subst⁻¹ (λ (z : List ℤ). ledger_numbers ≤ length z) ledger
            (omega (arith, k.long_ledger, length_closed g.open_row g.open_phase s.args.ledger.now g.progress.held s.args.x)),
        k.long_map,
      );
      by_index = λ i h. subst⁻¹ (λ (z : List ℤ). Sized most_held (at z i)) ledger (closed_small k s.requires.offered_lt_most_offered.0 g.open_row g.open_phase s.args.x s.requires.offered_lt_most_offered.1 (open_phase_lem (goal.at.judge_one-requires c).Start) i h);
    }

pub returns : goal.returns
returns c =
    let j = c in
    let e = j in
    let s = entry (goal.at.returns c).After-close_interval-closed in
    cycle_left (b (goal.at.returns c).Start) s.args.t s.args.y s.args.g e.close_interval-closed.result e.close_interval-closed.new.ledger s.args.map.now s.args.x
    (counts (goal.at.returns c).Start) j.if-g-ge-MOST_CYCLES.false (watched (goal.at.returns c).After-close_interval-closed) j.judge_one.ensures
    ∙ ap (λ (a : State). left_at (p (goal.at.returns c).Start) (judge_or_limit (p (goal.at.returns c).Start) a s.args.x)) (closed (goal.at.returns c).After-close_interval-closed)
