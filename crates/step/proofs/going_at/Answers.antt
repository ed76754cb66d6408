-- `step::going_at` meets its contract, put together from where the next sample stands and the last counted one.
use mathlib.Core.Path.{ap, ◌∙◌}
use Prim.Native.Nat.{◌<◌}
use native.Mathlib.Omega.{arith}
use Rattle.rules.specs.Cycle.{phases, positions}
use Rattle.window.specs.Moving.{window_of}
use Rattle.laws.specs.Beside.{stand_of}
use Rattle.laws.proofs.Riding.{stand_phase}
use Rattle.laws.proofs.Sound.{Sound, sound}
use Rattle.step.specs.Where.{Next}
use Rattle.step.proofs.Standing.{place_small}
use Rattle.step.proofs.Placing.{until_made}
use Rattle.step.proofs.going_at.Goals as goal
use Rattle.step.proofs.going_at.Goals.{After-place_at-next, Start}

-- the next sample stands at a position of the cycle, in one of its phases
module _ (c : After-place_at-next) where
  abbrev start : Start
  start = c.before.before.before.before.before

  good : Sound start.args.cycle.now
  good = sound _ start.requires.0

  place_there : c.place_at-next.result.position < positions start.args.cycle.now
  place_there =
      let e = ap (λ (x : Next). x.position) c.place_at-next.ensures in
      omega (arith, e, place_small start.args.cycle.now good (stand_of start.args.cycle.now start.args.run.track.method start.args.run.progress.counted))

  phase_there : c.place_at-next.result.phase < phases start.args.cycle.now
  phase_there =
      let e = ap (λ (x : Next). x.phase) c.place_at-next.ensures in
      omega (arith, e, stand_phase start.args.cycle.now good (stand_of start.args.cycle.now start.args.run.track.method start.args.run.progress.counted))

pub window_at-window-requires : goal.window_at-window-requires
window_at-window-requires c =
    let s = start (goal.at.window_at-window-requires c).After-place_at-next in
    (s.requires.0, s.requires.1, place_there (goal.at.window_at-window-requires c).After-place_at-next)

pub until_in-requires : goal.until_in-requires
until_in-requires c = let s = good (goal.at.until_in-requires c).After-place_at-next in omega (arith, phase_there (goal.at.until_in-requires c).After-place_at-next)

pub returns : goal.returns
returns c =
    let at = c in
    let s = start (goal.at.returns c).After-place_at-next in
    let b = s.args.cycle.now in
    let w = s.args.run.track.tolerances.time in
    let there = at.place_at-next.ensures in
    let window = c.window_at-window.ensures.value ∙ ap (λ (x : Next). window_of b w x.position) there in
    λ i. record {
      progress = s.args.run.progress;
      row = (there i).row;
      phase = (there i).phase;
      window = window i;
      open_row = c.open_place-last.ensures.0 i;
      open_phase = c.open_place-last.ensures.1 i;
      position = (there i).position;
      until =
          until_made b (good (goal.at.returns c).After-place_at-next) w _ _ (stand_of b s.args.run.track.method s.args.run.progress.counted) window _ (ap (λ (x : Next). x.phase) there)
          c.until_in.ensures i;
    }
