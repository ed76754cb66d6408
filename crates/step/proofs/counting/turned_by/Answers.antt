-- `step::counting::turned_by` meets its contract: where the next sample stands, with the window worked out anew.
use mathlib.Core.Path.{ap, ◌∙◌}
use Prim.Native.Nat.{◌+◌, ◌<◌}
use native.Mathlib.Omega.{arith}
use Rattle.rules.specs.Cycle.{phases, positions}
use Rattle.rules.specs.Shortened.{Stand}
use Rattle.laws.specs.Beside.{stand_of, place_of}
use Rattle.laws.proofs.Sound.{Sound, sound, phase_exists}
use Rattle.step.specs.Where.{Next}
use Rattle.step.proofs.Placing.{turned_is}
use Rattle.step.proofs.Standing.{place_small, place_phase, row_in, phase_in}
use Rattle.step.proofs.counting.turned_by.Goals as goal
use Rattle.step.proofs.counting.turned_by.Goals.{After-next_place-next, Start}

good : (c : Start) → Sound c.args.cycle.now
good c = sound _ c.requires.0.sound

-- the next sample stands at a position of the cycle, in one of its phases
module _ (c : After-next_place-next) where
  abbrev start : Start
  start = c.before.before.before

  abbrev there : Stand
  there = stand_of start.args.cycle.now start.args.y (start.args.g.progress.counted + 1)

  next_small : c.next_place-next.result.position < positions start.args.cycle.now
  next_small =
      let e = ap (λ (x : Next). x.position) c.next_place-next.ensures in
      omega (arith, e, place_small start.args.cycle.now (good start) there)

  phase_there : c.next_place-next.result.phase < phases start.args.cycle.now
  phase_there =
      let b = start.args.cycle.now in
      let o = good start in
      let e = ap (λ (x : Next). x.phase) c.next_place-next.ensures ∙ place_phase b o there in
      omega (arith, e, phase_exists b (place_of b there) o (place_small b o there))

pub window_at-window-requires : goal.window_at-window-requires
window_at-window-requires c =
    let start = c in
    (start.requires.0.sound, start.requires.0.time, next_small (goal.at.window_at-window-requires c).After-next_place-next)

pub until_in-requires : goal.until_in-requires
until_in-requires c =
    let s = good (goal.at.until_in-requires c).Start in
    omega (arith, phase_there (goal.at.until_in-requires c).After-next_place-next)

pub returns : goal.returns
returns c =
    let next = c in
    let s = start (goal.at.returns c).After-next_place-next in
    let b = s.args.cycle.now in
    rw c.counted_one.ensures
    (turned_is b (good (goal.at.returns c).Start) s.args.w _ _ s.args.y s.args.g.progress s.args.x next.next_place-next.result next.next_place-next.ensures
    c.window_at-window.ensures.value c.until_in.ensures _ _
    (row_in b (good (goal.at.returns c).Start) s.args.w s.args.y s.args.g s.requires.0.stands) (phase_in b (good (goal.at.returns c).Start) s.args.w s.args.y s.args.g s.requires.0.stands))
