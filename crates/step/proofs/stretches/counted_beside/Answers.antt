-- `step::stretches::counted_beside` meets its contract: behind the last sample of M stands the first of cycle 3, behind any other one of the same stretch.
use mathlib.Core.Path.{◌≡◌, sym, ◌∙◌}
use Prim.Native.Nat.{◌+◌, ◌*◌, ◌<◌}
use native.Mathlib.Omega.{arith}
use Rattle.rules.specs.Cycle.{positions}
use Rattle.rules.specs.Course.{row_m}
use Rattle.rules.specs.Shortened.{row_of, joint}
use Rattle.rules.specs.declared.Method.TheVariants.{Shortened as with_stretches}
use Rattle.laws.specs.Beside.{stand_of}
use Rattle.laws.proofs.Sound.{Sound, sound, real}
use Rattle.state.proofs.Stretches.{method_length}
use Rattle.step.proofs.Standing.{row_is}
use Rattle.step.proofs.Placing.{stays_is, resumes_is}
use Rattle.step.proofs.Beside.{resumes, stays, third}
use Rattle.step.proofs.stretches.counted_beside.Goals as goal
use Rattle.step.proofs.stretches.counted_beside.Goals.{Start, else-g-eq-ROW_M-via-then-g-eq-ROW_M+else-seconds_of-y, else-g-eq-ROW_M-via-else-g-eq-ROW_M}

module _ (c : Start) where
  good : Sound c.args.cycle.now
  good = sound _ c.requires.0.sound

  at_row : c.args.g.row ≡ row_of c.args.cycle.now (stand_of c.args.cycle.now (with_stretches c.args.y) c.args.g.progress.counted)
  at_row = row_is c.args.cycle.now good c.args.w (with_stretches c.args.y) c.args.g c.requires.0.stands

pub seconds_of-requires : goal.seconds_of-requires
seconds_of-requires c = let s = good (goal.at.seconds_of-requires c).Start in omega arith

pub overflow_mul-seconds_of : goal.overflow_mul-seconds_of
overflow_mul-seconds_of c = let s = good (goal.at.overflow_mul-seconds_of c).Start in omega arith

pub overflow_add-seconds_of : goal.overflow_add-seconds_of
overflow_add-seconds_of c =
    let start = c in
    let s = good (goal.at.overflow_add-seconds_of c).Start in
    omega (arith, (method_length start.args.y start.requires.0.method).1)

pub returns-then-seconds_of-y : goal.returns-then-seconds_of-y
returns-then-seconds_of-y c =
    let start = c in
    let b = start.args.cycle.now in
    let o = good (goal.at.returns-then-seconds_of-y c).Start in
    let y = start.args.y in
    let n = start.args.g.progress.counted in
    let next = resumes b y.length n (real o) (sym (at_row (goal.at.returns-then-seconds_of-y c).Start) ∙ c.if-g-eq-ROW_M.true) (omega arith) in
    c.resumed_by.ensures
    ∙ resumes_is b o start.args.w (with_stretches y) start.args.g start.requires.0.stands start.args.x (2 * positions b) next (third b o).1 (third b o).0

pub returns : goal.returns
returns c =
    let start = c in
    let b = start.args.cycle.now in
    let y = start.args.y in
    let g = start.args.g in
    -- the last of M does not come so far
    let not_last : g.row ≡ row_m → g.progress.counted + 1 < joint b y.length 2 = λ e. elim c.else-g-eq-ROW_M.branch as (λ _. g.progress.counted + 1 < joint b y.length 2) [
      | else-g-eq-ROW_M-via-then-g-eq-ROW_M+else-seconds_of-y w ↦ omega (arith, w.seconds_of.ensures, w.if-seconds_of-y.false)
      | else-g-eq-ROW_M-via-else-g-eq-ROW_M w ↦ absurd (w.if-g-eq-ROW_M.false e)
    ] in
    c.moved_by.ensures
    ∙ stays_is b (good (goal.at.returns c).Start) start.args.w (with_stretches y) g start.requires.0.stands start.args.x
    (stays b y.length g.progress.counted g.row (at_row (goal.at.returns c).Start) start.requires.1 not_last)
