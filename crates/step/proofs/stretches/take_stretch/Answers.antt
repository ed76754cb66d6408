-- `step::stretches::take_stretch` meets its contract: the watch stops the run, or the sample counts.
use mathlib.Core.Path.{ap, ◌∙◌}
use Rattle.laws.proofs.Bounds.{within}
use Rattle.step.specs.Step.{with_watch}
use Rattle.step.specs.Where.{Going, taking}
use Rattle.step.proofs.Beside.{stopped_is, counted_is}
use Rattle.step.proofs.stretches.take_stretch.Goals as goal

pub watch_in-watch-requires : goal.watch_in-watch-requires
watch_in-watch-requires c =
    let start = c in
    ((within start.args.x start.requires.2).speed, start.requires.3)

pub returns-then-watch-gt-MOST_BELOW : goal.returns-then-watch-gt-MOST_BELOW
returns-then-watch-gt-MOST_BELOW c =
    let at = c in
    let start = at in
    let args = start.args in
    ap (λ (u : Going). taking u args.z) c.ended_by.ensures
    ∙ stopped_is args.cycle.now args.t args.g args.z args.x args.y start.requires.0 start.requires.1 at.watch_in-watch.result at.watch_in-watch.ensures
    c.if-watch-gt-MOST_BELOW.true

pub returns : goal.returns
returns c =
    let at = c in
    let start = at in
    let args = start.args in
    ap (λ (u : Going). taking u (with_watch args.z at.watch_in-watch.result)) c.counted_beside.ensures
    ∙ counted_is args.cycle.now args.t args.g args.z args.x args.y start.requires.0 start.requires.1 at.watch_in-watch.result at.watch_in-watch.ensures
    c.if-watch-gt-MOST_BELOW.false
