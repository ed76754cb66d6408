-- `step::stretches::take_beside` meets its contract: by the regular method the run ends, by the shortened the sample is of M or E.
use mathlib.Core.Path.{sym, ap, subst, ◌∙◌}
use Rattle.rules.specs.declared.Method.{Method}
use Rattle.step.specs.Where.{Going, Counts, taking, one_beside}
use Rattle.step.proofs.Beside.{limited_is}
use Rattle.step.proofs.stretches.take_beside.Goals as goal

pub take_stretch-requires : goal.take_stretch-requires
take_stretch-requires c =
    let start = c in
    let args = start.args in
    (subst (λ (y : Method). Counts args.cycle.now args.t.time y args.g) c.in-Shortened.is start.requires.0, start.requires.1, start.requires.2, start.requires.3)

pub returns-in-Regular : goal.returns-in-Regular
returns-in-Regular c =
    let start = c in
    let args = start.args in
    let e = c.in-Regular.is in
    ap (λ (u : Going). taking u args.z) c.ended_by.ensures
    ∙ limited_is args.cycle.now args.t args.g args.z args.x
    (subst (λ (y : Method). Counts args.cycle.now args.t.time y args.g) e start.requires.0) start.requires.1
    ∙ ap (λ (y : Method). one_beside args.cycle.now args.t y (taking args.g args.z) args.x) (sym e)

pub returns-in-Shortened : goal.returns-in-Shortened
returns-in-Shortened c =
    let args = c.args in
    c.take_stretch.ensures
    ∙ ap (λ (y : Method). one_beside args.cycle.now args.t y (taking args.g args.z) args.x) (sym c.in-Shortened.is)
