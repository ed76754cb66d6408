-- `step::places::place_at` meets its contract: by the cycles alone, or by the joints of the shortened method.
use mathlib.Core.Path.{sym, ap, ◌∙◌}
use Rattle.rules.specs.declared.Method.{Method}
use Rattle.state.proofs.Stretches.{shortened_length}
use Rattle.step.specs.Where.{next_of}
use Rattle.step.proofs.places.place_at.Goals as goal

pub shortened_at-requires : goal.shortened_at-requires
shortened_at-requires c =
    let start = c in
    (start.requires.0, (shortened_length start.requires.1 c.in-Shortened.is).1)

pub returns-in-Regular : goal.returns-in-Regular
returns-in-Regular c =
    let start = c in
    c.ridden_at.ensures ∙ ap (λ (y : Method). next_of start.args.cycle.now y start.args.j) (sym c.in-Regular.is)

pub returns-in-Shortened : goal.returns-in-Shortened
returns-in-Shortened c =
    let start = c in
    c.shortened_at.ensures ∙ ap (λ (y : Method). next_of start.args.cycle.now y start.args.j) (sym c.in-Shortened.is)
