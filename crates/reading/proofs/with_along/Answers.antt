-- `reading::with_along` meets its contract: `with_method` and `with_taken` ensure the run.
use mathlib.Core.Path.{ap, ◌∙◌}
use Rattle.state.specs.declared.Run.{Run}
use Rattle.step.specs.Step.{run_to}
use Rattle.reading.proofs.with_along.Goals as goal

pub returns : goal.returns
returns c =
    let a = c.args in
    let run = c.with_taken.ensures ∙ ap (λ (r : Run). run_to r a.k.taken.going.progress a.k.taken.stretched) c.with_method.ensures in
    λ i. record { vehicle = a.r.vehicle; place = a.k.place; passed = a.k.passed; amounts = a.k.amounts; run = run i }
