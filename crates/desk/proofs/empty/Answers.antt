-- `desk::empty` meets its contract.
use mathlib.Core.Bool.{false}
use mathlib.Core.Path.{ap, ◌∙◌}
use Rattle.reading.specs.Answers.{started_reading}
use Rattle.opening.specs.declared.Opening.{Opening}
use Rattle.desk.specs.Feeding.{no_run}
use Rattle.desk.proofs.empty.Goals as goal

pub returns : goal.returns
returns c =
    let e = c.blank-opening.ensures in
    λ i. record { started = false; opening = e i; reading = (c.reading_of.ensures ∙ ap (λ (o : Opening). started_reading o.vehicle no_run) e) i; fields = 0 }
