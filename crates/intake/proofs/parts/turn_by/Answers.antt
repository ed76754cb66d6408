-- `intake::parts::turn_by` meets its contract: bytes are digested.
use mathlib.Core.Path.{sym, ap, ◌∙◌}
use native.Mathlib.Omega.{arith}
use Rattle.desk.specs.Feeding.{laid_of}
use Rattle.intake.specs.Turns.{round_by}
use Rattle.intake.proofs.Coming.{some_came}
use Rattle.intake.proofs.parts.turn_by.Goals as goal

pub returns-in-Ok : goal.returns-in-Ok
returns-in-Ok c =
    let a = c.args in
    let x = laid_of a.desk a.room.now a.ledger.now a.map.now in
    c.digest.ensures ∙ some_came c.in-Ok.n (omega arith) x a.held a.left a.buffer.now ∙ ap (λ g. round_by g x a.held a.left a.buffer.now) (sym c.in-Ok.is)
