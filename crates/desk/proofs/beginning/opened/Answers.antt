-- `desk::beginning::opened` meets its contract: by the answer.
use mathlib.Core.Bool.{true}
use mathlib.Core.Path.{refl}
use Prim.Native.Nat.{◌+◌}
use Rattle.std.specs.Prelude.{Ok}
use Rattle.std.proofs.Common.{rules, ◌≡◌}
use Rattle.opening.specs.declared.OpenStep.TheVariants.{Taken, Started, Incomplete}
use Rattle.desk.specs.Feeding.{wanted}
use Rattle.desk.proofs.Turns.{opens_by}
use Rattle.desk.proofs.beginning.opened.Goals as goal

pub returns-in-Ok-Taken : goal.returns-in-Ok-Taken
returns-in-Ok-Taken c =
    let a = c.args in
    let is : a.answer.step ≡ Ok (Taken c.in-Ok-Taken.n) = search rules in
    opens_by a.desk a.answer.opening is refl

pub returns-in-Ok-Started : goal.returns-in-Ok-Started
returns-in-Ok-Started c =
    let a = c.args in
    let is : a.answer.step ≡ Ok (Started c.in-Ok-Started.n c.in-Ok-Started.run') = search rules in
    opens_by a.desk a.answer.opening is (λ i. record {
      outcome = wanted;
      used = c.in-Ok-Started.n;
      desk = record { started = true; opening = a.answer.opening; reading = c.reading_of.ensures i; fields = a.desk.fields + 1 };
    })

pub returns-in-Ok-Incomplete : goal.returns-in-Ok-Incomplete
returns-in-Ok-Incomplete c =
    let a = c.args in
    let is : a.answer.step ≡ Ok Incomplete = search rules in
    opens_by a.desk a.answer.opening is c.stopped.ensures

pub returns-in-Err : goal.returns-in-Err
returns-in-Err c = let a = c.args in opens_by a.desk a.answer.opening c.in-Err.is c.stopped-in-Err.ensures
