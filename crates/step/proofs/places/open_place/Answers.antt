-- `step::places::open_place` meets its contract: where the last counted sample stands; before the first, in no row.
use mathlib.Core.Path.{sym, ap, ◌∙◌}
use borrow.Author.Tests.{eq-eqb, ne_eqb}
use Rattle.laws.proofs.Plans.{planned_row, planned_phase}
use Rattle.step.specs.Where.{Next}
use Rattle.step.proofs.places.open_place.Goals as goal

pub returns-then-n-eq0 : goal.returns-then-n-eq0
returns-then-n-eq0 c =
    let none = eq-eqb _ _ c.if-n-eq0.true in
    (rw none (ap (λ (x : Next). x.row) c.beside_at.ensures), rw none (ap (λ (x : Next). x.phase) c.beside_at.ensures))

pub returns : goal.returns
returns c =
    let args = c.args in
    let some = ne_eqb _ _ c.if-n-eq0.false in (
      rw some (ap (λ (x : Next). x.row) c.place_at.ensures ∙ sym (planned_row args.cycle.now args.y _)),
      rw some (ap (λ (x : Next). x.phase) c.place_at.ensures ∙ sym (planned_phase args.cycle.now args.y _)),
    )
