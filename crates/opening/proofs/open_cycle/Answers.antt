-- `opening::open_cycle` meets its contract: the cycle is tested, then kept at the front of the room.
use mathlib.Core.Path.{refl, sym, ◌∙◌}
use Rattle.rules.specs.Numbered.{number}
use Rattle.numbers.proofs.Tests.{pass, stop}
use Rattle.opening.proofs.open_cycle.Goals as goal

pub returns-then-not-is_cycle : goal.returns-then-not-is_cycle
returns-then-not-is_cycle c =
    let e = sym c.is_cycle.ensures ∙ c.if-not-is_cycle.true in
    record { result_value = c.refused_at.ensures.said number ∙ stop _ e; room_after = stop _ e }

pub returns : goal.returns
returns c =
    let kept = c in
    let e = kept in
    let valid = sym e.is_cycle.ensures ∙ e.if-not-is_cycle.false in
    record { result_value = pass _ valid refl; room_after = pass _ valid kept.keep.ensures }
