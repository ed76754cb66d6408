-- What a turn leaves.
-- Assumes nothing.
use mathlib.Core.List.{List}
use mathlib.Core.Path.{◌≡◌, ap, ◌∙◌}
use Prim.Native.Nat.{ℕ, ◌-◌}
use Rattle.desk.specs.Feeding.{Consumed}
use Rattle.intake.specs.declared.Turned.{Turned}
use Rattle.intake.specs.Turns.{turned_by, round_after}

-- the desk took what y says, which is z
pub fed_turn : {y z : Consumed} (e : y ≡ z) {t : Turned} → t ≡ turned_by y.outcome → (upto left : ℕ) (buffer : List ℕ)
    → record { turn = record { turned = t; desk = y.laid.desk; used = y.used; held = upto - y.used; left = left }; buffer = buffer; room = y.laid.room; memory = y.laid.memory }
    ≡ round_after z upto left buffer
fed_turn {y = y} e p upto left buffer =
    (λ i. record { turn = record { turned = p i; desk = y.laid.desk; used = y.used; held = upto - y.used; left = left }; buffer = buffer; room = y.laid.room; memory = y.laid.memory })
    ∙ ap (λ (x : Consumed). round_after x upto left buffer) e
