-- `desk::beginning::open_all` meets its contract. The loop's invariant: what is left to open is what the desk, as it is now, has to open of the rest.
use mathlib.Core.Bool.{false}
use mathlib.Core.Logic.{◌⊎◌}
use mathlib.Core.Path.{◌≡◌}
use Prim.Native.Nat.{ℕ, ◌+◌, ◌-◌, ◌≤◌}
use lib.ListN.{length, drop}
use Rattle.desk.specs.Feeding.{Desk, laid_of, behind, open_all, most_fields}
use Rattle.desk.proofs.Turns.{turn}
use Rattle.desk.proofs.beginning.open_all.Given as goal

-- a desk that has not started is at the first turn, or at the turn of its fields
abbrev pub InTurn : Desk → ℕ → Type 0
InTurn on left = on.started ≡ false → (left ≡ 4) ⊎ ((4 ≤ on.opening.fields + left) × (on.opening.fields ≤ 3))

abbrev pub invariant-loop-turn : goal.invariant-loop-turn
invariant-loop-turn l =
    ((l.used ≤ length l.input) × (l.on.fields + (4 - l._turn) ≤ most_fields + 4) × (length l.room ≡ length l.initial.room) × (length l.ledger ≡ length l.initial.ledger) × (length l.map ≡ length l.initial.map))
    × (behind l.used (open_all (laid_of l.on l.room l.ledger l.map) (drop l.used l.input)) ≡ open_all (laid_of l.initial.on l.initial.room l.initial.ledger l.initial.map) l.input)
    × InTurn l.on (4 - l._turn)
