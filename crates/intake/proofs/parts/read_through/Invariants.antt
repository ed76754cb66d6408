-- `intake::parts::read_through` meets its contract and ends: each turn begins where the one before stood, and one that goes on leaves fewer bytes to read.
use mathlib.Core.Path.{◌≡◌}
use Prim.Native.Nat.{◌+◌, ◌≤◌, ◌<◌}
use lib.ListN.{length}
use Rattle.desk.specs.Feeding.{laid_of, empty_desk, longest}
use Rattle.intake.specs.Turns.{round_of, going_on, Stood}
use Rattle.intake.proofs.parts.read_through.Given as goal

abbrev pub invariant-loop-turn : goal.invariant-loop-turn
invariant-loop-turn l =
    (l.turn.held < longest)
    × ((length l.buffer ≡ length l.initial.buffer) × ((length l.room ≡ length l.initial.room) × ((length l.ledger ≡ length l.initial.ledger) × (length l.map ≡ length l.initial.map))))
    × Stood (laid_of empty_desk l.initial.room l.initial.ledger l.initial.map) l.most (round_of (going_on l.turn.desk l.turn.used l.turn.held l.turn.left) l.buffer l.room l.ledger l.map)
    × (l.turn.used + l.turn.held ≤ length l.buffer)

abbrev pub decreases-loop-turn : goal.decreases-loop-turn
decreases-loop-turn l = l.turn.left
