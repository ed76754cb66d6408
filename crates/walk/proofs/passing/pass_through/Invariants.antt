-- `walk::passing::pass_through` meets its contract.
use mathlib.Core.Path.{◌≡◌}
use lib.ListN.{length}
use Rattle.desk.specs.Feeding.{laid_of, empty_desk}
use Rattle.walk.proofs.Going.{Passing}
use Rattle.walk.proofs.passing.pass_through.Given as goal

abbrev pub invariant-loop-walk : goal.invariant-loop-walk
invariant-loop-walk l =
    ((length l.buffer ≡ length l.initial.buffer) × ((length l.room ≡ length l.initial.room) × ((length l.ledger ≡ length l.initial.ledger) × (length l.map ≡ length l.initial.map))))
    × Passing (laid_of empty_desk l.initial.room l.initial.ledger l.initial.map) l.most l.walk l.buffer l.room l.ledger l.map

abbrev pub decreases-loop-walk : goal.decreases-loop-walk
decreases-loop-walk l = l.walk.turn.left
