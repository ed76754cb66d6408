-- `walk::whole::list_through` meets its contract.
use mathlib.Core.Path.{◌≡◌}
use lib.ListN.{length}
use Rattle.desk.specs.Feeding.{laid_of, empty_desk}
use Rattle.walk.proofs.Going.{Sending}
use Rattle.walk.proofs.whole.list_through.Given as goal

abbrev pub invariant-loop-walk : goal.invariant-loop-walk
invariant-loop-walk l =
    ((length l.buffer ≡ length l.initial.buffer) × ((length l.room ≡ length l.initial.room) × ((length l.ledger ≡ length l.initial.ledger) × ((length l.map ≡ length l.initial.map) × (length l.lines ≡ length l.initial.lines)))))
    × Sending (laid_of empty_desk l.initial.room l.initial.ledger l.initial.map) l.most l.walk l.sent l.buffer l.room l.ledger l.map l.lines

abbrev pub decreases-loop-walk : goal.decreases-loop-walk
decreases-loop-walk l = l.walk.turn.left
