-- `reading::all_fields` meets its contract. The loop's invariant: the fields of the first `used` bytes are taken.
use mathlib.Core.Path.{◌≡◌}
use Prim.Native.Nat.{◌-◌}
use lib.ListN.{length}
use Rattle.state.specs.State.{left}
use Rattle.reading.proofs.Loop.{Past}
use Rattle.reading.proofs.all_fields.Given as goal

abbrev pub invariant-loop-used : goal.invariant-loop-used
invariant-loop-used l =
    (length l.ledger ≡ length l.initial.ledger) × (length l.map ≡ length l.initial.map)
    × Past l.me l.cycle l.t (left l.initial.along l.initial.ledger l.initial.map) l.input l.fields l.used (left l.along l.ledger l.map)

abbrev pub decreases-loop-used : goal.decreases-loop-used
decreases-loop-used l = length l.input - l.used
