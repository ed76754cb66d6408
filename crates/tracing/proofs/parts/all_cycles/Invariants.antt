-- `tracing::parts::all_cycles` meets its contract.
use mathlib.Core.Path.{◌≡◌}
use Prim.Native.Nat.{◌*◌}
use lib.ListN.{length}
use Rattle.rules.specs.Listing.{in_turn}
use Rattle.sheet.specs.Overlaid.{Wrote}
use Rattle.tracing.specs.Traced.{cycle_at}
use Rattle.tracing.proofs.parts.all_cycles.Given as goal

abbrev pub invariant-loop-c : goal.invariant-loop-c
invariant-loop-c l = (length l.out ≡ length l.initial.out) × Wrote (626 * l.c) l.initial.out l.at (in_turn (cycle_at l.run l.cycle l.ledger) l.c) l.out l.next
