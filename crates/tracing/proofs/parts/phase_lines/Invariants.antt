-- `tracing::parts::phase_lines` meets its contract.
use mathlib.Core.Path.{◌≡◌}
use Prim.Native.Nat.{◌*◌}
use lib.ListN.{length}
use Rattle.rules.specs.Listing.{in_turn}
use Rattle.sheet.specs.Overlaid.{Wrote}
use Rattle.tracing.specs.Traced.{phase_at}
use Rattle.tracing.proofs.parts.phase_lines.Given as goal

abbrev pub invariant-loop-k : goal.invariant-loop-k
invariant-loop-k l = (length l.out ≡ length l.initial.out) × Wrote (117 * l.k) l.initial.out l.at (in_turn (phase_at l.run l.cycle l.ledger l.c) l.k) l.out l.next
