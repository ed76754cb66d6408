-- `tracing::behind::weight_lines` meets its contract.
use mathlib.Core.Path.{◌≡◌}
use Prim.Native.Nat.{◌*◌}
use lib.ListN.{length}
use Rattle.rules.specs.Listing.{in_turn}
use Rattle.sheet.specs.Overlaid.{Wrote}
use Rattle.tracing.specs.Traced.{weight_at}
use Rattle.tracing.proofs.behind.weight_lines.Given as goal

abbrev pub invariant-loop-c : goal.invariant-loop-c
invariant-loop-c l = (length l.out ≡ length l.initial.out) × Wrote (70 * l.c) l.initial.out l.at (in_turn (weight_at l.ledger l.whole l.n) l.c) l.out l.next
