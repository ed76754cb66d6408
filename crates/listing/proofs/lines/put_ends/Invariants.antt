-- `listing::lines::put_ends` meets its contract.
use mathlib.Core.Path.{◌≡◌}
use Prim.Native.Nat.{◌*◌}
use lib.ListN.{length}
use Rattle.rules.specs.Listing.{in_turn, end_of_phase}
use Rattle.sheet.specs.Overlaid.{Wrote}
use Rattle.listing.proofs.lines.put_ends.Given as goal

abbrev pub invariant-loop-k : goal.invariant-loop-k
invariant-loop-k l = (length l.out ≡ length l.initial.out) × Wrote (21 * l.k) l.initial.out l.at (in_turn (end_of_phase l.cycle) l.k) l.out l.next
