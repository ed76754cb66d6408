-- `listing::list_fields` meets its contract.
use Prim.Native.Nat.{◌-◌}
use lib.ListN.{length}
use Rattle.listing.proofs.Walking.{Gone}
use Rattle.listing.proofs.list_fields.Given as goal

abbrev pub invariant-loop-x : goal.invariant-loop-x
invariant-loop-x l = Gone l.initial.on l.input l.initial.out l.out l.on l.next l.used

abbrev pub decreases-loop-x : goal.decreases-loop-x
decreases-loop-x l = length l.input - l.used
