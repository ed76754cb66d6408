-- `listing::passing::pass_fields` meets its contract.
use Prim.Native.Nat.{◌-◌}
use lib.ListN.{length}
use Rattle.listing.proofs.Walking.{Passed}
use Rattle.listing.proofs.passing.pass_fields.Given as goal

abbrev pub invariant-loop-x : goal.invariant-loop-x
invariant-loop-x l = Passed l.initial.on l.input l.on l.used

abbrev pub decreases-loop-x : goal.decreases-loop-x
decreases-loop-x l = length l.input - l.used
