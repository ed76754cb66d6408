-- `listing::spots::own_of` meets its contract.
use native.Mathlib.Omega.{arith}
use Rattle.laws.proofs.Tags.{sizes}
use Rattle.listing.proofs.spots.own_of.Goals as goal

pub is_same-requires : goal.is_same-requires
is_same-requires c = let s = c in (s.requires.1, omega (arith, (sizes _ _ s.requires.0).block c.if-tag-ne5.false))
