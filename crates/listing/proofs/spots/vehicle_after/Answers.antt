-- `listing::spots::vehicle_after` meets its contract.
use Rattle.laws.proofs.Tags.{sizes}
use Rattle.listing.proofs.spots.vehicle_after.Goals as goal

pub characters_of-requires : goal.characters_of-requires
characters_of-requires c = let s = c in (sizes _ _ s.requires).number c.if-tag-eq2.true
