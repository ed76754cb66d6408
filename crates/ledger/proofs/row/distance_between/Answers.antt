-- `ledger::row::distance_between` meets its contract: two speeds within a sample's limits do not wrap.
use Rattle.std.proofs.Common.{arith, ◌+◌, ◌≤◌}
use Rattle.std.proofs.lemmas.Int.{ints}
use Rattle.rules.specs.Bench.{most_share_distance}
use Rattle.laws.proofs.Bounds.{within}
use Rattle.ledger.proofs.row.distance_between.Goals as goal
use Rattle.ledger.proofs.row.distance_between.Goals.{Start}

few : (s : Start) → s.args.x.speed + s.args.y.speed ≤ most_share_distance
few s = omega (arith, (within s.args.x s.requires.0).speed, (within s.args.y s.requires.1).speed)

pub overflow_add-x : goal.overflow_add-x
overflow_add-x c = record { fits = omega (arith, few (goal.at.overflow_add-x c).Start) }

pub returns : goal.returns
returns c = omega (arith, ints, few (goal.at.returns c).Start)
