-- `sources::outside_on` meets its contract: the ledger is long enough.
use native.Mathlib.Omega.{arith}
use Rattle.ledger.proofs.Bounded.{bounded_long}
use Rattle.sources.proofs.outside_on.Goals as goal

pub bounds-ledger-c : goal.bounds-ledger-c
bounds-ledger-c c = omega (arith, bounded_long _ c.requires.0, c.requires)
