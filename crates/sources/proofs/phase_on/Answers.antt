-- `sources::phase_on` meets its contract: the ledger is long enough, and the callees answer the rest.
use native.Mathlib.Omega.{arith}
use Rattle.ledger.proofs.Bounded.{bounded_long}
use Rattle.sources.proofs.phase_on.Goals as goal

pub bounds-ledger-c : goal.bounds-ledger-c
bounds-ledger-c c = omega (arith, bounded_long _ c.requires.2, c.requires)

pub bounds-ledger-c-2 : goal.bounds-ledger-c-2
bounds-ledger-c-2 c = omega (arith, bounded_long _ c.requires.2, c.requires)
