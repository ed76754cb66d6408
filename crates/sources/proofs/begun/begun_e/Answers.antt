-- `sources::begun::begun_e` meets its contract: in each arm the method is known.
use native.Mathlib.Omega.{arith}
use Rattle.state.proofs.Stretches.{shortened_length}
use Rattle.sources.proofs.begun.begun_e.Goals as goal

pub overflow_add-result : goal.overflow_add-result
overflow_add-result c = omega (arith, shortened_length c.requires.1 c.in-Shortened.is)
