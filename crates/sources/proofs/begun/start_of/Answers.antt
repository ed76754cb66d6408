-- `sources::begun::start_of` meets its contract: the first phase starts at 0, and any other where the one before it ends.
use native.Mathlib.Omega.{arith}
use Rattle.laws.proofs.Sound.{sound}
use Rattle.sources.proofs.begun.start_of.Goals as goal

pub end_of-requires : goal.end_of-requires
end_of-requires c = omega (arith, sound _ c.requires.0)
