-- `sources::begun::phase_finished` meets its contract: the phase is there or not.
use native.Mathlib.Omega.{arith}
use Rattle.laws.proofs.Sound.{sound}
use Rattle.sources.proofs.begun.phase_finished.Goals as goal

pub bounds-cycle-0 : goal.bounds-cycle-0
bounds-cycle-0 c = omega (arith, sound _ c.requires.0)

pub end_of-requires : goal.end_of-requires
end_of-requires c = omega (arith, sound _ c.requires.0)
