-- `state::end_or_zero` meets its contract: that the first read is within the bytes follows from `valid`, by `sound`.
use native.Mathlib.Omega.{arith}
use Rattle.laws.proofs.Sound.{sound}
use Rattle.state.proofs.end_or_zero.Goals as goal

pub bounds-cycle-0 : goal.bounds-cycle-0
bounds-cycle-0 c = omega (arith, sound _ c.requires)
