-- Where a speed lies, by the bench controller's number.
-- Assumes nothing.
use Rattle.std.specs.Prelude.{ℕ}
use Rattle.window.specs.declared.Side.{Side}
use Rattle.window.specs.declared.Side.TheVariants.{Inside, Below, Above}

-- "0 inside, 1 below, 2 above"
abbrev pub number_of : Side → ℕ
number_of Inside = 0
number_of Below = 1
number_of Above = 2
