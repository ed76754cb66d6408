-- Rows of the test card as inputs, by which a constant verdict and a judge that never stops are told from the rules.
-- Assumes nothing.
use Rattle.std.specs.Prelude.{List, [], ◌∷◌, ◌++◌, map, ℕ, pos, replicate}
use Rattle.rules.specs.declared.Sample.{Sample}
use Rattle.rules.specs.declared.Moment.{Moment}
use Rattle.rules.specs.declared.Tolerances.{Tolerances}
use Rattle.rules.specs.Bench.{moment_of}

-- "Points 0 100 0, p = 10, w = 0, s = 30: speeds 20 .. inside, 19 .. outside.": T = 2, one phase
abbrev pub risen : List ℕ
risen = 1 ∷ 0 ∷ 2 ∷ 0 ∷ 0 ∷ 0 ∷ 100 ∷ 0 ∷ 0 ∷ []

abbrev pub no_time : Tolerances
no_time = record { speed = 30; time = 0; allowance = 0 }

-- ten samples of speed 20, inside as the row's is, and an eleventh, at position 10
abbrev pub of_speed : ℕ → Sample
of_speed v = record { speed = v; voltage = 6000; current = pos 0 }

abbrev pub eleven : ℕ → List Sample
eleven v = replicate 10 (of_speed 20) ++ of_speed v ∷ []

-- "Points all 100, every speed 131, s = 30, allowance 3: stop at sample 3, three counted."
abbrev pub level : List ℕ
level = 1 ∷ 0 ∷ 2 ∷ 0 ∷ 100 ∷ 0 ∷ 100 ∷ 0 ∷ 100 ∷ []

abbrev pub allows_three : Tolerances
allows_three = record { speed = 30; time = 20; allowance = 3 }

abbrev pub four_fast : List Sample
four_fast = of_speed 131 ∷ of_speed 131 ∷ of_speed 131 ∷ of_speed 131 ∷ []

-- what a run takes of samples
abbrev pub moments_of : List Sample → List Moment
moments_of = map moment_of
