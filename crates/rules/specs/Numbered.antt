-- 'Numbered answers': the number of each refusal.
-- Assumes nothing.
use Rattle.std.specs.Prelude.{ℕ}
use Rattle.rules.specs.declared.Refusal.{Refusal}
use Rattle.rules.specs.declared.Refusal.TheVariants as why

abbrev pub number : Refusal → ℕ
number why.Ground = 1
number why.Cycle = 2
number why.Tolerance = 3
number why.Vehicle = 4
number why.Sample = 5
number why.FirstNumber = 6
number why.Full = 7
number why.Field = 8
number why.Order = 9
number why.FewCycles = 10
number why.Energy = 11
number why.Rate = 12
number why.Range = 13
number why.Amount = 14
number why.Unfinished = 15
-- document 02, L5: "19 for a bad stretch field"
number why.Stretches = 19
