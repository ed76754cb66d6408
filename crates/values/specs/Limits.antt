-- Amounts and a method within their limits, as the operations that are lent them test.
-- Assumes nothing.
use Rattle.std.specs.Prelude.{Bool, true, ◌&&◌}
use Rattle.rules.specs.declared.Amounts.{Amounts}
use Rattle.rules.specs.declared.Method.{Method}
use Rattle.rules.specs.declared.Method.TheVariants.{Regular as by_cycles, Shortened as with_stretches}
use Rattle.rules.specs.Bench.{are_stretches}
use Rattle.rules.specs.Closing.{is_charge}
use Rattle.laws.specs.Beside.{is_transfer}

-- "within 10^13 either way", "1..2,000,000"
unfoldable pub are_amounts : Amounts → Bool
are_amounts a = is_transfer a.before && is_transfer a.after && is_charge a.charge

-- a method whose stretches, if it has any, are within their limits
abbrev pub is_method : Method → Bool
is_method by_cycles = true
is_method (with_stretches x) = are_stretches x
