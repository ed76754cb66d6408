-- `ledger::row::energy_between` meets its contract: two products within a sample's limits do not wrap.
use mir.Syntax.{w64}
use Rattle.numbers.proofs.Signed.{sum_fits, sum_read}
use Rattle.laws.proofs.Bounds.{within}
use Rattle.ledger.proofs.row.energy_between.Goals as goal

pub overflow_add-result : goal.overflow_add-result
overflow_add-result c = sum_fits w64 tt (within c.args.x c.requires.0).energy (within c.args.y c.requires.1).energy

pub returns : goal.returns
returns c = sum_read w64 tt (within c.args.x c.requires.0).energy (within c.args.y c.requires.1).energy
