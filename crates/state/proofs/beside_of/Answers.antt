-- `state::beside_of` meets its contract: both energies are within their limits, so that their sum fits.
use mir.Syntax.{w64}
use Rattle.numbers.proofs.Signed.{sum_fits, sum_read}
use Rattle.state.proofs.Checked.{limits}
use Rattle.state.proofs.Stretches.{stretched_m, stretched_e}
use Rattle.state.proofs.beside_of.Goals as goal

pub overflow_add-result : goal.overflow_add-result
overflow_add-result c =
    let h = (limits _ c.requires).stretched in
    sum_fits w64 tt (stretched_m _ h).0 (stretched_e _ h).0

pub returns : goal.returns
returns c =
    let h = (limits _ c.requires).stretched in
    sum_read w64 tt (stretched_m _ h).0 (stretched_e _ h).0
