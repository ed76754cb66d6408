-- `refusals::try_open` is safe: no more is lent of the memory than there is.
use lib.IntN.{pos}
use Rattle.refusals.proofs.Lending.{lent}
use Rattle.refusals.proofs.try_open.Goals as goal

pub slice_bounds-open-end : goal.slice_bounds-open-end
slice_bounds-open-end c = lent 4811 0 c.args.bytes c.if-bytes-gt4811.false

pub slice_bounds-open-end-2 : goal.slice_bounds-open-end-2
slice_bounds-open-end-2 c = lent 576 (pos 0) c.args.numbers c.if-numbers-gt576.false
