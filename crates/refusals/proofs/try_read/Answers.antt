-- `refusals::try_read` is safe: no more is lent of the memory than there is.
use lib.IntN.{pos}
use Rattle.refusals.proofs.Lending.{lent}
use Rattle.refusals.proofs.try_read.Goals as goal

pub slice_bounds-read-end : goal.slice_bounds-read-end
slice_bounds-read-end c = lent 576 (pos 0) c.args.numbers c.if-numbers-gt576.false

pub slice_bounds-read-end-2 : goal.slice_bounds-read-end-2
slice_bounds-read-end-2 c = lent 750 0 c.args.words c.if-words-gt750.false
