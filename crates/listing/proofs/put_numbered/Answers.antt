-- `listing::put_numbered` meets its contract.
use native.Mathlib.Omega.{arith}
use Rattle.sheet.proofs.Overlaid.{wrote_then, wrote_most}
use Rattle.listing.proofs.put_numbered.Goals as goal

pub returns : goal.returns
returns c =
    let second = c in
    let first = second in
    wrote_most (wrote_then first.put_number-next.ensures second.put_number.ensures (omega arith)) (omega arith)
