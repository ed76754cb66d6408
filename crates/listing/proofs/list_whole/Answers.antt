-- `listing::list_whole` meets its contract.
use mathlib.Core.Path.{refl}
use native.Mathlib.Omega.{arith}
use Rattle.sheet.proofs.Overlaid.{wrote_then, wrote_most}
use Rattle.listing.proofs.list_whole.Goals as goal
use Rattle.listing.proofs.list_whole.Goals.{Start}

pub returns : goal.returns
returns c =
    let text = c in
    let head = text in
    record { used_value = (refl, c.spot_after.ensures); wrote = wrote_most (wrote_then head.put_numbered-text.ensures text.field_text-next.ensures (omega arith)) (omega arith) }
