-- `sheet::text::put_number` meets its contract: a u64 has at most 20 digits.
use Prim.Native.Nat.{◌≤◌}
use native.Mathlib.Omega.{arith}
use lib.ListN.{length}
use Rattle.rules.specs.Text.{digits}
use Rattle.sheet.proofs.Digits.{digits_most}
use Rattle.sheet.proofs.Overlaid.{wrote_most, wrote_byte}
use Rattle.sheet.proofs.text.put_number.Goals as goal
use Rattle.sheet.proofs.text.put_number.Goals.{Start}

twenty : (s : Start) → length (digits s.args.n) ≤ 20
twenty s = digits_most 19 s.args.n (omega (arith, s.ranges.n.fits))

pub put_digits-next-requires : goal.put_digits-next-requires
put_digits-next-requires c = omega (arith, twenty (goal.at.put_digits-next-requires c).Start)

pub bounds-out-next : goal.bounds-out-next
bounds-out-next c = omega (arith, twenty (goal.at.bounds-out-next c).Start)

pub overflow_add-result : goal.overflow_add-result
overflow_add-result c = omega (arith, twenty (goal.at.overflow_add-result c).Start)

pub returns : goal.returns
returns c =
    let short = twenty (goal.at.returns c).Start in
    wrote_most (wrote_byte _ c.put_digits-next.ensures (omega arith) (omega arith)) (omega arith)
