-- `traces::parts::row_text` meets its contract.
use mathlib.Core.Path.{ap}
use Prim.Native.Nat.{ℕ}
use native.Mathlib.Omega.{arith}
use native.Mathlib.Numerals.{add-one}
use Rattle.rules.specs.Text.{digits, spaced}
use Rattle.sheet.proofs.Overlaid.{wrote_then, wrote_most, wrote_is}
use Rattle.traces.proofs.parts.row_text.Goals as goal

pub returns : goal.returns
returns c =
    let third = c in
    let second = third in
    let first = second in
    let s = first in
    let number = wrote_is second.put_number-next.ensures (ap (λ (n : ℕ). spaced (digits n)) (add-one s.args.c)) in
    wrote_most (wrote_then (wrote_then first.put_text-word.ensures number (omega arith)) third.gathered_text.ensures (omega arith)) (omega arith)
