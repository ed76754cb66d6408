-- `traces::closing::weight_line` meets its contract.
use mathlib.Core.Path.{ap}
use Prim.Native.Nat.{ℕ}
use native.Mathlib.Omega.{arith}
use native.Mathlib.Numerals.{add-one}
use Rattle.rules.specs.Text.{digits, spaced}
use Rattle.rules.specs.Trace.{weight_text}
use Rattle.sheet.proofs.Overlaid.{wrote_then, wrote_most, wrote_is}
use Rattle.traces.proofs.closing.weight_line.Goals as goal

pub returns : goal.returns
unfolding weight_text
returns c =
    let fourth = c in
    let third = fourth in
    let second = third in
    let first = second in
    let s = first in
    let cycle = wrote_is second.put_number-cycle.ensures (ap (λ (n : ℕ). spaced (digits n)) (add-one s.args.c)) in
    wrote_most (wrote_then (wrote_then (wrote_then first.put_text-word.ensures cycle (omega arith)) third.put_number-next.ensures (omega arith)) fourth.put_number.ensures (omega arith)) (omega arith)
