-- `traces::parts::gathered_text` meets its contract.
use mathlib.Core.Path.{ap}
use native.Mathlib.Omega.{arith}
use borrow.Author.Rules.{rules}
use lib.IntN.{ℤ}
use mir.Syntax.{w64}
use mir.Val.{SFits}
use Rattle.numbers.proofs.Signed.{read}
use Rattle.rules.specs.Text.{signed, spaced}
use Rattle.rules.specs.Trace.{gathered_text}
use Rattle.sheet.proofs.Overlaid.{wrote_then, wrote_most, wrote_is}
use Rattle.traces.proofs.parts.gathered_text.Goals as goal
use Rattle.traces.proofs.parts.gathered_text.Goals.{Start}

-- what the types say of the two numbers
energy-fits : (c : Start) → SFits w64 c.args.g.energy
energy-fits c = search rules

distance-fits : (c : Start) → SFits w64 c.args.g.distance
distance-fits c = search rules

pub returns : goal.returns
unfolding gathered_text
returns c =
    let fourth = c in
    let third = fourth in
    let second = third in
    let first = second in
    let energy = wrote_is second.put_signed-next.ensures (ap (λ (z : ℤ). spaced (signed z)) (read (energy-fits (goal.at.returns c).Start))) in
    let distance = wrote_is fourth.put_signed.ensures (ap (λ (z : ℤ). spaced (signed z)) (read (distance-fits (goal.at.returns c).Start))) in
    wrote_most (wrote_then (wrote_then (wrote_then first.put_text-word.ensures energy (omega arith)) third.put_text-name.ensures (omega arith)) distance (omega arith)) (omega arith)
