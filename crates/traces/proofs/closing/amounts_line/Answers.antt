-- `traces::closing::amounts_line` meets its contract.
use mathlib.Core.Path.{ap}
use native.Mathlib.Omega.{arith}
use borrow.Author.Rules.{rules}
use lib.IntN.{ℤ}
use mir.Syntax.{w64}
use mir.Val.{SFits}
use Rattle.numbers.proofs.Signed.{read}
use Rattle.rules.specs.Text.{signed, spaced, line}
use Rattle.rules.specs.Trace.{amounts_line}
use Rattle.sheet.proofs.Overlaid.{wrote_then, wrote_most, wrote_is}
use Rattle.traces.proofs.closing.amounts_line.Goals as goal
use Rattle.traces.proofs.closing.amounts_line.Goals.{Start}

-- what the types say of the two energies
before_fits : (c : Start) → SFits w64 c.args.a.before
before_fits c = search rules

after_fits : (c : Start) → SFits w64 c.args.a.after
after_fits c = search rules

pub returns : goal.returns
unfolding amounts_line
returns c =
    let fourth = c in
    let third = fourth in
    let second = third in
    let first = second in
    let before = wrote_is third.put_signed-next.ensures (ap (λ (z : ℤ). spaced (signed z)) (read (before_fits (goal.at.returns c).Start))) in
    let after = wrote_is fourth.signed_line.ensures (ap (λ (z : ℤ). line _ (signed z)) (read (after_fits (goal.at.returns c).Start))) in
    wrote_most (wrote_then (wrote_then (wrote_then first.put_text-word.ensures second.put_text-name.ensures (omega arith)) before (omega arith)) after (omega arith)) (omega arith)
