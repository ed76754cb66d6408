-- `sheet::sheets::count_lines` meets its contract: three lines.
use mathlib.Core.Path.{ap}
use native.Mathlib.Omega.{arith}
use borrow.Author.Rules.{rules}
use lib.IntN.{ℤ}
use mir.Syntax.{w64}
use mir.Val.{SFits}
use Rattle.numbers.proofs.Signed.{read}
use Rattle.rules.specs.Text.{line, signed, count_lines}
use Rattle.sheet.proofs.Overlaid.{wrote_then, wrote_most, wrote_is}
use Rattle.sheet.proofs.sheets.count_lines.Goals as goal

pub returns : goal.returns
unfolding count_lines
returns c =
    let outside_fits : SFits w64 c.args.f.outside = search rules in
    let drawn_fits : SFits w64 c.args.f.drawn = search rules in
    let outside = wrote_is c.signed_line-outside.ensures (ap (λ (z : ℤ). line _ (signed z)) (read outside_fits)) in
    let drawn = wrote_is c.signed_line.ensures (ap (λ (z : ℤ). line _ (signed z)) (read drawn_fits)) in
    wrote_most (wrote_then (wrote_then outside c.number_line-passed.ensures (omega arith)) drawn (omega arith)) (omega arith)
