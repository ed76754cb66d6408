-- `tracing::trace_lines` meets its contract: the parts one after the other, of the figures of the same reading.
use mathlib.Core.Path.{sym, ap, subst}
use native.Mathlib.Omega.{arith}
use lib.IntN.{◌+ℤ◌}
use Rattle.laws.specs.Beside.{most_whole}
use Rattle.numbers.specs.Whole.{Sized}
use Rattle.rules.specs.declared.Figures.{Figures}
use Rattle.sheet.proofs.Overlaid.{wrote_then, wrote_most, wrote_is}
use Rattle.tracing.proofs.Limits.{long_cycle, few_cycles, whole_sized}
use Rattle.tracing.proofs.Lines.{all_lines}
use Rattle.tracing.proofs.trace_lines.Goals as goal

pub opening_lines-plan-requires : goal.opening_lines-plan-requires
opening_lines-plan-requires c =
    let s = c in
    (omega (arith, s.requires.1), long_cycle s.requires.0)

pub returns : goal.returns
returns c =
    let fourth = c in
    let third = fourth in
    let second = third in
    let first = second in
    let found = first in
    let s = found in
    let a = s.args in
    let h = s.requires.0 in
    wrote_is
    (wrote_most (wrote_then (wrote_then (wrote_then first.opening_lines-plan.ensures second.offered_lines-offered.ensures (omega arith)) third.part_lines-parts.ensures (omega arith)) fourth.behind_lines.ensures (omega arith)) (omega arith))
    (all_lines a.reading a.cycle.now a.ledger.now a.fields a.blocks h (few_cycles h) found.figures_on-figures.ensures)

pub behind_lines-requires : goal.behind_lines-requires
behind_lines-requires c =
    let third = c in
    let second = third in
    let first = second in
    let found = first in
    let s = found in
    let f = found.figures_on-figures.ensures in
    let h = s.requires.0 in (
      omega (arith, s.requires.1, first.opening_lines-plan.ensures, second.offered_lines-offered.ensures, third.part_lines-parts.ensures),
      h.figurable.bounded,
      subst (λ (y : Figures). Sized most_whole (s.args.reading.amounts.before +ℤ y.drawn)) (sym f) (whole_sized h),
      omega (arith, ap (λ (y : Figures). y.cycles) f, few_cycles h),
    )
