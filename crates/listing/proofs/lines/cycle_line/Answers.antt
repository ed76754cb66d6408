-- `listing::lines::cycle_line` meets its contract.
use mathlib.Core.Path.{ap, ◌∙◌}
use mathlib.Core.List.{◌++◌}
use Prim.Native.Nat.{ℕ, ◌-◌}
use native.Mathlib.Omega.{arith}
use Rattle.rules.specs.Words.{spell}
use Rattle.rules.specs.Cycle.{phase_end}
use Rattle.rules.specs.Text.{digits, spaced}
use Rattle.rules.specs.Listing.{in_turn, end_of_phase, cycle_line}
use Rattle.sheet.proofs.Overlaid.{wrote_then, wrote_most, wrote_is}
use Rattle.listing.proofs.lines.cycle_line.Goals as goal

pub returns : goal.returns
unfolding cycle_line
returns c =
    let fourth = c in
    let third = fourth in
    let second = third in
    let first = second in
    let end = first in
    let n = end in
    let b = n.args.cycle.now in
    let n-is = n.phases_in-n.ensures.0 in
    let seconds = end.end_of-seconds.ensures ∙ ap (phase_end b) (end.saturating_sub.ensures ∙ ap (λ (k : ℕ). k - 1) n-is) in
    wrote_is
    (wrote_most (wrote_then (wrote_then (wrote_then first.put_text-word.ensures second.put_number-next.ensures (omega arith)) third.put_text-ends.ensures (omega arith)) fourth.put_ends.ensures (omega arith)) (omega arith))
    (λ i. spaced (spell "cycle") ++ spaced (digits (seconds i)) ++ spaced (spell "phases") ++ in_turn (end_of_phase b) (n-is i))
