-- `walk::whole::short_line` meets its contract.
use mathlib.Core.Path.{◌∙◌}
use native.Mathlib.Nat.{zero-add}
use lib.ListN.{length}
use Rattle.numbers.proofs.Tests.{pass, stop, tests}
use Rattle.sheet.specs.Overlaid.{overlaid}
use Rattle.walk.specs.Walks.{short_line}
use Rattle.walk.proofs.whole.short_line.Goals as goal

pub returns-then-lines-lt-MOST_LINE : goal.returns-then-lines-lt-MOST_LINE
returns-then-lines-lt-MOST_LINE c = let s = c in record { value = stop (length short_line) (omega tests); lines_after = stop (overlaid s.args.lines.now 0 short_line) (omega tests) }

pub returns : goal.returns
returns c =
    let call = c in
    let s = call in
    let w = call.refused_field.ensures in
    record { value = pass 0 (omega tests) (w.place ∙ zero-add (length short_line)); lines_after = pass s.args.lines.now (omega tests) w.bytes }
