-- `sheet::text::put`: the first i bytes of the text stand in their places.
use mathlib.Core.Path.{◌≡◌}
use lib.Seq.{paste}
use Rattle.sheet.proofs.text.put.Given as goal

abbrev pub invariant-loop-i : goal.invariant-loop-i
invariant-loop-i l = l.out ≡ paste l.initial.out l.at l.text l.i
