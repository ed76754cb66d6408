-- `wide::muldiv` meets its contract. Assumes nothing.
use mathlib.Core.Path.{◌∙◌}
use native.Mathlib.Nat.{zero-add}
use Rattle.wide.proofs.Answers.{more_is}
use Rattle.wide.proofs.muldiv.Goals as goal

pub returns : goal.returns
returns c = c.more.ensures ∙ rw c.whole.ensures (more_is 0 _ _ _ ∙ rw zero-add)
