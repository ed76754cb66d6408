-- `opening::open_refusal` meets its contract: each return is under the tests that `open_ground` makes.
use mathlib.Core.Path.{refl, sym, ◌∙◌}
use borrow.Author.Tests.{le-leb, lt-leb}
use Rattle.numbers.proofs.Tests.{pass, stop}
use Rattle.opening.specs.Answers.{open_ground}
use Rattle.opening.proofs.open_refusal.Goals as goal

pub returns-then-room-lt-MOST_BYTES : goal.returns-then-room-lt-MOST_BYTES
unfolding open_ground
returns-then-room-lt-MOST_BYTES c = stop _ (lt-leb _ _ c.if-room-lt-MOST_BYTES.true)

pub returns-then-not-is_opening : goal.returns-then-not-is_opening
unfolding open_ground
returns-then-not-is_opening c = pass 1 (le-leb _ _ c.if-room-lt-MOST_BYTES.false) (stop _ (sym c.is_opening.ensures ∙ c.if-not-is_opening.true))

pub returns : goal.returns
unfolding open_ground
returns c = pass 1 (le-leb _ _ c.if-room-lt-MOST_BYTES.false) (pass 1 (sym c.is_opening.ensures ∙ c.if-not-is_opening.false) refl)
