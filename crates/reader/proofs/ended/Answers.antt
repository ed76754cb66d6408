-- `reader::ended` meets its contract: each return is under the tests that `ending_of` makes.
use mathlib.Core.Path.{refl}
use borrow.Author.Tests.{eq-eqb, ne_eqb}
use Rattle.numbers.proofs.Tests.{pass, stop}
use Rattle.reader.specs.Answers.{ending_of}
use Rattle.reader.proofs.ended.Goals as goal

pub returns-then-not-started : goal.returns-then-not-started
unfolding ending_of
returns-then-not-started c = stop _ (c.if-not-started.true)

pub returns-then-left-ne0 : goal.returns-then-left-ne0
unfolding ending_of
returns-then-left-ne0 c = pass _ (c.if-not-started.false) (stop _ (ne_eqb _ _ c.if-left-ne0.true))

pub returns : goal.returns
unfolding ending_of
returns c = pass _ (c.if-not-started.false) (pass _ (eq-eqb _ _ c.if-left-ne0.false) refl)
