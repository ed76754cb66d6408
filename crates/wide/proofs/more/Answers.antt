-- `wide::more` meets its contract. Assumes nothing.
use mathlib.Core.Path.{◌∙◌}
use Rattle.wide.specs.Ratio.{more_of}
use Rattle.wide.proofs.Answers.{more_large, more_none, more_some}
use Rattle.wide.proofs.more.Goals as goal

pub returns-in_err-v : goal.returns-in_err-v
unfolding more_of
returns-in_err-v c = rw c.in_err-v.was c.from_residual.ensures

pub returns-then-m-ge-TOP : goal.returns-then-m-ge-TOP
returns-then-m-ge-TOP c = rw c.in_ok-v.was (more_large _ _ _ _ _ c.if-m-ge-TOP.true)

pub returns : goal.returns
returns c =
    rw c.in_ok-v.was (c.multiply.ensures ∙ more_some _ _ _ _ _ c.if-v-m.false)

pub returns-then-v-m : goal.returns-then-v-m
returns-then-v-m c = rw c.in_ok-v.was (more_none _ _ _ _ _ c.if-v-m.true)
