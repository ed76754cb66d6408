-- `wide::whole` meets its contract. Assumes nothing.
use native.Mathlib.Omega.{arith}
use native.Mathlib.Nat.{div-add-mod', mod-lt, div-mul-le_self}
use Rattle.wide.proofs.Answers.{no_divisor, large_divisor, large_quotient, exact}
use Rattle.wide.proofs.whole.Goals as goal

pub returns-then-m-eq0 : goal.returns-then-m-eq0
returns-then-m-eq0 c = no_divisor _ _ c.if-m-eq0.true

pub returns-then-m-ge-TOP : goal.returns-then-m-ge-TOP
returns-then-m-ge-TOP c = large_divisor _ _ c.if-m-ge-TOP.true

pub returns : goal.returns
returns c = exact _ _ _ _ (div-add-mod' _ _) (mod-lt _ (omega arith)) (omega arith) (omega arith)

pub returns-then-q-ge-TOP : goal.returns-then-q-ge-TOP
returns-then-q-ge-TOP c = large_quotient _ _ (omega arith) (omega arith) _ (omega arith) (div-mul-le_self _ _)
