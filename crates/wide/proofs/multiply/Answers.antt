-- `wide::multiply` meets its contract. The invariant: what is summed and what is still to add make the whole. Assumes nothing.
use mathlib.Core.Path.{ap}
use Prim.Native.Nat.{ℕ, ◌+◌, ◌*◌}
use native.Mathlib.Omega.{arith}
use native.Mathlib.Nat.{div-add-mod', mod-lt, le-mul_of_pos_right}
use Rattle.wide.specs.Ratio.{value}
use Rattle.wide.proofs.Answers.{large_quotient, exact}
use Rattle.wide.proofs.Halves.{odd, even, done}
use Rattle.wide.proofs.multiply.Goals as goal
use Rattle.wide.proofs.multiply.Goals.{then-left-eq1, else-left-eq1}

pub returns-then-acc-ge-TOP : goal.returns-then-acc-ge-TOP
returns-then-acc-ge-TOP c = large_quotient _ _ (omega arith) (omega arith) _ c.if-acc-ge-TOP.true (omega arith)

pub returns-then-step-ge-TOP : goal.returns-then-step-ge-TOP
returns-then-step-ge-TOP c =
    let step = c.loop-left.step in
    let left = c.loop-left-test.true in
    large_quotient _ _ (omega arith) (omega arith) _ c.if-step-ge-TOP.true
    (omega (arith, le-mul_of_pos_right (step.q * c.args.m) left))

pub returns-then-acc-lt-TOP : goal.returns-then-acc-lt-TOP
returns-then-acc-lt-TOP c =
    exact _ _ _ _ (done _ _ _ _ c.loop-left.invariant.2 c.loop-left-test.false) (omega arith) (omega arith) (omega arith)

pub returns-else-acc-lt-TOP : goal.returns-else-acc-lt-TOP
returns-else-acc-lt-TOP c = large_quotient _ _ (omega arith) (omega arith) _ c.if-acc-lt-TOP.false (omega arith)

pub loop-left-preserved : goal.loop-left-preserved
loop-left-preserved c =
    let inv = c.loop-left.invariant in
    elim c.if-left-eq1.branch [
      | then-left-eq1 w ↦
          (rw w.acc-is w.add-acc.ensures.0, c.add-step.ensures.0, odd _ _ _ _ _ _ inv.2 c.add-step.ensures.1 w.if-left-eq1.true (rw w.acc-is w.add-acc.ensures.1))
      | else-left-eq1 w ↦
          (rw w.acc-is inv.0, c.add-step.ensures.0, even _ _ _ _ _ _ inv.2 c.add-step.ensures.1 w.if-left-eq1.false (rw w.acc-is))
    ]
