-- `ledger::totals::energy_from` meets its contract. The loop's invariant: the sum is that of the cycles from a up to c.
use mathlib.Core.Path.{◌≡◌, ap, ◌∙◌}
use Prim.Native.Nat.{◌+◌, ◌-◌, ◌≤◌}
use native.Mathlib.Omega.{arith}
use mir.Syntax.{w64}
use mir.Val.{to_z, of_z}
use Rattle.rules.specs.Bench.{most_cycles}
use Rattle.rules.specs.Words.{fold}
use Rattle.numbers.proofs.Signed.{read}
use Rattle.numbers.proofs.Sums.{Added, added}
use Rattle.ledger.specs.Row.{energy_in}
use Rattle.ledger.proofs.Bounded.{energy_sized}
use Rattle.ledger.proofs.totals.energy_from.Goals as goal
use Rattle.ledger.proofs.totals.energy_from.Invariants.{from}
use Rattle.ledger.proofs.totals.energy_from.Goals.{After-energy_in-sum}

pub loop-c-init : goal.loop-c-init
unfolding fold
loop-c-init c = let e : c.args.a - c.args.a ≡ 0 = omega arith in rw e

-- what `energy_in` says is added
one_more_lem : (c : After-energy_in-sum)
    → Added w64 (from c.args.ledger.now c.args.a) c.loop-c.sum-bits (c.loop-c.c - c.args.a) (to_z w64 (of_z w64 c.energy_in-sum.result))
one_more_lem c =
    let few : most_cycles - c.args.a ≤ most_cycles = omega arith in
    let place : c.loop-c.c ≡ c.args.a + (c.loop-c.c - c.args.a) = omega arith in
    added few tt (λ k l. energy_sized _ c.requires.0 (c.args.a + k) (omega arith)) c.loop-c.invariant (omega arith)
    (read {w = w64} (record { sfits = c.energy_in-sum.type_inv }) ∙ c.energy_in-sum.ensures ∙ ap (energy_in c.args.ledger.now) place)

pub overflow_add-sum : goal.overflow_add-sum
overflow_add-sum c = (one_more_lem (goal.at.overflow_add-sum c).After-energy_in-sum).fits

pub loop-c-preserved : goal.loop-c-preserved
loop-c-preserved c =
    let next : c.loop-c.c + 1 - c.args.a ≡ c.loop-c.c - c.args.a + 1 = omega arith in
    rw next (one_more_lem (goal.at.loop-c-preserved c).After-energy_in-sum).is
