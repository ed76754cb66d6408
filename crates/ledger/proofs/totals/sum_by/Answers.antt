-- `ledger::totals::sum_by` meets its contract. The loop's invariant: the sum is that of the numbers passed.
use mathlib.Core.Path.{refl}
use Prim.Native.Nat.{ℕ, ◌+◌, ◌*◌, ◌<◌}
use native.Mathlib.Omega.{arith}
use mir.Syntax.{w64}
use mir.Val.{to_z, of_z}
use Rattle.rules.specs.Words.{fold}
use Rattle.numbers.proofs.Signed.{sfits, read}
use Rattle.numbers.proofs.Sums.{Added, added}
use Rattle.ledger.proofs.Bounded.{bounded_long, bounded_sized}
use Rattle.ledger.proofs.totals.sum_by.Goals as goal
use Rattle.ledger.proofs.totals.sum_by.Invariants.{from}
use Rattle.ledger.proofs.totals.sum_by.Goals.{In-loop-k}

pub loop-k-init : goal.loop-k-init
unfolding fold
loop-k-init c = refl

pub bounds-ledger-a : goal.bounds-ledger-a
bounds-ledger-a c = omega (arith, c.requires.2.within c.loop-k.k c.loop-k-test.true, bounded_long _ c.requires.0)

-- its number is added
one_more_lem : (c : In-loop-k) → (
    let numbers = from c.args.ledger.now c.args.a c.args.d in
    Added w64 numbers c.loop-k.sum-bits c.loop-k.k (to_z w64 (of_z w64 (numbers c.loop-k.k))))
one_more_lem c =
    let sized = λ (j : ℕ) (l : j < c.args.n). bounded_sized c.args.ledger.now c.requires.0 (c.args.a + c.args.d * j) (c.requires.2.within j l) in
    added c.requires.1 tt sized c.loop-k.invariant c.loop-k-test.true (read (sfits w64 tt (sized c.loop-k.k c.loop-k-test.true)))

pub overflow_add-sum-in-loop-k : goal.overflow_add-sum-in-loop-k
overflow_add-sum-in-loop-k c = (one_more_lem (goal.at.overflow_add-sum-in-loop-k c).In-loop-k).fits

pub loop-k-preserved : goal.loop-k-preserved
loop-k-preserved c = (one_more_lem (goal.at.loop-k-preserved c).In-loop-k).is
