-- `ledger::row::add_outside` meets its contract: the test on the machine's numbers is `is_over`. The count is far from the greatest `i64`.
use native.Mathlib.Nat.{le_refl}
use native.Mathlib.Omega.{arith}
use mir.Syntax.{w64}
use Rattle.numbers.proofs.Whole.{of_nat, sized_add}
use Rattle.numbers.proofs.Signed.{sfits}
use Rattle.ledger.proofs.row.add_outside.Goals as goal

pub add_at-requires : goal.add_at-requires
add_at-requires c = (omega arith, sfits w64 tt (sized_add (c.requires.1 8) (of_nat (le_refl _))))
