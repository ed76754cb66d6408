-- No doubt about `window`: each contract has one answer, and those of the operations ask nothing.
-- Assumes nothing.
use mathlib.Core.Path.{◌≡◌, refl}
use Prim.Native.Nat.{ℕ, zero, suc}
use Rattle.window.specs.contracts
use Rattle.window.proofs.window_at
use Rattle.window.proofs.shift
use Rattle.window.proofs.verdict_in
use Rattle.window.proofs.verdict_at
use Rattle.window.specs.declared.Side.{Side}
use Rattle.window.specs.declared.Side.TheVariants.{Inside, Below, Above}
use Rattle.window.specs.Sides.{number_of}
use Rattle.laws.proofs.Answers.{known_by}
use Rattle.demands.specs.Calls.{AsksNothing, OneAnswer}
use Rattle.demands.proofs.NoDoubt.{same}

-- two sides of one number are the same
same_side : (x y : Side) → number_of x ≡ number_of y → x ≡ y
same_side = known_by number_of back known
  where
    back : ℕ → Side
    back zero = Inside
    back (suc zero) = Below
    back (suc (suc n)) = Above

    known : (x : Side) → back (number_of x) ≡ x
    known Inside = refl
    known Below = refl
    known Above = refl

pub window_at_one_answer : OneAnswer contracts.window_at.ended window_at.Reads.Learnt
window_at_one_answer κs a r r' w w' p q = (same p.0 q.0, refl)

pub shift_one_answer : OneAnswer contracts.shift.ended shift.Reads.Learnt
shift_one_answer κs a r r' w w' p q = (same p q, refl)

pub verdict_in_one_answer : OneAnswer contracts.verdict_in.ended verdict_in.Reads.Learnt
verdict_in_one_answer κs a r r' w w' p q = (same_side r r' (same p q), refl)

pub verdict_in_asks_nothing : AsksNothing contracts.verdict_in.ended verdict_in.Reads.Asked
verdict_in_asks_nothing κs a = tt

pub verdict_at_one_answer : OneAnswer contracts.verdict_at.ended verdict_at.Reads.Learnt
verdict_at_one_answer κs a r r' w w' p q = (same_side r r' (same p q), refl)
