-- `opening::tolerances_of` meets its contract: `read16` ensures each number.
use Rattle.opening.proofs.tolerances_of.Goals as goal

pub returns : goal.returns
returns c = λ i. record {
  speed = c.read16.ensures i;
  time = c.read16-2.ensures i;
  allowance = c.read16-3.ensures i;
}
