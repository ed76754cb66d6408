-- `reading::along_at` meets its contract: `going_at` ensures where the run stands.
use Rattle.step.specs.Where.{taking}
use Rattle.reading.proofs.along_at.Goals as goal

pub returns : goal.returns
returns c = let r = c.args.r in λ i. record {
  place = r.place;
  passed = r.passed;
  amounts = r.amounts;
  method = r.run.track.method;
  taken = taking (c.going_at.ensures i) r.run.stretched;
}
