-- `sources::row_on` meets its contract: the ledger's sums, within four times the bounds of its numbers.
use mathlib.Core.Path.{subst⁻¹, ◌∙◌}
use Prim.Native.Nat.{◌+◌, ◌*◌}
use native.Mathlib.Omega.{arith}
use lib.Dec.{leb, ltb}
use mir.Syntax.{w64}
use Rattle.state.proofs.Checked.{limits}
use Rattle.ledger.proofs.Bounded.{energy_sized, distance_sized}
use Rattle.numbers.proofs.Signed.{read}
use Rattle.numbers.specs.Whole.{Sized}
use Rattle.sources.proofs.row_on.Goals as goal

pub overflow_mul-result : goal.overflow_mul-result
overflow_mul-result c = omega (arith, (limits _ c.requires.0).short)

pub overflow_add-result : goal.overflow_add-result
overflow_add-result c = omega (arith, (limits _ c.requires.0).short, c.first_of-first.ensures.1)

pub returns : goal.returns
returns c =
    let l = c.args.ledger.now in
    let k = c.args.c in
    let first = c.first_of-first.ensures.0 in
    let closed = c.closed_of-closed.ensures in
    let energy = read {w = w64} (record { sfits = c.energy_in-energy.type_inv }) ∙ c.energy_in-energy.ensures in
    let distance = read {w = w64} (record { sfits = c.distance_in-distance.type_inv }) ∙ c.distance_in-distance.ensures in
    record {
      value = λ i. record {
        energy = energy i;
        distance = distance i;
        begun = ltb (first i) (closed i);
        finished = leb (first i + 20 * c.args.run.track.seconds) (closed i);
      };
      sized = (subst⁻¹ (Sized _) energy (energy_sized l c.requires.1 k c.requires.2), subst⁻¹ (Sized _) distance (distance_sized l c.requires.1 k c.requires.2));
    }
