-- `closing::close_on` meets its contract: the finished cycles, what is beside them, and how many are asked for are those of the run.
use mathlib.Core.Bool.{true}
use mathlib.Core.Path.{◌≡◌, ◌∙◌}
use Prim.Native.Nat.{◌*◌}
use mir.Syntax.{w64}
use Rattle.numbers.specs.Whole.{Sized}
use Rattle.numbers.proofs.Whole.{sized_add}
use Rattle.numbers.proofs.Signed.{read}
use Rattle.rules.specs.Shown.{most_stretch_energy}
use Rattle.laws.proofs.Closes.{three_at_least}
use Rattle.state.specs.declared.Run.{Run}
use Rattle.state.specs.State.{is_run}
use Rattle.state.specs.Refusals.{beside_by}
use Rattle.state.proofs.Checked.{limits}
use Rattle.state.proofs.Stretches.{stretched_m, stretched_e}
use Rattle.consumption.proofs.Weights.{machine}
use Rattle.closing.proofs.close_on.Goals as goal
use Rattle.closing.proofs.close_on.Goals.{After-beside_of}

-- what is beside the cycles, as the machine hands it on
beside-is : (c : After-beside_of) → machine c.beside_of.result ≡ beside_by c.args.run
beside-is c = read {w = w64} (record { sfits = c.beside_of.type_inv }) ∙ c.beside_of.ensures

beside_sized : (r : Run) → is_run r ≡ true → Sized (2 * most_stretch_energy) (beside_by r)
beside_sized r h = let s = (limits r h).stretched in sized_add (stretched_m r s).0 (stretched_e r s).0

pub close-requires : goal.close-requires
close-requires c =
    let a = (goal.at.close-requires c).After-beside_of in
    record {
      ledger_value = (c.requires.2, c.cycles_of-n.ensures.1, c.requires.1);
      sized = (rw (beside-is a) (beside_sized _ c.requires.0), rw c.least_finished.ensures (three_at_least c.args.run.track.method));
    }
