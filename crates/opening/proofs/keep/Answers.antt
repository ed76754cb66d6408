-- `opening::keep` meets its contract: the bytes copied stand before what was behind them.
use mathlib.Core.List.{List, ◌++◌}
use mathlib.Core.Path.{ap}
use Prim.Native.Nat.{ℕ}
use lib.ListN.{length, drop}
use Rattle.records.specs.Stage.{written}
use Rattle.opening.proofs.keep.Goals as goal

pub returns : goal.returns
unfolding written
returns c = ap (λ (l : List ℕ). l ++ drop (length c.args.v.now) c.args.room.now) c.copy_from_slice.ensures.after
