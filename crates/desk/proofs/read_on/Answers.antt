-- `desk::read_on` meets its contract: the reader reads all.
use mathlib.Core.Path.{◌≡◌, sym}
use Prim.Native.Nat.{◌≤◌, ◌<◌, ◌^◌}
use native.Mathlib.Omega.{arith}
use borrow.Author.Rules.{rules}
use lib.ListN.{length}
use lib.Seq.{length-take-le}
use Rattle.reading.specs.Answers.{read_ground}
use Rattle.desk.specs.Feeding.{Laid, laid_of, lent_cycle}
use Rattle.desk.proofs.Grounds.{started_fits}
use Rattle.desk.proofs.Feeds.{read_left, all_size}
use Rattle.desk.proofs.read_on.Goals as goal
use Rattle.desk.proofs.read_on.Goals.{Start}

abbrev laid : Start → Laid
laid s = laid_of s.args.desk s.args.room.now s.args.ledger.now s.args.map.now

-- the room is long enough
long : (s : Start) → s.args.desk.opening.cycle ≤ length s.args.room.now
long s = (started_fits (laid s) s.requires.2).0

run_ground : (s : Start) → (let x = laid s in read_ground x.desk.reading (lent_cycle x) x.memory.ledger x.memory.map ≡ 0)
run_ground s = (started_fits (laid s) s.requires.2).1

pub slice_bounds-read_fields-end : goal.slice_bounds-read_fields-end
slice_bounds-read_fields-end c = let s = c in sym (length-take-le s.args.desk.opening.cycle s.args.room.now (long (goal.at.slice_bounds-read_fields-end c).Start))

pub read_fields-x-requires : goal.read_fields-x-requires
read_fields-x-requires c = run_ground (goal.at.read_fields-x-requires c).Start

pub returns : goal.returns
returns c =
    let x = c in
    let s = x in
    read_left (laid (goal.at.returns c).Start) s.args.input.now (run_ground (goal.at.returns c).Start) s.requires.1 x.read_fields-x.ensures c.outcome_of.ensures

pub overflow_add-result : goal.overflow_add-result
overflow_add-result c =
    let x = c in
    let s = x in
    let short : length s.args.input.now < 2 ^ 64 = search rules in
    omega (
      arith,
      s.requires.0,
      short,
      all_size (laid (goal.at.overflow_add-result c).Start) s.args.input.now (run_ground (goal.at.overflow_add-result c).Start) x.read_fields-x.ensures,
    )
