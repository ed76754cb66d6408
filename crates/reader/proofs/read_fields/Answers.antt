-- `reader::read_fields` meets its contract: the input is read from where the run stands.
use mathlib.Core.Path.{◌≡◌, sym}
use borrow.Author.Rules.{rules}
use lib.ListN.{length}
use Rattle.reader.proofs.Answering.{along_asked, ready_at, all_taken_lem}
use Rattle.reader.proofs.read_fields.Goals as goal
use Rattle.reader.proofs.read_fields.Goals.{Start}

-- the vehicle has 17 characters
seventeen : (s : Start) → length s.args.reading.vehicle ≡ 17
seventeen s = search rules

pub along_at-k-requires : goal.along_at-k-requires
along_at-k-requires c =
    let s = c in
    let a = s.args in
    along_asked a.reading a.cycle.now a.ledger.now a.map.now s.requires

pub slice_bounds-all_fields-end : goal.slice_bounds-all_fields-end
slice_bounds-all_fields-end c = sym (seventeen (goal.at.slice_bounds-all_fields-end c).Start)

pub all_fields-x-requires : goal.all_fields-x-requires
all_fields-x-requires c =
    let k = c in
    let s = k in
    let a = s.args in
    ready_at a.reading a.cycle.now a.ledger.now a.map.now s.requires k.along_at-k.ensures (seventeen (goal.at.all_fields-x-requires c).Start)

pub returns : goal.returns
returns c =
    let x = c in
    let k = x in
    let s = k in
    let a = s.args in
    all_taken_lem a.reading a.cycle.now a.ledger.now a.map.now s.requires k.along_at-k.ensures a.input.now x.all_fields-x.ensures c.with_along.ensures
