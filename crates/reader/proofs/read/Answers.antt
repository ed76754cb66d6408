-- `reader::read` meets its contract: a test that refuses leaves all as it was; else the input is read from where the run stands.
use mathlib.Core.Path.{◌≡◌, sym}
use borrow.Author.Rules.{rules}
use lib.ListN.{length}
use Rattle.laws.proofs.Answers.{numbered}
use Rattle.reader.proofs.Answering.{along_asked, ready_at, read_refuses, read_taken}
use Rattle.reader.proofs.read.Goals as goal
use Rattle.reader.proofs.read.Goals.{Start}

-- the vehicle has 17 characters
seventeen : (s : Start) → length s.args.reading.vehicle ≡ 17
seventeen s = search rules

pub returns-in-Err : goal.returns-in-Err
returns-in-Err c =
    let f = c in
    let a = f.args in
    read_refuses a.reading a.cycle.now a.ledger.now a.map.now a.input.now c.in-Err.ensures (numbered c.in-Err.ground)

pub along_at-k-requires : goal.along_at-k-requires
along_at-k-requires c =
    let e = c in
    let a = e.args in
    along_asked a.reading a.cycle.now a.ledger.now a.map.now (sym c.in_default.ensures)

pub slice_bounds-one_field-end : goal.slice_bounds-one_field-end
slice_bounds-one_field-end c = sym (seventeen (goal.at.slice_bounds-one_field-end c).Start)

pub one_field-x-requires : goal.one_field-x-requires
one_field-x-requires c =
    let k = c in
    let e = k in
    let a = e.args in
    ready_at a.reading a.cycle.now a.ledger.now a.map.now (sym c.in_default.ensures) k.along_at-k.ensures (seventeen (goal.at.one_field-x-requires c).Start)

pub returns : goal.returns
returns c =
    let x = c in
    let k = x in
    let e = k in
    let a = e.args in
    read_taken a.reading a.cycle.now a.ledger.now a.map.now (sym c.in_default.ensures) k.along_at-k.ensures a.input.now x.one_field-x.ensures c.with_along.ensures
