-- `reader::read_all` meets its contract: a test that refuses leaves all as it was; else the fields are read.
use mathlib.Core.Path.{sym}
use Rattle.laws.proofs.Answers.{numbered}
use Rattle.reader.proofs.Answering.{all_refuses}
use Rattle.reader.proofs.read_all.Goals as goal

pub returns-in-Err : goal.returns-in-Err
returns-in-Err c =
    let f = c in
    let a = f.args in
    all_refuses a.reading a.cycle.now a.ledger.now a.map.now a.input.now c.in-Err.ensures (numbered c.in-Err.ground)

pub read_fields-requires : goal.read_fields-requires
read_fields-requires c = sym c.in_default.ensures

pub returns : goal.returns
returns c = c.read_fields.ensures
