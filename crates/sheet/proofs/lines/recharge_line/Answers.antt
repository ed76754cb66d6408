-- `sheet::lines::recharge_line` meets its contract: each case is a line.
use Rattle.rules.specs.Text.{recharge_line}
use Rattle.sheet.proofs.lines.recharge_line.Goals as goal

pub returns-in-Ok-Some : goal.returns-in-Ok-Some
unfolding recharge_line
returns-in-Ok-Some c =
    let e = rw c.in-Ok-Some.is at c.in-Ok-Some.field-0-is in
    rw (c.in-Ok-Some.is, e) c.number_line.ensures

pub returns-in-Ok-None : goal.returns-in-Ok-None
unfolding recharge_line
returns-in-Ok-None c =
    let e = rw c.in-Ok-None.is at c.in-Ok-None.field-0-is in
    rw (c.in-Ok-None.is, e) c.text_line.ensures

pub returns-in-Err : goal.returns-in-Err
unfolding recharge_line
returns-in-Err c =
    rw c.in-Err.is c.refused_line.ensures
