-- `walk::last_line` meets its contract.
use mathlib.Core.Path.{sym, ap, ◌∙◌}
use native.Mathlib.Omega.{arith}
use Rattle.laws.specs.Answers.{refuses, answer_said}
use Rattle.sheet.proofs.Overlaid.{nothing, wrote_most, wrote_is}
use Rattle.walk.proofs.Lasts.{said_last, refused_said, ended_said}
use borrow.Enum.Refused.{opened}
use Rattle.walk.proofs.last_line.Goals as goal

pub returns-in-Refused : goal.returns-in-Refused
returns-in-Refused c =
    let call = c in
    let known = call in
    let s = known in
    wrote_is call.refused_line.ensures (said_last s.args.walk.turn s.args.walk.spot s.args.buffer.now (refused_said s.args.walk.turn known.in-Refused.is))

pub returns-in-Ok : goal.returns-in-Ok
returns-in-Ok c =
    let a = c.args in
    let t = a.walk.turn in
    let said = sym c.ended.ensures ∙ ap answer_said c.in-Ok.is in
    wrote_most (wrote_is (nothing a.lines.now a.walk.printed) (said_last t a.walk.spot a.buffer.now (ended_said t (opened c.in_default.in_default-own.keys2) said))) (omega arith)

pub returns-in-Err : goal.returns-in-Err
returns-in-Err c =
    let a = c.args in
    let t = a.walk.turn in
    let said = sym c.ended.ensures ∙ ap answer_said c.in-Err.is ∙ ap refuses (sym c.number.ensures) in
    wrote_is c.refused_line-in-Err.ensures (said_last t a.walk.spot a.buffer.now (ended_said t (opened c.in_default.in_default-own.keys2) said))
