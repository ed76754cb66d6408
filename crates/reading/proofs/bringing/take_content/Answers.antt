-- `reading::bringing::take_content` meets its contract: what is brought is taken, and all else leaves the run as it is.
use mathlib.Core.List.{[]}
use mathlib.Core.Path.{◌≡◌}
use Rattle.std.specs.Prelude.{Some, None, Ok}
use Rattle.std.proofs.Common.{rules}
use Rattle.rules.specs.Numbered.{number}
use Rattle.laws.specs.Answers.{refuses}
use Rattle.reading.proofs.Taking.{by_content, brought_taken, passed_taken, unmoved}
use Rattle.reading.proofs.bringing.take_content.Goals as goal

pub bring-requires : goal.bring-requires
bring-requires c =
    let is : c.args.c ≡ Ok (Some c.in-Ok-Some.b) = search rules in
    c.requires.brings _ is

pub with_passed-requires : goal.with_passed-requires
with_passed-requires c =
    let is : c.args.c ≡ Ok None = search rules in
    c.requires.count is

pub returns-in-Ok-Some : goal.returns-in-Ok-Some
returns-in-Ok-Some c =
    let a = c.args in
    let is : a.c ≡ Ok (Some c.in-Ok-Some.b) = search rules in
    by_content a.cycle.now a.t a.k a.ledger.now a.map.now a.v.now a.n is
    (brought_taken a.cycle.now a.t a.k a.ledger.now a.map.now a.v.now a.n c.in-Ok-Some.b c.bring.ensures)

pub returns-in-Ok-None : goal.returns-in-Ok-None
returns-in-Ok-None c =
    let a = c.args in
    let is : a.c ≡ Ok None = search rules in
    by_content a.cycle.now a.t a.k a.ledger.now a.map.now a.v.now a.n is
    (passed_taken a.cycle.now a.t a.k a.ledger.now a.map.now a.v.now a.n c.requires.kept c.with_passed.ensures)

pub returns-in-Err : goal.returns-in-Err
returns-in-Err c =
    let a = c.args in
    by_content a.cycle.now a.t a.k a.ledger.now a.map.now a.v.now a.n c.in-Err.is
    (unmoved a.cycle.now a.t a.k a.ledger.now a.map.now [] c.requires.kept (refuses (number c.in-Err.refusal)))
