-- `reading::whole_field` meets its contract: what the field brings is taken.
use mathlib.Core.Path.{◌∙◌}
use Rattle.rules.specs.Front.{Field}
use Rattle.reading.proofs.Taking.{takes, content_whole}
use Rattle.reading.proofs.whole_field.Goals as goal
use Rattle.reading.proofs.whole_field.Goals.{Start}

abbrev field_of : Start → Field
field_of c = record { tag = c.args.tag; value = c.args.v.now }

pub take_content-requires : goal.take_content-requires
take_content-requires c =
    let is = c in
    let s = is in
    let a = s.args in
    takes a.cycle.now a.t a.k a.ledger.now a.map.now a.me.now (field_of (goal.at.take_content-requires c).Start) is.content_of-c.result s.requires.1 is.content_of-c.ensures s.requires.0

pub returns : goal.returns
returns c =
    let taken = c in
    let is = taken in
    let s = is in
    let a = s.args in
    taken.take_content.ensures
    ∙ content_whole a.cycle.now a.t a.k a.ledger.now a.map.now a.me.now (field_of (goal.at.returns c).Start) is.content_of-c.result s.requires.1 is.content_of-c.ensures
