-- `paperwhelk::sheets::print_whole` meets its contract: the desk that the record brought is printed, by a refused field or by the end of the input.
use mathlib.Core.Path.{◌≡◌, sym, ap, ◌∙◌}
use Rattle.desk.specs.declared.Desk.{Desk}
use Rattle.desk.specs.Feeding.{Lent, laid_of, empty_desk, fed_left, feed_of}
use Rattle.laws.specs.Answers.{refuses, answer_said}
use Rattle.prints.proofs.Texts.{as_text}
use Rattle.paperwhelk.proofs.Whole.{used_whole, refused_whole, closed_whole}
use Rattle.paperwhelk.proofs.sheets.print_whole.Goals as goal
use Rattle.paperwhelk.proofs.sheets.print_whole.Goals.{After-feed-x}

abbrev memory : After-feed-x → Lent
memory c = record {
  room₀ = c.args.room.now;
  l₀ = c.args.ledger.now;
  m₀ = c.args.map.now;
  long_room = c.requires.0;
  long_ledger = c.requires.1;
  long_map = c.requires.2;
}

fed : (c : After-feed-x) → (
    fed_left c.feed-x.result c.feed-x.new.room c.feed-x.new.ledger c.feed-x.new.map
    ≡ feed_of (laid_of empty_desk c.args.room.now c.args.ledger.now c.args.map.now) c.args.«record».now)
fed c =
    c.feed-x.ensures
    ∙ ap (λ (d : Desk). feed_of (laid_of d c.args.room.now c.args.ledger.now c.args.map.now) c.args.«record».now) c.empty.ensures

pub overflow_sub-left : goal.overflow_sub-left
overflow_sub-left c =
    let x = (goal.at.overflow_sub-left c).After-feed-x in
    used_whole (memory x) c.args.«record».now (fed x)

pub returns-in-Err : goal.returns-in-Err
returns-in-Err c =
    let x = (goal.at.returns-in-Err c).After-feed-x in
    as_text c.args.lines.now
    (refused_whole (memory x) c.args.«record».now (fed x) c.number.result (ap answer_said c.in-Err.is ∙ sym (ap refuses c.number.ensures)))
    (c.refuse.ensures.value, c.refuse.ensures.out_after)

pub returns : goal.returns
returns c =
    let x = (goal.at.returns c).After-feed-x in
    as_text c.args.lines.now
    (closed_whole (memory x) c.args.«record».now (fed x) (ap answer_said c.in_default.is))
    (c.close.ensures.value, c.close.ensures.out_after)
