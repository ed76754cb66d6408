-- `prints::close` meets its contract: 1 and 2 before all else, then by whether the input may end here.
use mathlib.Core.Path.{◌≡◌, sym, ap, ◌∙◌}
use Rattle.laws.specs.Answers.{answer_said}
use Rattle.laws.proofs.Answers.{numbered}
use Rattle.reader.proofs.Endings.{only_whole}
use Rattle.desk.specs.Feeding.{Laid, laid_of, desk_ground}
use Rattle.figures.proofs.OfRun.{figurable}
use Rattle.desk.proofs.Grounds.{started_fits, ground_steady}
use Rattle.prints.proofs.Texts.{as_text, desk_refused, by_ending, by_refusal}
use Rattle.prints.proofs.close.Goals as goal
use Rattle.prints.proofs.close.Goals.{Start}

abbrev laid : Start → Laid
laid s = laid_of s.args.desk s.args.room.now s.args.ledger.now s.args.map.now

pub print_run-requires : goal.print_run-requires
print_run-requires c =
    let told = c in
    let end = told in
    let s = end in
    let started = (only_whole s.args.desk.started s.args.left (sym end.ended.ensures ∙ ap answer_said told.in-Ok.is)).0 in
    figurable _ _ _ _ (started_fits (laid (goal.at.print_run-requires c).Start) ((ground_steady (laid (goal.at.print_run-requires c).Start) (sym c.in_default.ensures)).run_ground started)).1

pub returns-in-Err : goal.returns-in-Err
returns-in-Err c =
    let line = c in
    let some = line in
    let s = some in
    let both = as_text s.args.out.now (desk_refused (laid (goal.at.returns-in-Err c).Start) s.args.left _ (c.number.ensures ∙ c.in-Err.ensures) (λ z. numbered c.in-Err.refusal (sym c.number.ensures ∙ z))) (line.refuse.ensures.value, line.refuse.ensures.out_after) in record { value = both.0; out_after = both.1 }

pub returns-in-Err-ended : goal.returns-in-Err-ended
returns-in-Err-ended c =
    let line = c in
    let known = line in
    let end = known in
    let s = end in
    let both = as_text s.args.out.now (by_refusal (laid (goal.at.returns-in-Err-ended c).Start) s.args.left (sym c.in_default.ensures) c.in-Err-ended.unfinished c.number-in-Err-ended.ensures c.ended.ensures c.in-Err-ended.is) (line.refuse-in-Err-ended.ensures.value, line.refuse-in-Err-ended.ensures.out_after) in record { value = both.0; out_after = both.1 }

pub returns-in-Ok : goal.returns-in-Ok
returns-in-Ok c =
    let lines = c in
    let told = lines in
    let end = told in
    let s = end in
    let both = as_text s.args.out.now (by_ending (laid (goal.at.returns-in-Ok c).Start) s.args.left (sym c.in_default.ensures) end.ended.ensures told.in-Ok.is) (lines.print_run.ensures.value, lines.print_run.ensures.out_after) in record { value = both.0; out_after = both.1 }
