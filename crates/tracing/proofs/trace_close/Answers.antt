-- `tracing::trace_close` meets its contract: 1 and 2 before all else, then by whether the input may end here.
use mathlib.Core.Path.{◌≡◌, sym, ap, ◌∙◌}
use Rattle.laws.specs.Answers.{answer_said}
use Rattle.laws.proofs.Answers.{numbered}
use Rattle.reader.proofs.Endings.{only_whole}
use Rattle.desk.specs.Feeding.{Laid, laid_of, desk_ground}
use Rattle.desk.proofs.Grounds.{started_fits, ground_steady}
use Rattle.tracing.proofs.Limits.{traceable}
use Rattle.tracing.proofs.Texts.{as_trace, too_short, kept_whole, kept_refusal, desk_refused, by_ending, by_refusal}
use Rattle.tracing.proofs.trace_close.Goals as goal
use Rattle.tracing.proofs.trace_close.Goals.{Start}

abbrev laid : Start → Laid
laid s = laid_of s.args.desk s.args.room.now s.args.ledger.now s.args.map.now

pub returns-then-out-lt-MOST_TRACE : goal.returns-then-out-lt-MOST_TRACE
returns-then-out-lt-MOST_TRACE c = let both = too_short _ _ c.if-out-lt-MOST_TRACE.true in record { value = both.0; out_after = both.1 }

pub trace_run-requires : goal.trace_run-requires
trace_run-requires c =
    let told = c in
    let end = told in
    let s = end in
    let started = (only_whole s.args.desk.started s.args.left (sym end.ended.ensures ∙ ap answer_said told.in-Ok.is)).0 in
    let (fits, run_ground) = started_fits (laid (goal.at.trace_run-requires c).Start) ((ground_steady (laid (goal.at.trace_run-requires c).Start) (sym c.in_default.ensures)).run_ground started) in
    (fits, traceable _ _ _ _ run_ground, end.if-out-lt-MOST_TRACE.false)

pub returns-in-Ok : goal.returns-in-Ok
returns-in-Ok c =
    let lines = c in
    let told = lines in
    let end = told in
    let s = end in
    let both = as_trace s.args.out.now (by_ending (laid (goal.at.returns-in-Ok c).Start) s.args.blocks s.args.left (sym c.in_default.ensures) end.ended.ensures told.in-Ok.is)
    (kept_whole _ _ end.if-out-lt-MOST_TRACE.false lines.trace_run.ensures) in record { value = both.0; out_after = both.1 }

pub returns-in-Err : goal.returns-in-Err
returns-in-Err c =
    let line = c in
    let some = line in
    let s = some in
    let both = as_trace s.args.out.now (desk_refused (laid (goal.at.returns-in-Err c).Start) s.args.blocks s.args.left _ (c.number.ensures ∙ c.in-Err.ensures) (λ z. numbered c.in-Err.refusal (sym c.number.ensures ∙ z)))
    (kept_refusal _ _ some.if-out-lt-MOST_TRACE.false (line.refuse.ensures.value, line.refuse.ensures.out_after)) in record { value = both.0; out_after = both.1 }

pub returns-in-Err-ended : goal.returns-in-Err-ended
returns-in-Err-ended c =
    let line = c in
    let known = line in
    let end = known in
    let s = end in
    let both = as_trace s.args.out.now (by_refusal (laid (goal.at.returns-in-Err-ended c).Start) s.args.blocks s.args.left (sym c.in_default.ensures) c.in-Err-ended.unfinished c.number-in-Err-ended.ensures c.ended.ensures c.in-Err-ended.is)
    (kept_refusal _ _ end.if-out-lt-MOST_TRACE.false (line.refuse-in-Err-ended.ensures.value, line.refuse-in-Err-ended.ensures.out_after)) in record { value = both.0; out_after = both.1 }
