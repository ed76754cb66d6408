-- Demand 1: "Reader and judge take every input, broken ones included, and end. .. Each refusal has a number, adds nothing to the run, changes no lent memory."
-- Stated here, over all that is known by the contracts; proved in proofs/ (`demand_1`).
-- Assumes nothing.
use Rattle.std.specs.Prelude.{Ok, Err, List, ◌≡◌, ℕ, ◌<◌, eqb, length, drop}
use Rattle.rules.specs.Words.{unless}
use Rattle.rules.specs.declared.Closing.{Closing}
use Rattle.rules.specs.Record.{refused_at, sheet_of}
use Rattle.rules.specs.Table.{tags}
use Rattle.rules.specs.Front.{front_of}
use Rattle.rules.specs.Question.{minus}
use Rattle.rules.specs.Text.{printed}
use Rattle.laws.specs.Answers.{number_of, figure_said, closing_said, answer_said}
use Rattle.state.specs.State.{run_ground}
use Rattle.state.specs.Refusals.{start_refusal, sample_refusal}
use Rattle.blocks.specs.Blocks.{block_refusal}
use Rattle.rules.specs.Numbered.{number}
use Rattle.rules.specs.declared.Refusal.{Refusal}
use Rattle.closing.specs.Answers.{whole, refusal_of}
use Rattle.fields.specs.Fields.{front_said, stands_said}
use Rattle.contents.specs.Content.{content_said, later_content}
use Rattle.opening.specs.declared.OpenStep.TheVariants as opening
use Rattle.opening.specs.Answers.{open_step_said}
use Rattle.reading.specs.declared.Step.TheVariants as step
use Rattle.reading.specs.Answers.{step_said, read_ground}
use Rattle.rules.specs.declared.Figures.{Figures}
use Rattle.sheet.specs.Overlaid.{most_sheet}
use Rattle.tracing.specs.Traced.{most_trace}
use Rattle.judge.specs.contracts as judge_contracts
use Rattle.judge.proofs.start
use Rattle.judge.proofs.sample
use Rattle.judge.proofs.block
use Rattle.judge.proofs.shown
use Rattle.judge.proofs.totals
use Rattle.closing.specs.contracts as closing_contracts
use Rattle.closing.proofs.close as closing
use Rattle.reader.specs.contracts as reader_contracts
use Rattle.reader.proofs.blank
use Rattle.reader.proofs.open
use Rattle.reader.proofs.reading_of
use Rattle.reader.proofs.read
use Rattle.reader.proofs.read_all
use Rattle.reader.proofs.ended
use Rattle.figures.specs.contracts as figures_contracts
use Rattle.figures.proofs.figures_of
use Rattle.sheet.specs.contracts as sheet_contracts
use Rattle.sheet.proofs.sheet_lines
use Rattle.sheet.proofs.refusal_line
use Rattle.desk.specs.contracts as desk_contracts
use Rattle.desk.proofs.empty
use Rattle.desk.proofs.desk_refusal
use Rattle.desk.proofs.feed
use Rattle.prints.specs.contracts as prints_contracts
use Rattle.prints.proofs.refuse
use Rattle.prints.proofs.close
use Rattle.tracing.specs.contracts as tracing_contracts
use Rattle.tracing.proofs.trace_close
use Rattle.intake.specs.contracts as intake_contracts
use Rattle.intake.proofs.take_record
use Rattle.traced.specs.contracts as traced_contracts
use Rattle.traced.proofs.trace_record
use Rattle.walk.specs.contracts as walk_contracts
use Rattle.walk.proofs.whole.list_record
use Rattle.paperwhelk.specs.contracts as paperwhelk_contracts
use Rattle.paperwhelk.proofs.verdict.paperwhelk_verdict
use Rattle.paperwhelk.proofs.sheets.paperwhelk_sheet
use Rattle.demands.specs.Calls.{AsksNothing, left, StartCall, SampleCall, BlockCall, ShownCall, TotalsCall, ClosingCall, FrontCall, ContentCall, OpenCall, ReadCall, AllCall, EndedCall, FiguresCall, SheetCall, RefusalCall, FeedCall, CloseCall, RefuseCall, TraceCall, RecordSheetCall, start_lent, start_leaves, sample_lent, sample_leaves, block_lent, block_leaves, open_lent, open_leaves, read_lent, read_leaves, all_lent, all_leaves, feed_lent, feed_leaves, OpenStayed, ReadStayed, AllStayed, FeedStayed}
use Rattle.demands.specs.Runs.{Beyond, all_given, feed_given, Shorter}
use Rattle.demands.specs.Cases.{wrong_number, or_else, recharge_number, opening_number, next_number, reading_number, Listed}

-- ---- "Reader and judge take every input, broken ones included, and end."

-- `statement` says that the function's own code meets its contract. It is total correctness: a call that meets what the contract asks
-- is safe and ends (the kit's LANGUAGE.md, of what `logic=proved` says); and nothing is asked
pub record TakesEveryInput (M : Type 1) : Type 2 where
  pub start_takes_every_input : start.Statement.statement M × AsksNothing judge_contracts.start.ended start.Reads.Asked
  pub sample_takes_every_input : sample.Statement.statement M × AsksNothing judge_contracts.sample.ended sample.Reads.Asked
  pub block_takes_every_input : block.Statement.statement M × AsksNothing judge_contracts.block.ended block.Reads.Asked
  pub shown_takes_every_input : shown.Statement.statement M × AsksNothing judge_contracts.shown.ended shown.Reads.Asked
  pub totals_takes_every_input : totals.Statement.statement M × AsksNothing judge_contracts.totals.ended totals.Reads.Asked
  pub closing_takes_every_input : closing.Statement.statement M × AsksNothing closing_contracts.close.ended closing.Reads.Asked
  pub blank_takes_every_input : blank.Statement.statement M × AsksNothing reader_contracts.blank.ended blank.Reads.Asked
  pub open_takes_every_input : open.Statement.statement M × AsksNothing reader_contracts.open.ended open.Reads.Asked
  pub reading_of_takes_every_input : reading_of.Statement.statement M × AsksNothing reader_contracts.reading_of.ended reading_of.Reads.Asked
  pub read_takes_every_input : read.Statement.statement M × AsksNothing reader_contracts.read.ended read.Reads.Asked
  pub read_all_takes_every_input : read_all.Statement.statement M × AsksNothing reader_contracts.read_all.ended read_all.Reads.Asked
  pub ended_takes_every_input : ended.Statement.statement M × AsksNothing reader_contracts.ended.ended ended.Reads.Asked
  pub figures_of_takes_every_input : figures_of.Statement.statement M × AsksNothing figures_contracts.figures_of.ended figures_of.Reads.Asked
  pub sheet_lines_takes_every_input : sheet_lines.Statement.statement M × AsksNothing sheet_contracts.sheet_lines.ended sheet_lines.Reads.Asked
  pub refusal_line_takes_every_input : refusal_line.Statement.statement M × AsksNothing sheet_contracts.refusal_line.ended refusal_line.Reads.Asked
  pub empty_takes_every_input : empty.Statement.statement M × AsksNothing desk_contracts.empty.ended empty.Reads.Asked
  pub desk_refusal_takes_every_input : desk_refusal.Statement.statement M × AsksNothing desk_contracts.desk_refusal.ended desk_refusal.Reads.Asked
  pub feed_takes_every_input : feed.Statement.statement M × AsksNothing desk_contracts.feed.ended feed.Reads.Asked
  pub refuse_takes_every_input : refuse.Statement.statement M × AsksNothing prints_contracts.refuse.ended refuse.Reads.Asked
  pub close_takes_every_input : close.Statement.statement M × AsksNothing prints_contracts.close.ended close.Reads.Asked
  pub trace_close_takes_every_input : trace_close.Statement.statement M × AsksNothing tracing_contracts.trace_close.ended trace_close.Reads.Asked
  pub take_record_takes_every_input : take_record.Statement.statement M × AsksNothing intake_contracts.take_record.ended take_record.Reads.Asked
  pub trace_record_takes_every_input : trace_record.Statement.statement M × AsksNothing traced_contracts.trace_record.ended trace_record.Reads.Asked
  pub list_record_takes_every_input : list_record.Statement.statement M × AsksNothing walk_contracts.whole.list_record.ended list_record.Reads.Asked
  pub verdict_takes_every_input : paperwhelk_verdict.Statement.statement M × AsksNothing paperwhelk_contracts.verdict.paperwhelk_verdict.ended paperwhelk_verdict.Reads.Asked
  pub sheet_takes_every_input : paperwhelk_sheet.Statement.statement M × AsksNothing paperwhelk_contracts.sheets.paperwhelk_sheet.ended paperwhelk_sheet.Reads.Asked

-- ---- "Each refusal has a number": that of document 01's order for the call, and one of its list

pub record HasItsNumber : Type 0 where
  -- "For starting a run, as field 4 does: 1, 2, 3.", then 19, as field 8
  pub start_number_lem : (c : StartCall) → (let (b, (t, (y, (l, (m, _))))) = c.args in
      number_of (answer_said c.answer) ≡ start_refusal b.now t y l.now m.now)
  -- "A single sample: 7, 5."
  pub sample_number : (c : SampleCall) → (let (r, (b, (l, (m, (x, _))))) = c.args in
      number_of (answer_said c.answer) ≡ sample_refusal r b.now l.now m.now x)
  -- "for field 5: .. 6, 7, 5"
  pub block_number : (c : BlockCall) → (let (r, (b, (l, (m, (first, (q, _)))))) = c.args in
      number_of (answer_said c.answer) ≡ block_refusal r b.now l.now m.now first q.now)
  -- "In a started run 1 and 2 come before all others"
  pub shown_number : (c : ShownCall) → (let (r, (b, (l, (m, _)))) = c.args in
      number_of (answer_said c.answer) ≡ run_ground r b.now l.now m.now 0)
  pub totals_number : (c : TotalsCall) → (let (r, (b, (l, (m, _)))) = c.args in
      number_of (answer_said c.answer) ≡ run_ground r b.now l.now m.now 0)
  -- "Closing: 10, 11, 12, 13.", after 1 and 2
  pub closing_number : (c : ClosingCall) → (let (r, (a, (b, (l, (m, _))))) = c.args in
      number_of (closing_said c.answer) ≡ refusal_of r a b.now l.now m.now)
  -- "Recharge: whatever closing refuses, then absent, 14, 12."
  pub recharge_number_lem : (c : ClosingCall) (x : Closing) → c.answer ≡ Ok x → (let (r, (a, (b, (l, (m, _))))) = c.args in
      number_of (figure_said x.recharge) ≡ recharge_number (whole r a b.now l.now m.now) x.range a.after a.charge)
  -- the figures of the report: 1 and 2, as of `read`
  pub figures_of_number : (c : FiguresCall) → (let (r, (b, (l, (m, _)))) = c.args in
      number_of (answer_said c.answer) ≡ read_ground r b.now l.now m.now)
  -- 8, of what can be no field
  pub front_of_number : (c : FrontCall) → number_of (front_said c.answer) ≡ number_of (stands_said (front_of tags c.args.0.now))
  -- of a whole field after the start: 8, 9, then its content
  pub content_of_number : (c : ContentCall) → (let (me, (place, (passed, (offered, (tag, (v, _)))))) = c.args in
      wrong_number (content_said v.now c.answer) ≡ wrong_number (later_content me.now place passed offered (record { tag = tag; value = v.now })))
  -- 1 "before all else", then the field at the front: "8, 9, then its content"
  pub open_number : (c : OpenCall) → (let (o, (i, (room, (l, (m, _))))) = c.args in
      number_of (open_step_said c.answer.step) ≡ opening_number o room.now l.now m.now i.now)
  pub read_number : (c : ReadCall) → (let (r, (i, (b, (l, (m, _))))) = c.args in
      number_of (step_said c.answer.step) ≡ reading_number r b.now l.now m.now i.now)
  -- of `read_all`: 1 and 2 of the whole call, then the number of the field at the front of what the accepted fields leave
  pub read_all_number : (c : AllCall) → (let (r, (i, (b, (l, (m, _))))) = c.args in
      number_of (step_said c.answer.last)
      ≡ or_else (read_ground r b.now l.now m.now)
      (next_number c.answer.reading b.now c.lasts.1.1.1.0 c.lasts.1.1.1.1.0 (drop c.answer.used i.now)))
  -- 15: "input ends inside a field, or before field 4 was accepted"
  pub ended_number : (c : EndedCall) → (let (started, (left, _)) = c.args in
      number_of (answer_said c.answer) ≡ unless 15 started (unless 15 (eqb left 0) 0))

-- a refusal's number is one of the list, of every operation and of a record
pub record InTheList : Type 0 where
  pub start_listed : (c : StartCall) (e : Refusal) → c.answer ≡ Err e → Listed (number e)
  pub sample_listed : (c : SampleCall) (e : Refusal) → c.answer ≡ Err e → Listed (number e)
  pub block_listed : (c : BlockCall) (e : Refusal) → c.answer ≡ Err e → Listed (number e)
  pub shown_listed : (c : ShownCall) (e : Refusal) → c.answer ≡ Err e → Listed (number e)
  pub totals_listed : (c : TotalsCall) (e : Refusal) → c.answer ≡ Err e → Listed (number e)
  pub closing_listed : (c : ClosingCall) (n : ℕ) → c.answer ≡ Err n → Listed n
  pub recharge_listed : (c : ClosingCall) (x : Closing) → c.answer ≡ Ok x → (n : ℕ) → x.recharge ≡ Err n → Listed n
  pub open_listed : (c : OpenCall) (e : Refusal) → c.answer.step ≡ Err e → Listed (number e)
  pub read_listed : (c : ReadCall) (e : Refusal) → c.answer.step ≡ Err e → Listed (number e)
  pub read_all_listed : (c : AllCall) (e : Refusal) → c.answer.last ≡ Err e → Listed (number e)
  pub ended_listed : (c : EndedCall) (e : Refusal) → c.answer ≡ Err e → Listed (number e)
  pub feed_listed : (c : FeedCall) (e : Refusal) → c.answer.outcome ≡ Err e → Listed (number e)
  pub sheet_listed : (i : List ℕ) (n k : ℕ) → sheet_of i ≡ refused_at n k → Listed n

-- ---- "A refusal returns its number and no figure; state, ledger, map and every other lent buffer stay exactly as they were."

pub record RefusedChangesNothing : Type 0 where
  -- the judge: an answer that refuses holds no state, and one of the closing no figure
  pub start_refused_changes_nothing : (c : StartCall) (e : Refusal) → c.answer ≡ Err e → left c ≡ c.args
  pub sample_refused_changes_nothing : (c : SampleCall) (e : Refusal) → c.answer ≡ Err e → left c ≡ c.args
  pub block_refused_changes_nothing : (c : BlockCall) (e : Refusal) → c.answer ≡ Err e → left c ≡ c.args
  -- the reader; and of its answer to an unfinished field: "That answer changes nothing."
  pub open_refused_changes_nothing : (c : OpenCall) (e : Refusal) → c.answer.step ≡ Err e → OpenStayed c
  pub open_incomplete_changes_nothing : (c : OpenCall) → c.answer.step ≡ Ok opening.Incomplete → OpenStayed c
  pub read_refused_changes_nothing : (c : ReadCall) (e : Refusal) → c.answer.step ≡ Err e → ReadStayed c
  pub read_incomplete_changes_nothing : (c : ReadCall) → c.answer.step ≡ Ok step.Incomplete → ReadStayed c
  -- `read_all` and `feed` take field after field. Where none was accepted, all is as it was; and what ends the call, a refusal or an unfinished field,
  -- leaves no trace: a call on the bytes of the accepted fields alone leaves the same
  pub read_all_none_accepted_changes_nothing : (c : AllCall) → c.answer.fields ≡ 0 → AllStayed c
  pub read_all_refused_leaves_no_trace : (c d : AllCall) → Shorter c.answer.used (all_given c) (all_given d)
      → (d.answer.reading ≡ c.answer.reading) × (d.lasts ≡ c.lasts)
  pub feed_none_accepted_changes_nothing : (c : FeedCall) → c.answer.used ≡ 0 → FeedStayed c
  pub feed_refused_leaves_no_trace : (c d : FeedCall) → Shorter c.answer.used (feed_given c) (feed_given d)
      → (d.answer.desk ≡ c.answer.desk) × (d.lasts ≡ c.lasts)
  -- "no figure": where the number is not 0
  pub figures_of_refused_has_no_figure : (c : FiguresCall) → (let (r, (b, (l, (m, _)))) = c.args in (read_ground r b.now l.now m.now ≡ 0 → ⊥))
      → (x : Figures) → c.answer ≡ Ok x → ⊥

-- ---- "every other lent buffer": lines shorter than 512 bytes stay as they were, and the result is 0; what lies beyond the text is never touched

pub record LinesStay : Type 0 where
  pub sheet_lines_short_changes_nothing : (c : SheetCall) → length c.args.1.0.now < most_sheet → (c.answer ≡ 0) × (left c ≡ c.args)
  pub sheet_lines_beyond_stays : (c : SheetCall) → drop c.answer c.lasts.1.0 ≡ drop c.answer c.args.1.0.now
  pub refusal_line_short_changes_nothing : (c : RefusalCall) → length c.args.1.1.0.now < most_sheet → (c.answer ≡ 0) × (left c ≡ c.args)
  pub refusal_line_beyond_stays : (c : RefusalCall) → drop c.answer c.lasts.1.1.0 ≡ drop c.answer c.args.1.1.0.now
  pub refuse_short_changes_nothing : (c : RefuseCall) → length c.args.1.1.0.now < most_sheet → (c.answer ≡ 0) × (left c ≡ c.args)
  pub refuse_beyond_stays : (c : RefuseCall) → drop c.answer c.lasts.1.1.0 ≡ drop c.answer c.args.1.1.0.now
  pub close_short_changes_nothing : (c : CloseCall) → length c.args.1.1.1.1.1.0.now < most_sheet → (c.answer ≡ 0) × (left c ≡ c.args)
  pub close_beyond_stays : (c : CloseCall) → drop c.answer c.lasts.1.1.1.1.1.0 ≡ drop c.answer c.args.1.1.1.1.1.0.now
  pub trace_close_short_changes_nothing : (c : TraceCall) → length c.args.1.1.1.1.1.1.0.now < most_trace → (c.answer ≡ 0) × (left c ≡ c.args)
  pub trace_close_beyond_stays : (c : TraceCall) → drop c.answer c.lasts.1.1.1.1.1.1.0 ≡ drop c.answer c.args.1.1.1.1.1.1.0.now
  -- from C: bytes that are fewer than the sheet has stay as they were, and the answer is minus 16
  pub sheet_short_changes_nothing : (c : RecordSheetCall) → length c.args.1.0.now < length (printed (sheet_of c.args.0.now))
      → (c.answer ≡ minus 16) × (left c ≡ c.args)
  pub sheet_beyond_stays : (c : RecordSheetCall) → (let n = length (printed (sheet_of c.args.0.now)) in
      drop n c.lasts.1.0 ≡ drop n c.args.1.0.now)

-- ---- "what lies beyond is never touched": of every single call, on any state and memory

pub record BeyondStays : Type 0 where
  pub start_beyond : (c : StartCall) → Beyond (start_lent c) (start_leaves c)
  pub sample_beyond : (c : SampleCall) → Beyond (sample_lent c) (sample_leaves c)
  pub block_beyond : (c : BlockCall) → Beyond (block_lent c) (block_leaves c)
  pub open_beyond : (c : OpenCall) → Beyond (open_lent c) (open_leaves c)
  pub read_beyond : (c : ReadCall) → Beyond (read_lent c) (read_leaves c)
  pub read_all_beyond : (c : AllCall) → Beyond (all_lent c) (all_leaves c)
  pub feed_beyond : (c : FeedCall) → Beyond (feed_lent c) (feed_leaves c)

-- ---- together

pub record Demand1 (M : Type 1) : Type 2 where
  pub takes : TakesEveryInput M
  pub numbers : HasItsNumber
  pub listed : InTheList
  pub refused : RefusedChangesNothing
  pub lines : LinesStay
  pub beyond : BeyondStays
