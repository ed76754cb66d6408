-- "Reader and judge take every input, broken ones included, and end.": every operation's code meets its contract, which asks nothing.
-- Assumes nothing.
use Rattle.judge.proofs.start
use Rattle.judge.proofs.sample
use Rattle.judge.proofs.block
use Rattle.judge.proofs.shown
use Rattle.judge.proofs.totals
use Rattle.closing.proofs.close as closing
use Rattle.reader.proofs.blank
use Rattle.reader.proofs.open
use Rattle.reader.proofs.reading_of
use Rattle.reader.proofs.read
use Rattle.reader.proofs.read_all
use Rattle.reader.proofs.ended
use Rattle.figures.proofs.figures_of
use Rattle.sheet.proofs.sheet_lines
use Rattle.sheet.proofs.refusal_line
use Rattle.desk.proofs.empty
use Rattle.desk.proofs.desk_refusal
use Rattle.desk.proofs.feed
use Rattle.prints.proofs.refuse
use Rattle.prints.proofs.close
use Rattle.tracing.proofs.trace_close
use Rattle.intake.proofs.take_record
use Rattle.traced.proofs.trace_record
use Rattle.walk.proofs.whole.list_record
use Rattle.paperwhelk.proofs.verdict.paperwhelk_verdict
use Rattle.paperwhelk.proofs.sheets.paperwhelk_sheet
use Rattle.demands.specs.Demand1.{TakesEveryInput}
use Rattle.demands.proofs.NoDoubt.OfJudge as of_judge
use Rattle.demands.proofs.NoDoubt.OfClosing as of_closing
use Rattle.demands.proofs.NoDoubt.OfReader as of_reader
use Rattle.demands.proofs.NoDoubt.OfFigures as of_figures
use Rattle.demands.proofs.NoDoubt.OfSheet as of_sheet
use Rattle.demands.proofs.NoDoubt.OfDesk as of_desk
use Rattle.demands.proofs.NoDoubt.OfPrints as of_prints
use Rattle.demands.proofs.NoDoubt.OfTracing as of_tracing
use Rattle.demands.proofs.NoDoubt.OfIntake as of_intake
use Rattle.demands.proofs.NoDoubt.OfTraced as of_traced
use Rattle.demands.proofs.NoDoubt.OfWalk as of_walk
use Rattle.demands.proofs.NoDoubt.OfPaperwhelk as of_paperwhelk

pub takes_every_input : {M : Type 1} → TakesEveryInput M
takes_every_input = record {
  start_takes_every_input = (start.Met.met, of_judge.start_asks_nothing);
  sample_takes_every_input = (sample.Met.met, of_judge.sample_asks_nothing);
  block_takes_every_input = (block.Met.met, of_judge.block_asks_nothing);
  shown_takes_every_input = (shown.Met.met, of_judge.shown_asks_nothing);
  totals_takes_every_input = (totals.Met.met, of_judge.totals_asks_nothing);
  closing_takes_every_input = (closing.Met.met, of_closing.close_asks_nothing);
  blank_takes_every_input = (blank.Met.met, of_reader.blank_asks_nothing);
  open_takes_every_input = (open.Met.met, of_reader.open_asks_nothing);
  reading_of_takes_every_input = (reading_of.Met.met, of_reader.reading_of_asks_nothing);
  read_takes_every_input = (read.Met.met, of_reader.read_asks_nothing);
  read_all_takes_every_input = (read_all.Met.met, of_reader.read_all_asks_nothing);
  ended_takes_every_input = (ended.Met.met, of_reader.ended_asks_nothing);
  figures_of_takes_every_input = (figures_of.Met.met, of_figures.figures_of_asks_nothing);
  sheet_lines_takes_every_input = (sheet_lines.Met.met, of_sheet.sheet_lines_asks_nothing);
  refusal_line_takes_every_input = (refusal_line.Met.met, of_sheet.refusal_line_asks_nothing);
  empty_takes_every_input = (empty.Met.met, of_desk.empty_asks_nothing);
  desk_refusal_takes_every_input = (desk_refusal.Met.met, of_desk.desk_refusal_asks_nothing);
  feed_takes_every_input = (feed.Met.met, of_desk.feed_asks_nothing);
  refuse_takes_every_input = (refuse.Met.met, of_prints.refuse_asks_nothing);
  close_takes_every_input = (close.Met.met, of_prints.close_asks_nothing);
  trace_close_takes_every_input = (trace_close.Met.met, of_tracing.trace_close_asks_nothing);
  take_record_takes_every_input = (take_record.Met.met, of_intake.take_record_asks_nothing);
  trace_record_takes_every_input = (trace_record.Met.met, of_traced.trace_record_asks_nothing);
  list_record_takes_every_input = (list_record.Met.met, of_walk.list_record_asks_nothing);
  verdict_takes_every_input = (paperwhelk_verdict.Met.met, of_paperwhelk.paperwhelk_verdict_asks_nothing);
  sheet_takes_every_input = (paperwhelk_sheet.Met.met, of_paperwhelk.paperwhelk_sheet_asks_nothing);
}
