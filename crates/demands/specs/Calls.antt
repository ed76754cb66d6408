-- What is known of a call by the contract of its function.
-- Assumes nothing.
use Rattle.std.specs.Prelude.{◌≡◌}
use contract.Lifetimes.{Lfts}
use denote.Triple.Clauses.{Ended, Lasts, AtExit, at_exit}
use borrow.Fn.World.{ArgsD, ResD}
use Rattle.state.specs.State.{Memory, lent}
use Rattle.judge.specs.contracts as judge_contracts
use Rattle.judge.proofs.start
use Rattle.judge.proofs.sample
use Rattle.judge.proofs.block
use Rattle.judge.proofs.shown
use Rattle.judge.proofs.totals
use Rattle.closing.specs.contracts as closing_contracts
use Rattle.closing.proofs.close as closing
use Rattle.fields.specs.contracts as fields_contracts
use Rattle.fields.proofs.front_of
use Rattle.contents.specs.contracts as contents_contracts
use Rattle.contents.proofs.content_of
use Rattle.reader.specs.contracts as reader_contracts
use Rattle.reader.proofs.open
use Rattle.reader.proofs.read
use Rattle.reader.proofs.read_all
use Rattle.reader.proofs.ended
use Rattle.figures.specs.contracts as figures_contracts
use Rattle.figures.proofs.figures_of
use Rattle.sheet.specs.contracts as sheet_contracts
use Rattle.sheet.proofs.sheet_lines
use Rattle.sheet.proofs.refusal_line
use Rattle.desk.specs.contracts as desk_contracts
use Rattle.desk.proofs.feed
use Rattle.tracing.specs.contracts as tracing_contracts
use Rattle.tracing.proofs.trace_close
use Rattle.prints.specs.contracts as prints_contracts
use Rattle.prints.proofs.close
use Rattle.prints.proofs.refuse
use Rattle.paperwhelk.specs.contracts as paperwhelk_contracts
use Rattle.paperwhelk.proofs.verdict.paperwhelk_verdict
use Rattle.paperwhelk.proofs.sheets.paperwhelk_sheet

-- Of each function f the kit makes `ended`, beside its contract: its parameters and result; `f.Reads.Asked`, what its `requires` asks of a caller;
-- and `f.Reads.Learnt`, what a caller learns by its `ensures`: all that is known of a program that keeps the contract, ours or a second one.
module _ (T : Ended) where
  abbrev pub Ask : Type 1
  Ask = (κs : Lfts T.signature.lifetimes) → ArgsD T.signature κs → Type 0

  -- of the arguments, the result and the parameters at exit
  abbrev pub Promise : Type 1
  Promise = (κs : Lfts T.signature.lifetimes) → ArgsD T.signature κs → ResD T.signature κs → AtExit T κs → Type 0

  -- "for every input"
  abbrev pub AsksNothing : Ask → Type 0
  AsksNothing Q = (κs : Lfts T.signature.lifetimes) (a : ArgsD T.signature κs) → Q κs a

  -- "the promise determines result and lent memory .., refusals too; a second program that keeps the promise is shown to give the same":
  -- w and w' are the last values of all that was lent by `&mut`
  abbrev pub OneAnswer : Promise → Type 0
  OneAnswer P = (κs : Lfts T.signature.lifetimes) (a : ArgsD T.signature κs) (r r' : ResD T.signature κs) (w w' : Lasts T κs a)
      → P κs a r (at_exit T κs a w) → P κs a r' (at_exit T κs a w') → (r ≡ r') × (w ≡ w')

  -- a call that keeps the promise
  pub record Call (P : Promise) : Type 0 where
    pub κs : Lfts T.signature.lifetimes
    pub args : ArgsD T.signature κs
    pub answer : ResD T.signature κs
    pub lasts : Lasts T κs args
    pub kept : P κs args answer (at_exit T κs args lasts)

-- its parameters at exit
abbrev pub left : {T : Ended} {P : Promise T} (c : Call T P) → AtExit T c.κs
left {T} c = at_exit T c.κs c.args c.lasts

-- ---- the operations' calls

abbrev pub StartCall : Type 0
StartCall = Call judge_contracts.start.ended start.Reads.Learnt

abbrev pub SampleCall : Type 0
SampleCall = Call judge_contracts.sample.ended sample.Reads.Learnt

abbrev pub BlockCall : Type 0
BlockCall = Call judge_contracts.block.ended block.Reads.Learnt

abbrev pub ShownCall : Type 0
ShownCall = Call judge_contracts.shown.ended shown.Reads.Learnt

abbrev pub TotalsCall : Type 0
TotalsCall = Call judge_contracts.totals.ended totals.Reads.Learnt

abbrev pub ClosingCall : Type 0
ClosingCall = Call closing_contracts.close.ended closing.Reads.Learnt

abbrev pub FrontCall : Type 0
FrontCall = Call fields_contracts.front_of.ended front_of.Reads.Learnt

abbrev pub ContentCall : Type 0
ContentCall = Call contents_contracts.content_of.ended content_of.Reads.Learnt

abbrev pub OpenCall : Type 0
OpenCall = Call reader_contracts.open.ended open.Reads.Learnt

abbrev pub ReadCall : Type 0
ReadCall = Call reader_contracts.read.ended read.Reads.Learnt

abbrev pub AllCall : Type 0
AllCall = Call reader_contracts.read_all.ended read_all.Reads.Learnt

abbrev pub EndedCall : Type 0
EndedCall = Call reader_contracts.ended.ended ended.Reads.Learnt

abbrev pub FiguresCall : Type 0
FiguresCall = Call figures_contracts.figures_of.ended figures_of.Reads.Learnt

abbrev pub SheetCall : Type 0
SheetCall = Call sheet_contracts.sheet_lines.ended sheet_lines.Reads.Learnt

abbrev pub RefusalCall : Type 0
RefusalCall = Call sheet_contracts.refusal_line.ended refusal_line.Reads.Learnt

abbrev pub FeedCall : Type 0
FeedCall = Call desk_contracts.feed.ended feed.Reads.Learnt

abbrev pub CloseCall : Type 0
CloseCall = Call prints_contracts.close.ended close.Reads.Learnt

abbrev pub RefuseCall : Type 0
RefuseCall = Call prints_contracts.refuse.ended refuse.Reads.Learnt

abbrev pub TraceCall : Type 0
TraceCall = Call tracing_contracts.trace_close.ended trace_close.Reads.Learnt

abbrev pub VerdictCall : Type 0
VerdictCall = Call paperwhelk_contracts.verdict.paperwhelk_verdict.ended paperwhelk_verdict.Reads.Learnt

abbrev pub RecordSheetCall : Type 0
RecordSheetCall = Call paperwhelk_contracts.sheets.paperwhelk_sheet.ended paperwhelk_sheet.Reads.Learnt

-- ---- the memory that it is lent and leaves: ledger and map together

abbrev pub start_lent : StartCall → Memory
start_lent c = lent c.args.1.1.1.0.now c.args.1.1.1.1.0.now

abbrev pub start_leaves : StartCall → Memory
start_leaves c = lent c.lasts.1.1.1.0 c.lasts.1.1.1.1.0

abbrev pub sample_lent : SampleCall → Memory
sample_lent c = lent c.args.1.1.0.now c.args.1.1.1.0.now

abbrev pub sample_leaves : SampleCall → Memory
sample_leaves c = lent c.lasts.1.1.0 c.lasts.1.1.1.0

abbrev pub block_lent : BlockCall → Memory
block_lent c = lent c.args.1.1.0.now c.args.1.1.1.0.now

abbrev pub block_leaves : BlockCall → Memory
block_leaves c = lent c.lasts.1.1.0 c.lasts.1.1.1.0

abbrev pub open_lent : OpenCall → Memory
open_lent c = lent c.args.1.1.1.0.now c.args.1.1.1.1.0.now

abbrev pub open_leaves : OpenCall → Memory
open_leaves c = lent c.lasts.1.1.1.0 c.lasts.1.1.1.1.0

abbrev pub read_lent : ReadCall → Memory
read_lent c = lent c.args.1.1.1.0.now c.args.1.1.1.1.0.now

abbrev pub read_leaves : ReadCall → Memory
read_leaves c = lent c.lasts.1.1.1.0 c.lasts.1.1.1.1.0

abbrev pub all_lent : AllCall → Memory
all_lent c = lent c.args.1.1.1.0.now c.args.1.1.1.1.0.now

abbrev pub all_leaves : AllCall → Memory
all_leaves c = lent c.lasts.1.1.1.0 c.lasts.1.1.1.1.0

abbrev pub feed_lent : FeedCall → Memory
feed_lent c = lent c.args.1.1.1.0.now c.args.1.1.1.1.0.now

abbrev pub feed_leaves : FeedCall → Memory
feed_leaves c = lent c.lasts.1.1.1.0 c.lasts.1.1.1.1.0

-- the call changed nothing: the state that it answers, and all that it is lent
abbrev pub OpenStayed : OpenCall → Type 0
OpenStayed c = (c.answer.opening ≡ c.args.0) × (left c ≡ c.args)

abbrev pub ReadStayed : ReadCall → Type 0
ReadStayed c = (c.answer.reading ≡ c.args.0) × (left c ≡ c.args)

abbrev pub AllStayed : AllCall → Type 0
AllStayed c = (c.answer.reading ≡ c.args.0) × (left c ≡ c.args)

abbrev pub FeedStayed : FeedCall → Type 0
FeedStayed c = (c.answer.desk ≡ c.args.0) × (left c ≡ c.args)
