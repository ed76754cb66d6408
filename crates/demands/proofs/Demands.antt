-- The three demands: specs/Demand1.antt, Demand2.antt and Demand3.antt state them, and here each is proved from its parts.
-- Assumes nothing.
use mathlib.Core.List.{List}
use mathlib.Core.Path.{◌≡◌, sym, subst}
use lib.IntN.{ℤ}
use Prim.Native.Nat.{ℕ}
use native.Mathlib.Omega.{arith}
use Rattle.rules.specs.declared.Moment.{Moment}
use Rattle.rules.specs.Plan.{Plan}
use Rattle.rules.specs.Record.{sheet_of}
use Rattle.rules.specs.Text.{printed}
use Rattle.state.specs.declared.Run.{Run}
use Rattle.laws.proofs.NotClaimed.{not_claimed}
use Rattle.judge.proofs.Runs as runs
use Rattle.intake.proofs.Told as intake
use Rattle.walk.proofs.Printed as walk
use Rattle.traced.proofs.Printed as traced
use Rattle.laws.proofs.Weighing.{weighing_by_weights, weights_add_up}
use Rattle.paperwhelk.proofs.Fitting.{at_front}
use Rattle.demands.specs.Demand1.{Demand1}
use Rattle.demands.specs.Demand2.{Demand2, RunHolds}
use Rattle.demands.specs.Programs.{FromC}
use Rattle.demands.specs.Demand3.{Demand3}
use Rattle.demands.specs.Range.{PrintsNear}
use Rattle.demands.specs.Runs.{Driven}
use Rattle.demands.proofs.Takes.{takes_every_input}
use Rattle.demands.proofs.HasItsNumber.{has_its_number}
use Rattle.demands.proofs.InTheList.{in_the_list}
use Rattle.demands.proofs.Unchanged.{refused_changes_nothing, lines_stay}
use Rattle.demands.proofs.BeyondDesk.{beyond_stays}
use Rattle.demands.proofs.Driven.{driven_reached}
use Rattle.demands.proofs.OfRun.{run_shows, run_answers, closed_holds}
use Rattle.demands.proofs.NeverRefused.{never_refused}
use Rattle.demands.proofs.Verdict.{verdict_is_the_judges}
use Rattle.demands.proofs.ShutOut.{shuts_out, shuts_out_always}
use Rattle.demands.proofs.SomeRecord.{some_between, speaks}
use Rattle.demands.proofs.ForeignBlocks.{foreign_changes_nothing, read_passes_over}
use Rattle.demands.proofs.PrintsNear.{prints_near}
use Rattle.demands.proofs.Arrivals.{before_all, prints}
use Rattle.demands.proofs.WiderRuns.{wider_run, longer_run, e_never_finished}
use Rattle.demands.proofs.Calls.{wider_calls, longer_calls}
use Rattle.demands.proofs.Splits.{told_has_four}
use Rattle.demands.proofs.ToldLaws.{told_grows, none_behind_four}
use Rattle.demands.proofs.Records.{field_four_alone, wider_record, longer_told_lem, ended_stays, blocks_added_between}

pub demand_1 : {M : Type 1} → Demand1 M
demand_1 = record { takes = takes_every_input; numbers = has_its_number; listed = in_the_list; refused = refused_changes_nothing; lines = lines_stay; beyond = beyond_stays }

run_holds : {p : Plan} {l₀ : List ℤ} {m₀ : List ℕ} {xs : List Moment} {r : Run} {l : List ℤ} {m : List ℕ} → Driven p l₀ m₀ xs r l m → RunHolds p l₀ m₀ xs r l m
run_holds h = record {
  shows = run_shows h;
  answers = run_answers h;
  closed = closed_holds h;
  never_refused_1_or_2 = never_refused h;
  verdict_is_the_judges = verdict_is_the_judges h;
  shuts_out = shuts_out h;
}

-- "The same accepted samples cut into other blocks give the same run."
same_run : {p : Plan} {l₀ : List ℤ} {m₀ : List ℕ} {xs : List Moment} {r r' : Run} {l l' : List ℤ} {m m' : List ℕ}
    → Driven p l₀ m₀ xs r l m → Driven p l₀ m₀ xs r' l' m' → (r ≡ r') × (l ≡ l') × (m ≡ m')
same_run {p} {l₀} {m₀} h g = runs.cut_otherwise_same_run p l₀ m₀ (driven_reached p l₀ m₀ h) (driven_reached p l₀ m₀ g)

-- a record that is lent whole from C
from_c : FromC
from_c = record {
  sheet_from_c = λ c h. at_front (printed (sheet_of c.args.0.now)) c.args.1.0.now c.kept.0 c.kept.1.0 h;
  sheet_from_c_fits = λ c h.
      (at_front (printed (sheet_of c.args.0.now)) c.args.1.0.now c.kept.0 c.kept.1.0 (omega (arith, c.kept.1.1))).0;
}

pub demand_2 : Demand2
demand_2 = record {
  runs = run_holds;
  cut_otherwise_same_run = same_run;
  shuts_out_always = shuts_out_always;
  speaks = speaks;
  foreign = foreign_changes_nothing;
  read_passes_over = read_passes_over;
  prints = prints;
  before_all = before_all;
  program = λ lent. record {
    take_record_prints = intake.take_record_prints lent;
    take_record_near = λ c e h. subst (PrintsNear c.bytes) (sym (intake.take_record_prints lent c e h)) (prints_near c.bytes);
    short_buffer_prints = intake.short_buffer_prints lent;
  };
  desk = λ lent. record {
    trace_record_prints = traced.trace_record_prints lent;
    list_record_prints = walk.list_record_prints lent;
    list_record_counts = λ c. c.sent;
    short_list_prints = walk.short_list_prints;
  };
  weights = record { weighing_by_weights = weighing_by_weights; weights_add_up = weights_add_up };
  from_c = from_c;
  not_claimed = not_claimed;
}

pub demand_3 : Demand3
demand_3 = record {
  wider_runs = wider_run;
  longer_runs = longer_run;
  e_never_finished = e_never_finished;
  wider_calls = wider_calls;
  longer_calls = longer_calls;
  told_has_four = told_has_four;
  field_four_alone = field_four_alone;
  wider_records = wider_record;
  longer_record = told_grows;
  none_behind_four = none_behind_four;
  longer_told_lem = longer_told_lem;
  ended_stays = ended_stays;
  blocks_added_between = blocks_added_between;
  some_between = some_between;
}
