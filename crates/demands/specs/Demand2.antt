-- Demand 2: "Every figure equals the rules of document 01. Blocks of another vehicle change nothing but the passed-over count (and the field number of a later
-- refusal). The ledger's energies add up to the energy of the samples counted." By document 02, L2 that is the energy of the intervals closed; by L5 stretches
-- M and E have their share of it.
-- Stated here, over all that is known by the contracts; what the programs print in Programs.antt, what blocks of another vehicle change in Foreign.antt, the
-- judges that it shuts out in ShutOut.antt.
-- Proved in proofs/ (`demand_2`).
-- Assumes nothing.
use Rattle.std.specs.Prelude.{Ok, Err, true, not, List, ◌++◌, ◌≡◌, ℕ, suc, ◌+◌, ◌*◌, ◌≤◌, ◌<◌, eqb, ℤ, pos, ◌+ℤ◌, length, drop}
use Rattle.rules.specs.Words.{every}
use Rattle.rules.specs.declared.End.TheVariants.{None as none}
use Rattle.rules.specs.declared.Closing.{Closing}
use Rattle.rules.specs.declared.Method.{Method}
use Rattle.rules.specs.declared.Moment.{Moment}
use Rattle.rules.specs.declared.Sample.{Sample}
use Rattle.rules.specs.Bench.{is_sample, tolerable, most_cycles, most_phases, most_positions, most_offered, most_passed}
use Rattle.rules.specs.Cycle.{phases, valid}
use Rattle.rules.specs.Band.{verdict}
use Rattle.rules.specs.Course.{Course, outside, counted, judged, closed, ending}
use Rattle.rules.specs.Parts.{phase_part, part_energy, part_distance, energy}
use Rattle.rules.specs.Regular.{moment_in}
use Rattle.rules.specs.Shortened.{row_of}
use Rattle.rules.specs.Plan.{Plan, course_of}
use Rattle.rules.specs.Shown.{ledger_numbers, map_words, figure as figure_at, shown_row, marked}
use Rattle.rules.specs.Closing.{whole_energy, least_finished, closing_refusal, closing_figures}
use Rattle.rules.specs.Table.{tags}
use Rattle.rules.specs.Machine.{run}
use Rattle.rules.specs.Record.{Told, take_field, untold, told, refused_at, sheet_of}
use Rattle.rules.specs.Figures.{energies, distances, cycles_in, outside_total, closing_in, figures_by}
use Rattle.rules.specs.Text.{refusal_text, printed}
use Rattle.laws.specs.Answers.{refuses, number_of, answer_said}
use Rattle.laws.specs.Beside.{stand_of, place_of}
use Rattle.laws.specs.Claims.{ForeignBlock}
use Rattle.laws.specs.Near.{NearRun, NotClaimed}
use Rattle.values.specs.Limits.{is_method, are_amounts}
use Rattle.ledger.specs.Row.{at, energy_all}
use Rattle.map.specs.Map.{is_set, ones_of}
use Rattle.state.specs.declared.Run.{Run}
use Rattle.state.specs.Refusals.{beside_by}
use Rattle.step.specs.Step.{held_of, stretched_of}
use Rattle.reading.specs.Answers.{step_said}
use Rattle.rules.specs.Numbered.{number}
use Rattle.rules.specs.declared.Refusal.{Refusal}
use Rattle.reading.specs.Answers.{is_reading}
use Rattle.sheet.specs.Overlaid.{most_sheet}
use Rattle.desk.specs.Feeding.{wanted, Laid, Lent, stops, desk_ground, feed_of}
use Rattle.prints.specs.Printed.{next_field}
use Rattle.demands.specs.Calls.{SampleCall, BlockCall, ShownCall, TotalsCall, ClosingCall, FiguresCall, ReadCall, AllCall, FeedCall, CloseCall, RefuseCall, VerdictCall}
use Rattle.demands.specs.Runs.{SampleOn, BlockOn, ShownOn, TotalsOn, ClosingOn, FiguresOn, ReadOn, AllOn, sample_in, closing_amounts, Driven, FeedOn, laid_by, FedIn, CloseOn, RefuseOn, closed_to, refused_to, AskedOn, SomeRun, SomeClose}
use Rattle.demands.specs.Cases.{Neither1Nor2}
use Rattle.demands.specs.Rows.{moments_of}
use Rattle.demands.specs.Range.{PrintsNear}
use Rattle.demands.specs.Foreign.{ForeignChangesNothing, ReadPassesOver}
use Rattle.demands.specs.ShutOut.{ShutsOut, ShutsOutAlways}
use Rattle.demands.specs.Programs.{ProgramPrints, FromC, DeskPrints, WeightsAreWs}

-- ---- a whole run of the samples xs by the plan p, with the state r, the ledger l and the map m

module _ (p : Plan) (l₀ : List ℤ) (m₀ : List ℕ) (xs : List Moment) (r : Run) (l : List ℤ) (m : List ℕ) where
  abbrev s : ℕ → Moment
  s = moment_in xs

  abbrev n : ℕ
  n = length xs

  abbrev y : Course
  y = course_of p

  pub record RunShows : Type 0 where
    -- the state: how many samples were offered, how many of them count, how the run ended, and what is held of the open interval
    pub state_shows :
        (r.progress.offered ≡ n) × (r.progress.counted ≡ counted y s n) × (r.progress.end ≡ ending y s n) × (r.progress.held ≡ held_of y s n)
    -- and what stretches M and E have of the intervals closed, and the watch over E of the samples counted; of a regular run nothing (document 02, L5)
    pub stretches_show : r.stretched ≡ stretched_of p s (closed y s n) (counted y s n)
    -- "Cycle c owns the nine numbers that start at 9 × c (c from 0): four phase energies, four phase distances, the outside count."
    pub ledger_shows : (i : ℕ) → i < ledger_numbers → at l i ≡ figure_at y s n i
    pub phase_energies : (c k : ℕ) → c < most_cycles → k < most_phases
        → at l (9 * c + k) ≡ part_energy y.share s (phase_part y.layout c k) (closed y s n)
    pub phase_distances : (c k : ℕ) → c < most_cycles → k < most_phases
        → at l (9 * c + (4 + k)) ≡ pos (part_distance y.share s (phase_part y.layout c k) (closed y s n))
    pub outside_counts : (c : ℕ) → c < most_cycles → at l (9 * c + 8) ≡ pos (outside y s c (judged y s n))
    -- "Phases that do not exist hold 0."
    pub no_phase_holds_0 : (c k : ℕ) → c < most_cycles → phases p.cycle ≤ k → k < most_phases
        → (at l (9 * c + k) ≡ pos 0) × (at l (9 * c + (4 + k)) ≡ pos 0)
    -- "The map shows the cycle last judged: position p is bit p mod 64 of word p div 64, set when outside."
    pub map_shows : (q : ℕ) → q < most_positions → is_set m q ≡ marked y s (judged y s n) q
    -- "The count of ones in the map equals the outside count of that cycle."
    pub ones_are_outside : ones_of m ≡ outside y s (shown_row y.layout (judged y s n)) (judged y s n)
    -- the ledger's energies, and those of stretches M and E, add up to the energy of the intervals closed
    pub energies_add_up : energy_all l +ℤ beside_by r ≡ energy y.share s (closed y s n)
    -- "what lies beyond is never touched"
    pub beyond_untouched : (drop ledger_numbers l ≡ drop ledger_numbers l₀) × (drop map_words m ≡ drop map_words m₀)

  -- E, n, e_c and d_c of the samples, with the transfer energy before the test
  abbrev E : ℤ → ℤ
  E before = whole_energy before y s n

  -- the calls that look at it; the closing's with amounts within their limits, the figures' with a reading whose own numbers are
  pub record RunAnswers : Type 0 where
    -- `shown`: ones and outside count are that of the cycle last judged, by the rules, and agree
    pub shown_agrees : (c : ShownCall) → ShownOn r p.cycle l m c → (let o = outside y s (shown_row y.layout (judged y s n)) (judged y s n) in
        c.answer ≡ Ok (record { ones = o; outside = pos o; agree = true }))
    -- `totals`: end, counted samples, finished cycles, outside and drawn in all
    pub totals_of_run : (c : TotalsCall) → TotalsOn r p.cycle l m c
        → c.answer ≡ Ok (record {
          end = ending y s n;
          counted = counted y s n;
          cycles = cycles_in p xs;
          outside = pos (outside_total p xs);
          drawn = energy y.share s (closed y s n);
        })
    -- `close`: weighted consumption, range and recharge figure, of one run and one set of amounts
    pub closing_of_run : (c : ClosingCall) → ClosingOn r p.cycle l m c → are_amounts (closing_amounts c) ≡ true
        → c.answer ≡ closing_in p xs (closing_amounts c)
    -- all figures of the report
    pub figures_of_run : (c : FiguresCall) → FiguresOn r p.cycle l m c → is_reading c.args.0 ≡ true
        → (let x = c.args.0 in c.answer ≡ Ok (figures_by x.vehicle x.passed x.amounts p xs))

  -- a call of `close` that answers the figures x
  pub record ClosedHolds : Type 0 where
    -- "a recharge refusal still shows weighted consumption and range" (document 02, L6): they are those of the samples, whatever the recharge
    pub recharge_aside : (c : ClosingCall) → ClosingOn r p.cycle l m c → are_amounts (closing_amounts c) ≡ true
        → (let a = closing_amounts c in
        closing_refusal (E a.before) (cycles_in p xs) (energies p xs) (distances p xs) (least_finished p.method) ≡ 0
        → c.answer ≡ Ok (closing_figures (E a.before) (cycles_in p xs) (energies p xs) (distances p xs) a.after a.charge))
    -- document 02, L11: W and range lie near what is unrounded
    pub closed_near : (c : ClosingCall) → ClosingOn r p.cycle l m c → are_amounts (closing_amounts c) ≡ true
        → (x : Closing) → c.answer ≡ Ok x → NearRun p xs (closing_amounts c).before x.weighted x.range

  -- "such a call is never refused 1 or 2", of every later call
  pub record NeverRefused : Type 0 where
    pub sample : (c : SampleCall) → SampleOn r p.cycle l m c → Neither1Nor2 refuses (answer_said c.answer)
    pub block : (c : BlockCall) → BlockOn r p.cycle l m c → Neither1Nor2 refuses (answer_said c.answer)
    pub shown : (c : ShownCall) → ShownOn r p.cycle l m c → Neither1Nor2 refuses (answer_said c.answer)
    pub totals : (c : TotalsCall) → TotalsOn r p.cycle l m c → Neither1Nor2 refuses (answer_said c.answer)
    -- with amounts within their limits
    pub closing : (c : ClosingCall) → ClosingOn r p.cycle l m c → are_amounts (closing_amounts c) ≡ true → Neither1Nor2 Err c.answer
    pub recharge : (c : ClosingCall) (x : Closing) → c.answer ≡ Ok x → Neither1Nor2 Err x.recharge
    -- with a reading whose own numbers are within their limits
    pub figures : (c : FiguresCall) → FiguresOn r p.cycle l m c → is_reading c.args.0 ≡ true → number_of (answer_said c.answer) ≡ 0
    pub read : (c : ReadCall) → ReadOn r p.cycle l m c → is_reading c.args.0 ≡ true → Neither1Nor2 refuses (step_said c.answer.step)
    pub read_all : (c : AllCall) → AllOn r p.cycle l m c → is_reading c.args.0 ≡ true → Neither1Nor2 refuses (step_said c.answer.last)

  -- "Its verdict is the judge's.": the bench controller is answered the verdict, and the judge, while the run goes on, marks the sample that it takes
  -- exactly where that is not 0, if it stands in a cycle ("after cycle 64 it is not judged": document 02, L2; "M is recorded and not judged": L5)
  abbrev pub VerdictIsTheJudges : Type 0
  VerdictIsTheJudges =
      (c : SampleCall) → SampleOn r p.cycle l m c → (r' : Run) → c.answer ≡ Ok r' → r.progress.end ≡ none
      → row_of p.cycle (stand_of p.cycle p.method n) < most_cycles → (let position = place_of p.cycle (stand_of p.cycle p.method n) in
      (q : VerdictCall) → AskedOn p.cycle p.tolerances position (sample_in c).speed q
      → (let v = verdict p.cycle p.tolerances position (sample_in c).speed in
      (q.answer ≡ pos v) × (is_set c.lasts.1.1.1.0 position ≡ not (eqb v 0))))

  -- what is promised of a whole run
  pub record RunHolds : Type 0 where
    pub shows : RunShows
    pub answers : RunAnswers
    pub closed : ClosedHolds
    -- "such a call is never refused 1 or 2"
    pub never_refused_1_or_2 : NeverRefused
    pub verdict_is_the_judges : VerdictIsTheJudges
    -- "Demand 2 shuts out a judge that .."
    pub shuts_out : ShutsOut p xs r l m

-- ---- what is said of runs and records speaks of something

pub record Speaks : Type 0 where
  -- there is a run of every list of samples within their limits, 4,000,000 at most
  pub some_run : (p : Plan) (l₀ : List ℤ) (m₀ : List ℕ) → ledger_numbers ≤ length l₀ → map_words ≤ length m₀
      → valid p.cycle ≡ true → tolerable p.tolerances ≡ true → is_method p.method ≡ true
      → (xs : List Sample) → every is_sample xs ≡ true → length xs ≤ most_offered → SomeRun p l₀ m₀ (moments_of xs)
  -- every record of which no field is refused is fed, in any parts, and closed
  pub some_part : (lent : Lent) {w rest : List ℕ} {x : Laid} → FedIn lent w x rest → (new : List ℕ) → (let y = feed_of x (rest ++ new) in
      y.outcome ≡ wanted → FedIn lent (w ++ new) y.laid (drop y.used (rest ++ new)))
  pub some_close : (x : Laid) (rest out : List ℕ) → most_sheet ≤ length out → SomeClose x rest

-- ---- the report: "Every figure equals the rules of document 01", to the bytes that are printed

-- the bytes w have arrived, in whatever parts, and the desk x has taken all but the rest
pub record Prints (w rest : List ℕ) (x : Laid) : Type 0 where
  -- where the input ends, the bytes printed are those that the rules give for the bytes read
  pub report_prints : (c : CloseCall) → CloseOn x rest c → closed_to c ≡ printed (sheet_of w)
  -- document 02, L11: the weighted consumption and the range printed lie near what is unrounded
  pub report_near : (c : CloseCall) → CloseOn x rest c → PrintsNear w (closed_to c)
  -- new bytes, of which a field is refused: its number is the record's, with the number of its field, whatever would follow
  pub feed_number : (new : List ℕ) (f : FeedCall) → FeedOn x (rest ++ new) f → (k : Refusal) → f.answer.outcome ≡ Err k → (q : List ℕ)
      → sheet_of ((w ++ new) ++ q) ≡ refused_at (number_of (answer_said f.answer.outcome)) (suc f.answer.desk.fields)
  -- "A refused field gives only `refused N field K`, K from 1"
  pub refusal_prints : (new : List ℕ) (f : FeedCall) → FeedOn x (rest ++ new) f → (k : Refusal) → f.answer.outcome ≡ Err k
      → (c : RefuseCall) → RefuseOn (laid_by f) (number k) c → (q : List ℕ) → refused_to c ≡ printed (sheet_of ((w ++ new) ++ q))

-- "Before all else it refuses 1 .. Then it refuses 2", and changes nothing: of any desk, whether a record's bytes brought it or not
pub record BeforeAll (x : Laid) : Type 0 where
  pub feed_before_all : (i : List ℕ) (c : FeedCall) → FeedOn x i c
      → record { laid = laid_by c; used = c.answer.used; outcome = answer_said c.answer.outcome } ≡ stops x (refuses (desk_ground x))
  pub close_before_all : (rest : List ℕ) (c : CloseCall) → CloseOn x rest c → closed_to c ≡ refusal_text (desk_ground x) (next_field x.desk.fields)

-- ---- together

pub record Demand2 : Type 0 where
  pub runs : {p : Plan} {l₀ : List ℤ} {m₀ : List ℕ} {xs : List Moment} {r : Run} {l : List ℤ} {m : List ℕ} → Driven p l₀ m₀ xs r l m
      → RunHolds p l₀ m₀ xs r l m
  -- "The same accepted samples cut into other blocks give the same run."
  pub cut_otherwise_same_run : {p : Plan} {l₀ : List ℤ} {m₀ : List ℕ} {xs : List Moment} {r r' : Run} {l l' : List ℤ} {m m' : List ℕ}
      → Driven p l₀ m₀ xs r l m → Driven p l₀ m₀ xs r' l' m' → (r ≡ r') × (l ≡ l') × (m ≡ m')
  pub shuts_out_always : ShutsOutAlways
  pub speaks : Speaks
  pub foreign : (p f v q : List ℕ) (x : Told) → sheet_of p ≡ told x → ForeignBlock x f v
      → (run tags take_field untold (p ++ q)).state.passed + 1 ≤ most_passed → ForeignChangesNothing p f q
  pub read_passes_over : ReadPassesOver
  pub prints : (lent : Lent) {w rest : List ℕ} {x : Laid} → FedIn lent w x rest → Prints w rest x
  pub before_all : (x : Laid) → (desk_ground x ≡ 0 → ⊥) → BeforeAll x
  pub program : (lent : Lent) → ProgramPrints lent
  pub desk : (lent : Lent) → DeskPrints lent
  pub weights : WeightsAreWs
  pub from_c : FromC
  -- document 02, L11: what must not be answered a maker, of either method
  pub not_claimed : (y : Method) → NotClaimed y
