-- The trace: "the sheet, and with each line every number that it came from".
-- Assumes nothing.
use Rattle.std.specs.Prelude.{Bool, not, cond, ◌&&◌, ◌||◌, List, [], ◌++◌, ℕ, suc, ◌-◌, ◌*◌, ltb, eqb, ℤ, pos, ◌+ℤ◌, length}
use Rattle.std.specs.Int.Signed.{le_z}
use Rattle.rules.specs.Words.{all_below, up, spell}
use Rattle.rules.specs.Bench.{Moment, Method, by_cycles, with_stretches, End, none, stop, limit, most_phases, most_cycles}
use Rattle.rules.specs.Course.{Layout, row_m, row_e, outside, judged}
use Rattle.rules.specs.Parts.{Part, row_part, phase_part, part_energy, part_distance, finished}
use Rattle.rules.specs.Regular.{moment_in}
use Rattle.rules.specs.Plan.{Plan, layout_of, course_of}
use Rattle.rules.specs.Closing.{Charge, absent, wh, Amounts, Closing, ClosingAnswer, Closed, Refused, rate, weight}
use Rattle.rules.specs.Table.{tags}
use Rattle.rules.specs.Machine.{run}
use Rattle.rules.specs.Record.{Told, take_field, untold, Sheet, told, refused_at, sheet_of}
use Rattle.rules.specs.Figures.{closed_in, figures_by, plan_told}
use Rattle.rules.specs.Text.{Figures, digits, signed, spaced, ended, line, end_line, refused_line, recharge_line, refusal_text}
use Rattle.rules.specs.Listing.{in_turn, cycle_line, tolerances_line, list_of}
pub use Rattle.rules.specs.declared.Gathered.{Gathered}

-- ---- every number that a sheet came from

-- of a run by the plan p: what phase k of cycle c, and what a row, has of the intervals closed; how many samples of a row are outside
pub record Trace : Type 0 where
  pub plan : Plan
  pub figures : Figures
  pub amounts : Amounts
  pub fields : ℕ
  pub blocks : ℕ
  pub offered : ℕ
  pub phase : ℕ → ℕ → Gathered
  pub row : ℕ → Gathered
  pub outside_in : ℕ → ℤ

-- the samples of a record, by its plan
module _ (p : Plan) (xs : List Moment) where
  -- "in which a share is closed": not all that are closed are of other parts
  abbrev pub gathered_in : Part → Gathered
  gathered_in part = record {
    energy = part_energy (course_of p).share (moment_in xs) part (closed_in p xs);
    distance = pos (part_distance (course_of p).share (moment_in xs) part (closed_in p xs));
    begun = not (all_below (closed_in p xs) (λ j. not (part.of j)));
    finished = finished part (closed_in p xs);
  }

-- with how many fields are accepted, and how many of them are own blocks
abbrev pub trace_by : List ℕ → ℕ → Amounts → Plan → List Moment → ℕ → ℕ → Trace
trace_by vehicle passed a p xs fields blocks =
    let l = (course_of p).layout in
    record {
      plan = p;
      figures = figures_by vehicle passed a p xs;
      amounts = a;
      fields = fields;
      blocks = blocks;
      offered = length xs;
      phase = λ c k. gathered_in p xs (phase_part l c k);
      row = λ c. gathered_in p xs (row_part l c);
      outside_in = λ c. pos (outside (course_of p) (moment_in xs) c (judged (course_of p) (moment_in xs) (length xs)));
    }

-- of what a record tells
abbrev pub trace_told : Told → ℕ → ℕ → Trace
trace_told x = trace_by x.holding.vehicle x.passed x.holding.amounts (plan_told x) x.holding.samples

-- ---- the lines before the cycles

-- "method regular | method shortened M U"
abbrev pub method_line : Method → List ℕ
method_line by_cycles = line (spell "method") (spell "regular")
method_line (with_stretches x) = spaced (spell "method") ++ spaced (spell "shortened") ++ spaced (digits x.length) ++ ended (digits x.speed)

-- "fields F blocks B passed P": "accepted fields, passed-over ones among them; own blocks; blocks passed over"
unfoldable pub fields_line : ℕ → ℕ → ℕ → List ℕ
fields_line fields blocks passed =
    spaced (spell "fields") ++ spaced (digits fields) ++ spaced (spell "blocks") ++ spaced (digits blocks) ++ line (spell "passed") (digits passed)

-- "stop cycle C position P": "C from 1, P from 0; a stop in E: stop stretch E": of the sample behind those counted
unfoldable pub stop_text : Layout → ℕ → List ℕ
stop_text l n =
    cond (eqb (l.row n) row_e)
    (spaced (spell "stop") ++ line (spell "stretch") (spell "E"))
    (spaced (spell "stop") ++ spaced (spell "cycle") ++ spaced (digits (suc (l.row n))) ++ line (spell "position") (digits (n - l.begin (l.row n))))

abbrev pub stop_line : End → Layout → ℕ → List ℕ
stop_line none l n = []
stop_line stop l n = stop_text l n
stop_line limit l n = []

unfoldable pub plan_lines : List ℕ → Plan → List ℕ
plan_lines vehicle p = line (spell "run") vehicle ++ method_line p.method ++ cycle_line p.cycle ++ tolerances_line p.tolerances

unfoldable pub offered_lines : Trace → List ℕ
offered_lines x =
    fields_line x.fields x.blocks x.figures.passed
    ++ line (spell "offered") (digits x.offered)
    ++ end_line x.figures.end x.figures.counted
    ++ stop_line x.figures.end (layout_of x.plan.cycle x.plan.method) x.figures.counted

-- ---- phases, cycles, stretches

-- "finished|open"
abbrev pub finished_word : Bool → List ℕ
finished_word b = cond b (spell "finished") (spell "open")

-- "energy X distance Y"
unfoldable pub gathered_text : Gathered → List ℕ
gathered_text g = spaced (spell "energy") ++ spaced (signed g.energy) ++ spaced (spell "distance") ++ spaced (signed g.distance)

-- "phase C K energy X distance Y finished|open": "each phase, K from 1, in which a share is closed"
unfoldable pub phase_line : ℕ → ℕ → Gathered → List ℕ
phase_line c k g =
    cond g.begun
    (spaced (spell "phase") ++ spaced (digits (suc c)) ++ spaced (digits (suc k)) ++ gathered_text g ++ ended (finished_word g.finished))
    []

-- "finished|open [rate Q]": "Q where it is finished, X >= 1 and Y >= 1"
unfoldable pub rate_text : Gathered → List ℕ
rate_text g =
    cond (g.finished && le_z (pos 1) g.energy && le_z (pos 1) g.distance)
    (spaced (spell "finished") ++ line (spell "rate") (digits (rate (up g.energy) (up g.distance))))
    (ended (finished_word g.finished))

-- "cycle C energy X distance Y outside O finished|open [rate Q]": "each cycle in which a share is closed or a sample is outside"
unfoldable pub row_line : ℕ → Gathered → ℤ → List ℕ
row_line c g outside =
    cond (g.begun || le_z (pos 1) outside)
    (spaced (spell "cycle") ++ spaced (digits (suc c)) ++ gathered_text g ++ spaced (spell "outside") ++ spaced (signed outside) ++ rate_text g)
    []

-- "stretch M|E energy X distance Y finished|open": "where a share of the stretch is closed"
unfoldable pub stretch_line : List ℕ → Gathered → List ℕ
stretch_line name g =
    cond g.begun (spaced (spell "stretch") ++ spaced name ++ gathered_text g ++ ended (finished_word g.finished)) []

-- the phases of a cycle stand "before its cycle's line"; the stretches "after all cycles, M first"
unfoldable pub cycle_lines : Trace → ℕ → List ℕ
cycle_lines x c = in_turn (λ k. phase_line c k (x.phase c k)) most_phases ++ row_line c (x.row c) (x.outside_in c)

unfoldable pub part_lines : Trace → List ℕ
part_lines x = in_turn (cycle_lines x) most_cycles ++ stretch_line (spell "M") (x.row row_m) ++ stretch_line (spell "E") (x.row row_e)

-- ---- the lines behind

-- "whole E": "before + drawn = whole"
abbrev pub whole_in : Trace → ℤ
whole_in x = x.amounts.before +ℤ x.figures.drawn

-- "transfer before X after Y", "in the run's unit"
unfoldable pub amounts_line : Amounts → List ℕ
amounts_line a = spaced (spell "transfer") ++ spaced (spell "before") ++ spaced (signed a.before) ++ line (spell "after") (signed a.after)

-- from the cycles to the whole: of their number, the totals outside and drawn, the transfer energies, and E
unfoldable pub sum_text : ℕ → ℤ → ℤ → Amounts → ℤ → List ℕ
sum_text cycles outside drawn a whole =
    line (spell "cycles") (digits cycles)
    ++ line (spell "outside") (signed outside)
    ++ line (spell "drawn") (signed drawn)
    ++ amounts_line a
    ++ line (spell "whole") (signed whole)

abbrev pub sum_lines : Trace → List ℕ
sum_lines x = sum_text x.figures.cycles x.figures.outside x.figures.drawn x.amounts (whole_in x)

-- "Weights by 000, formula 9: e_1/E, e_2/E, and (1 - K_1 - K_2)/(n-2) for the others", "as a fraction, NUM over DEN = E (n-2)"
abbrev pub weight_of : ℕ → ℕ → (ℕ → ℕ) → ℕ → ℕ
weight_of E n e c = cond (ltb c 2) ((n - 2) * e c) (E - e 0 - e 1)

-- "weight C NUM DEN"
unfoldable pub weight_text : ℕ → ℕ → ℕ → List ℕ
weight_text c num den = spaced (spell "weight") ++ spaced (digits (suc c)) ++ spaced (digits num) ++ ended (digits den)

abbrev pub weight_line : ℕ → ℕ → (ℕ → ℕ) → ℕ → List ℕ
weight_line E n e c = weight_text c (weight_of E n e c) (weight E n)

-- "recharge A | recharge -"
abbrev pub charge_line : Charge → List ℕ
charge_line absent = line (spell "recharge") (spell "-")
charge_line (wh A) = line (spell "recharge") (digits A)

unfoldable pub figure_lines : Trace → Closing → List ℕ
figure_lines x y =
    in_turn (weight_line (up (whole_in x)) x.figures.cycles (λ c. up (x.row c).energy)) x.figures.cycles
    ++ line (spell "weighted") (digits y.weighted)
    ++ line (spell "range") (digits y.range)
    ++ charge_line x.amounts.charge
    ++ recharge_line y.recharge

-- "After `refused N` the list ends, as on the sheet."
abbrev pub closing_part : Trace → ClosingAnswer → List ℕ
closing_part x (Closed y) = figure_lines x y
closing_part x (Refused n) = refused_line n

-- ---- all of it

abbrev pub trace_text : Trace → List ℕ
trace_text x = plan_lines x.figures.vehicle x.plan ++ offered_lines x ++ part_lines x ++ sum_lines x ++ closing_part x x.figures.closing

-- "A refused field prints the sheet's own line and nothing else."
abbrev pub traced_by : Sheet → ℕ → ℕ → List ℕ
traced_by (told x) fields blocks = trace_text (trace_told x fields blocks)
traced_by (refused_at number field) fields blocks = refusal_text number field

-- what is printed of the record i
unfoldable pub traced : List ℕ → List ℕ
traced i = traced_by (sheet_of i) (run tags take_field untold i).fields (list_of i).spot.blocks
