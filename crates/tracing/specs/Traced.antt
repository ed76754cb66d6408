-- What the trace prints of a desk.
-- Assumes nothing.
use Rattle.std.specs.Prelude.{true, List, [], ◌++◌, ◌≡◌, ℕ, suc, leb, ℤ, length, Ok as Closed, Err as Refused}
use Rattle.rules.specs.Words.{unless, settled, up, spell}
use Rattle.rules.specs.Closing.{Charge, ClosingAnswer}
use Rattle.rules.specs.declared.Closing.{Closing}
use Rattle.rules.specs.declared.End.{End}
use Rattle.rules.specs.declared.End.TheVariants.{None as none, Stop as stop, Limit as limit}
use Rattle.rules.specs.Bench.{most_phases, most_cycles}
use Rattle.rules.specs.Course.{row_m, row_e}
use Rattle.rules.specs.Cycle.{seconds, valid}
use Rattle.rules.specs.Text.{digits, spaced, line, end_line, refused_line, recharge_line}
use Rattle.rules.specs.Listing.{in_turn}
use Rattle.rules.specs.Trace.{fields_line, phase_line, row_line, stretch_line, weight_line, charge_line, trace_text}
use Rattle.laws.specs.Answers.{Said, gives, refuses}
use Rattle.ledger.specs.Row.{energy_in}
use Rattle.reader.specs.Answers.{ending_of}
use Rattle.reading.specs.declared.Reading.{Reading}
use Rattle.state.specs.declared.Run.{Run}
use Rattle.figures.specs.Figured.{Figurable}
use Rattle.sources.specs.declared.Stop.{Stop}
use Rattle.sources.specs.declared.Stop.TheVariants.{InE, At}
use Rattle.sources.specs.Sources.{phase_on, outside_on, part_on, stop_on, trace_on}
use Rattle.sheet.specs.Overlaid.{overlaid}
use Rattle.desk.specs.Feeding.{Laid, lent_cycle, desk_ground}
use Rattle.prints.specs.Printed.{refuse_text}

-- a buffer of this many bytes holds every trace
abbrev pub most_trace : ℕ
most_trace = 49_152

-- the text stands at the front of the lines out, where they are long enough, and r is its length
abbrev pub Traces : List ℕ → List ℕ → ℕ → List ℕ → Type 0
Traces text out r after =
    (r ≡ unless 0 (leb most_trace (length out)) (length text))
    × (after ≡ unless out (leb most_trace (length out)) (overlaid out 0 text))

-- ---- as the lines are written

-- "stop cycle C position P", "stop stretch E"
abbrev pub stop_shown : Stop → List ℕ
stop_shown (InE p) = spaced (spell "stop") ++ line (spell "stretch") (spell "E")
stop_shown (At c p) = spaced (spell "stop") ++ spaced (spell "cycle") ++ spaced (digits (suc c)) ++ line (spell "position") (digits p)

abbrev pub stop_for : End → Stop → List ℕ
stop_for none s = []
stop_for stop s = stop_shown s
stop_for limit s = []

-- the lines between the plan and the cycles
unfoldable pub offered_on : Run → ℕ → ℕ → ℕ → List ℕ
offered_on r fields blocks passed =
    fields_line fields blocks passed
    ++ line (spell "offered") (digits r.progress.offered)
    ++ end_line r.progress.end r.progress.counted
    ++ stop_for r.progress.end (stop_on r)

-- a run, its cycle's bytes and its ledger
module _ (r : Run) (b : List ℕ) (l : List ℤ) where
  abbrev pub phase_at : ℕ → ℕ → List ℕ
  phase_at c k = phase_line c k (phase_on r b l c k)

  unfoldable pub cycle_at : ℕ → List ℕ
  cycle_at c = in_turn (phase_at c) most_phases ++ row_line c (part_on r l c) (outside_on l c)

  unfoldable pub parts_on : List ℕ
  parts_on = in_turn cycle_at most_cycles ++ stretch_line (spell "M") (part_on r l row_m) ++ stretch_line (spell "E") (part_on r l row_e)

-- a ledger, the whole energy E, and n finished cycles
module _ (l : List ℤ) (E n : ℕ) where
  abbrev pub weight_at : ℕ → List ℕ
  weight_at = weight_line E n (λ c. up (energy_in l c))

  unfoldable pub figures_on : Charge → Closing → List ℕ
  figures_on charge y =
      in_turn weight_at n
      ++ line (spell "weighted") (digits y.weighted)
      ++ line (spell "range") (digits y.range)
      ++ charge_line charge
      ++ recharge_line y.recharge

  abbrev pub closing_for : Charge → ClosingAnswer → List ℕ
  closing_for charge (Closed y) = figures_on charge y
  closing_for charge (Refused k) = refused_line k

-- ---- where the input ends

-- what "In a started run 1 and 2 come before all others" leaves of a reading, its cycle's bytes and its ledger
pub record Traceable (r : Reading) (b : List ℕ) (l : List ℤ) : Type 0 where
  pub figurable : Figurable r l
  pub sound : valid b ≡ true
  pub same_seconds : seconds b ≡ r.run.track.seconds

-- the trace of the reading on the desk, with how many own blocks its record has
abbrev pub traced_on : Laid → ℕ → List ℕ
traced_on x blocks = trace_text (trace_on x.desk.reading (lent_cycle x) x.memory.ledger x.desk.fields blocks)

-- by whether the input may end here
abbrev pub trace_ending : Said (Unit {0}) → Laid → ℕ → List ℕ
trace_ending (gives _) x blocks = traced_on x blocks
trace_ending (refuses number) x blocks = refuse_text x number

-- with so many bytes of an unfinished field left over: 1 and 2 before all else, then 15, then the trace
unfoldable pub trace_close_text : Laid → ℕ → ℕ → List ℕ
trace_close_text x blocks left = settled (desk_ground x) (trace_ending (ending_of x.desk.started left) x blocks) (refuse_text x (desk_ground x))
