-- A record from standard input to its trace. Which bytes came, and in which parts, is the file's; all else follows from them.
-- Assumes nothing.
use Rattle.std.specs.Prelude.{List, ◌≡◌, ℕ, ℤ}
use Rattle.rules.specs.declared.Spot.{Spot}
use Rattle.sheet.specs.Overlaid.{most_sheet}
use Rattle.desk.specs.Feeding.{Laid, laid_of}
use Rattle.prints.specs.Printed.{refuse_text}
use Rattle.tracing.specs.Traced.{most_trace, trace_close_text}
use Rattle.intake.specs.declared.Intake.{Intake}
use Rattle.intake.specs.declared.Turn.{Turn}
use Rattle.intake.specs.declared.Turned.{Turned}
use Rattle.intake.specs.declared.Turned.TheVariants.{On, Ended, Failed, Refused}
use Rattle.intake.specs.Turns.{round_of, answered, lines_after}
use Rattle.walk.specs.Walks.{Walked}

-- what is printed behind the last turn, on the desk x with so many own blocks: the line of a refused field, or what stands where the input ends
abbrev pub last_trace : Turned → Laid → ℕ → ℕ → List ℕ
last_trace On x blocks held = trace_close_text x blocks held
last_trace Ended x blocks held = trace_close_text x blocks held
last_trace Failed x blocks held = trace_close_text x blocks held
last_trace (Refused k) x blocks held = refuse_text x k

-- how long the lines have to be for it
abbrev pub room_for : Turned → ℕ
room_for On = most_trace
room_for Ended = most_trace
room_for Failed = most_trace
room_for (Refused k) = most_sheet

-- that text, of the last turn t on its memory x
abbrev pub trace_of : Turn → Laid → ℕ → List ℕ
trace_of t x blocks = last_trace t.turned x blocks t.held

-- a record of at most so many bytes was walked through, and its trace stands at the front of the lines out; where reading failed, nothing is to be printed
pub record Recorded (x₀ : Laid) (most : ℕ) (out : List ℕ) (r : Intake) (buffer room : List ℕ) (l : List ℤ) (m after : List ℕ) : Type 0 where
  pub turn : Turn
  pub spot : Spot
  pub walked : Walked x₀ most (round_of turn buffer room l m) spot
  pub answer : r ≡ answered (room_for turn.turned) turn (trace_of turn (laid_of turn.desk room l m) spot.blocks) out
  pub lines : after ≡ lines_after (room_for turn.turned) turn (trace_of turn (laid_of turn.desk room l m) spot.blocks) out
