-- A record from standard input, turn by turn, with the lines of its fields: what is shown of the bytes that came.
-- Assumes nothing.
use Rattle.std.specs.Prelude.{Bool, cond, ◌&&◌, Ok, Err, List, [], ◌++◌, ◌≡◌, ℕ, suc, ◌+◌, ◌*◌, ◌≤◌, ◌<◌, min, leb, ℤ, length, take, drop}
use Rattle.rules.specs.declared.Spot.{Spot}
use Rattle.rules.specs.Words.{unless}
use Rattle.rules.specs.Table.{tags}
use Rattle.rules.specs.Machine.{run}
use Rattle.rules.specs.Record.{refused_at}
use Rattle.rules.specs.Listing.{listed, list_field, list_from, first_spot, numbered, refused_text, last_line}
use Rattle.laws.specs.Answers.{Said, gives, refuses}
use Rattle.laws.proofs.Alongside.{TookAll}
use Rattle.reader.specs.Answers.{ending_of}
use Rattle.sheet.specs.Overlaid.{overlaid}
use Rattle.listing.specs.Lines.{per_byte, most_line, most_count, Counts}
use Rattle.desk.specs.Feeding.{Laid, laid_of, longest, Steady}
use Rattle.edges.specs.declared.Fault.TheVariants.{Input, Output}
use Rattle.intake.specs.declared.Turn.{Turn}
use Rattle.intake.specs.declared.Turned.{Turned}
use Rattle.intake.specs.declared.Turned.TheVariants.{On, Ended, Failed, Refused}
use Rattle.intake.specs.Turns.{is_failed, Round, round_of, Stood}
use Rattle.walk.specs.declared.Walk.{Walk}
use Rattle.walk.specs.declared.whole.Listed.{Listed}

-- as many bytes of lines as a buffer of so many bytes can bring in one turn, and a line behind them
abbrev pub most_lines : ℕ → ℕ
most_lines size = per_byte * size + most_line + most_line

-- a buffer of so many bytes holds the longest field, and so many lines those of a turn
abbrev pub roomy : ℕ → ℕ → Bool
roomy size lines = leb longest size && leb (most_lines size) lines

-- before another turn: what is taken and held stands in the buffer, and the counts of the list can grow
pub record Ready (t : Turn) (spot : Spot) (buffer room : List ℕ) (l : List ℤ) (m : List ℕ) : Type 0 where
  pub within : t.used + t.held ≤ length buffer
  pub held : t.held < longest
  pub long : longest ≤ length buffer
  pub some : 1 ≤ t.left
  pub steady : Steady (laid_of t.desk room l m)
  pub counts : Counts spot (t.held + t.left)

-- a record of at most so many bytes stands there, and its fields are listed: the text of all their lines, and where the list stands
pub record Shows (x₀ : Laid) (most : ℕ) (text : List ℕ) (p : Round) (spot : Spot) : Type 0 where
  pub stood : Stood x₀ most p
  pub lists : list_from first_spot stood.done ≡ listed spot text
  pub all : TookAll stood.done (run tags list_field (listed first_spot []) stood.done)

-- some text of its lines
pub record Walked (x₀ : Laid) (most : ℕ) (p : Round) (spot : Spot) : Type 0 where
  pub text : List ℕ
  pub shows : Shows x₀ most text p spot

-- a turn: whatever was shown before, the lines are shown behind it
abbrev pub Adds : Round → Spot → List ℕ → Round → Spot → Type 0
Adds p spot lines q spot' = (x₀ : Laid) (most : ℕ) (text : List ℕ) → Shows x₀ most text p spot → Shows x₀ most (text ++ lines) q spot'

-- the last line, where a record is refused: behind so many fields and bytes, with the bytes that were left
abbrev pub last_text : Said (Unit {0}) → ℕ → ℕ → List ℕ → List ℕ
last_text (gives _) fields offset rest = []
last_text (refuses n) fields offset rest = numbered (suc fields) offset ++ refused_text n rest

-- what a turn says of the record where it is the last one: a field was refused, or whether the record may end there
abbrev pub last_said : Turned → Bool → ℕ → Said (Unit {0})
last_said On started held = ending_of started held
last_said Ended started held = ending_of started held
last_said Failed started held = ending_of started held
last_said (Refused k) started held = refuses k

-- the last line behind a turn
abbrev pub last_of : Turn → Spot → List ℕ → List ℕ
last_of t spot buffer = last_text (last_said t.turned t.desk.started t.held) t.desk.fields spot.offset (take t.held (drop t.used buffer))

-- ---- a whole record

-- what is answered of the last turn, behind so many bytes that went out: its lines and the last one are to go out, nothing where reading failed
abbrev pub finished_by : Walk → ℕ → List ℕ → Listed
finished_by w sent last = record {
  sent = sent;
  printed = cond (is_failed w.turn.turned) (Err Input) (Ok (w.printed + length last));
  left = w.turn.left;
}

abbrev pub finished_lines : Walk → List ℕ → List ℕ → List ℕ
finished_lines w last lines = cond (is_failed w.turn.turned) lines (overlaid lines w.printed last)

-- a record of at most so many bytes was listed. Of the text of its lines `out` is what stood in the lines at each turn but the last, `sent` bytes as far as
-- 64 bits go; that it went out, nothing here can say. The rest and the last line stand at the front of the lines, to go out; nothing where reading failed or
-- the system took no more
pub record Recorded (x₀ : Laid) (most : ℕ) (r : Listed) (buffer room : List ℕ) (l : List ℤ) (m after : List ℕ) : Type 0 where
  pub turn : Turn
  pub spot : Spot
  pub out : List ℕ
  pub rest : List ℕ
  pub shows : Shows x₀ most (out ++ rest) (round_of turn buffer room l m) spot
  pub sent : r.sent ≡ min (length out) most_count
  pub left : r.left ≡ turn.left
  pub lost : Bool
  pub printed : r.printed ≡ cond (is_failed turn.turned) (Err Input) (cond lost (Err Output) (Ok (length (rest ++ last_of turn spot buffer))))
  pub lines : (n : ℕ) → r.printed ≡ Ok n → take n after ≡ rest ++ last_of turn spot buffer

-- "shorter room is refused 1 before all else": buffer or lines are too short
abbrev pub short_line : List ℕ
short_line = last_line (refused_at 1 1) 0 []

-- nothing was read: memory stays, and the lines have that line, where it fits
pub record Unlisted (x₀ : Laid) (most : ℕ) (out : List ℕ) (r : Listed) (room : List ℕ) (l : List ℤ) (m after : List ℕ) : Type 0 where
  pub memory : laid_of x₀.desk room l m ≡ x₀
  pub answer : r ≡ record { sent = 0; printed = Ok (unless 0 (leb most_line (length out)) (length short_line)); left = most }
  pub lines : after ≡ unless out (leb most_line (length out)) (overlaid out 0 short_line)
