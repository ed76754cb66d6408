-- What a turn of reading leaves: counts within the buffer and within the record, and what of the bytes that came stands on the desk and in the buffer.
-- Which bytes a file gives, nothing here can say.
-- Assumes nothing.
use Rattle.std.specs.Prelude.{Bool, true, false, cond, ◌≡◌, List, [], ◌++◌, Result, Ok, Err, ℕ, zero, suc, ◌+◌, ◌-◌, ◌≤◌, ◌<◌, leb, ℤ, length, take, drop}
use Rattle.rules.specs.Words.{unless}
use Rattle.rules.specs.Table.{tags}
use Rattle.rules.specs.Machine.{run}
use Rattle.laws.specs.Answers.{Said, gives, refuses}
use Rattle.state.specs.State.{Memory, lent}
use Rattle.records.specs.Stage.{Stage, take_on}
use Rattle.sheet.specs.Overlaid.{overlaid, most_sheet}
use Rattle.prints.specs.Printed.{refuse_text, close_text}
use Rattle.std.specs.declared.io.Error.{Error}
use Rattle.edges.specs.declared.Fault.TheVariants.{Input}
use Rattle.desk.specs.declared.Desk.{Desk}
use Rattle.desk.specs.Feeding.{wanted, Laid, Consumed, laid_of, feed_of, longest}
use Rattle.intake.specs.declared.Intake.{Intake}
use Rattle.intake.specs.declared.Turn.{Turn}
use Rattle.intake.specs.declared.Turned.{Turned}
use Rattle.intake.specs.declared.Turned.TheVariants.{On, Ended, Failed, Refused}

-- another turn follows
abbrev pub is_on : Turned → Bool
is_on On = true
is_on Ended = false
is_on Failed = false
is_on (Refused k) = false

-- reading failed
abbrev pub is_failed : Turned → Bool
is_failed On = false
is_failed Ended = false
is_failed Failed = true
is_failed (Refused k) = false

-- a reading that gave no bytes: only the end of the input ends a record, all else is a fault
abbrev pub stopped_by : Result ℕ Error → Turned
stopped_by (Ok zero) = Ended
stopped_by (Ok (suc k)) = Failed
stopped_by (Err e) = Failed

-- with so many bytes held and n left to read before, in a buffer of so many: what is taken and held stands in the buffer, and no byte is lost; and where
-- the turn goes on, what is held is not as long as the longest field, and fewer bytes are left to read
pub record Goes (held n size : ℕ) (t : Turn) : Type 0 where
  pub within : t.used + t.held ≤ size
  pub none_lost : t.used + t.held + t.left ≡ held + n
  pub short : is_on t.turned ≡ true → t.held < longest
  pub falls : is_on t.turned ≡ true → t.left < n

-- ---- the bytes of a record, as they come

-- the bytes w came in parts, each behind what was left over of those before it: the desk x has taken all but the rest, and what became of the last part
pub data Came (x₀ : Laid) : List ℕ → Laid → List ℕ → Said (Unit {0}) → Type 0 where
  none : Came x₀ [] x₀ [] wanted
  part : {w rest : List ℕ} {x : Laid} → Came x₀ w x rest wanted → (new : List ℕ)
      → Came x₀ (w ++ new) (feed_of x (rest ++ new)).laid (drop (feed_of x (rest ++ new)).used (rest ++ new)) (feed_of x (rest ++ new)).outcome

-- what a turn says of the bytes: no field was refused, or one was
abbrev pub turned_said : Turned → Said (Unit {0})
turned_said On = wanted
turned_said Ended = wanted
turned_said Failed = wanted
turned_said (Refused k) = refuses k

-- a turn with its buffer and memory
pub record Round : Type 0 where
  pub turn : Turn
  pub buffer : List ℕ
  pub room : List ℕ
  pub memory : Memory

abbrev pub round_of : Turn → List ℕ → List ℕ → List ℤ → List ℕ → Round
round_of t buffer room l m = record { turn = t; buffer = buffer; room = room; memory = lent l m }

-- the desk there, on its memory
abbrev pub laid_at : Round → Laid
laid_at p = record { desk = p.turn.desk; room = p.room; memory = p.memory }

-- a turn in which the desk took what y says of the first upto bytes of the buffer: what became of it, how many bytes are taken, and how many are held
-- behind them: what the desk did not take
abbrev pub turned_by : Said (Unit {0}) → Turned
turned_by (gives _) = On
turned_by (refuses k) = Refused k

abbrev pub round_after : Consumed → ℕ → ℕ → List ℕ → Round
round_after y upto left buffer = record {
  turn = record { turned = turned_by y.outcome; desk = y.laid.desk; used = y.used; held = upto - y.used; left = left };
  buffer = buffer;
  room = y.laid.room;
  memory = y.laid.memory;
}

-- a turn in which the desk x is fed those bytes
abbrev pub round_fed : Laid → ℕ → ℕ → List ℕ → Round
round_fed x upto left buffer = round_after (feed_of x (take upto buffer)) upto left buffer

-- nothing came
abbrev pub stopped_at : Result ℕ Error → Laid → ℕ → ℕ → List ℕ → Round
stopped_at g x held left buffer =
    record { turn = record { turned = stopped_by g; desk = x.desk; used = 0; held = held; left = left }; buffer = buffer; room = x.room; memory = x.memory }

-- what a reading makes of a turn, with so many bytes held and left: the bytes that came go to the desk with those held; without bytes the turn stops
abbrev pub round_by : Result ℕ Error → Laid → ℕ → ℕ → List ℕ → Round
round_by (Ok zero) x held left buffer = stopped_at (Ok zero) x held left buffer
round_by (Ok (suc n)) x held left buffer = round_fed x (held + suc n) (left - suc n) buffer
round_by (Err e) x held left buffer = stopped_at (Err e) x held left buffer

-- before a turn
abbrev pub going_on : Desk → ℕ → ℕ → ℕ → Turn
going_on desk used held left = record { turned = On; desk = desk; used = used; held = held; left = left }

-- so a record of at most so many bytes stands there: of the bytes that came the desk has taken those done, and the rest is held behind those taken last
pub record Stood (x₀ : Laid) (most : ℕ) (p : Round) : Type 0 where
  pub bytes : List ℕ
  pub done : List ℕ
  pub rest : List ℕ
  pub came : Came x₀ bytes (laid_at p) rest (turned_said p.turn.turned)
  pub whole : bytes ≡ done ++ rest
  pub held : (rest ≡ take p.turn.held (drop p.turn.used p.buffer)) × (length rest ≡ p.turn.held)
  pub all : length bytes + p.turn.left ≡ most

-- the bytes are whole fields, which the machine takes from some state
pub record WholeFields (p : List ℕ) : Type 0 where
  pub from : Stage
  pub used : (run tags take_on from p).used ≡ length p

-- a turn leads from round to round: whatever record stood here stands there, and the bytes taken, whole fields, are at the front of the buffer
pub record Led {x₀ : Laid} {most : ℕ} {p : Round} (s : Stood x₀ most p) (q : Round) : Type 0 where
  pub stood : Stood x₀ most q
  pub more : stood.done ≡ s.done ++ take q.turn.used q.buffer
  pub fields : WholeFields (take q.turn.used q.buffer)

abbrev pub Leads : Round → Round → Type 0
Leads p q = (x₀ : Laid) (most : ℕ) → (s : Stood x₀ most p) → Led s q

-- ---- a whole record

-- what is printed of the desk x, with so many bytes left over: the line of a refused field, or what stands where the input ends
abbrev pub text_of : Said (Unit {0}) → Laid → ℕ → List ℕ
text_of (gives _) x left = close_text x left
text_of (refuses k) x left = refuse_text x k

-- what is answered of the last turn t with this text and the lines out, which have to be n bytes long, and what the lines then are: nothing is printed where
-- reading failed
abbrev pub answered : ℕ → Turn → List ℕ → List ℕ → Intake
answered n t text out = record {
  printed = cond (is_failed t.turned) (Err Input) (Ok (unless 0 (leb n (length out)) (length text)));
  left = t.left;
}

abbrev pub lines_after : ℕ → Turn → List ℕ → List ℕ → List ℕ
lines_after n t text out = cond (is_failed t.turned) out (unless out (leb n (length out)) (overlaid out 0 text))

-- the sheet, or the line of a refused field, of the turn on its memory x
abbrev pub turn_text : Turn → Laid → List ℕ
turn_text t x = text_of (turned_said t.turned) x t.held

abbrev pub intake_of : Turn → Laid → List ℕ → Intake
intake_of t x out = answered most_sheet t (turn_text t x) out

abbrev pub lines_of : Turn → Laid → List ℕ → List ℕ
lines_of t x out = lines_after most_sheet t (turn_text t x) out

-- a record of at most so many bytes was read and printed to the lines out. Which bytes came, and in which parts, is the file's; all else follows from them
pub record Recorded (x₀ : Laid) (most : ℕ) (out : List ℕ) (r : Intake) (room : List ℕ) (ledger : List ℤ) (map after : List ℕ) : Type 0 where
  pub desk : Desk
  pub bytes : List ℕ
  pub rest : List ℕ
  pub outcome : Said (Unit {0})
  pub came : Came x₀ bytes (laid_of desk room ledger map) rest outcome
  pub all : length bytes + r.left ≡ most
  -- where reading failed, nothing is printed
  pub failed : Bool
  pub printed : r.printed
      ≡ cond failed (Err Input) (Ok (unless 0 (leb most_sheet (length out)) (length (text_of outcome (laid_of desk room ledger map) (length rest)))))
  pub lines : after
      ≡ cond failed out (unless out (leb most_sheet (length out)) (overlaid out 0 (text_of outcome (laid_of desk room ledger map) (length rest))))

-- nothing was read, since the buffer is too short for a field: memory stays, and the lines say `refused 1 field 1`
pub record Unread (x₀ : Laid) (most : ℕ) (out : List ℕ) (r : Intake) (room : List ℕ) (ledger : List ℤ) (map after : List ℕ) : Type 0 where
  pub memory : laid_of x₀.desk room ledger map ≡ x₀
  pub left : r.left ≡ most
  pub printed : r.printed ≡ Ok (unless 0 (leb most_sheet (length out)) (length (refuse_text x₀ 1)))
  pub lines : after ≡ unless out (leb most_sheet (length out)) (overlaid out 0 (refuse_text x₀ 1))
