-- Demand 2, of the programs: what each prints is what the rules give for the bytes that came, to the bytes that are written.
-- Assumes nothing.
use Rattle.std.specs.Prelude.{Ok, List, [], ◌++◌, ◌≡◌, ℕ, ◌+◌, ◌*◌, ◌≤◌, min, ℤ, pos, length, take}
use Rattle.rules.specs.Words.{sum}
use Rattle.rules.specs.Closing.{weighing, weight}
use Rattle.rules.specs.Record.{refused_at, sheet_of}
use Rattle.rules.specs.Text.{printed}
use Rattle.rules.specs.Listing.{last_line, fields_text}
use Rattle.rules.specs.Trace.{weight_of, traced}
use Rattle.sheet.specs.Overlaid.{most_sheet}
use Rattle.listing.specs.Lines.{most_line, most_count}
use Rattle.tracing.specs.Traced.{most_trace}
use Rattle.desk.specs.Feeding.{Lent, laid_of, empty_desk}
use Rattle.intake.specs.declared.Intake.{Intake}
use Rattle.intake.specs.Turns.{Recorded, Unread}
use Rattle.walk.specs.declared.whole.Listed.{Listed}
use Rattle.walk.specs.Walks.{Recorded as ListRecorded, Unlisted}
use Rattle.traced.specs.Recorded.{Recorded as Traced}
use Rattle.demands.specs.Calls.{RecordSheetCall}
use Rattle.demands.specs.Range.{PrintsNear}

-- the program: on memory that is long enough, the lines written are what the rules give for the bytes that came; where the buffer is too short for a field,
-- a refusal before all else
pub record ProgramPrints (lent : Lent) : Type 0 where
  pub take_record_prints : {most : ℕ} {out room after : List ℕ} {l : List ℤ} {m : List ℕ} {r : Intake}
      (c : Recorded (laid_of empty_desk lent.room₀ lent.l₀ lent.m₀) most out r room l m after)
      → {n : ℕ} → r.printed ≡ Ok n → most_sheet ≤ length out → take n after ≡ printed (sheet_of c.bytes)
  pub take_record_near : {most : ℕ} {out room after : List ℕ} {l : List ℤ} {m : List ℕ} {r : Intake}
      (c : Recorded (laid_of empty_desk lent.room₀ lent.l₀ lent.m₀) most out r room l m after)
      → {n : ℕ} → r.printed ≡ Ok n → most_sheet ≤ length out → PrintsNear c.bytes (take n after)
  pub short_buffer_prints : {most : ℕ} {out room after : List ℕ} {l : List ℤ} {m : List ℕ} {r : Intake}
      → Unread (laid_of empty_desk lent.room₀ lent.l₀ lent.m₀) most out r room l m after → most_sheet ≤ length out
      → (n : ℕ) × (r.printed ≡ Ok n) × (take n after ≡ printed (refused_at 1 1))

-- from C, of a record that is lent whole with the bytes out: what the rules give for it stands at the front of out, where it fits
pub record FromC : Type 0 where
  pub sheet_from_c : (c : RecordSheetCall) → (let text = printed (sheet_of c.args.0.now) in
      length text ≤ length c.args.1.0.now → (c.answer ≡ pos (length text)) × (take (length text) c.lasts.1.0 ≡ text))
  -- 512 bytes are always enough
  pub sheet_from_c_fits : (c : RecordSheetCall) → most_sheet ≤ length c.args.1.0.now
      → c.answer ≡ pos (length (printed (sheet_of c.args.0.now)))

-- ---- the desk's programs

-- on memory that is long enough, the trace written is what the rules give for the bytes that came; and so is the list: its parts before the
-- last, so many bytes, with what then stands in the lines to go out behind them. A buffer that is too short for a field, and lines that are too short for
-- those of a turn, are refused 1 before all else (of the trace `short_buffer_prints`)
pub record DeskPrints (lent : Lent) : Type 0 where
  pub trace_record_prints : {most : ℕ} {out : List ℕ} {r : Intake} {buffer room : List ℕ} {l : List ℤ} {m after : List ℕ}
      (c : Traced (laid_of empty_desk lent.room₀ lent.l₀ lent.m₀) most out r buffer room l m after)
      → {n : ℕ} → r.printed ≡ Ok n → most_trace ≤ length out → take n after ≡ traced c.walked.shows.stood.bytes
  pub list_record_prints : {most : ℕ} {r : Listed} {buffer room : List ℕ} {l : List ℤ} {m after : List ℕ}
      (c : ListRecorded (laid_of empty_desk lent.room₀ lent.l₀ lent.m₀) most r buffer room l m after)
      → {n : ℕ} → r.printed ≡ Ok n → c.out ++ take n after ≡ fields_text c.shows.stood.bytes
  pub list_record_counts : {most : ℕ} {r : Listed} {buffer room : List ℕ} {l : List ℤ} {m after : List ℕ}
      (c : ListRecorded (laid_of empty_desk lent.room₀ lent.l₀ lent.m₀) most r buffer room l m after)
      → r.sent ≡ min (length c.out) most_count
  pub short_list_prints : {most : ℕ} {out room after : List ℕ} {l : List ℤ} {m : List ℕ} {r : Listed}
      → Unlisted (laid_of empty_desk lent.room₀ lent.l₀ lent.m₀) most out r room l m after → most_line ≤ length out
      → (n : ℕ) × (r.printed ≡ Ok n) × (take n after ≡ last_line (refused_at 1 1) 0 [])

-- "each finished cycle's weight as a fraction": the rates with these weights make the number of which W is the quotient, and the weights make its divisor
pub record WeightsAreWs : Type 0 where
  pub weighing_by_weights : (E n : ℕ) (e : ℕ → ℕ) → e 0 + e 1 ≤ E → 2 ≤ n → (q : ℕ → ℕ) → weighing E n e q ≡ sum (λ c. weight_of E n e c * q c) n
  pub weights_add_up : (E n : ℕ) (e : ℕ → ℕ) → e 0 + e 1 ≤ E → 2 ≤ n → sum (weight_of E n e) n ≡ weight E n
