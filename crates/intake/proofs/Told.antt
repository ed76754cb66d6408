-- What is printed of a file is what the rules say of the bytes that came from it, in whatever parts they came.
-- Assumes nothing.
use mathlib.Core.Bool.{Bool, true, false, cond, false≢true}
use mathlib.Core.List.{List, [], ◌++◌, append-nil}
use mathlib.Core.Path.{◌≡◌, refl, sym, ap, ◌∙◌}
use Prim.Native.Nat.{ℕ, ◌≤◌}
use lib.IntN.{ℤ}
use lib.ListN.{length, take, drop}
use Rattle.std.specs.Prelude.{Ok, Err}
use Rattle.edges.specs.declared.Fault.TheVariants.{Input}
use Rattle.rules.specs.Record.{refused_at, sheet_of}
use Rattle.desk.specs.Feeding.{Lent, Laid, Consumed, laid_of, empty_desk, feed_of}
use Rattle.desk.proofs.Arriving.{Arrived, arrived_none, arrived_more}
use Rattle.sheet.specs.Overlaid.{most_sheet}
use Rattle.laws.specs.Answers.{Said, gives, refuses}
use Rattle.rules.specs.Text.{printed}
use Rattle.prints.proofs.Texts.{text_is}
use Rattle.prints.proofs.Printing.{report_prints, refusal_prints}
use Rattle.intake.specs.declared.Intake.{Intake}
use Rattle.intake.specs.Turns.{Came, none, part, text_of, Recorded, Unread}
use Rattle.intake.proofs.Untested.{came_arrived}

-- what was printed, where reading did not fail
pub was_printed : (failed : Bool) {n k : ℕ} (out text : List ℕ) {after : List ℕ} → Ok n ≡ cond failed (Err Input) (Ok k) → after ≡ cond failed out text → (n ≡ k) × (after ≡ text)
was_printed true out text e q = absurd (false≢true cc)
was_printed false out text e q = (cc, q)

-- on a room, a ledger and a map that are long enough
module _ (lent : Lent) where
  abbrev pub start : Laid
  start = laid_of empty_desk lent.room₀ lent.l₀ lent.m₀

  came_prints : {w rest : List ℕ} {x : Laid} {o : Said (Unit {0})} → Came start w x rest o → text_of o x (length rest) ≡ printed (sheet_of w)
  came_prints none = report_prints lent (arrived_none lent.room₀ lent.l₀ lent.m₀ lent.long_room)
  came_prints (part {w = w} {rest = rest} {x = x} h new) = go y.outcome refl
    where
      arrived : Arrived lent.room₀ lent.l₀ lent.m₀ lent.long_room w x rest
      arrived = came_arrived lent.room₀ lent.l₀ lent.m₀ lent.long_room h refl

      y : Consumed
      y = feed_of x (rest ++ new)

      go : (o : Said (Unit {0})) → y.outcome ≡ o → text_of o y.laid (length (drop y.used (rest ++ new))) ≡ printed (sheet_of (w ++ new))
      go (gives _) e = report_prints lent (arrived_more lent.room₀ lent.l₀ lent.m₀ lent.long_room arrived new e)
      go (refuses k) e = refusal_prints lent arrived new k e [] ∙ ap (λ (q : List ℕ). printed (sheet_of q)) (append-nil (w ++ new))

  -- "Every figure equals the rules of document 01", to the bytes that are written: the lines are what the rules give for the bytes that came
  pub take_record_prints : {most : ℕ} {out room after : List ℕ} {l : List ℤ} {m : List ℕ} {r : Intake} (c : Recorded start most out r room l m after)
      → {n : ℕ} → r.printed ≡ Ok n → most_sheet ≤ length out → take n after ≡ printed (sheet_of c.bytes)
  take_record_prints {out = out} {room = room} {l = l} {m = m} c {n} e h =
      let text = text_of c.outcome (laid_of c.desk room l m) (length c.rest) in
      let both = was_printed c.failed _ _ (sym e ∙ c.printed) c.lines in
      text_is text out both.0 both.1 h ∙ came_prints c.came

  -- and where the buffer is too short for a field, a refusal before all else
  pub short_buffer_prints : {most : ℕ} {out room after : List ℕ} {l : List ℤ} {m : List ℕ} {r : Intake} → Unread start most out r room l m after
      → most_sheet ≤ length out → (n : ℕ) × (r.printed ≡ Ok n) × (take n after ≡ printed (refused_at 1 1))
  short_buffer_prints {out = out} u h = (_, u.printed, text_is _ out refl u.lines h)
