-- What is printed of a file that is traced is what the rules give for the bytes that came from it, in whatever parts they came.
-- Assumes nothing.
use mathlib.Core.List.{List, ◌++◌}
use mathlib.Core.Path.{◌≡◌, refl, sym, ap, ◌∙◌}
use Prim.Native.Nat.{ℕ, ◌≤◌}
use native.Mathlib.Omega.{arith}
use lib.IntN.{ℤ}
use lib.ListN.{length, take, drop}
use Rattle.rules.specs.declared.Spot.{Spot}
use Rattle.rules.specs.Listing.{list_of}
use Rattle.rules.specs.Trace.{traced}
use Rattle.laws.specs.Answers.{Said, gives, refuses}
use Rattle.desk.specs.Feeding.{Laid, Consumed, Lent, laid_of, feed_of}
use Rattle.desk.proofs.Arriving.{Arrived, arrived_none, arrived_more}
use Rattle.prints.specs.Printed.{refuse_text}
use Rattle.prints.proofs.Texts.{text_at}
use Rattle.tracing.specs.Traced.{most_trace, trace_close_text}
use Rattle.tracing.proofs.Printed.{trace_print, trace_refusal}
use Rattle.intake.specs.declared.Intake.{Intake}
use Rattle.intake.specs.declared.Turned.{Turned}
use Rattle.intake.specs.declared.Turned.TheVariants.{On, Ended, Failed, Refused}
use Rattle.intake.specs.Turns.{is_failed, Came, none, part, turned_said}
use Rattle.std.specs.Prelude.{Ok}
use Rattle.intake.proofs.Told.{start, was_printed}
use Rattle.intake.proofs.Untested.{came_arrived}
use Rattle.walk.proofs.Printed.{spot_is}
use Rattle.traced.specs.Recorded.{last_trace, room_for, trace_of, Recorded}

room_most : (z : Turned) → room_for z ≤ most_trace
room_most On = omega arith
room_most Ended = omega arith
room_most Failed = omega arith
room_most (Refused k) = omega arith

-- by what a turn says of the bytes
abbrev text_by : Said (Unit {0}) → Laid → ℕ → ℕ → List ℕ
text_by (gives _) x blocks held = trace_close_text x blocks held
text_by (refuses k) x blocks held = refuse_text x k

by_said : (z : Turned) (x : Laid) (blocks held : ℕ) → last_trace z x blocks held ≡ text_by (turned_said z) x blocks held
by_said On x blocks held = refl
by_said Ended x blocks held = refl
by_said Failed x blocks held = refl
by_said (Refused k) x blocks held = refl

module _ (lent : Lent) where
  came_traced : {w rest : List ℕ} {x : Laid} {o : Said (Unit {0})} → Came (start lent) w x rest o → (blocks : ℕ) → blocks ≡ (list_of w).spot.blocks → text_by o x blocks (length rest) ≡ traced w
  came_traced none blocks e = trace_print lent (arrived_none lent.room₀ lent.l₀ lent.m₀ lent.long_room) blocks e
  came_traced (part {w = w} {rest = rest} {x = x} h new) blocks e = go y.outcome refl
    where
      arrived : Arrived lent.room₀ lent.l₀ lent.m₀ lent.long_room w x rest
      arrived = came_arrived lent.room₀ lent.l₀ lent.m₀ lent.long_room h refl

      y : Consumed
      y = feed_of x (rest ++ new)

      go : (o : Said (Unit {0})) → y.outcome ≡ o → text_by o y.laid blocks (length (drop y.used (rest ++ new))) ≡ traced (w ++ new)
      go (gives _) f = trace_print lent (arrived_more lent.room₀ lent.l₀ lent.m₀ lent.long_room arrived new f) blocks e
      go (refuses k) f = trace_refusal lent arrived new k f

  -- every number of the trace is the rules' one, to the bytes that are written: the lines are what the rules give for the bytes that came
  pub trace_record_prints : {most : ℕ} {out : List ℕ} {r : Intake} {buffer room : List ℕ} {l : List ℤ} {m after : List ℕ} (c : Recorded (start lent) most out r buffer room l m after)
      → {k : ℕ} → r.printed ≡ Ok k → most_trace ≤ length out → take k after ≡ traced c.walked.shows.stood.bytes
  trace_record_prints {out = out} {room = room} {l = l} {m = m} c {k} e h =
      let s = c.walked.shows in
      let x = laid_of c.turn.desk room l m in
      let blocks = c.spot.blocks in
      let n = room_for c.turn.turned in
      let text = trace_of c.turn x blocks in
      let both = was_printed (is_failed c.turn.turned) _ _ (sym e ∙ ap (λ (y : Intake). y.printed) c.answer) c.lines in
      text_at n text out both.0 both.1
      (omega (arith, room_most c.turn.turned))
      ∙ by_said c.turn.turned x blocks c.turn.held
      ∙ ap (text_by (turned_said c.turn.turned) x blocks) (sym s.stood.held.1)
      ∙ came_traced s.stood.came blocks (sym (ap (λ (p : Spot). p.blocks) (spot_is lent s)))
