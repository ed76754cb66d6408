-- What the trace prints of a desk is what the rules say of the bytes that arrived at it.
-- Assumes nothing.
use mathlib.Core.Bool.{true, false≢true}
use mathlib.Core.List.{List, [], ◌++◌, append-nil}
use mathlib.Core.Path.{◌≡◌, refl, sym, ap, subst, ◌∙◌}
use Prim.Native.Nat.{ℕ, ◌+◌, ◌≤◌}
use native.Mathlib.Omega.{arith}
use lib.IntN.{ℤ}
use lib.ListN.{length}
use Rattle.rules.specs.Cycle.{most_bytes}
use Rattle.rules.specs.Plan.{plan}
use Rattle.rules.specs.Table.{behind_tolerances, tags}
use Rattle.rules.specs.Machine.{Ran, run}
use Rattle.rules.specs.Record.{Told, take_field, untold, Sheet, refused_at, sheet_of}
use Rattle.rules.specs.Text.{refusal_text, printed}
use Rattle.rules.specs.Listing.{list_of}
use Rattle.rules.specs.Trace.{trace_by, trace_told, trace_text, traced_by, traced}
use Rattle.laws.specs.Answers.{Said, gives, refuses}
use Rattle.laws.proofs.Places.{early_or_late}
use Rattle.records.specs.Stage.{Stage, plan_on}
use Rattle.records.proofs.Held.{Holds}
use Rattle.reader.specs.Answers.{ending_of}
use Rattle.reader.proofs.Endings.{only_whole}
use Rattle.reading.specs.declared.Reading.{Reading}
use Rattle.reading.specs.Answers.{started_reading, reading_of}
use Rattle.opening.specs.Answers.{run_of}
use Rattle.sources.specs.Sources.{trace_on}
use Rattle.sources.proofs.OfRun.{trace_of_run}
use Rattle.desk.specs.Feeding.{Laid, feed_of, most_fields, Lent}
use Rattle.desk.proofs.Arriving.{worked, good, after, after_few, after_late, after_early, Arrived, arrived_ground, alike}
use Rattle.prints.specs.Printed.{refuse_text}
use Rattle.prints.proofs.Printing.{next, enough, sheet_end, sheet_ends, refused_number, refusal_prints}
use Rattle.tracing.specs.Traced.{traced_on, trace_ending, trace_close_text}
use Rattle.tracing.proofs.Texts.{by_end}

module _ (lent : Lent) where
  abbrev room : List ℕ
  room = lent.room₀

  abbrev l : List ℤ
  l = lent.l₀

  abbrev m : List ℕ
  m = lent.m₀

  abbrev long : most_bytes ≤ length room
  long = lent.long_room

  -- what the bytes w tell
  abbrev lists : List ℕ → Ran Told
  lists w = run tags take_field untold w

  -- ---- a run that has started

  module _ (w : List ℕ) where
    abbrev u : Stage
    u = (worked room l m long w).state

    holds : Holds l m (enough lent) (lists w).state u
    holds = (alike room l m long (enough lent) w).state

    abbrev reading : Reading
    reading = reading_of (started_reading u.vehicle (run_of u)) u

    late : (after room l m long w).desk.started ≡ true → behind_tolerances ≤ u.place
    late s = early_or_late u.place (λ e. absurd (false≢true (ap (λ (x : Laid). x.desk.started) (sym (after_early room l m long w e)) ∙ s))) (λ e. e)

    trace_is : behind_tolerances ≤ u.place → (blocks : ℕ) → traced_on (after room l m long w) blocks ≡ trace_text (trace_told (lists w).state (lists w).fields blocks)
    trace_is e blocks =
        let fields : 0 + (worked room l m long w).fields ≡ (lists w).fields = omega (arith, (alike room l m long (enough lent) w).fields) in
        ap (λ (x : Laid). traced_on x blocks) (after_late room l m long w e)
        ∙ (λ j. trace_text (trace_on reading ((good room l m long w).held j) u.run.memory.ledger (fields j) blocks))
        ∙ trace_of_run (plan_on u) l m reading (holds.reached e) (lists w).fields blocks
        ∙ (λ j.
        trace_text
        (trace_by (sym holds.vehicle j) (sym holds.passed j) (sym holds.amounts j) (plan (sym holds.cycle j) (sym holds.tolerances j) (sym holds.method j))
        (lists w).state.holding.samples (lists w).fields blocks))

  module _ {w rest : List ℕ} {x : Laid} (h : Arrived room l m long w x rest) where
    -- ---- where the input ends

    ends : (e : Said (Unit {0})) → ending_of x.desk.started (length rest) ≡ e → (blocks : ℕ)
        → trace_ending e x blocks ≡ traced_by (sheet_end e (lists w).state x.desk.fields) (lists w).fields blocks
    ends (gives y) p blocks =
        let started = ap (λ (z : Laid). z.desk.started) h.laid ∙ (only_whole x.desk.started (length rest) p).0 in
        ap (λ (z : Laid). traced_on z blocks) (sym h.laid) ∙ trace_is w (late w started) blocks
    ends (refuses n) p blocks =
        ap (refusal_text n) (next x.desk.fields (subst (λ (z : Laid). z.desk.fields ≤ most_fields) h.laid (after_few room l m long w)))

    -- "the sheet, and with each line every number that it came from": the bytes printed are those that the rules give for the bytes read
    pub trace_print : (blocks : ℕ) → blocks ≡ (list_of w).spot.blocks → trace_close_text x blocks (length rest) ≡ traced w
    unfolding traced
    trace_print blocks b =
        sym (by_end x blocks (length rest) (arrived_ground room l m long h))
        ∙ ends (ending_of x.desk.started (length rest)) refl blocks
        ∙ (λ j. traced_by (sym (sheet_ends lent h) j) (lists w).fields (b j))

    -- ---- where a field is refused

    as_printed : (s : Sheet) {k n : ℕ} → s ≡ refused_at k n → (fields blocks : ℕ) → printed s ≡ traced_by s fields blocks
    as_printed s e fields blocks = ap printed e ∙ sym (ap (λ (z : Sheet). traced_by z fields blocks) e)

    -- "A refused field prints the sheet's own line and nothing else."
    pub trace_refusal : (new : List ℕ) (k : ℕ) → (feed_of x (rest ++ new)).outcome ≡ refuses k → refuse_text (feed_of x (rest ++ new)).laid k ≡ traced (w ++ new)
    unfolding traced
    trace_refusal new k e =
        let all = append-nil (w ++ new) in
        refusal_prints lent h new k e []
        ∙ ap (λ (i : List ℕ). printed (sheet_of i)) all
        ∙ as_printed (sheet_of (w ++ new)) (ap sheet_of (sym all) ∙ refused_number lent h new k e []) _ _
