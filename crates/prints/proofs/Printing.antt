-- What is printed of a desk is what the rules say of the bytes that arrived at it.
-- Assumes nothing.
use mathlib.Core.Bool.{Bool, true, false, false≢true}
use mathlib.Core.List.{List, ◌++◌}
use mathlib.Core.Path.{◌≡◌, refl, sym, ap, ◌∙◌}
use Prim.Native.Nat.{ℕ, suc, ◌+◌, ◌-◌, ◌≤◌}
use native.Mathlib.Numerals.{add-one}
use native.Mathlib.Omega.{arith}
use borrow.Author.Tests.{lt-ltb, le-leb, lt-leb}
use lib.Dec.{leb, eqb}
use lib.IntN.{ℤ}
use lib.ListN.{length, length-drop}
use Rattle.rules.specs.Words.{unless}
use Rattle.rules.specs.Cycle.{most_bytes}
use Rattle.rules.specs.Figures.{figures_by, figures_told}
use Rattle.rules.specs.Plan.{plan}
use Rattle.rules.specs.Table.{behind_tolerances, tags}
use Rattle.rules.specs.Machine.{End, waiting, broken, stopped, Ran, run}
use Rattle.rules.specs.Record.{Told, take_field, untold, Sheet, told, refused_at, sheet_by, sheet_of}
use Rattle.rules.specs.Text.{sheet_text, refusal_text, printed}
use Rattle.laws.specs.Answers.{Said, gives, refuses, end_said}
use Rattle.laws.proofs.Places.{early_or_late}
use Rattle.laws.proofs.Sheets.{refusal_stays_refused}
use Rattle.records.specs.Stage.{Stage, plan_on}
use Rattle.records.proofs.Held.{Long, Holds}
use Rattle.reader.specs.Answers.{may_end, ending_of}
use Rattle.reading.specs.declared.Reading.{Reading}
use Rattle.reading.specs.Answers.{started_reading, reading_of}
use Rattle.opening.specs.Answers.{run_of}
use Rattle.figures.specs.Figured.{figures_of}
use Rattle.figures.proofs.OfRun.{figures_of_run}
use Rattle.desk.specs.Feeding.{Laid, Consumed, feed_of, most_fields, Lent}
use Rattle.desk.proofs.Arriving.{worked, after, after_fields, after_few, after_late, after_early, after_ground, Arrived, fed_is, alike}
use Rattle.prints.specs.Printed.{next_field, refuse_text, text_by, close_text}
use Rattle.prints.proofs.Texts.{by_end}

-- the number of the next field, of which there are not too many
pub next : (n : ℕ) → n ≤ most_fields → next_field n ≡ suc n
next n h = rw (lt-ltb n 18_446_744_073_709_551_615 (omega arith)) (add-one n)

-- where the input ends: what is told, or the number of the refusal with that of its field
abbrev pub sheet_end : Said (Unit {0}) → Told → ℕ → Sheet
sheet_end (gives _) t fields = told t
sheet_end (refuses n) t fields = refused_at n (suc fields)

ends_by : (b c : Bool) (t : Told) (k : ℕ) → unless (refused_at 15 (suc k)) b (unless (refused_at 15 (suc k)) c (told t)) ≡ sheet_end (unless (refuses 15) b (unless (refuses 15) c may_end)) t k
unfolding unless
ends_by true true t k = refl
ends_by true false t k = refl
ends_by false c t k = refl

module _ (lent : Lent) where
  abbrev room : List ℕ
  room = lent.room₀

  abbrev l : List ℤ
  l = lent.l₀

  abbrev m : List ℕ
  m = lent.m₀

  abbrev long : most_bytes ≤ length room
  long = lent.long_room

  pub enough : Long l m
  enough = record { ledger = lent.long_ledger; map = lent.long_map }

  -- what the bytes w tell, and what the machine makes of them
  abbrev lists : List ℕ → Ran Told
  lists w = run tags take_field untold w

  abbrev made : List ℕ → Ran Stage
  made w = worked room l m long w

  abbrev laid : List ℕ → Laid
  laid w = after room l m long w

  -- the sheet, by what the machine makes
  sheet_is : (w : List ℕ) → sheet_of w ≡ sheet_by (made w).end (lists w).state (made w).fields (length w - (made w).used)
  unfolding sheet_of
  sheet_is w =
      let a = alike room l m long enough w in
      let none : 0 + (lists w).fields ≡ (made w).fields = omega (arith, a.fields) in
      λ j. sheet_by (a.end j) (lists w).state (none j) (length w - a.used j)

  -- "A refused field gives only `refused N field K`"
  refused_is : (w : List ℕ) (k : ℕ) → refuse_text (laid w) k ≡ refusal_text k (suc (made w).fields)
  refused_is w k = ap (refusal_text k) (next (laid w).desk.fields (after_few room l m long w) ∙ ap suc (after_fields room l m long w))

  -- ---- where the input ends

  module _ (w : List ℕ) where
    abbrev u : Stage
    u = (made w).state

    holds : Holds l m enough (lists w).state u
    holds = (alike room l m long enough w).state

    -- the figures of a run that has started
    abbrev reading : Reading
    reading = reading_of (started_reading u.vehicle (run_of u)) u

    figures_are : behind_tolerances ≤ u.place → figures_of (laid w).desk.reading (laid w).memory.ledger ≡ figures_told (lists w).state
    figures_are e =
        let t = (lists w).state in
        ap (λ (x : Laid). figures_of x.desk.reading x.memory.ledger) (after_late room l m long w e)
        ∙ figures_of_run (plan_on u) l m reading (holds.reached e)
        ∙ (λ j. figures_by (sym holds.vehicle j) (sym holds.passed j) (sym holds.amounts j) (plan (sym holds.cycle j) (sym holds.tolerances j) (sym holds.method j)) t.holding.samples)

    -- by whether the run has started, and whether bytes are left
    abbrev left : ℕ
    left = length w - (made w).used

    ends_late : behind_tolerances ≤ u.place → (b : Bool) → eqb left 0 ≡ b → text_by (unless (refuses 15) b may_end) (laid w) ≡ printed (unless (refused_at 15 (suc (made w).fields)) b (told (lists w).state))
    unfolding unless
    ends_late e true f = ap sheet_text (figures_are e)
    ends_late e false f = refused_is w 15

    ends_as : text_by (ending_of (laid w).desk.started left) (laid w) ≡ printed (sheet_by waiting (lists w).state (made w).fields left)
    unfolding ending_of unless
    ends_as =
        early_or_late u.place
        (λ e. ap (λ (b : Bool). text_by (unless (refuses 15) b (unless (refuses 15) (eqb left 0) may_end)) (laid w)) (ap (λ (x : Laid). x.desk.started) (after_early room l m long w e))
        ∙ refused_is w 15
        ∙ ap (λ (b : Bool). printed (unless (refused_at 15 (suc (made w).fields)) b (unless (refused_at 15 (suc (made w).fields)) (eqb left 0) (told (lists w).state)))) (sym (place_test e)))
        (λ e. ap (λ (b : Bool). text_by (unless (refuses 15) b (unless (refuses 15) (eqb left 0) may_end)) (laid w)) (ap (λ (x : Laid). x.desk.started) (after_late room l m long w e))
        ∙ ends_late e (eqb left 0) refl
        ∙ ap (λ (b : Bool). printed (unless (refused_at 15 (suc (made w).fields)) b (unless (refused_at 15 (suc (made w).fields)) (eqb left 0) (told (lists w).state)))) (sym (place_passes e)))
      where
        place_test : u.place ≤ 3 → leb behind_tolerances (lists w).state.place ≡ false
        place_test e = ap (leb behind_tolerances) holds.place ∙ lt-leb behind_tolerances u.place (omega arith)

        place_passes : behind_tolerances ≤ u.place → leb behind_tolerances (lists w).state.place ≡ true
        place_passes e = ap (leb behind_tolerances) holds.place ∙ le-leb behind_tolerances u.place e

    -- the run has started where the place is behind the start
    started_is : leb behind_tolerances (lists w).state.place ≡ (laid w).desk.started
    started_is =
        ap (leb behind_tolerances) holds.place
        ∙ early_or_late u.place
        (λ e. lt-leb behind_tolerances u.place (omega arith) ∙ ap (λ (x : Laid). x.desk.started) (sym (after_early room l m long w e)))
        (λ e. le-leb behind_tolerances u.place e ∙ ap (λ (x : Laid). x.desk.started) (sym (after_late room l m long w e)))

  module _ {w rest : List ℕ} {x : Laid} (h : Arrived room l m long w x rest) where
    -- where the input ends, the record tells all, or its end is refused
    pub sheet_ends : sheet_of w ≡ sheet_end (ending_of x.desk.started (length rest)) (lists w).state x.desk.fields
    unfolding ending_of
    sheet_ends =
        let left_is : length w - (made w).used ≡ length rest = sym (length-drop (made w).used w) ∙ ap length h.bytes in
        sheet_is w
        ∙ (λ j. sheet_by (h.waits j) (lists w).state (sym (after_fields room l m long w) j) (left_is j))
        ∙ ends_by (leb behind_tolerances (lists w).state.place) (eqb (length rest) 0) (lists w).state (laid w).desk.fields
        ∙ ap (λ (b : Bool). sheet_end (unless (refuses 15) b (unless (refuses 15) (eqb (length rest) 0) may_end)) (lists w).state (laid w).desk.fields) (started_is w)
        ∙ ap (λ (y : Laid). sheet_end (ending_of y.desk.started (length rest)) (lists w).state y.desk.fields) h.laid

    -- "Every figure equals the rules of document 01": where the input ends, the bytes printed are those that the rules give for the bytes read
    pub report_prints : close_text x (length rest) ≡ printed (sheet_of w)
    report_prints =
        let left_is : length rest ≡ length w - (made w).used = ap length (sym h.bytes) ∙ length-drop (made w).used w in
        (λ j. close_text (sym h.laid j) (left_is j))
        ∙ sym (by_end (laid w) (left w) (after_ground room l m long w))
        ∙ ends_as w
        ∙ ap (λ (e : End). printed (sheet_by e (lists w).state (made w).fields (left w))) (sym h.waits)
        ∙ ap printed (sym (sheet_is w))

    -- where a field is refused, its number is the record's, whatever would follow it
    refused_all : (new : List ℕ) (k : ℕ) → (feed_of x (rest ++ new)).outcome ≡ refuses k → (q : List ℕ) → sheet_of ((w ++ new) ++ q) ≡ refused_at k (suc (made (w ++ new)).fields)
    refused_all new k e q = go (made all).end refl (ap (λ (y : Consumed). y.outcome) (sym (fed_is room l m long h new)) ∙ e)
      where
        all : List ℕ
        all = w ++ new

        stays : (e : End) → (made all).end ≡ e → (e ≡ waiting → ⊥) → sheet_of (all ++ q) ≡ sheet_by e (lists all).state (made all).fields (length all - (made all).used)
        stays e d n =
            refusal_stays_refused all q (λ z. n (sym d ∙ sym (alike room l m long enough all).end ∙ z)) ∙ sheet_is all
            ∙ ap (λ (z : End). sheet_by z (lists all).state (made all).fields (length all - (made all).used)) d

        go : (e : End) → (made all).end ≡ e → end_said {A = Unit {0}} tt e ≡ refuses k → sheet_of (all ++ q) ≡ refused_at k (suc (made all).fields)
        go waiting d f = absurd (false≢true cc)
        go broken d f = let n : 8 ≡ k = cc f in stays broken d (λ z. false≢true cc) ∙ ap (λ (j : ℕ). refused_at j (suc (made all).fields)) n
        go (stopped i) d f = let n : i ≡ k = cc f in stays (stopped i) d (λ z. false≢true cc) ∙ ap (λ (j : ℕ). refused_at j (suc (made all).fields)) n

    pub refused_number : (new : List ℕ) (k : ℕ) → (feed_of x (rest ++ new)).outcome ≡ refuses k → (q : List ℕ)
        → sheet_of ((w ++ new) ++ q) ≡ refused_at k (suc (feed_of x (rest ++ new)).laid.desk.fields)
    refused_number new k e q =
        refused_all new k e q
        ∙ ap (λ (n : ℕ). refused_at k (suc n)) (sym (ap (λ (y : Consumed). y.laid.desk.fields) (fed_is room l m long h new) ∙ after_fields room l m long (w ++ new)))

    -- and so is what is printed
    pub refusal_prints : (new : List ℕ) (k : ℕ) → (feed_of x (rest ++ new)).outcome ≡ refuses k → (q : List ℕ)
        → refuse_text (feed_of x (rest ++ new)).laid k ≡ printed (sheet_of ((w ++ new) ++ q))
    refusal_prints new k e q =
        ap (λ (y : Consumed). refuse_text y.laid k) (fed_is room l m long h new) ∙ refused_is (w ++ new) k ∙ ap printed (sym (refused_all new k e q))
