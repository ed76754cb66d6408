-- The bytes of a record as they arrive, in whatever parts: the desk is what the machine makes of all of them.
-- Assumes nothing.
use mathlib.Core.Bool.{Bool, true, false, cond}
use mathlib.Core.List.{List, [], ◌++◌}
use mathlib.Core.Path.{◌≡◌, refl, sym, ap, ◌∙◌}
use Prim.Native.Nat.{ℕ, ◌+◌, ◌-◌, ◌≤◌, zero-le}
use native.Mathlib.Omega.{arith}
use borrow.Author.Tests.{le-leb, lt-leb}
use lib.Dec.{leb}
use lib.IntN.{ℤ}
use lib.ListN.{length, drop}
use lib.Seq.{drop-append-le, drop-drop}
use Rattle.rules.specs.Words.{all_below}
use Rattle.rules.specs.Cycle.{most_bytes}
use Rattle.rules.specs.Table.{behind_tolerances, tags}
use Rattle.rules.specs.Machine.{End, waiting, Ran, run}
use Rattle.rules.specs.Values.{is_character, is_number}
use Rattle.rules.specs.Record.{take_field, untold}
use Rattle.laws.specs.Answers.{end_said}
use Rattle.laws.proofs.Answers.{only_waiting}
use Rattle.laws.proofs.Cuts.{joined, cut, used_most, resumed}
use Rattle.laws.proofs.Places.{early_or_late}
use Rattle.laws.proofs.Prefixes.{no_bytes}
use Rattle.laws.proofs.Related.{AlikeRan}
use Rattle.state.specs.State.{Memory}
use Rattle.records.specs.Stage.{Stage, room_after, take_on, run_on}
use Rattle.records.proofs.After.{after_upto}
use Rattle.records.proofs.Held.{Long, Holds}
use Rattle.records.proofs.Joined as lists
use Rattle.records.proofs.Weighs.{fields_weigh}
use Rattle.opening.specs.Answers.{unopened, stage_of, opening_of, run_of, open_ground}
use Rattle.opening.proofs.Readied.{Ready}
use Rattle.reading.specs.Answers.{started_reading, reading_of}
use Rattle.desk.specs.Feeding.{Desk, Laid, laid_of, wanted, empty_desk, Consumed, stage_on, started_opening, laid_after, fed_by, feed_of, started_ground, desk_ground, most_fields}
use Rattle.desk.proofs.Good.{Good, good_upto, opens_on, begun_ground, few_offered}
use Rattle.desk.proofs.Grounds.{of_opening, of_started, feeds}
use Rattle.desk.proofs.Staged.{none_opened, laid_joined}

-- ---- on a room that is long enough, whatever ledger and map

module _ (room : List ℕ) (l : List ℤ) (m : List ℕ) (long : most_bytes ≤ length room) where
  abbrev pub begin : Laid
  begin = laid_of empty_desk room l m

  abbrev first : Stage
  first = stage_of unopened room l m

  -- what the machine makes of the bytes w
  abbrev pub worked : List ℕ → Ran Stage
  worked w = run_on first w

  ready : Ready unopened room
  unfolding is_number is_character all_below
  ready = record { few = zero-le; size = zero-le; number = refl; room = long }

  pub good : (w : List ℕ) → Good unopened room l m (worked w).state
  good w = good_upto unopened room l m ready (length w) w

  -- the desk after the bytes w
  abbrev pub after : List ℕ → Laid
  after w = laid_after begin (worked w)

  -- the number of its fields
  fields_are : (b : Bool) (x y : Desk) (n : ℕ) → x.fields ≡ n → y.fields ≡ n → (cond b x y).fields ≡ n
  fields_are true x y n p q = p
  fields_are false x y n p q = q

  pub after_fields : (w : List ℕ) → (after w).desk.fields ≡ (worked w).fields
  after_fields w =
      let none : 0 + (worked w).fields ≡ (worked w).fields = omega arith in
      fields_are (leb behind_tolerances (worked w).state.place) _ _ (worked w).fields none none

  -- no more than a record can have
  pub after_few : (w : List ℕ) → (after w).desk.fields ≤ most_fields
  after_few w =
      let u = (worked w).state in
      let g = good w in
      let s = fields_weigh first w (λ _. refl) in
      let f = after_fields w in
      let o = few_offered unopened room l m u g in
      omega (arith, g.limits.place, g.limits.passed)

  -- ---- by whether the run has started

  module _ (w : List ℕ) where
    abbrev u : Stage
    u = (worked w).state

    abbrev started : Desk
    started = record { started = true; opening = started_opening u; reading = reading_of (started_reading u.vehicle (run_of u)) u; fields = 0 + (worked w).fields }

    abbrev waiting_desk : Desk
    waiting_desk = record { started = false; opening = opening_of u; reading = empty_desk.reading; fields = 0 + (worked w).fields }

    abbrev with : Desk → Laid
    with d = record { desk = d; room = room_after first u room; memory = u.run.memory }

    pub after_late : behind_tolerances ≤ u.place → after w ≡ with started
    after_late e = ap (λ (b : Bool). with (cond b started waiting_desk)) (le-leb behind_tolerances u.place e)

    pub after_early : u.place ≤ 3 → after w ≡ with waiting_desk
    after_early e = ap (λ (b : Bool). with (cond b started waiting_desk)) (lt-leb behind_tolerances u.place (omega arith))

    -- it is the machine's state
    pub stage_after_lem : stage_on (after w) ≡ u
    stage_after_lem =
        early_or_late u.place
        (λ e. ap stage_on (after_early e)
        ∙ ap (λ (c : Memory). stage_of (opening_of u) (room_after first u room) c.ledger c.map) (sym (ap (λ (z : Stage). z.run.memory) ((good w).early e))) ∙ (good w).early e)
        (λ e.
        let p : behind_tolerances + (u.place - behind_tolerances) ≡ u.place = omega arith in
        ap stage_on (after_late e)
        ∙ (λ j. record { place = p j; passed = u.passed; vehicle = u.vehicle; cycle = (good w).held j; tolerances = u.tolerances; method = u.method; amounts = u.amounts; run = u.run }))

    -- it has no 1 or 2
    pub after_ground : desk_ground (after w) ≡ 0
    after_ground =
        early_or_late u.place
        (λ e. sym (of_opening (after w) (after_few w) (ap (λ (x : Laid). x.desk.started) (after_early e))) ∙ ap (λ (x : Laid). open_ground x.desk.opening x.room) (after_early e)
        ∙ opens_on unopened room l m u (good w) e)
        (λ e. sym (of_started (after w) (after_few w) (ap (λ (x : Laid). x.desk.started) (after_late e))) ∙ ap started_ground (after_late e)
        ∙ begun_ground unopened room l m u (good w) e (0 + (worked w).fields))

  -- ---- the bytes arrive

  -- the bytes w have arrived; the desk x has taken all but the rest
  pub record Arrived (w : List ℕ) (x : Laid) (rest : List ℕ) : Type 0 where
    pub laid : after w ≡ x
    pub bytes : drop (worked w).used w ≡ rest
    pub waits : (worked w).end ≡ waiting

  pub arrived_none : Arrived [] begin []
  arrived_none =
      let none = no_bytes tags take_on first in
      record { laid = ap (laid_after begin) none ∙ none_opened begin waiting refl ready; bytes = ap (λ (y : Ran Stage). drop y.used []) none; waits = ap (λ (y : Ran Stage). y.end) none }

  module _ {w rest : List ℕ} {x : Laid} (h : Arrived w x rest) where
    pub arrived_ground : desk_ground x ≡ 0
    arrived_ground = ap desk_ground (sym h.laid) ∙ after_ground w

    module _ (new : List ℕ) where
      abbrev more : Ran Stage
      more = run_on (worked w).state (rest ++ new)

      -- all bytes in one
      all_is : worked (w ++ new) ≡ joined (worked w) more
      all_is =
          cut tags take_on first w new
          ∙ ap (λ (e : End). resumed e (worked w) (run_on (worked w).state (drop (worked w).used w ++ new))) h.waits
          ∙ ap (λ (r : List ℕ). joined (worked w) (run_on (worked w).state (r ++ new))) h.bytes

      -- a call takes what follows
      pub fed_is : feed_of x (rest ++ new) ≡ record { laid = after (w ++ new); used = more.used; outcome = end_said tt (worked (w ++ new)).end }
      fed_is =
          feeds x (rest ++ new) arrived_ground
          ∙ (λ j. fed_by (sym h.laid j) (run_on (stage_on (sym h.laid j)) (rest ++ new)))
          ∙ ap (λ (z : Stage). fed_by (after w) (run_on z (rest ++ new))) (stage_after_lem w)
          ∙ (λ j. record {
            laid = laid_joined begin (worked w) more (after_upto (length w) first w) (after_upto (length (rest ++ new)) (worked w).state (rest ++ new)) j;
            used = more.used;
            outcome = end_said tt more.end;
          })
          ∙ (λ j. record { laid = laid_after begin (sym all_is j); used = more.used; outcome = end_said tt (sym all_is j).end })

      -- what is left, whatever became of it
      pub left_is : drop (worked (w ++ new)).used (w ++ new) ≡ drop (feed_of x (rest ++ new)).used (rest ++ new)
      left_is =
          ap (λ (y : Ran Stage). drop y.used (w ++ new)) all_is
          ∙ sym (drop-drop more.used (worked w).used (w ++ new))
          ∙ ap (drop more.used) (drop-append-le (worked w).used w new (used_most tags take_on first w) ∙ ap (λ (r : List ℕ). r ++ new) h.bytes)
          ∙ ap (λ (y : Consumed). drop y.used (rest ++ new)) (sym fed_is)

      pub arrived_more : (feed_of x (rest ++ new)).outcome ≡ wanted → Arrived (w ++ new) (feed_of x (rest ++ new)).laid (drop (feed_of x (rest ++ new)).used (rest ++ new))
      arrived_more e = record {
        laid = ap (λ (y : Consumed). y.laid) (sym fed_is);
        bytes = left_is;
        waits = only_waiting tt (worked (w ++ new)).end (ap (λ (y : Consumed). y.outcome) (sym fed_is) ∙ e);
      }

  -- ---- beside the lists
  module _ (enough : Long l m) where
    holds_first : Holds l m enough untold first
    holds_first = record {
      place = refl;
      passed = refl;
      vehicle = refl;
      cycle = refl;
      tolerances = refl;
      method = refl;
      amounts = refl;
      empty = λ _. refl;
      waits = λ _. (refl, refl);
      begun = λ e _. absurd (omega arith);
      reached = λ e. absurd (omega arith);
    }

    pub alike : (w : List ℕ) → AlikeRan (Holds l m enough) (run tags take_field untold w) (worked w)
    alike w = lists.joined l m enough untold first w holds_first
