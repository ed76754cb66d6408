-- A desk is fed: the fields until the start are opened, and the rest is read, as the machine takes them.
-- Assumes nothing.
use mathlib.Core.Bool.{Bool, true, false, cond, false≢true}
use mathlib.Core.List.{List}
use mathlib.Core.Path.{◌≡◌, refl, sym, ap, subst, ◌∙◌}
use Prim.Native.Nat.{ℕ, ◌+◌, ◌-◌, ◌≤◌, zero-le}
use native.Mathlib.Omega.{arith}
use borrow.Author.Tests.{eqb-true, eqb-false}
use lib.Dec.{leb, eqb}
use lib.IntN.{ℤ}
use lib.ListN.{length, take, drop, length-drop}
use Rattle.numbers.proofs.Lists.{part_rest}
use Rattle.numbers.proofs.Tests.{settled_taken, settled_refused}
use Rattle.rules.specs.Table.{behind_tolerances, tags}
use Rattle.rules.specs.Machine.{End, waiting, broken, stopped, Ran}
use Rattle.laws.specs.Answers.{Said, refuses, end_said}
use Rattle.laws.proofs.Cuts.{used_most}
use Rattle.laws.proofs.Prefixes.{fields_most}
use Rattle.state.specs.State.{lent, Left}
use Rattle.records.specs.Stage.{Stage, take_on, run_on}
use Rattle.opening.specs.declared.Opening.{Opening}
use Rattle.opening.specs.Answers.{stage_of, open_ground}
use Rattle.opening.proofs.Readied.{Ready, ground_ready}
use Rattle.reading.specs.declared.Reading.{Reading}
use Rattle.reading.specs.Answers.{unfinished, AllSaid, stage_at, read_ground}
use Rattle.reader.specs.Answers.{all_by, all_left}
use Rattle.desk.specs.Feeding.{Desk, Laid, Consumed, lent_cycle, stage_on, laid_after, stops, behind, fed_by, feed_of, open_all, outcome_by, most_fields, started_ground}
use Rattle.desk.proofs.Grounds.{of_opening, of_started, feed_refuses, feeds}
use Rattle.desk.proofs.Good.{begun_ground}
use Rattle.desk.proofs.Turns.{before_all}
use Rattle.desk.proofs.Begun.{U, good, waits, used_u, few_u, begun_is, read_begun, has_started, has_not}

-- ---- by whether the run has started

abbrev laid_as : Bool → Laid → Laid
laid_as b x = record { desk = record { started = b; opening = x.desk.opening; reading = x.desk.reading; fields = x.desk.fields }; room = x.room; memory = x.memory }

by_started : (P : Laid → Type 0) (x : Laid) → (x.desk.started ≡ true → P (laid_as true x)) → (x.desk.started ≡ false → P (laid_as false x)) → P x
by_started P x t f = go x.desk.started refl
  where
    go : (b : Bool) → x.desk.started ≡ b → P (laid_as b x)
    go true e = t e
    go false e = f e

-- ---- after the start: the reader reads all

outcome_by_lem : (e : End) → outcome_by (end_said unfinished e) ≡ end_said tt e
outcome_by_lem waiting = refl
outcome_by_lem broken = refl
outcome_by_lem (stopped n) = refl

module _ (x : Laid) (i : List ℕ) (g : read_ground x.desk.reading (lent_cycle x) x.memory.ledger x.memory.map ≡ 0) where
  abbrev read : Ran Stage
  read = run_on (stage_at x.desk.reading (lent_cycle x) x.memory.ledger x.memory.map) i

  read_is : all_left x.desk.reading (lent_cycle x) x.memory.ledger x.memory.map i ≡ all_by x.desk.reading read
  unfolding all_left
  read_is = settled_taken _ g

  -- as the code forms it
  abbrev as_fed : Bool → Left (AllSaid Reading) → Said (Unit {0}) → Consumed
  as_fed b y o = record {
    laid = record { desk = record { started = b; opening = x.desk.opening; reading = y.answer.state; fields = x.desk.fields + y.answer.fields }; room = x.room; memory = y.memory };
    used = y.answer.used;
    outcome = o;
  }

  pub all_size : {y : Left (AllSaid Reading)} → y ≡ all_left x.desk.reading (lent_cycle x) x.memory.ledger x.memory.map i → y.answer.fields ≤ length i
  all_size e =
      let z = ap (λ (w : Left (AllSaid Reading)). w.answer.fields) (e ∙ read_is) in
      let l = fields_most tags take_on (stage_at x.desk.reading (lent_cycle x) x.memory.ledger x.memory.map) i in
      omega arith

  pub read_left : x.desk.started ≡ true → {y : Left (AllSaid Reading)} {o : Said (Unit {0})} → y ≡ all_left x.desk.reading (lent_cycle x) x.memory.ledger x.memory.map i
      → o ≡ outcome_by y.answer.last → as_fed x.desk.started y o ≡ fed_by x (run_on (stage_on x) i)
  read_left e {y} {o} h q =
      (λ j. as_fed x.desk.started y (q j))
      ∙ (λ j. as_fed (e j) (h j) (outcome_by (h j).answer.last))
      ∙ ap (λ (z : Left (AllSaid Reading)). as_fed true z (outcome_by z.answer.last)) read_is
      ∙ (λ j. as_fed true (all_by x.desk.reading read) (outcome_by_lem read.end j))
      ∙ ap (λ (b : Bool). fed_by (laid_as b x) (run_on (stage_on (laid_as b x)) i)) (sym e)

-- ---- both, as the code takes them

-- by the tests until the start
by_ground : (n : ℕ) {A : Type 0} → (n ≡ 0 → A) → ((n ≡ 0 → ⊥) → A) → A
by_ground n {A} f g = go (eqb n 0) refl
  where
    go : (b : Bool) → eqb n 0 ≡ b → A
    go true e = f (eqb-true n 0 e)
    go false e = g (eqb-false n 0 e)

-- of a desk that has not started
module _ (o : Opening) (r : Reading) (n : ℕ) (room : List ℕ) (l : List ℤ) (m : List ℕ) (i : List ℕ) (few : n ≤ most_fields) where
  abbrev Y : Laid
  Y = record { desk = record { started = false; opening = o; reading = r; fields = n }; room = room; memory = lent l m }

  opens_as : (h : open_ground o room ≡ 0) → open_all Y i ≡ fed_by Y (U o r n room l m i (ground_ready o room h))
  unfolding U
  opens_as h = settled_taken _ h

  refuses_as : (open_ground o room ≡ 0 → ⊥) → open_all Y i ≡ stops Y (refuses (open_ground o room))
  refuses_as h = settled_refused _ h

  feeds_as : open_ground o room ≡ 0 → feed_of Y i ≡ fed_by Y (run_on (stage_of o room l m) i)
  feeds_as h = feeds Y i (sym (of_opening Y few refl) ∙ h)

  size_as : ((open_all Y i).used ≤ length i) × ((open_all Y i).laid.desk.fields ≤ most_fields + 4)
  size_as =
      by_ground (open_ground o room)
      (λ h.
      let q = ground_ready o room h in
      subst (λ (z : Consumed). (z.used ≤ length i) × (z.laid.desk.fields ≤ most_fields + 4)) (sym (opens_as h))
      (used_u o r n room l m i q, fields_most_four q))
      (λ h. subst (λ (z : Consumed). (z.used ≤ length i) × (z.laid.desk.fields ≤ most_fields + 4)) (sym (refuses_as h)) (zero-le, omega arith))
    where
      both : (b : Bool) (x y : Desk) (k : ℕ) → x.fields ≤ k → y.fields ≤ k → (cond b x y).fields ≤ k
      both true x y k p q = p
      both false x y k p q = q

      fields_most_four : (q : Ready o room) → (laid_after Y (U o r n room l m i q)).desk.fields ≤ most_fields + 4
      fields_most_four q =
          let f = few_u o r n room l m i q in
          both (leb behind_tolerances (U o r n room l m i q).state.place) _ _ (most_fields + 4) (omega arith) (omega arith)

  not_yet_as : (open_all Y i).laid.desk.started ≡ false → open_all Y i ≡ feed_of Y i
  not_yet_as e =
      by_ground (open_ground o room)
      (λ h.
      let q = ground_ready o room h in
      let f = ap (λ (z : Consumed). z.laid.desk.started) (sym (opens_as h)) ∙ e in
      opens_as h ∙ ap (fed_by Y) (sym (waits o r n room l m i q (has_not o r n room l m i q f))) ∙ sym (feeds_as h))
      (λ h. refuses_as h ∙ (λ j. stops Y (refuses (of_opening Y few refl j))) ∙ sym (feed_refuses Y i (λ z. h (of_opening Y few refl ∙ z))))

  ground_as : (open_all Y i).laid.desk.started ≡ true → started_ground (open_all Y i).laid ≡ 0
  ground_as e =
      by_ground (open_ground o room)
      (λ h.
      let q = ground_ready o room h in
      let f = ap (λ (z : Consumed). z.laid.desk.started) (sym (opens_as h)) ∙ e in
      let late = has_started o r n room l m i q f in
      ap (λ (z : Consumed). started_ground z.laid) (opens_as h) ∙ ap started_ground (begun_is o r n room l m i q late) ∙ begun_ground o room l m (U o r n room l m i q).state (good o r n room l m i q) late (n + (U o r n room l m i q).fields))
      (λ h. absurd (false≢true (ap (λ (z : Consumed). z.laid.desk.started) (sym (refuses_as h)) ∙ e)))

  then_as : (open_all Y i).laid.desk.started ≡ true → (let z = open_all Y i in behind z.used (fed_by z.laid (run_on (stage_on z.laid) (drop z.used i)))) ≡ feed_of Y i
  then_as e =
      by_ground (open_ground o room)
      (λ h.
      let q = ground_ready o room h in
      let f = ap (λ (z : Consumed). z.laid.desk.started) (sym (opens_as h)) ∙ e in
      let late = has_started o r n room l m i q f in
      ap (λ (z : Consumed). behind z.used (fed_by z.laid (run_on (stage_on z.laid) (drop z.used i)))) (opens_as h)
      ∙ ap (λ (y : Laid). let k = (U o r n room l m i q).used in behind k (fed_by y (run_on (stage_on y) (drop k i)))) (begun_is o r n room l m i q late)
      ∙ read_begun o r n room l m i q late ∙ sym (feeds_as h))
      (λ h. absurd (false≢true (ap (λ (z : Consumed). z.laid.desk.started) (sym (refuses_as h)) ∙ e)))

-- of any
module _ (x : Laid) (i : List ℕ) (few : x.desk.fields ≤ most_fields) where
  pub open_size_all : {z : Consumed} → z ≡ open_all x i → (z.used ≤ length i) × (z.laid.desk.fields ≤ most_fields + 4)
  open_size_all e =
      subst (λ (z : Consumed). (z.used ≤ length i) × (z.laid.desk.fields ≤ most_fields + 4)) (sym e)
      (by_started (λ (y : Laid). y.desk.fields ≤ most_fields → ((open_all y i).used ≤ length i) × ((open_all y i).laid.desk.fields ≤ most_fields + 4)) x
      (λ _ h. (zero-le, omega arith)) (λ _ h. size_as x.desk.opening x.desk.reading x.desk.fields x.room x.memory.ledger x.memory.map i h) few)

  pub not_yet : {z : Consumed} → z ≡ open_all x i → z.laid.desk.started ≡ false → z ≡ feed_of x i
  not_yet e f =
      e ∙ by_started (λ (y : Laid). y.desk.fields ≤ most_fields → (open_all y i).laid.desk.started ≡ false → open_all y i ≡ feed_of y i) x
      (λ _ h g. absurd (false≢true (sym g))) (λ _ h g. not_yet_as x.desk.opening x.desk.reading x.desk.fields x.room x.memory.ledger x.memory.map i h g) few
      (ap (λ (z : Consumed). z.laid.desk.started) (sym e) ∙ f)

  pub then_ground : {z : Consumed} → z ≡ open_all x i → (x.desk.started ≡ true → started_ground x ≡ 0) → z.laid.desk.started ≡ true → started_ground z.laid ≡ 0
  then_ground e g f =
      ap (λ (z : Consumed). started_ground z.laid) e
      ∙ by_started (λ (y : Laid). y.desk.fields ≤ most_fields → (y.desk.started ≡ true → started_ground y ≡ 0) → (open_all y i).laid.desk.started ≡ true → started_ground (open_all y i).laid ≡ 0) x
      (λ _ h k _. k refl) (λ _ h k q. ground_as x.desk.opening x.desk.reading x.desk.fields x.room x.memory.ledger x.memory.map i h q) few g
      (ap (λ (z : Consumed). z.laid.desk.started) (sym e) ∙ f)

  -- the rest, as it is lent on
  module _ {z y : Consumed} (e : z ≡ open_all x i) (q : y ≡ fed_by z.laid (run_on (stage_on z.laid) (take (length i - z.used) (drop z.used i)))) where
    rest_is : y ≡ fed_by z.laid (run_on (stage_on z.laid) (drop z.used i))
    rest_is = q ∙ ap (λ (j : List ℕ). fed_by z.laid (run_on (stage_on z.laid) j)) (part_rest z.used i)

    pub rest_size : z.used + y.used ≤ length i
    rest_size =
        let u = ap (λ (w : Consumed). w.used) rest_is in
        let l = used_most tags take_on (stage_on z.laid) (drop z.used i) in
        let d = length-drop z.used i in
        let s = (open_size_all e).0 in
        omega arith

    pub read_then : (x.desk.started ≡ true → started_ground x ≡ 0) → z.laid.desk.started ≡ true → behind z.used y ≡ feed_of x i
    read_then g f =
        ap (behind z.used) rest_is
        ∙ ap (λ (w : Consumed). behind w.used (fed_by w.laid (run_on (stage_on w.laid) (drop w.used i)))) e
        ∙ by_started (λ (v : Laid). v.desk.fields ≤ most_fields → (v.desk.started ≡ true → started_ground v ≡ 0) → (open_all v i).laid.desk.started ≡ true
        → (let w = open_all v i in behind w.used (fed_by w.laid (run_on (stage_on w.laid) (drop w.used i)))) ≡ feed_of v i) x
        (λ _ h k _. before_all _ ∙ sym (feeds (laid_as true x) i (sym (of_started (laid_as true x) h refl) ∙ k refl)))
        (λ _ h k p. then_as x.desk.opening x.desk.reading x.desk.fields x.room x.memory.ledger x.memory.map i h p) few g
        (ap (λ (w : Consumed). w.laid.desk.started) (sym e) ∙ f)
