-- A call that accepts no field changes nothing, and what ends a call of `read_all` leaves no trace.
-- Assumes nothing.
use mathlib.Core.Bool.{Bool, true, false, cond}
use mathlib.Core.List.{List}
use mathlib.Core.Path.{◌≡◌, refl, sym, ap, ◌∙◌}
use Prim.Native.Nat.{ℕ}
use lib.Dec.{eqb}
use lib.IntN.{ℤ}
use lib.ListN.{take}
use Rattle.rules.specs.Table.{behind_tolerances, tags}
use Rattle.rules.specs.Machine.{Reply, to_field, not_yet, no_field, taken, passed, refused, Ran}
use Rattle.laws.proofs.Prefixes.{accepted_alone, none_accepted}
use Rattle.laws.specs.Answers.{Said, gives, refuses}
use Rattle.state.specs.State.{Left, lent, left}
use Rattle.records.specs.Stage.{Stage, take_on, reply_on, run_on}
use Rattle.opening.specs.declared.Opening.{Opening}
use Rattle.opening.specs.Answers.{Opened, opens, starts, unfinished as open_unfinished, OpenLeft, stage_of, run_of, open_ground, not_opened, opened_by, front_opened}
use Rattle.reading.specs.declared.Reading.{Reading}
use Rattle.reading.specs.Answers.{FieldRead, reads, passes, unfinished, reply_said, ReadSaid, AllSaid, stage_at, reading_of, read_ground}
use Rattle.reading.proofs.Taking.{from_start}
use Rattle.reader.specs.Answers.{read_by, all_by, read_left, all_left}

-- ---- until the start

-- the answer accepts no field
abbrev pub OpenStays : Said Opened → Type 0
OpenStays (gives (opens n)) = ⊥
OpenStays (gives (starts n r)) = ⊥
OpenStays (gives open_unfinished) = Unit {0}
OpenStays (refuses n) = Unit {0}

module _ (o : Opening) (room : List ℕ) (l : List ℤ) (m : List ℕ) where
  -- what is left where nothing is accepted, with the answer s
  abbrev as_before : Said Opened → OpenLeft
  as_before s = record { answer = record { says = s; opening = o }; room = room; memory = lent l m }

  opened_stays : (y : Reply Stage) → (let z = opened_by o room (stage_of o room l m) y in OpenStays z.answer.says → z ≡ as_before z.answer.says)
  opened_stays (to_field (taken z) n) h = absurd (go (eqb z.place behind_tolerances) h)
    where
      go : (b : Bool) → OpenStays (gives (cond b (starts n (run_of z)) (opens n))) → ⊥
      go true h = h
      go false h = h
  opened_stays (to_field (passed z) n) h = absurd h
  opened_stays (to_field (refused k) n) h = refl
  opened_stays not_yet h = refl
  opened_stays no_field h = refl

  pub open_stays : (i : List ℕ) → (let z = front_opened o room l m i in OpenStays z.answer.says → z ≡ as_before z.answer.says)
  unfolding front_opened
  open_stays i = go (eqb (open_ground o room) 0)
    where
      x : Stage
      x = stage_of o room l m

      go : (b : Bool) → (let z = cond b (opened_by o room x (reply_on x i)) (not_opened o room x (refuses (open_ground o room))) in
          OpenStays z.answer.says → z ≡ as_before z.answer.says)
      go true = opened_stays (reply_on x i)
      go false = λ _. refl

-- ---- after it

abbrev pub ReadStays : Said FieldRead → Type 0
ReadStays (gives (reads n)) = ⊥
ReadStays (gives (passes n)) = ⊥
ReadStays (gives unfinished) = Unit {0}
ReadStays (refuses n) = Unit {0}

module _ (r : Reading) (b : List ℕ) (l : List ℤ) (m : List ℕ) where
  abbrev x : Stage
  x = stage_at r b l m

  -- the reading of the state that it is
  same_reading : reading_of r x ≡ r
  same_reading = λ i. record { vehicle = r.vehicle; place = sym (from_start r.place) i; passed = r.passed; amounts = r.amounts; run = r.run }

  reply_stays : (y : Reply Stage) → ReadStays (reply_said y) → read_by r x y ≡ left (record { says = reply_said y; state = r }) l m
  reply_stays (to_field (taken z) n) h = absurd h
  reply_stays (to_field (passed z) n) h = absurd h
  reply_stays (to_field (refused k) n) h = λ i. left (record { says = refuses k; state = same_reading i }) l m
  reply_stays not_yet h = λ i. left (record { says = gives unfinished; state = same_reading i }) l m
  reply_stays no_field h = λ i. left (record { says = refuses 8; state = same_reading i }) l m

  module _ (i : List ℕ) where
    pub read_stays : (let z = read_left r b l m i in ReadStays z.answer.says → z ≡ left (record { says = z.answer.says; state = r }) l m)
    unfolding read_left
    read_stays = go (eqb (read_ground r b l m) 0)
      where
        go : (t : Bool) → (let z = cond t (read_by r x (reply_on x i)) (left {A = ReadSaid Reading} (record { says = refuses (read_ground r b l m); state = r }) l m) in
            ReadStays z.answer.says → z ≡ left (record { says = z.answer.says; state = r }) l m)
        go true = reply_stays (reply_on x i)
        go false = λ _. refl

    -- of `read_all`, by the tests before all else
    abbrev call : Bool → List ℕ → Left (AllSaid Reading)
    call t j = cond t (all_by r (run_on x j)) (left (record { state = r; fields = 0; used = 0; last = refuses (read_ground r b l m) }) l m)

    pub none_read : (all_left r b l m i).answer.fields ≡ 0 → ((all_left r b l m i).answer.state ≡ r) × ((all_left r b l m i).memory ≡ lent l m)
    unfolding all_left
    none_read = go (eqb (read_ground r b l m) 0)
      where
        go : (t : Bool) → (call t i).answer.fields ≡ 0 → ((call t i).answer.state ≡ r) × ((call t i).memory ≡ lent l m)
        go true e =
            let z = ap (λ (y : Ran Stage). y.state) (none_accepted tags take_on x i e) in
            (ap (reading_of r) z ∙ same_reading, ap (λ (y : Stage). y.run.memory) z)
        go false e = (refl, refl)

    -- the bytes of the accepted fields alone leave the same
    pub read_alone : (let z = all_left r b l m i in
        let z' = all_left r b l m (take z.answer.used i) in
        (z'.answer.state ≡ z.answer.state) × (z'.memory ≡ z.memory))
    unfolding all_left
    read_alone = go (eqb (read_ground r b l m) 0)
      where
        go : (t : Bool) → (let z = call t i in
            let z' = call t (take z.answer.used i) in
            (z'.answer.state ≡ z.answer.state) × (z'.memory ≡ z.memory))
        go true =
            let z = ap (λ (y : Ran Stage). y.state) (accepted_alone tags take_on x i) in
            (ap (reading_of r) z, ap (λ (y : Stage). y.run.memory) z)
        go false = (refl, refl)
