-- The fields until the start, one after another: each call of `open` is a field of the machine.
-- Assumes nothing.
use mathlib.Core.Bool.{Bool, true, false, cond, false≢true}
use mathlib.Core.List.{List}
use mathlib.Core.Path.{◌≡◌, refl, sym, ap, subst, ◌∙◌}
use Prim.Native.Nat.{ℕ, suc, ◌+◌, ◌-◌, ◌≤◌}
use native.Mathlib.Nat.{add-zero}
use native.Mathlib.Omega.{arith}
use borrow.Author.Tests.{le-leb, lt-leb, eq-eqb, ne_eqb, eqb-true, eqb-false}
use lib.Dec.{eqb}
use lib.IntN.{ℤ}
use lib.ListN.{length, drop}
use Rattle.numbers.proofs.Tests.{settled_taken, settled_refused}
use Rattle.rules.specs.Table.{behind_tolerances, tags}
use Rattle.rules.specs.Front.{Front, incomplete, impossible, field, front_of}
use Rattle.rules.specs.Machine.{taken, passed, refused, Reply, to_field, not_yet, no_field, End, waiting, broken, stopped, Ran, on, off, ends, onwards, go_on, move_of, move_at, reply_as, reply_at, upto}
use Rattle.laws.specs.Answers.{Said, gives, refuses, end_said}
use Rattle.laws.proofs.Moves.{move_size}
use Rattle.laws.proofs.Places.{block_places_lem}
use Rattle.state.specs.State.{Memory, lent}
use Rattle.records.specs.Stage.{Stage, room_after, take_on, reply_on}
use Rattle.records.proofs.After.{after_move, after_upto}
use Rattle.records.proofs.Came.{gone, moved}
use Rattle.opening.specs.declared.Opening.{Opening}
use Rattle.opening.specs.Answers.{opens, starts, stage_of, opening_of, run_of, opened_by, open_ground, front_opened}
use Rattle.opening.proofs.Next.{Next, waits, begins, next_move}
use Rattle.opening.proofs.Readied.{Ready, ground_ready}
use Rattle.reading.specs.declared.Reading.{Reading}
use Rattle.reading.specs.Answers.{started_reading, reading_of}
use Rattle.desk.specs.Feeding.{wanted, Laid, Consumed, started_opening, laid_after, stops, behind, fed_by, opens_to, open_one, open_rest, open_all}
use Rattle.desk.proofs.Staged.{none_opened, fed_joined}
use Rattle.desk.proofs.Good.{Good, good_first, good_move, opens_on}

-- one field, of m bytes, that led to v
abbrev pub one : Stage → ℕ → Ran Stage
one v m = onwards m (ends v waiting)

-- the desk after a field until the start, or at it
pub record Onward (x y : Laid) : Type 0 where
  pub fields : y.desk.fields ≡ x.desk.fields + 1
  pub turn : y.desk.started ≡ false → (y.desk.opening.fields ≡ x.desk.opening.fields + 1) × (y.desk.opening.fields ≤ 3)

-- what a call of `open` is for the machine
pub data View (x : Laid) (i : List ℕ) : Type 0 where
  stays : (q : Said (Unit {0})) → open_one x i ≡ stops x q → open_rest x i ≡ stops x q → View x i
  goes : (y : Laid) (k : ℕ) → open_one x i ≡ record { laid = y; used = k; outcome = wanted } → open_rest x i ≡ behind k (open_all y (drop k i))
      → 3 ≤ k → k ≤ length i → Onward x y → View x i

module _ (o : Opening) (r : Reading) (n : ℕ) (room : List ℕ) (l : List ℤ) (m : List ℕ) (i : List ℕ) where
  abbrev X : Laid
  X = record { desk = record { started = false; opening = o; reading = r; fields = n }; room = room; memory = lent l m }

  abbrev s : Stage
  s = stage_of o room l m

  -- ---- the tests before all else refuse
  ground_stops : (open_ground o room ≡ 0 → ⊥) → View X i
  unfolding front_opened
  ground_stops h = stays (refuses (open_ground o room)) (ap (opens_to X) (settled_refused _ h)) (settled_refused _ h)

  -- ---- they pass
  module _ (e : open_ground o room ≡ 0) where
    abbrev ready : Ready o room
    ready = ground_ready o room e

    opened_is : open_one X i ≡ opens_to X (opened_by o room s (reply_on s i))
    unfolding front_opened
    opened_is = ap (opens_to X) (settled_taken _ e)

    rest_is : open_rest X i ≡ fed_by X (upto tags take_on (behind_tolerances - o.fields) s i)
    rest_is = settled_taken _ e

    -- as many fields are left until the start
    left : ℕ
    left = 3 - o.fields

    suc_left : behind_tolerances - o.fields ≡ suc left
    unfolding left
    suc_left = let f = ready.few in omega arith

    first : upto tags take_on (behind_tolerances - o.fields) s i ≡ go_on s (move_at tags take_on s i) (λ v k. upto tags take_on left v (drop k i))
    unfolding upto
    first = ap (λ (k : ℕ). upto tags take_on k s i) suc_left

    -- no field is accepted
    no_field_lem : (q : End) → move_at tags take_on s i ≡ off q → open_one X i ≡ stops X (end_said tt q) → View X i
    no_field_lem q d f =
        stays (end_said tt q) f
        (rest_is ∙ ap (fed_by X) (first ∙ ap (λ z. go_on s z (λ v k. upto tags take_on left v (drop k i))) d)
        ∙ (λ j. record { laid = none_opened X q refl ready j; used = 0; outcome = end_said tt q }))

    -- one is, and leads to v
    module _ (v : Stage) (k : ℕ) (d : move_at tags take_on s i ≡ on v k) where
      good : Good o room l m v
      good = good_move o room l m s v i k d (good_first o room l m ready)

      rest_after : open_rest X i ≡ behind k (fed_by (laid_after X (one v k)) (upto tags take_on left v (drop k i)))
      rest_after =
          let w = upto tags take_on left v (drop k i) in
          let used_is : k + w.used ≡ k + 0 + w.used = omega arith in
          let fields_are : suc w.fields ≡ 1 + w.fields = omega arith in
          rest_is ∙ ap (fed_by X) (first ∙ ap (λ z. go_on s z (λ v k. upto tags take_on left v (drop k i))) d)
          ∙ (λ j. fed_by X (record { state = w.state; fields = fields_are j; used = used_is j; end = w.end }))
          ∙ sym (fed_joined X (one v k) w (after_move s i v k d) (after_upto left v (drop k i)))
          ∙ (λ j. behind (add-zero k j) (fed_by (laid_after X (one v k)) w))

      -- the desk after it, by what it is
      on_desk : (y : Laid) → laid_after X (one v k) ≡ y → open_one X i ≡ record { laid = y; used = k; outcome = wanted }
          → open_all y (drop k i) ≡ fed_by y (upto tags take_on left v (drop k i)) → Onward X y → View X i
      on_desk y c f g a =
          let (low, high) = move_size tags take_on s i v k d in
          goes y k f (rest_after ∙ ap (λ (z : Laid). behind k (fed_by z (upto tags take_on left v (drop k i)))) c ∙ ap (behind k) (sym g)) low high a

      -- as the code forms it
      abbrev answered : Bool → Consumed
      answered b = opens_to X (record {
        answer = record { says = gives (cond b (starts k (run_of v)) (opens k)); opening = opening_of v };
        room = room_after s v room;
        memory = v.run.memory;
      })

      -- until the start
      abbrev Y : Laid
      Y = record { desk = record { started = false; opening = opening_of v; reading = r; fields = n + 1 }; room = room_after s v room; memory = v.run.memory }

      waits_on : open_one X i ≡ answered (eqb v.place 4) → v.place ≡ o.fields + 1 → v.place ≤ 3 → View X i
      unfolding left
      waits_on f p q =
          let none = ne_eqb v.place 4 (λ z. omega arith) in
          let early = lt-leb 4 v.place (omega arith) in
          let memory-is : lent l m ≡ v.run.memory = ap (λ (z : Stage). z.run.memory) (good.early q) in
          let fewer : behind_tolerances - v.place ≡ 3 - o.fields = omega arith in
          on_desk Y
          (λ j. record {
            desk = cond (early j) (record { started = true; opening = started_opening v; reading = reading_of (started_reading v.vehicle (run_of v)) v; fields = n + 1 })
                (record { started = false; opening = opening_of v; reading = r; fields = n + 1 });
            room = room_after s v room;
            memory = v.run.memory;
          })
          (f ∙ ap answered none)
          (settled_taken _ (opens_on o room l m v good q)
          ∙ ap (fed_by Y) (λ j. upto tags take_on (fewer j) ((ap (λ (c : Memory). stage_of (opening_of v) (room_after s v room) c.ledger c.map) (sym memory-is) ∙ good.early q) j) (drop k i)))
          (record { fields = refl; turn = λ _. (p, q) })

      -- at the start
      abbrev Z : Laid
      Z = record {
        desk = record { started = true; opening = opening_of v; reading = started_reading v.vehicle (run_of v); fields = n + 1 };
        room = room_after s v room;
        memory = v.run.memory;
      }

      begins_on : open_one X i ≡ answered (eqb v.place 4) → o.fields ≡ 3 → v.place ≡ 4 → reading_of (started_reading v.vehicle (run_of v)) v ≡ started_reading v.vehicle (run_of v) → View X i
      unfolding left upto
      begins_on f p q c =
          let late = le-leb 4 v.place (omega arith) in
          let none : 3 - o.fields ≡ 0 = omega arith in
          let no_more : n + 1 ≡ n + 1 + 0 = omega arith in
          on_desk Z
          (λ j. record {
            desk = cond (late j)
                (record { started = true; opening = record { fields = sym q j; vehicle = v.vehicle; cycle = length v.cycle }; reading = c j; fields = n + 1 })
                (record { started = false; opening = opening_of v; reading = r; fields = n + 1 });
            room = room_after s v room;
            memory = v.run.memory;
          })
          (f ∙ ap answered (eq-eqb v.place 4 q))
          ((λ j. record { laid = record { desk = record { started = true; opening = opening_of v; reading = sym c j; fields = no_more j }; room = room_after s v room; memory = v.run.memory }; used = 0; outcome = wanted })
          ∙ ap (λ (z : ℕ). fed_by Z (upto tags take_on z v (drop k i))) (sym none))
          (record { fields = refl; turn = λ z. absurd (false≢true (sym z)) })

      accepted : open_one X i ≡ answered (eqb v.place 4) → Next o room l m v → View X i
      accepted f (waits p q _) = waits_on f p q
      accepted f (begins p t _ c) =
          begins_on f p (ap (λ (z : Stage). z.place) (sym c)) (subst (λ (z : Stage). reading_of (started_reading z.vehicle (run_of z)) z ≡ started_reading z.vehicle (run_of z)) c refl)

    passes : View X i
    unfolding reply_at
    passes = go (reply_on s i) refl
      where
        by : (y : Reply Stage) → reply_on s i ≡ y → open_one X i ≡ opens_to X (opened_by o room s y)
        by y q = opened_is ∙ ap (λ (z : Reply Stage). opens_to X (opened_by o room s z)) q

        move : (y : Reply Stage) → reply_on s i ≡ y → move_at tags take_on s i ≡ move_of y
        move y q = ap move_of q

        next : (v : Stage) (k : ℕ) → move_at tags take_on s i ≡ on v k → Next o room l m v
        next v k q = next_move o room l m ready i v k (moved s i v k q)

        -- no block may stand before the start
        no_block : (v : Stage) (k : ℕ) (w : Front) → reply_as tags take_on s w ≡ to_field (passed v) k → ⊥
        no_block v k incomplete q = false≢true cc
        no_block v k impossible q = false≢true cc
        no_block v k (field f) q = let a : take_on s f ≡ passed v = cc q in omega (arith, ready.few, (block_places_lem o.fields (gone s f v a).2).0)

        go : (y : Reply Stage) → reply_on s i ≡ y → View X i
        go (to_field (taken v) k) q = accepted v k (move _ q) (by _ q) (next v k (move _ q))
        go (to_field (passed v) k) q = absurd (no_block v k (front_of tags i) q)
        go (to_field (refused k) z) q = no_field_lem (stopped k) (move _ q) (by _ q)
        go not_yet q = no_field_lem waiting (move _ q) (by _ q)
        go no_field q = no_field_lem broken (move _ q) (by _ q)

  pub view : View X i
  view = go (eqb (open_ground o room) 0) refl
    where
      go : (b : Bool) → eqb (open_ground o room) 0 ≡ b → View X i
      go true q = passes (eqb-true _ 0 q)
      go false q = ground_stops (eqb-false _ 0 q)

pub view_of : (x : Laid) → x.desk.started ≡ false → (i : List ℕ) → View x i
view_of x f i =
    let d = x.desk in
    subst (λ (b : Bool). View (record { desk = record { started = b; opening = d.opening; reading = d.reading; fields = d.fields }; room = x.room; memory = x.memory }) i) (sym f)
    (view d.opening d.reading d.fields x.room x.memory.ledger x.memory.map i)
