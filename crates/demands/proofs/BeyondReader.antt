-- What a call of the reader leaves beyond ledger and map, on any state, input and memory.
-- Assumes nothing.
use mathlib.Core.Bool.{Bool, true, false, cond}
use mathlib.Core.List.{List}
use mathlib.Core.Path.{◌≡◌, refl, sym, ap, subst, ◌∙◌}
use Prim.Native.Nat.{ℕ, ◌≤◌}
use native.Mathlib.Omega.{arith}
use borrow.Author.Tests.{eqb-true}
use lib.Dec.{eqb}
use lib.IntN.{ℤ, pos}
use lib.ListN.{length}
use Rattle.numbers.proofs.Lists.{drop_cleared}
use Rattle.numbers.proofs.Tests.{not_refused}
use Rattle.rules.specs.Cycle.{valid}
use Rattle.rules.specs.Regular.{moment_in}
use Rattle.rules.specs.Shown.{ledger_numbers, map_words}
use Rattle.rules.specs.Table.{behind_tolerances, tags}
use Rattle.rules.specs.Machine.{Reply, to_field, not_yet, no_field, taken, passed, refused, on, move_of, move_at}
use Rattle.rules.specs.Values.{moment_at, count_in, samples_of}
use Rattle.rules.specs.Record.{Bring, nothing, a_number, a_cycle, the_tolerances, the_stretches, own_samples, before, after, charged}
use Rattle.laws.specs.Answers.{refuses}
use Rattle.laws.proofs.Prefixes.{kept as keeps-all}
use Rattle.laws.proofs.Says.{moves_to, Says}
use Rattle.state.specs.State.{Memory, lent, Left, left}
use Rattle.state.proofs.Checked.{ground_passed}
use Rattle.laws.proofs.Sound.{sound}
use Rattle.step.specs.Step.{State, samples_taken}
use Rattle.records.specs.Stage.{Stage, plan_on, bring_on, take_on, reply_on, run_on, stage_after}
use Rattle.records.proofs.Came.{Enough, Moved, took, went, moved}
use Rattle.records.proofs.Later.{taken_list}
use Rattle.laws.proofs.Places.{place_is, before_places, block_places_lem, recharge_places}
use Rattle.opening.specs.declared.Opening.{Opening}
use Rattle.opening.specs.Answers.{stage_of, open_ground, not_opened, opened_by, front_opened}
use Rattle.opening.proofs.Readied.{ground_ready}
use Rattle.reading.specs.declared.Reading.{Reading}
use Rattle.reading.specs.Answers.{ReadSaid, AllSaid, stage_at, read_ground}
use Rattle.reader.specs.Answers.{read_by, all_by, read_left, all_left}
use Rattle.demands.specs.Runs.{Beyond}
use Rattle.demands.proofs.Beyond.{untouched, beyond_then, all_beyond}

-- what every accepted field keeps, on memory that was a
module _ (a : Memory) where
  pub record Keeps (x : Stage) : Type 0 where
    pub beyond : Beyond a x.run.memory
    pub sound : behind_tolerances ≤ x.place → valid x.cycle ≡ true

  keeps_brought : (x : Stage) (tag : ℕ) (v : List ℕ) (g : Bring) → Says x.passed x.vehicle x.cycle x.run.progress.offered tag v x.place g → Enough x g
      → Keeps x → Keeps (bring_on x (moves_to g) g)
  keeps_brought x tag v nothing s n h = record { beyond = h.beyond; sound = λ e. absurd (omega arith) }
  keeps_brought x tag v (a_number w) s n h = record { beyond = h.beyond; sound = λ e. absurd (omega arith) }
  keeps_brought x tag v (a_cycle w) s n h = record { beyond = h.beyond; sound = λ e. absurd (omega arith) }
  keeps_brought x tag v (the_tolerances t) s n h =
      let c = x.run.memory in
      record {
        beyond = beyond_then h.beyond (record { in_ledger = drop_cleared (pos 0) ledger_numbers c.ledger; in_map = drop_cleared 0 map_words c.map });
        sound = λ _. s.3;
      }
  keeps_brought x tag v (the_stretches y) s n h = record { beyond = h.beyond; sound = λ _. h.sound (omega (arith, place_is x.place behind_tolerances s.1)) }
  keeps_brought x tag v (own_samples xs) s n h =
      let q = samples_of v in
      let p = plan_on x in
      let good = h.sound (block_places_lem x.place s.1).0 in
      let run_is : samples_taken p x.run (moment_at q) (count_in q) ≡ samples_taken p x.run (moment_in xs) (length xs) =
      taken_list p x.run (moment_at q) (count_in q) ∙ (λ i. samples_taken p x.run (moment_in (sym s.2 i)) (length (sym s.2 i))) in
      record {
        beyond = subst (λ (z : State). Beyond a z.memory) run_is (beyond_then h.beyond (all_beyond p x.run (moment_at q) (count_in q) (sound x.cycle good)));
        sound = λ _. good;
      }
  keeps_brought x tag v (before e) s n h = record { beyond = h.beyond; sound = λ _. h.sound (before_places x.place s.1).0 }
  keeps_brought x tag v (after e) s n h = record { beyond = h.beyond; sound = λ _. h.sound (block_places_lem x.place s.1).0 }
  keeps_brought x tag v (charged w) s n h = record { beyond = h.beyond; sound = λ _. h.sound (recharge_places x.place s.1).0 }

  pub keeps_move : (x : Stage) (i : List ℕ) (y : Stage) (m : ℕ) → move_at tags take_on x i ≡ on y m → Keeps x → Keeps y
  keeps_move x i y m e h = go (moved x i y m e)
    where
      go : Moved x i y m → Keeps y
      go (took f _ _ _ c) = subst Keeps c.is (keeps_brought x f.tag f.value c.brings c.says c.enough h)
      go (went f _ _ d _ _) = subst Keeps d (record { beyond = h.beyond; sound = h.sound })

  -- after the field at the front, and after all
  keeps_reply : (x : Stage) (i : List ℕ) → Keeps x → Keeps (stage_after x (reply_on x i))
  keeps_reply x i h = go (reply_on x i) refl
    where
      go : (y : Reply Stage) → reply_on x i ≡ y → Keeps (stage_after x y)
      go (to_field (taken z) n) e = keeps_move x i z n (ap move_of e) h
      go (to_field (passed z) n) e = keeps_move x i z n (ap move_of e) h
      go (to_field (refused k) n) e = h
      go not_yet e = h
      go no_field e = h

  pub keeps_run : (x : Stage) (i : List ℕ) → Keeps x → Keeps (run_on x i).state
  keeps_run x i h = keeps-all tags take_on Keeps keeps_move (length i) x i h

-- ---- until the start

module _ (o : Opening) (room : List ℕ) (l : List ℤ) (m : List ℕ) where
  pub opening_keeps : open_ground o room ≡ 0 → Keeps (lent l m) (stage_of o room l m)
  opening_keeps e = record { beyond = untouched; sound = λ p. absurd (omega (arith, (ground_ready o room e).few)) }

  opened_memory : (x : Stage) (y : Reply Stage) → (stage_after x y).run.memory ≡ (opened_by o room x y).memory
  opened_memory x (to_field (taken z) n) = refl
  opened_memory x (to_field (passed z) n) = refl
  opened_memory x (to_field (refused k) n) = refl
  opened_memory x not_yet = refl
  opened_memory x no_field = refl

  pub open_of_beyond : (i : List ℕ) → Beyond (lent l m) (front_opened o room l m i).memory
  unfolding front_opened
  open_of_beyond i = go (eqb (open_ground o room) 0) refl
    where
      x : Stage
      x = stage_of o room l m

      go : (t : Bool) → eqb (open_ground o room) 0 ≡ t
          → Beyond (lent l m) (cond t (opened_by o room x (reply_on x i)) (not_opened o room x (refuses (open_ground o room)))).memory
      go true e = subst (Beyond (lent l m)) (opened_memory x (reply_on x i)) (keeps_reply (lent l m) x i (opening_keeps (eqb-true _ 0 e))).beyond
      go false e = untouched

-- ---- after it

module _ (r : Reading) (b : List ℕ) (l : List ℤ) (m : List ℕ) where
  -- where the tests before it are passed, a reading begins with memory that is its own
  pub reading_keeps : read_ground r b l m ≡ 0 → Keeps (lent l m) (stage_at r b l m)
  unfolding read_ground
  reading_keeps e = record { beyond = untouched; sound = λ _. (ground_passed (not_refused 0 _ _ e).1).sound }

  module _ (i : List ℕ) where
    abbrev x : Stage
    x = stage_at r b l m

    pub read_of_beyond : Beyond (lent l m) (read_left r b l m i).memory
    unfolding read_left
    read_of_beyond = go (eqb (read_ground r b l m) 0) refl
      where
        call : Bool → Left (ReadSaid Reading)
        call t = cond t (read_by r x (reply_on x i)) (left (record { says = refuses (read_ground r b l m); state = r }) l m)

        go : (t : Bool) → eqb (read_ground r b l m) 0 ≡ t → Beyond (lent l m) (call t).memory
        go true e = (keeps_reply (lent l m) x i (reading_keeps (eqb-true _ 0 e))).beyond
        go false e = untouched

    pub read_all_of_beyond : Beyond (lent l m) (all_left r b l m i).memory
    unfolding all_left
    read_all_of_beyond = go (eqb (read_ground r b l m) 0) refl
      where
        call : Bool → Left (AllSaid Reading)
        call t = cond t (all_by r (run_on x i)) (left (record { state = r; fields = 0; used = 0; last = refuses (read_ground r b l m) }) l m)

        go : (t : Bool) → eqb (read_ground r b l m) 0 ≡ t → Beyond (lent l m) (call t).memory
        go true e = (keeps_run (lent l m) x i (reading_keeps (eqb-true _ 0 e))).beyond
        go false e = untouched
