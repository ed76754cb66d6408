-- Until the start and after it: what every field keeps of a desk that has not started, on whatever memory it is lent.
-- Assumes nothing.
use mathlib.Core.Bool.{Bool, true, false, cond, ◌&&◌, false≢true}
use mathlib.Core.List.{List, []}
use mathlib.Core.Path.{◌≡◌, refl, sym, ap, subst, ◌∙◌}
use Prim.Native.Nat.{ℕ, ◌≤◌, zero-le}
use native.Mathlib.Omega.{arith}
use borrow.Author.Tests.{le-leb, lt-leb, leb-true}
use lib.Dec.{leb}
use lib.IntN.{ℤ}
use lib.ListN.{length, take}
use lib.Seq.{length-take-le}
use Rattle.numbers.proofs.Tests.{pass}
use Rattle.rules.specs.Bench.{most_offered}
use Rattle.values.specs.Limits.{are_amounts}
use Rattle.rules.specs.Cycle.{most_bytes}
use Rattle.rules.specs.declared.Method.TheVariants.{Regular as by_cycles}
use Rattle.rules.specs.Shown.{ledger_numbers, map_words}
use Rattle.rules.specs.Table.{behind_tolerances, behind_before, tags}
use Rattle.rules.specs.Machine.{on, move_at, upto}
use Rattle.rules.specs.Record.{holding, no_amounts}
use Rattle.laws.proofs.Places.{early_or_late}
use Rattle.laws.proofs.Prefixes.{kept}
use Rattle.state.proofs.Checked.{start_passed}
use Rattle.judge.proofs.Runs.{in_order, never_refused}
use Rattle.records.specs.Stage.{Stage, plan_on, written, room_after, take_on}
use Rattle.records.proofs.After.{After, after_none, after_both, after_move}
use Rattle.records.proofs.Came.{Moved, moved}
use Rattle.records.proofs.Held.{Long}
use Rattle.records.proofs.Tells.{Tells, tells_move}
use Rattle.records.proofs.Limits.{InLimits, limits_move}
use Rattle.opening.specs.declared.Opening.{Opening}
use Rattle.opening.specs.Answers.{no_tolerances, stage_of, opening_of, run_of, open_ground}
use Rattle.opening.proofs.Next.{Next, waits, begins, next_move}
use Rattle.opening.proofs.Readied.{Ready, ready_ground}
use Rattle.reading.specs.declared.Reading.{Reading}
use Rattle.step.specs.Step.{State}
use Rattle.reading.proofs.Tested.{own_by}
use Rattle.reading.specs.Answers.{started_reading, reading_of, is_reading, read_ground}
use Rattle.desk.specs.Feeding.{started_opening, started_ground}
use Rattle.desk.proofs.Staged.{rooms}

module _ (o : Opening) (room : List ℕ) (l : List ℤ) (m : List ℕ) where
  abbrev s : Stage
  s = stage_of o room l m

  -- the room at u
  abbrev room_at : Stage → List ℕ
  room_at u = room_after s u room

  pub record Good (u : Stage) : Type 0 where
    pub limits : InLimits u
    pub after : After s u
    pub long : most_bytes ≤ length (room_at u)
    pub held : take (length u.cycle) (room_at u) ≡ u.cycle
    pub early : u.place ≤ 3 → stage_of (opening_of u) (room_at u) l m ≡ u
    -- on memory that is long enough the run is that of some samples; on shorter it never starts
    pub told : (h : Long l m) → Tells l m h u
    pub short : (Long l m → ⊥) → u.place ≤ 3

  ready_at : (u : Stage) → Good u → u.place ≤ 3 → Ready (opening_of u) (room_at u)
  ready_at u g e = record { few = e; size = g.limits.size; number = g.limits.number; room = g.long }

  -- the room stays from the cycle on
  room_stays : (u v : Stage) → After s u → After u v → 3 ≤ u.place → room_at v ≡ room_at u
  room_stays u v a b e =
      sym (rooms s u v room a b) ∙ ap (λ (t : Bool). cond (t && leb 3 v.place) (written (room_at u) v.cycle) (room_at u)) (lt-leb u.place 2 (omega arith))

  module _ (u v : Stage) (i : List ℕ) (n : ℕ) (e : move_at tags take_on u i ≡ on v n) (g : Good u) where
    then : After u v
    then = after_move u i v n e

    -- where the cycle and the room stay
    staying : 3 ≤ u.place → (v.place ≤ 3 → stage_of (opening_of v) (room_at v) l m ≡ v) → ((Long l m → ⊥) → v.place ≤ 3) → Good v
    staying c f k =
        let same = room_stays u v g.after then c in
        record {
          limits = limits_move u i v n e g.limits;
          after = after_both g.after then;
          long = subst (λ (r : List ℕ). most_bytes ≤ length r) (sym same) g.long;
          held = (λ j. take (length (then.cycle c j)) (same j)) ∙ g.held ∙ sym (then.cycle c);
          early = f;
          told = λ h. tells_move l m h u i v n e (g.told h);
          short = k;
        }

    good_early : u.place ≤ 3 → Good v
    good_early c = go (next_move (opening_of u) (room_at u) l m (ready_at u g c) i v n (subst (λ (z : Stage). Moved z i v n) (sym (g.early c)) (moved u i v n e)))
      where
        go : Next (opening_of u) (room_at u) l m v → Good v
        go (waits p q (again, ready)) =
            let same : room_after (stage_of (opening_of u) (room_at u) l m) v (room_at u) ≡ room_at v = rooms s u v room g.after then in
            let again' : stage_of (opening_of v) (room_at v) l m ≡ v = subst (λ (r : List ℕ). stage_of (opening_of v) r l m ≡ v) same again in
            record {
              limits = limits_move u i v n e g.limits;
              after = after_both g.after then;
              long = subst (λ (r : List ℕ). most_bytes ≤ length r) same ready.room;
              held = ap (λ (z : Stage). z.cycle) again';
              early = λ _. again';
              told = λ h. tells_move l m h u i v n e (g.told h);
              short = λ _. q;
            }
        go (begins p t granted d) =
            let w = start_passed (take (length u.cycle) (room_at u)) t by_cycles l m granted in
            let four : v.place ≡ 4 = ap (λ (z : Stage). z.place) (sym d) in
            staying (omega arith) (λ q. absurd (omega arith)) (λ q. absurd (q (record { ledger = w.long_ledger; map = w.long_map })))

    pub good_move : Good v
    good_move =
        early_or_late u.place good_early (λ c.
        let p = then.place in
        staying (omega arith) (λ q. absurd (omega arith)) (λ q. absurd (let r = g.short q in omega arith)))

  -- ---- from the start of the bytes

  pub good_first : Ready o room → Good s
  unfolding are_amounts
  good_first h =
      let size_is : length (take o.cycle room) ≡ o.cycle = length-take-le o.cycle room (omega (arith, h.size, h.room)) in
      let same : room_at s ≡ room = same_room (leb o.fields 2) (leb 3 o.fields) refl refl in
      let again : stage_of (opening_of s) room l m ≡ s = λ j. record { place = o.fields; passed = 0; vehicle = o.vehicle; cycle = take (size_is j) room; tolerances = no_tolerances; method = by_cycles; amounts = no_amounts; run = s.run } in
      record {
        limits = record { place = omega (arith, h.few); passed = zero-le; amounts = refl; number = h.number; size = omega (arith, size_is, h.size) };
        after = after_none s;
        long = subst (λ (r : List ℕ). most_bytes ≤ length r) (sym same) h.room;
        held = (λ j. take (length (take o.cycle room)) (same j)) ∙ ap (λ (z : Stage). z.cycle) again;
        early = λ _. subst (λ (r : List ℕ). stage_of (opening_of s) r l m ≡ s) (sym same) again;
        told = λ k. record {
          told = record { place = o.fields; passed = 0; holding = holding o.vehicle (take o.cycle room) no_tolerances by_cycles [] no_amounts };
          holds = record {
            place = refl;
            passed = refl;
            vehicle = refl;
            cycle = refl;
            tolerances = refl;
            method = refl;
            amounts = refl;
            empty = λ _. refl;
            waits = λ _. (refl, refl);
            begun = λ e _. absurd (omega (arith, h.few));
            reached = λ e. absurd (omega (arith, h.few));
          };
        };
        short = λ _. h.few;
      }
    where
      same_room : (p q : Bool) → leb o.fields 2 ≡ p → leb 3 o.fields ≡ q → cond (p && q) (written room s.cycle) room ≡ room
      same_room true true a b = absurd (let y = leb-true o.fields 2 a in let z = leb-true 3 o.fields b in omega arith)
      same_room true false a b = refl
      same_room false q a b = refl

  pub good_upto : Ready o room → (n : ℕ) (i : List ℕ) → Good (upto tags take_on n s i).state
  good_upto h n i = kept tags take_on Good (λ u j v k e g. good_move u v j k e g) n s i (good_first h)

  -- ---- no 1 or 2

  module _ (u : Stage) (g : Good u) where
    pub opens_on : u.place ≤ 3 → open_ground (opening_of u) (room_at u) ≡ 0
    opens_on e = ready_ground (opening_of u) (room_at u) (ready_at u g e)

    -- the reading that has started
    abbrev reading : Reading
    reading = reading_of (started_reading u.vehicle (run_of u)) u

    -- a run that has started has memory that is long enough
    pub enough : behind_tolerances ≤ u.place → Long l m
    enough e = go (leb ledger_numbers (length l)) (leb map_words (length m)) refl refl
      where
        go : (p q : Bool) → leb ledger_numbers (length l) ≡ p → leb map_words (length m) ≡ q → Long l m
        go true true a b = record { ledger = leb-true _ _ a; map = leb-true _ _ b }
        go true false a b = absurd (let r = g.short (λ h. false≢true (sym b ∙ le-leb _ _ h.map)) in omega arith)
        go false q a b = absurd (let r = g.short (λ h. false≢true (sym a ∙ le-leb _ _ h.ledger)) in omega arith)

    -- until an own block no sample is offered
    none_offered : u.place ≤ behind_before → u.run.progress.offered ≡ 0
    none_offered low =
        early_or_late u.place (λ e. sym (ap (λ (x : Stage). x.run.progress.offered) (g.early e)))
        (λ e. ap (λ (a : State). a.progress.offered) ((g.told (enough e)).holds.begun e low))

    is_reading_lem : is_reading reading ≡ true
    is_reading_lem = own_by reading (record {
      place = omega (arith, g.limits.place);
      fresh = λ e. none_offered (omega arith);
      passed = g.limits.passed;
      amounts = g.limits.amounts;
      number = g.limits.number;
    })

    pub reads_on : behind_tolerances ≤ u.place → read_ground reading (take (length u.cycle) (room_at u)) u.run.memory.ledger u.run.memory.map ≡ 0
    unfolding read_ground
    reads_on e =
        ap (λ (b : List ℕ). read_ground reading b u.run.memory.ledger u.run.memory.map) g.held
        ∙ sym (pass 1 is_reading_lem (sym (never_refused (plan_on u) l m ((g.told (enough e)).holds.reached e) 0)))

    -- so has the desk that has started
    pub begun_ground : behind_tolerances ≤ u.place → (n : ℕ) → started_ground (record {
      desk = record { started = true; opening = started_opening u; reading = reading; fields = n };
      room = room_at u;
      memory = u.run.memory;
    }) ≡ 0
    begun_ground e n =
        let fits : length u.cycle ≤ length (room_at u) = omega (arith, g.limits.size, g.long) in
        sym (pass 1 (le-leb (length u.cycle) (length (room_at u)) fits) (sym (reads_on e)))

    -- no more samples are offered than can be
    pub few_offered : u.run.progress.offered ≤ most_offered
    few_offered =
        early_or_late u.place (λ e. let z = ap (λ (x : Stage). x.run.progress.offered) (g.early e) in omega arith)
        (λ e. (in_order (plan_on u) l m ((g.told (enough e)).holds.reached e)).few)
