-- A desk that has not started is fed: the fields until the start by the machine, and the rest after it.
-- Assumes nothing.
use mathlib.Core.Bool.{Bool, true, false, cond, false≢true}
use mathlib.Core.List.{List}
use mathlib.Core.Logic.{⊎_elim}
use mathlib.Core.Path.{◌≡◌, refl, sym, ap, ◌∙◌}
use Prim.Native.Nat.{ℕ, ◌+◌, ◌-◌, ◌≤◌}
use native.Mathlib.Nat.{add-zero}
use native.Mathlib.Omega.{arith}
use borrow.Author.Tests.{le-leb, leb-true, leb-false}
use lib.Dec.{leb}
use lib.IntN.{ℤ}
use lib.ListN.{length, drop}
use Rattle.rules.specs.Table.{behind_tolerances, tags}
use Rattle.rules.specs.Machine.{End, waiting, broken, stopped, Ran, off, ends, move_at, upto}
use Rattle.laws.proofs.Cuts.{joined, resumed, first_ends, used_upto, upto_then}
use Rattle.laws.proofs.Prefixes.{few_upto, upto_stops, upto_full}
use Rattle.state.specs.State.{lent}
use Rattle.records.specs.Stage.{Stage, room_after, take_on, run_on}
use Rattle.records.proofs.After.{After, after_upto}
use Rattle.records.proofs.Weighs.{upto_weighs}
use Rattle.opening.specs.declared.Opening.{Opening}
use Rattle.opening.specs.Answers.{stage_of, opening_of, run_of}
use Rattle.opening.proofs.Readied.{Ready}
use Rattle.reading.specs.declared.Reading.{Reading}
use Rattle.reading.specs.Answers.{started_reading, reading_of}
use Rattle.desk.specs.Feeding.{Laid, stage_on, started_opening, laid_after, behind, fed_by}
use Rattle.desk.proofs.Good.{Good, good_upto}
use Rattle.desk.proofs.Staged.{fed_joined}

-- ---- until the start

module _ (o : Opening) (r : Reading) (n : ℕ) (room : List ℕ) (l : List ℤ) (m : List ℕ) (i : List ℕ) (h : Ready o room) where
  abbrev X : Laid
  X = record { desk = record { started = false; opening = o; reading = r; fields = n }; room = room; memory = lent l m }

  abbrev s : Stage
  s = stage_of o room l m

  -- the fields until the start, and the rest
  unfoldable pub U : Ran Stage
  U = upto tags take_on (behind_tolerances - o.fields) s i

  abbrev u : Stage
  u = U.state

  pub good : Good o room l m u
  unfolding U
  good = good_upto o room l m h (behind_tolerances - o.fields) i

  W : Ran Stage
  W = run_on u (drop U.used i)

  all_is : run_on s i ≡ resumed U.end U W
  unfolding U W
  all_is = upto_then tags take_on (behind_tolerances - o.fields) s i

  after_u : After s u
  unfolding U
  after_u = after_upto (behind_tolerances - o.fields) s i

  after_w : After u W.state
  unfolding W
  after_w = after_upto (length (drop U.used i)) u (drop U.used i)

  -- where the rest brings nothing
  same_end : (e : End) → resumed e (record { state = u; fields = U.fields; used = U.used; end = e }) (ends u e) ≡ record { state = u; fields = U.fields; used = U.used; end = e }
  same_end waiting = λ j. record { state = u; fields = add-zero U.fields j; used = add-zero U.used j; end = waiting }
  same_end broken = refl
  same_end (stopped k) = refl

  ended : move_at tags take_on u (drop U.used i) ≡ off U.end → run_on s i ≡ U
  unfolding W
  ended d = all_is ∙ ap (resumed U.end U) (first_ends tags take_on u (drop U.used i) U.end d) ∙ same_end U.end

  -- as long as the run has not started, a field that follows is not accepted
  pub waits : u.place ≤ 3 → run_on s i ≡ U
  unfolding U
  waits e =
      ⊎_elim (λ full. absurd (let w = upto_weighs (behind_tolerances - o.fields) s i (λ _. refl) in let b = good.early e in
      let p = ap (λ (z : Stage). z.passed) b in let q = ap (λ (z : Stage). z.run.progress.offered) b in omega (arith, h.few)))
      ended (upto_stops tags take_on (behind_tolerances - o.fields) s i)

  pub used_u : U.used ≤ length i
  unfolding U
  used_u = used_upto tags take_on (behind_tolerances - o.fields) s i

  pub few_u : U.fields ≤ 4
  unfolding U
  few_u = let f = few_upto tags take_on (behind_tolerances - o.fields) s i in omega arith

  -- where it has, the rest is read
  reads : fed_by X (run_on s i) ≡ fed_by X (joined U W)
  unfolding U W
  reads = ⊎_elim
      (λ full. ap (fed_by X) (all_is ∙ ap (λ (e : End). resumed e U W) (upto_full tags take_on (behind_tolerances - o.fields) s i full)))
      (λ d.
      let none = first_ends tags take_on u (drop U.used i) U.end d in
      ap (fed_by X) (ended d ∙ (λ j. record { state = u; fields = sym (add-zero U.fields) j; used = sym (add-zero U.used) j; end = U.end }) ∙ ap (joined U) (sym none)))
      (upto_stops tags take_on (behind_tolerances - o.fields) s i)

  -- the desk at the start
  abbrev begun : Laid
  begun = record {
    desk = record { started = true; opening = started_opening u; reading = reading_of (started_reading u.vehicle (run_of u)) u; fields = n + U.fields };
    room = room_after s u room;
    memory = u.run.memory;
  }

  module _ (late : behind_tolerances ≤ u.place) where
    pub begun_is : laid_after X U ≡ begun
    begun_is = λ j. record {
      desk = cond (le-leb behind_tolerances u.place late j) begun.desk (record { started = false; opening = opening_of u; reading = r; fields = n + U.fields });
      room = room_after s u room;
      memory = u.run.memory;
    }

    stage_begun : stage_on begun ≡ u
    stage_begun =
        let p : behind_tolerances + (u.place - behind_tolerances) ≡ u.place = omega arith in
        λ j. record { place = p j; passed = u.passed; vehicle = u.vehicle; cycle = good.held j; tolerances = u.tolerances; method = u.method; amounts = u.amounts; run = u.run }

    pub read_begun : behind U.used (fed_by begun (run_on (stage_on begun) (drop U.used i))) ≡ fed_by X (run_on s i)
    unfolding W
    read_begun =
        ap (λ (z : Stage). behind U.used (fed_by begun (run_on z (drop U.used i)))) stage_begun
        ∙ ap (λ (y : Laid). behind U.used (fed_by y W)) (sym begun_is) ∙ fed_joined X U W after_u after_w ∙ sym reads

  -- ---- by whether it has
  pub has_started : (laid_after X U).desk.started ≡ true → behind_tolerances ≤ u.place
  has_started e = go (leb behind_tolerances u.place) refl e
    where
      go : (b : Bool) → leb behind_tolerances u.place ≡ b → (cond b begun.desk (record { started = false; opening = opening_of u; reading = r; fields = n + U.fields })).started ≡ true → behind_tolerances ≤ u.place
      go true q f = leb-true behind_tolerances u.place q
      go false q f = absurd (false≢true f)

  pub has_not : (laid_after X U).desk.started ≡ false → u.place ≤ 3
  has_not e = go (leb behind_tolerances u.place) refl e
    where
      go : (b : Bool) → leb behind_tolerances u.place ≡ b → (cond b begun.desk (record { started = false; opening = opening_of u; reading = r; fields = n + U.fields })).started ≡ false → u.place ≤ 3
      go true q f = absurd (false≢true (sym f))
      go false q f = let z = leb-false behind_tolerances u.place q in omega arith
